use Rattle.std.proofs.Common.{◌≡◌, ◌≤◌, ◌+◌, ◌∷◌, ◌++◌, [], None, Ok, refl, sym, subst, ◌∙◌, arith}
use Rattle.std.proofs.lemmas.List.{length-map}
use Rattle.ic_path.proofs.Errors.{at_error}
use Rattle.ic_theory.specs.Machine.{IsDeep}
use Rattle.ic_set.specs.Pairs.{IsPairOf}
use Rattle.ic_set.proofs.GrownNames.{grown_keeps}
use Rattle.ic_history.specs.Noted.{Fired, line_in}
use Rattle.ic_journal.specs.Views.{set_of, view_of}
use Rattle.ic_journal.specs.Limits.{Meets}
use Rattle.ic_journal.specs.Calls.{FiresPair}
use Rattle.ic_journal.proofs.Answering.{next_line_new, few_events}
use Rattle.ic_journal.proofs.KeptBenches.{same_kept, same_stays, fired_steps, fired_admits, fired_kept}
use Rattle.ic_journal.proofs.bench.Bench.admit_noted.Goals as goal

pub admit-requires-clause-new_line : goal.admit-requires-clause-new_line
admit-requires-clause-new_line g c = rw (c.line_count-line.ensures.count, ← length-map c.self.inside.history.lines (line_in c.self.inside.set.names)) (next_line_new _ (rw c.bare-set.ensures at c.lawful.ensures.set.proper) c.self.invariant.running)

pub admit-requires-clause-few_events : goal.admit-requires-clause-few_events
admit-requires-clause-few_events g c =
    let events = few_events _ c.self.invariant.running in
    let short = c.self.invariant.running.short in
    let room = rw (← c.self.view_is) at c.requires.room in
    omega (arith, events, short, room)

pub invariant_of-self : goal.invariant_of-self
invariant_of-self g c =
    let h = c.self.inside.history in
    let short = c.self.invariant.running.short in
    let long = length-map h.lines (line_in c.self.inside.set.names) in
    same_kept c.self.inside.set c.admit.new.self h h c.self.invariant c.in_err-id.ensures.unchanged (grown_keeps _ _ c.admit.ensures.grown) refl (omega (arith, short, long))

pub returns-in_err-id-clause-wanting : goal.returns-in_err-id-clause-wanting
returns-in_err-id-clause-wanting g c =
    let h = c.self.inside.history in
    at_error c.from_residual.result (rw (← c.self.view_is) (same_stays c.self.inside.set c.admit.new.self h h c.self.invariant c.in_err-id.ensures.unchanged (grown_keeps _ _ c.admit.ensures.grown) refl (omega arith)))

pub admit-requires-clause-shallow : goal.admit-requires-clause-shallow
admit-requires-clause-shallow g c =
    let s = c.self.inside.set in
    let f = c.requires.active.0 in
    let first : IsPairOf s.set f c.args.pair = subst (λ v. IsPairOf (set_of v) f c.args.pair) (sym c.self.view_is) c.requires.active.1 in
    let limits : Meets s.set f None = subst (λ v. Meets (set_of v) f None) (sym c.self.view_is) c.requires.active.2 in
    let its = rw (← c.self.view_is) at c.requires.event in
    λ e p deep. limits.0 (subst IsDeep (sym (its e p) ∙ its f first) deep)

pub invariant_of-self-2 : goal.invariant_of-self-2
invariant_of-self-2 g c =
    let s = c.self.inside.set in
    let h = c.self.inside.history in
    let f = c.requires.active.0 in
    let first : IsPairOf s.set f c.args.pair = subst (λ v. IsPairOf (set_of v) f c.args.pair) (sym c.self.view_is) c.requires.active.1 in
    let limits : Meets s.set f None = subst (λ v. Meets (set_of v) f None) (sym c.self.view_is) c.requires.active.2 in
    let its = rw (← c.self.view_is) at c.requires.event in
    let named = rw (← c.self.view_is) at c.requires.named in
    let more : c.note.new.self.lines ≡ h.lines ++ Fired c.args.event ∷ [] = rw c.fired.ensures.line at c.note.ensures.lines in
    let down = c.note.ensures.room in
    fired_kept s c.admit.new.self h c.note.new.self c.self.invariant c.admit.ensures.grown c.args.event named f (its f first)
    more c.line_count-line.result c.line_count-line.ensures.count c.in_ok-id.id (c.in_ok-id.ensures.admitted f first) first.active limits.0 limits.1 (omega (arith, down)) c.note.ensures.few

pub returns-clause-fired : goal.returns-clause-fired
returns-clause-fired g c =
    let s = c.self.inside.set in
    let h = c.self.inside.history in
    let f = c.requires.active.0 in
    let first : IsPairOf s.set f c.args.pair = subst (λ v. IsPairOf (set_of v) f c.args.pair) (sym c.self.view_is) c.requires.active.1 in
    let limits : Meets s.set f None = subst (λ v. Meets (set_of v) f None) (sym c.self.view_is) c.requires.active.2 in
    let its = rw (← c.self.view_is) at c.requires.event in
    let named = rw (← c.self.view_is) at c.requires.named in
    let more : c.note.new.self.lines ≡ h.lines ++ Fired c.args.event ∷ [] = rw c.fired.ensures.line at c.note.ensures.lines in
    let down = c.note.ensures.room in
    let room : h.room ≤ c.note.new.self.room + 1 = omega (arith, down) in
    λ e q. (
    let p : IsPairOf s.set e c.args.pair = subst (λ v. IsPairOf (set_of v) e c.args.pair) (sym c.self.view_is) q in
    let within = subst (λ x. Meets s.set x None) (sym (its f first) ∙ its e p) limits in
    let fired = fired_steps s c.admit.new.self h c.note.new.self c.self.invariant c.admit.ensures.grown c.args.event named e (its e p)
    more c.line_count-line.result c.line_count-line.ensures.count c.in_ok-id.id (c.in_ok-id.ensures.admitted e p) p.active within.0 within.1 room in
    let admits = fired_admits s c.admit.new.self h c.note.new.self c.self.invariant c.admit.ensures.grown c.args.event named e (its e p)
    more c.line_count-line.result c.line_count-line.ensures.count c.in_ok-id.id (c.in_ok-id.ensures.admitted e p) p.active within.0 within.1 room in
    subst (λ v. FiresPair v e (Ok (record { id = c.in_ok-id.id; awoken = c.admit.new.awoken })) (view_of c.admit.new.self c.note.new.self)) c.self.view_is ((fired, admits), c.in_ok-id.ensures.awoken))
