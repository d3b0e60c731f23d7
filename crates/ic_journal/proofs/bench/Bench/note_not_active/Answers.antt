use Rattle.std.proofs.Common.{◌≡◌, ◌≤◌, ◌+◌, ◌∷◌, ◌++◌, [], Err, refl, sym, subst, arith}
use Rattle.ic_name.specs.declared.lines.Call.TheVariants.{Fire}
use Rattle.ic_name.specs.declared.lines.Reply.TheVariants as reply
use Rattle.ic_theory.specs.Active.{IsActive}
use Rattle.ic_set.specs.Views.{standing}
use Rattle.ic_history.specs.Noted.{NotActive}
use Rattle.ic_journal.specs.Views.{view_of}
use Rattle.ic_journal.specs.Calls.{Fires}
use Rattle.ic_journal.proofs.KeptBenches.{keeps_self, same_kept, same_stays, refused_kept, refuses}
use Rattle.ic_journal.proofs.MachineSteps.{inactive_answer}
use Rattle.ic_journal.proofs.bench.Bench.note_not_active.Goals as goal
use Rattle.ic_journal.proofs.bench.Bench.note_not_active.Goals.{in-Ok-note_not_active, in-Err}
use Rattle.ic_set.proofs.Admissions.{same_self}

pub returns-in_default : goal.returns-in_default
returns-in_default g c = rw (← c.self.view_is) (rw (← c.self.view_is) at c.requires.short, refl, same_stays c.self.inside.set c.self.inside.set c.self.inside.history c.reserve.new.self c.self.invariant (same_self _) (keeps_self _) c.reserve.ensures.lines c.reserve.ensures.more)

pub invariant_of-self-2 : goal.invariant_of-self-2
invariant_of-self-2 g c =
    let s = c.self.inside.set in
    let h = c.self.inside.history in
    let e = c.args.proposal in
    let none : ¬ (IsActive s.set.start (standing s.set) e) = rw (← c.self.view_is) at c.requires.inactive in
    elim c.match-note_not_active.branch [
      | in-Ok-note_not_active w ↦
          let more : c.note_not_active.new.self.lines ≡ h.lines ++ NotActive e ∷ [] = rw c.reserve.ensures.lines at w.in-Ok-note_not_active.ensures.lines in
          refused_kept s h c.note_not_active.new.self c.self.invariant (NotActive e) (Fire e) reply.NotActive more tt refl (inactive_answer (view_of s h) e none) w.in-Ok-note_not_active.ensures.few
      | in-Err w ↦ rw w.in-Err.ensures.error (same_kept s s h c.reserve.new.self c.self.invariant (same_self _) (keeps_self _) c.reserve.ensures.lines c.reserve.ensures.few)
    ]

pub returns : goal.returns
returns g c =
    let s = c.self.inside.set in
    let h = c.self.inside.history in
    let e = c.args.proposal in
    let none : ¬ (IsActive s.set.start (standing s.set) e) = rw (← c.self.view_is) at c.requires.inactive in
    subst (λ v. Fires v e (Err c.match-note_not_active.result) (view_of s c.note_not_active.new.self)) c.self.view_is (elim c.match-note_not_active.branch [
      | in-Ok-note_not_active w ↦
          let more : c.note_not_active.new.self.lines ≡ h.lines ++ NotActive e ∷ [] = rw c.reserve.ensures.lines at w.in-Ok-note_not_active.ensures.lines in
          let up = c.reserve.ensures.more in
          let down = w.in-Ok-note_not_active.ensures.room in
          let room : h.room ≤ c.note_not_active.new.self.room + 1 = omega (arith, up, down) in
          let refused = refuses s h c.note_not_active.new.self c.self.invariant (NotActive e) (Fire e) reply.NotActive more tt refl (inactive_answer (view_of s h) e none) room in
          subst (λ f. Fires (view_of s h) e (Err f) (view_of s c.note_not_active.new.self)) (sym w.result-is) refused
      | in-Err w ↦
          let stays = same_stays s s h c.note_not_active.new.self c.self.invariant (same_self _) (keeps_self _) (rw w.in-Err.ensures.error c.reserve.ensures.lines) (rw w.in-Err.ensures.error c.reserve.ensures.more) in
          subst (λ f. Fires (view_of s h) e (Err f) (view_of s c.note_not_active.new.self)) (sym w.result-is) (rw (← c.self.view_is) at c.requires.short, w.in-Err.ensures.back, stays)
    ])
