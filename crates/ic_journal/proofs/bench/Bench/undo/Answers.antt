use Rattle.std.proofs.Common.{◌≡◌, ◌≢◌, ◌≤◌, ◌+◌, ℕ, ◌∷◌, ◌++◌, [], refl, subst, arith}
use Rattle.ic_name.specs.declared.lines.Call.TheVariants.{Undo}
use Rattle.ic_name.specs.declared.lines.Reply.TheVariants as reply
use Rattle.ic_path.specs.Orders.{IsIn}
use Rattle.ic_theory.specs.Machine.{State, noted, MachineStep}
use Rattle.ic_roster.specs.Rosters.{Stander}
use Rattle.ic_history.specs.Noted as seen
use Rattle.ic_journal.specs.Views.{view_of}
use Rattle.ic_journal.specs.Benches.{IsAt}
use Rattle.ic_journal.specs.Calls.{Steps}
use Rattle.ic_journal.proofs.MachineSteps.{absent_answer, held_answer}
use Rattle.ic_journal.proofs.KeptBenches.{refused_kept, refuses, undone_steps, undone_kept}
use Rattle.ic_journal.proofs.bench.Bench.undo.Goals as goal

pub invariant_of-self-in_default-standing_of : goal.invariant_of-self-in_default-standing_of
invariant_of-self-in_default-standing_of g c =
    let s = c.self.inside.set in
    let h = c.self.inside.history in
    let more : c.note.new.self.lines ≡ h.lines ++ seen.NotStanding c.args.id.line ∷ [] = rw c.reserve.ensures.lines at c.note.ensures.lines in
    let none : (x : Stander) → IsIn x s.set.events → x.id.line ≢ c.args.id.line = c.in_default-standing_of.ensures.absent in
    refused_kept s h c.note.new.self c.self.invariant _ (Undo c.args.id.line) reply.NotStanding more tt refl (absent_answer (view_of s h) c.args.id.line none) c.note.ensures.few

pub returns-in_default-standing_of : goal.returns-in_default-standing_of
returns-in_default-standing_of g c =
    let s = c.self.inside.set in
    let h = c.self.inside.history in
    let more : c.note.new.self.lines ≡ h.lines ++ seen.NotStanding c.args.id.line ∷ [] = rw c.reserve.ensures.lines at c.note.ensures.lines in
    let none : (x : Stander) → IsIn x s.set.events → x.id.line ≢ c.args.id.line = c.in_default-standing_of.ensures.absent in
    let up = c.reserve.ensures.more in
    let down = c.note.ensures.room in
    rw (← c.self.view_is) (refuses s h c.note.new.self c.self.invariant _ (Undo c.args.id.line) reply.NotStanding more tt refl (absent_answer (view_of s h) c.args.id.line none) (omega (arith, up, down)))

pub returns-in-Some-least_dependent : goal.returns-in-Some-least_dependent
returns-in-Some-least_dependent g c =
    let s = c.self.inside.set in
    let h = c.self.inside.history in
    let holder = c.in-Some-least_dependent.holder in
    let more : c.note-in-Some-least_dependent.new.self.lines ≡ h.lines ++ seen.Held c.args.id.line holder.line ∷ [] = rw c.reserve.ensures.lines at c.note-in-Some-least_dependent.ensures.lines in
    let in_line : c.in-Some.standing.line ≡ c.args.id.line = c.in-Some.ensures.found.3 in
    let least = rw c.bare.ensures at c.in-Some-least_dependent.ensures.found in
    let answers = subst (λ (l : ℕ). (st : State) → IsAt (view_of s h) st → MachineStep s.set.start st (Undo l) (reply.Held holder.line) (noted st)) in_line (held_answer (view_of s h) c.in-Some.standing holder least) in
    let up = c.reserve.ensures.more in
    let down = c.note-in-Some-least_dependent.ensures.room in
    rw (← c.self.view_is) (refuses s h c.note-in-Some-least_dependent.new.self c.self.invariant _ (Undo c.args.id.line) (reply.Held holder.line) more tt refl answers (omega (arith, up, down)), (least.holder, least.holder_there, least.holder_id))

pub invariant_of-self-in-Some-least_dependent : goal.invariant_of-self-in-Some-least_dependent
invariant_of-self-in-Some-least_dependent g c =
    let s = c.self.inside.set in
    let h = c.self.inside.history in
    let holder = c.in-Some-least_dependent.holder in
    let more : c.note-in-Some-least_dependent.new.self.lines ≡ h.lines ++ seen.Held c.args.id.line holder.line ∷ [] = rw c.reserve.ensures.lines at c.note-in-Some-least_dependent.ensures.lines in
    let in_line : c.in-Some.standing.line ≡ c.args.id.line = c.in-Some.ensures.found.3 in
    let answers = subst (λ (l : ℕ). (st : State) → IsAt (view_of s h) st → MachineStep s.set.start st (Undo l) (reply.Held holder.line) (noted st)) in_line (held_answer (view_of s h) c.in-Some.standing holder (rw c.bare.ensures at c.in-Some-least_dependent.ensures.found)) in
    refused_kept s h c.note-in-Some-least_dependent.new.self c.self.invariant _ (Undo c.args.id.line) (reply.Held holder.line) more tt refl answers c.note-in-Some-least_dependent.ensures.few

pub invariant_of-self-in-None : goal.invariant_of-self-in-None
invariant_of-self-in-None g c =
    let s = c.self.inside.set in
    let h = c.self.inside.history in
    let in_line : c.in-Some.standing.line ≡ c.args.id.line = c.in-Some.ensures.found.3 in
    let more : c.note-in-None.new.self.lines ≡ h.lines ++ seen.Undone c.in-Some.standing.line ∷ [] = rw (c.reserve.ensures.lines, ← in_line) at c.note-in-None.ensures.lines in
    let up = c.reserve.ensures.more in
    let down = c.note-in-None.ensures.room in
    let room : h.room ≤ c.note-in-None.new.self.room + 1 = omega (arith, up, down) in
    undone_kept s c.take_out.new.self h c.note-in-None.new.self c.self.invariant c.take_out.ensures.names c.in-Some.standing c.take_out.ensures.out (rw c.bare.ensures at c.in-None.ensures.absent) more room c.note-in-None.ensures.few

pub returns-in-None : goal.returns-in-None
returns-in-None g c =
    let s = c.self.inside.set in
    let h = c.self.inside.history in
    let in_line : c.in-Some.standing.line ≡ c.args.id.line = c.in-Some.ensures.found.3 in
    let more : c.note-in-None.new.self.lines ≡ h.lines ++ seen.Undone c.in-Some.standing.line ∷ [] = rw (c.reserve.ensures.lines, ← in_line) at c.note-in-None.ensures.lines in
    let up = c.reserve.ensures.more in
    let down = c.note-in-None.ensures.room in
    let room : h.room ≤ c.note-in-None.new.self.room + 1 = omega (arith, up, down) in
    let steps = undone_steps s c.take_out.new.self h c.note-in-None.new.self c.self.invariant c.take_out.ensures.names c.in-Some.standing c.take_out.ensures.out (rw c.bare.ensures at c.in-None.ensures.absent) more room in
    rw (← c.self.view_is) (subst (λ (l : ℕ). Steps (view_of s h) (Undo l) reply.Undone (view_of c.take_out.new.self c.note-in-None.new.self)) in_line steps, (c.in-Some.standing, in_line, c.take_out.ensures.out))

pub take_out-requires-clause-free : goal.take_out-requires-clause-free
take_out-requires-clause-free g c = rw c.bare.ensures at c.in-None.ensures.absent
