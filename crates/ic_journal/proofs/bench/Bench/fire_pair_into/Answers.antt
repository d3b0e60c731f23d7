use Rattle.std.proofs.Common.{◌≡◌, ◌≤◌, ◌+◌, ◌∷◌, ◌++◌, [], None, Some, Ok, Err, sym, subst, arith}
use Rattle.std.proofs.lemmas.List.{length-map}
use Rattle.ic_name.specs.declared.lines.Call.TheVariants.{Fire}
use Rattle.ic_set.specs.declared.pairs.Fired.{Fired}
use Rattle.ic_set.specs.Pairs.{IsPairOf}
use Rattle.ic_history.specs.Noted.{NotedLine, Limited, line_in}
use Rattle.ic_journal.specs.Views.{set_of, view_of}
use Rattle.ic_history.specs.Limits.{reply_of}
use Rattle.ic_journal.specs.Calls.{FiresPair}
use Rattle.ic_journal.proofs.KeptBenches.{keeps_self, same_kept, same_stays, refused_kept, refuses, roomier_fires}
use Rattle.ic_journal.proofs.PairLimits.{meets_same, limit_answer, pair_refused}
use Rattle.ic_journal.proofs.bench.Bench.fire_pair_into.Goals as goal
use Rattle.ic_set.proofs.Admissions.{same_self}

pub returns-in_default : goal.returns-in_default
returns-in_default g c =
    let few = c.line_count-line.ensures.few in
    let count = c.line_count-line.ensures.count in
    let not_full = c.if-line-eq-MAX_LINES.false in
    let long = length-map c.self.inside.history.lines (line_in c.self.inside.set.names) in
    rw (← c.self.view_is) (λ e p. (omega (arith, few, count, not_full, long), same_stays c.self.inside.set c.self.inside.set c.self.inside.history c.reserve.new.self c.self.invariant (same_self _) (keeps_self _) c.reserve.ensures.lines c.reserve.ensures.more))

pub invariant_of-self-in-Some : goal.invariant_of-self-in-Some
invariant_of-self-in-Some g c =
    let s = c.self.inside.set in
    let h = c.self.inside.history in
    let e = c.requires.0 in
    let p : IsPairOf s.set e c.args.pair = subst (λ v. IsPairOf (set_of v) e c.args.pair) (sym c.self.view_is) c.requires.1 in
    let its = (rw c.bare-set.ensures at c.interaction_of-event.ensures.event) e p in
    let answer = reply_of c.in-Some.limit in
    let named = rw c.bare-set.ensures at c.interaction_of-event.ensures.named in
    let l : NotedLine = Limited c.in-Some.limit c.interaction_of-event.result in
    let more : c.note.new.self.lines ≡ h.lines ++ l ∷ [] = rw (c.reserve.ensures.lines, c.limited.ensures.line) at c.note.ensures.lines in
    let meets = meets_same c.interaction_of-event.result (Some c.in-Some.limit) c.bare-set.ensures its c.in-Some.ensures in
    let line : line_in s.names l ≡ record { call = Fire e; reply = answer } = λ u. record { call = Fire (its u); reply = answer } in
    refused_kept s h c.note.new.self c.self.invariant l (Fire e) answer more named line (limit_answer s h e c.in-Some.limit p.active meets) c.note.ensures.few

pub returns-in-Some : goal.returns-in-Some
returns-in-Some g c =
    let s = c.self.inside.set in
    let h = c.self.inside.history in
    let answer = reply_of c.in-Some.limit in
    let named = rw c.bare-set.ensures at c.interaction_of-event.ensures.named in
    let l : NotedLine = Limited c.in-Some.limit c.interaction_of-event.result in
    let more : c.note.new.self.lines ≡ h.lines ++ l ∷ [] = rw (c.reserve.ensures.lines, c.limited.ensures.line) at c.note.ensures.lines in
    let up = c.reserve.ensures.more in
    let down = c.note.ensures.room in
    let room : h.room ≤ c.note.new.self.room + 1 = omega (arith, up, down) in
    λ e q. (
    let p : IsPairOf s.set e c.args.pair = subst (λ v. IsPairOf (set_of v) e c.args.pair) (sym c.self.view_is) q in
    let its = (rw c.bare-set.ensures at c.interaction_of-event.ensures.event) e p in
    let meets = meets_same c.interaction_of-event.result (Some c.in-Some.limit) c.bare-set.ensures its c.in-Some.ensures in
    let line : line_in s.names l ≡ record { call = Fire e; reply = answer } = λ u. record { call = Fire (its u); reply = answer } in
    let refused = refuses s h c.note.new.self c.self.invariant l (Fire e) answer more named line (limit_answer s h e c.in-Some.limit p.active meets) room in
    let told = subst (λ f. FiresPair (view_of s h) e (Err f) (view_of s c.note.new.self)) (sym c.of.ensures) (pair_refused (view_of s h) (view_of s c.note.new.self) e c.in-Some.limit refused) in
    subst (λ v. FiresPair v e (Err c.of.result) (view_of s c.note.new.self)) c.self.view_is told)

pub admit_noted-requires-clause-active : goal.admit_noted-requires-clause-active
admit_noted-requires-clause-active g c =
    let s = c.self.inside.set in
    let e = c.requires.0 in
    let p : IsPairOf s.set e c.args.pair = subst (λ v. IsPairOf (set_of v) e c.args.pair) (sym c.self.view_is) c.requires.1 in
    let its = (rw c.bare-set.ensures at c.interaction_of-event.ensures.event) e p in
    (e, p, meets_same c.interaction_of-event.result None c.bare-set.ensures its c.in_default-limit_of.ensures)

pub returns-in-Ok-admit_noted : goal.returns-in-Ok-admit_noted
returns-in-Ok-admit_noted g c =
    let s = c.self.inside.set in
    let fired : Fired = record { id = c.in-Ok-admit_noted.id; awoken = c.admit_noted.new.awoken } in
    λ e q. (
    let p : IsPairOf s.set e c.args.pair = subst (λ v. IsPairOf (set_of v) e c.args.pair) (sym c.self.view_is) q in
    let fires = roomier_fires s c.self.inside.history c.reserve.new.self c.reserve.ensures.lines c.reserve.ensures.more c.admit_noted.new.self e fired (c.in-Ok-admit_noted.ensures.fired e p) in
    subst (λ v. FiresPair v e (Ok fired) c.admit_noted.new.self) c.self.view_is fires)

pub invariant_of-self-in_default-limit_of : goal.invariant_of-self-in_default-limit_of
invariant_of-self-in_default-limit_of g c = same_kept c.self.inside.set c.self.inside.set c.self.inside.history c.reserve.new.self c.self.invariant (same_self _) (keeps_self _) c.reserve.ensures.lines c.reserve.ensures.few

pub admit_noted-requires-clause-event : goal.admit_noted-requires-clause-event
admit_noted-requires-clause-event g c = rw c.bare-set.ensures at c.interaction_of-event.ensures.event
