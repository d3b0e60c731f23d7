use Rattle.std.proofs.Common.{◌≡◌, ◌≤◌, [], length, append-nil, arith, ap, sym, ◌∙◌}
use Rattle.ic_path.proofs.Errors.{at_error}
use Rattle.ic_names.specs.Queues.{leads_of}
use Rattle.ic_names.proofs.Queued.{kept_queue}
use Rattle.ic_set.specs.Pairs.{IsPairOf}
use Rattle.ic_set.specs.Sets.{IsStandingSet}
use Rattle.ic_set.specs.Views.{NamedView}
use Rattle.ic_set.proofs.Admissions.{same_self}
use Rattle.ic_set.proofs.GrownNames.{grown_keeps, grown_length}
use Rattle.ic_journal.specs.Fronts.{KeepsQueue}
use Rattle.ic_journal.proofs.PairsAdmitted.{same_keeps, admitted_each, front_stays}
use Rattle.ic_journal.proofs.standing.StandingSet.admit.Goals as goal

pub invariant_of-self : goal.invariant_of-self
invariant_of-self g c =
    let i = c.self.invariant in
    let kept = c.reserve.ensures.kept in
    let room = i.room in
    record { queue = c.reserve.ensures.queue c.self.inside.bare.value.names i.queue; each = rw c.reserve.ensures.same i.each; front = i.front; room = omega (arith, kept, room) }

pub returns-in_err-reserve-clause-unchanged : goal.returns-in_err-reserve-clause-unchanged
returns-in_err-reserve-clause-unchanged g c = rw (← c.self.view_is) (at_error _ (same_self _))

pub returns-in_err-reserve-clause-grown : goal.returns-in_err-reserve-clause-grown
returns-in_err-reserve-clause-grown g c = record { more = []; behind = ap (λ (v : NamedView). v.names) c.self.view_is ∙ sym (append-nil c.args.self.now.names); few = omega arith }

pub admit-requires-clause-new_line : goal.admit-requires-clause-new_line
admit-requires-clause-new_line g c = rw (c.deref_mut.ensures.value, c.self.view_is) c.requires.new_line

pub invariant_of-self-in_err-id : goal.invariant_of-self-in_err-id
invariant_of-self-in_err-id g c =
    let before = c.self.inside.bare.value.names in
    let after = c.admit.new.self.names in
    let grown = rw c.deref_mut.ensures.value at c.admit.ensures.grown in
    let count : c.len-names.result ≡ length before = c.len-names.ensures ∙ ap length (c.names.ensures ∙ c.roster.ensures.names ∙ ap (λ (v : NamedView). v.names) c.deref-2.ensures) in
    let enough : length after ≤ c.reserve.new.self.room = omega (arith, count, grown_length before after grown, c.in_ok-reserve.ensures.reserved) in
    same_keeps c.self.inside.bare.value c.admit.new.self c.self.inside.queue c.reserve.new.self c.self.inside.front (rw c.deref_mut.ensures.value at c.in_err-id.ensures.unchanged) (grown_keeps before after grown) (c.reserve.ensures.queue after) c.reserve.ensures.same enough c.self.invariant

pub put_leads-requires-clause-active : goal.put_leads-requires-clause-active
put_leads-requires-clause-active g c =
    let awoken = rw c.deref_mut.ensures.value at c.in_ok-id.ensures.awoken in
    rw c.deref-4.ensures (λ p i. (awoken.only p i).0)

pub put_leads-requires-clause-queue : goal.put_leads-requires-clause-queue
put_leads-requires-clause-queue g c =
    let grown = rw c.deref_mut.ensures.value at c.admit.ensures.grown in
    rw c.deref-4.ensures (c.reserve.ensures.queue c.admit.new.self.names (kept_queue c.self.inside.bare.value.names c.admit.new.self.names (grown_keeps _ _ grown) c.self.inside.queue c.self.invariant.queue))

pub front_after-self-inside-requires-clause-each : goal.front_after-self-inside-requires-clause-each
front_after-self-inside-requires-clause-each g c =
    let e = c.requires.active.0 in
    let active : IsPairOf c.self.inside.bare.value.set e c.args.pair = rw c.self.view_is c.requires.active.1 in
    let a = (rw c.deref_mut.ensures.value at c.in_ok-id.ensures.admitted) e active in
    let grown = rw c.deref_mut.ensures.value at c.admit.ensures.grown in
    let awoken = rw c.deref_mut.ensures.value at c.in_ok-id.ensures.awoken in
    rw c.deref-5.ensures (admitted_each c.self.inside.bare.value c.admit.new.self e c.args.line c.in_ok-id.id a
    (leads_of c.self.inside.queue) (leads_of c.put_leads.new.queue) (grown_keeps _ _ grown) c.admit.new.awoken awoken
    c.self.invariant.each (rw (c.reserve.ensures.same, c.deref-4.ensures) at c.put_leads.ensures.stay) (rw c.deref-4.ensures at c.put_leads.ensures.led))

pub front_after-self-inside-requires-clause-active : goal.front_after-self-inside-requires-clause-active
front_after-self-inside-requires-clause-active g c =
    let e = c.requires.active.0 in
    let active : IsPairOf c.self.inside.bare.value.set e c.args.pair = rw c.self.view_is c.requires.active.1 in
    let a = (rw c.deref_mut.ensures.value at c.in_ok-id.ensures.admitted) e active in
    let before : IsStandingSet c.self.inside.bare.value.set = rw c.deref.ensures at c.lawful.ensures.set in
    let after : IsStandingSet c.admit.new.self.set = rw c.deref-3.ensures at c.lawful-2.ensures.set in
    rw c.deref-5.ensures (front_stays c.self.inside.bare.value c.admit.new.self e c.args.line c.in_ok-id.id a before after c.args.pair active c.self.inside.front c.besides-before.result c.self.invariant.front c.besides-before.ensures)

pub invariant_of-self-2 : goal.invariant_of-self-2
invariant_of-self-2 g c =
    let after = c.front_after-self-inside in
    let kept : KeepsQueue c.deref-5.result.now after.new.queue after.result = record { queue = after.ensures.queue; each = after.ensures.each; front = after.ensures.front; room = after.ensures.room } in
    rw c.deref-5.ensures at kept

pub returns-clause-awoken : goal.returns-clause-awoken
returns-clause-awoken g c = rw (← c.self.view_is) (rw c.deref_mut.ensures.value at c.in_ok-id.ensures.awoken)

pub returns-clause-admitted : goal.returns-clause-admitted
returns-clause-admitted g c = rw (← c.self.view_is) (rw c.deref_mut.ensures.value at c.in_ok-id.ensures.admitted)
