use Rattle.std.proofs.Common.{◌≡◌, ◌∙◌, ℕ, List, Bool, Option, Some, None, true, sym, ap, subst}
use Rattle.ic_name.specs.Names.{Name}
use Rattle.ic_name.specs.Events.{Event, Pair}
use Rattle.ic_path.specs.Orders.{here}
use Rattle.ic_path.proofs.Alikes.{alike-in}
use Rattle.ic_trace.specs.Pasts.{PastView, Fires, IsWith}
use Rattle.ic_theory.specs.Active.{IsActive}
use Rattle.ic_trace.specs.declared.known.Known.{Known}
use Rattle.ic_trace.specs.Readings.{IsOnlyActive}
use Rattle.ic_trace.specs.Known.{IsNumberOf}
use Rattle.ic_trace.proofs.ReadFirings.{firing_refused, accepted_again, accepted_new, causes_known}
use Rattle.ic_trace.proofs.reading.read_firing.Goals as goal

-- what was found of the event
only : (p : PastView) (n : Pair) (o : Option Event) (e : Event) → o ≡ Some e → IsOnlyActive p n o → IsOnlyActive p n (Some e)
only p n o e q h = subst (λ (x : Option Event). IsOnlyActive p n x) q h

none : (p : PastView) (n : Pair) (o : Option Event) → o ≡ None → IsOnlyActive p n o → IsOnlyActive p n None
none p n o q h = subst (λ (x : Option Event). IsOnlyActive p n x) q h

-- what firing it did
done : (old new : PastView) (e : Event) (b : Bool) → b ≡ true → Fires old e b new → IsActive old.start old.events e × IsWith old e new
done old new e b q h = subst (λ (x : Bool). Fires old e x new) q h

-- which number it has
number_at : (ks : List Known) (m n : Name) (o : Option ℕ) → m ≡ n → IsNumberOf ks m o → IsNumberOf ks n o
number_at ks m n o q h = subst (λ (x : Name). IsNumberOf ks x o) q h

pub returns-in_default : goal.returns-in_default
returns-in_default c = firing_refused c.args.past.now c.args.name.now (none c.args.past.now c.args.name.now c.in_ok-event.field-0 c.in_default.is c.in_ok-event.ensures)

pub returns-then-not-branch : goal.returns-then-not-branch
returns-then-not-branch c =
    let p = c.args.past.now in
    let o = only p c.args.name.now c.in_ok-event.field-0 c.in-Some.event c.in-Some.is c.in_ok-event.ensures in
    let refused = subst (λ (b : Bool). Fires p c.in-Some.event b c.fire.new.self) c.if-not-branch.true c.in_ok-fire.ensures.fired in
    firing_refused p c.args.name.now (λ e q a. refused.0 (subst (λ (x : Event). IsActive p.start p.events x) (o.1 e q a) a))

pub returns-in-Some-number : goal.returns-in-Some-number
returns-in-Some-number c =
    let o = only c.args.past.now c.args.name.now c.in_ok-event.field-0 c.in-Some.event c.in-Some.is c.in_ok-event.ensures in
    let f = done c.args.past.now c.fire.new.self c.in-Some.event c.in_ok-fire.field-0 c.if-not-branch.false c.in_ok-fire.ensures.fired in
    accepted_again c.args.past.now c.fire.new.self c.args.table.now c.requires.followed c.lawful.ensures.proper c.lawful.ensures.sound c.args.name.now c.in-Some.event o.0 f.0 f.1 c.in-Some-number.number
    (number_at c.args.table.now.known.items c.lead.result.now c.args.name.now.lead (Some c.in-Some-number.number) c.lead.ensures c.in-Some-number.ensures)

pub note-requires-clause-low : goal.note-requires-clause-low
note-requires-clause-low c = λ k i. (c.requires.followed.known.each k i).low

pub note-requires-clause-name : goal.note-requires-clause-name
note-requires-clause-name c = (only c.args.past.now c.args.name.now c.in_ok-event.field-0 c.in-Some.event c.in-Some.is c.in_ok-event.ensures).0

pub note-requires-clause-stands : goal.note-requires-clause-stands
note-requires-clause-stands c =
    let f = done c.args.past.now c.fire.new.self c.in-Some.event c.in_ok-fire.field-0 c.if-not-branch.false c.in_ok-fire.ensures.fired in
    alike-in f.1.events (c.args.past.now.events, here)

pub note-requires-clause-fresh : goal.note-requires-clause-fresh
note-requires-clause-fresh c =
    let o = only c.args.past.now c.args.name.now c.in_ok-event.field-0 c.in-Some.event c.in-Some.is c.in_ok-event.ensures in
    number_at c.args.table.now.known.items c.lead.result.now c.in-Some.event.lead None (c.lead.ensures ∙ sym (ap (λ (p : Pair). p.lead) o.0)) c.in_default-number.ensures

pub note-requires-clause-causes : goal.note-requires-clause-causes
note-requires-clause-causes c =
    let o = only c.args.past.now c.args.name.now c.in_ok-event.field-0 c.in-Some.event c.in-Some.is c.in_ok-event.ensures in
    let f = done c.args.past.now c.fire.new.self c.in-Some.event c.in_ok-fire.field-0 c.if-not-branch.false c.in_ok-fire.ensures.fired in
    let fresh = number_at c.args.table.now.known.items c.lead.result.now c.args.name.now.lead None c.lead.ensures c.in_default-number.ensures in
    causes_known c.args.past.now c.fire.new.self c.args.table.now c.requires.followed c.lawful.ensures.proper c.lawful.ensures.sound c.args.name.now c.in-Some.event o.0 f.0 f.1 fresh

pub returns : goal.returns
returns c =
    let o = only c.args.past.now c.args.name.now c.in_ok-event.field-0 c.in-Some.event c.in-Some.is c.in_ok-event.ensures in
    let f = done c.args.past.now c.fire.new.self c.in-Some.event c.in_ok-fire.field-0 c.if-not-branch.false c.in_ok-fire.ensures.fired in
    let fresh = number_at c.args.table.now.known.items c.lead.result.now c.args.name.now.lead None c.lead.ensures c.in_default-number.ensures in
    accepted_new c.args.past.now c.fire.new.self c.args.table.now c.requires.followed c.lawful.ensures.proper c.lawful.ensures.sound c.args.name.now c.in-Some.event o.0 f.0 f.1 fresh c.note.new.table c.in_ok-number.number c.in_ok-number.ensures
