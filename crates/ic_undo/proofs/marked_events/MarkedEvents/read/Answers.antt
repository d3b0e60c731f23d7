use Rattle.std.proofs.Common.{rules, ◌≡◌, Some, get_or, slice_get, length, take, drop, refl, sym, ◌∙◌}
use Rattle.std.proofs.lemmas.List.{length-map}
use Rattle.std.proofs.lemmas.Option.{get_or_from_slice_get, slice_get_read}
use Rattle.ic_name.specs.Names.{start_name}
use Rattle.ic_names.specs.Tables.{name_at}
use Rattle.ic_undo.specs.Marks.{marked_event}
use Rattle.ic_undo.proofs.KeptEvents.{read_apart, read_seen}
use Rattle.ic_undo.proofs.marked_events.MarkedEvents.read.Goals as goal

pub unreachable-requires-in_default-of : goal.unreachable-requires-in_default-of
unreachable-requires-in_default-of c =
    let m = c.self.inside in
    let e = c.index-event.result.now in
    let within = rw (← c.self.view_is, length-map m.events.items (marked_event m.leads m.digits.items)) at c.requires in
    let is : e ≡ get_or m.events.items c.args.place e = c.index-event.ensures in
    let there : slice_get m.events.items c.args.place ≡ Some e = slice_get_read m.events.items (length m.events.items) c.args.place e refl within is in
    let lead : c.in-Some.lead ≡ name_at m.leads e.lead.place = sym (get_or_from_slice_get m.leads e.lead.place c.in-Some.lead (start_name 0) (sym c.in_ok-lead.ensures ∙ c.in-Some.is)) in
    let start : c.of_digits-other.result.start ≡ e.other_start = search rules in
    let digits : c.of_digits-other.result.digits ≡ take e.other_depth (drop e.first m.digits.items) = search rules in
    let some = c.in_default-of.ensures.some.1 (read_apart m.leads m.digits.items m.events.items m.places c.self.invariant c.args.place e there c.in-Some.lead c.of_digits-other.result lead start digits) in
    absurd cc

pub returns : goal.returns
returns c =
    let m = c.self.inside in
    let e = c.index-event.result.now in
    let within = rw (← c.self.view_is, length-map m.events.items (marked_event m.leads m.digits.items)) at c.requires in
    let is : e ≡ get_or m.events.items c.args.place e = c.index-event.ensures in
    let there : slice_get m.events.items c.args.place ≡ Some e = slice_get_read m.events.items (length m.events.items) c.args.place e refl within is in
    let lead : c.in-Some.lead ≡ name_at m.leads e.lead.place = sym (get_or_from_slice_get m.leads e.lead.place c.in-Some.lead (start_name 0) (sym c.in_ok-lead.ensures ∙ c.in-Some.is)) in
    let start : c.of_digits-other.result.start ≡ e.other_start = search rules in
    let digits : c.of_digits-other.result.digits ≡ take e.other_depth (drop e.first m.digits.items) = search rules in
    rw (← c.self.view_is) (read_seen m.leads m.digits.items m.events.items m.places c.self.invariant c.args.place e there c.in-Some.lead c.of_digits-other.result lead start digits c.in-Some-of.event c.in-Some-of.ensures.event)
