use Rattle.std.proofs.Common.{rules, ◌≡◌, ◌+◌, ◌++◌, ◌==◌, ◌∷◌, [], Some, map, take, length, refl, sym, ap, subst, arith, ◌∙◌}
use Rattle.std.proofs.lemmas.List.{take_more, length-take-le, length-map}
use Rattle.std.specs.Prelude.{if◌then◌else◌}
use Rattle.ic_name.specs.Names.{IsName, name_cmp}
use Rattle.std.specs.declared.cmp.Ordering.TheVariants.{Less}
use Rattle.ic_names.specs.Tables.{StandsAt, GrowsUpTo}
use Rattle.ic_slots.specs.Slots.{slot_of, Gives, Keeps}
use Rattle.ic_undo.specs.Marks.{marked_event, AreMarked}
use Rattle.ic_undo.specs.declared.marked_events.MarkedEvent.{MarkedEvent}
use Rattle.ic_undo.proofs.KeptEvents.{next, more_seen, more_marked}
use Rattle.ic_undo.proofs.marked_events.MarkedEvents.of.Goals as goal

pub loop-place-preserved : goal.loop-place-preserved
loop-place-preserved c =
    let all = c.args.events.now in
    let k = c.loop-place.place in
    let f = c.index-events-place.result in
    let below = c.loop-place-test.true in
    let es = c.loop-place.kept.items in
    let old = c.loop-place.leads in
    let new = c.enter.new.self in
    let id = c.in_ok-lead.lead in
    let digits = c.loop-place.digits.items in
    let taken : take (k + 1) all ≡ take k all ++ f ∷ [] = take_more all k f below ∙ ap (λ x. take k all ++ x ∷ []) (sym c.index-events-place.is) in
    let count : length es ≡ k = sym (length-map es (marked_event old digits)) ∙ ap length c.loop-place.invariant.seen ∙ length-take-le k all (omega (arith, below)) in
    let put : Gives id.place (Some (length es)) c.reserve.new.self c.put.new.self =
    (λ n. c.put.ensures.put n ∙ ap (λ p. if n == id.place then Some p else slot_of c.reserve.new.self n) (sym count)) in
    let grown : GrowsUpTo old f.lead new = subst (λ m. GrowsUpTo old m new) c.lead.ensures c.in_ok-lead.ensures.grown in
    let stands : StandsAt new f.lead id.place = subst (λ m. StandsAt new m id.place) c.lead.ensures c.in_ok-lead.ensures.entered in
    let less : name_cmp f.lead f.other ≡ Less = c.lawful.ensures in
    let name : IsName f.other = subst (λ m. IsName m) c.other-other.ensures c.lawful-in-loop-place.ensures in
    let first : c.len.result ≡ length digits = search rules in
    let start : c.start_number.result ≡ f.other.start = c.start_number.ensures ∙ ap (λ m. m.start) c.other-other.ensures in
    let depth : c.depth.result ≡ length f.other.digits = c.depth.ensures.value ∙ ap (λ m. length m.digits) c.other-other.ensures in
    let item : record { first = c.len.result; lead = id; other_start = c.start_number.result; other_depth = c.depth.result; lead_kind = c.lead_kind.result; other_kind = c.other_kind.result } ≡ record { first = length digits; lead = id; other_start = f.other.start; other_depth = length f.other.digits; lead_kind = f.lead_kind; other_kind = f.other_kind } =
    (λ u. record { first = first u; lead = id; other_start = start u; other_depth = depth u; lead_kind = c.lead_kind.ensures u; other_kind = c.other_kind.ensures u }) in
    let pushed = c.in_ok-push.ensures.items ∙ ap (λ (x : MarkedEvent). es ++ x ∷ []) item in
    let longer : c.extend_from_slice.new.self.items ≡ digits ++ f.other.digits = c.in_ok-extend_from_slice.ensures.items ∙ ap (λ ds. digits ++ ds) (c.digits.ensures ∙ ap (λ m. m.digits) c.other-other.ensures) in
    rw (longer, pushed, taken) (record {
      marked = more_marked es f old new id digits c.loop-place.places c.reserve.new.self c.put.new.self c.loop-place.invariant.marked grown stands c.in_ok-reserve.ensures.kept put name less;
      seen = more_seen es f old new id digits c.loop-place.places c.reserve.new.self c.put.new.self c.loop-place.invariant.marked grown stands c.in_ok-reserve.ensures.kept put name less ∙ ap (λ xs. xs ++ f ∷ []) c.loop-place.invariant.seen;
    })
