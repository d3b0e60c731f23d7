use Rattle.std.proofs.Common.{◌≡◌, ◌+◌, ◌-◌, ◌==◌, ◌<◌, ℕ, drop, take, length, sym, ◌∙◌, ap, rules, tests, arith}
use Rattle.std.specs.Prelude.{position}
use Rattle.std.specs.List.{remove}
use Rattle.std.proofs.lemmas.Iterator.{YieldsList-from_slice}
use Rattle.std.proofs.lemmas.Iterator.Search.{position_from_yields_List}
use Rattle.std.proofs.lemmas.List.{length-drop}
use Rattle.ic_roster.specs.declared.interaction.Interaction.{Interaction}
use Rattle.ic_roster.specs.KeptEvents.{KeptEvent, lone}
use Rattle.ic_roster.proofs.RecordParts.{front_left, middle_left, end_left, lone_same, found_at, not_found}
use Rattle.ic_roster.proofs.event_record.EventRecord.remove_dependent.Goals as goal

pub remove-requires : goal.remove-requires
remove-requires c =
    let r = c.self.inside in
    let xs = r.slots.items in
    let ds = c.args.self.now.dependents in
    let place : c.position-place.result ≡ position (λ x. c.args.slot == x) ds = position_from_yields_List (λ (x : ℕ). c.args.slot == x) _ _ _ c.position-place.ensures.ran (YieldsList-from_slice ds cc) (λ x b q k. search (rules, tests)) in
    let at = found_at ds c.args.slot c.in-Some.at (sym place ∙ c.in-Some.is) in
    let within = at.0 in
    let long : length ds ≡ length xs - (r.born + r.causes) = ap (λ (k : KeptEvent). length k.dependents) (sym c.self.view_is) ∙ length-drop (r.born + r.causes) xs in
    let inside : r.born + r.causes + c.in-Some.at < length xs = omega (arith, within, long) in
    (omega arith, inside)

pub returns-in-Some-clause-same : goal.returns-in-Some-clause-same
returns-in-Some-clause-same c =
    let r = c.self.inside in
    let xs = r.slots.items in
    let ds = c.args.self.now.dependents in
    let place : c.position-place.result ≡ position (λ x. c.args.slot == x) ds = position_from_yields_List (λ (x : ℕ). c.args.slot == x) _ _ _ c.position-place.ensures.ran (YieldsList-from_slice ds cc) (λ x b q k. search (rules, tests)) in
    let at = found_at ds c.args.slot c.in-Some.at (sym place ∙ c.in-Some.is) in
    let within = at.0 in
    let long : length ds ≡ length xs - (r.born + r.causes) = ap (λ (k : KeptEvent). length k.dependents) (sym c.self.view_is) ∙ length-drop (r.born + r.causes) xs in
    let inside : r.born + r.causes + c.in-Some.at < length xs = omega (arith, within, long) in
    let interaction : Interaction = record { lead = r.lead; other = r.other; lead_kind = r.lead_kind; other_kind = r.other_kind } in
    lone_same interaction r.line r.rank
    (ap (take r.born) c.remove.ensures.items ∙ front_left xs r.born r.causes c.in-Some.at inside)
    (ap (λ ys. take r.causes (drop r.born ys)) c.remove.ensures.items ∙ middle_left xs r.born r.causes c.in-Some.at inside)
    ∙ ap lone c.self.view_is

pub returns-in-Some-clause-dependents : goal.returns-in-Some-clause-dependents
returns-in-Some-clause-dependents c there =
    let r = c.self.inside in
    let xs = r.slots.items in
    let ds = c.args.self.now.dependents in
    let place : c.position-place.result ≡ position (λ x. c.args.slot == x) ds = position_from_yields_List (λ (x : ℕ). c.args.slot == x) _ _ _ c.position-place.ensures.ran (YieldsList-from_slice ds cc) (λ x b q k. search (rules, tests)) in
    let at = found_at ds c.args.slot c.in-Some.at (sym place ∙ c.in-Some.is) in
    let within = at.0 in
    let long : length ds ≡ length xs - (r.born + r.causes) = ap (λ (k : KeptEvent). length k.dependents) (sym c.self.view_is) ∙ length-drop (r.born + r.causes) xs in
    let inside : r.born + r.causes + c.in-Some.at < length xs = omega (arith, within, long) in
    let old : drop (r.born + r.causes) xs ≡ ds = ap (λ (k : KeptEvent). k.dependents) c.self.view_is in
    let left : drop (r.born + r.causes) c.remove.new.self.items ≡ remove ds c.in-Some.at =
    ap (drop (r.born + r.causes)) c.remove.ensures.items ∙ end_left xs r.born r.causes c.in-Some.at inside ∙ ap (λ ks. remove ks c.in-Some.at) old in
    rw left at.1

pub returns-in_default-clause-dependents : goal.returns-in_default-clause-dependents
returns-in_default-clause-dependents c there =
    let ds = c.args.self.now.dependents in
    let place : c.position-place.result ≡ position (λ x. c.args.slot == x) ds = position_from_yields_List (λ (x : ℕ). c.args.slot == x) _ _ _ c.position-place.ensures.ran (YieldsList-from_slice ds cc) (λ x b q k. search (rules, tests)) in
    let none = not_found ds c.args.slot (sym place ∙ c.in_default.is) in
    absurd (cc)
