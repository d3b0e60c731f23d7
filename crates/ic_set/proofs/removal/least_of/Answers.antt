use Rattle.std.proofs.Common.{◌≡◌, List, [], ◌∷◌, ◌++◌, IfSome, IfNone, append_assoc, append-nil, refl, sym, ap, subst, ◌∙◌}
use Rattle.ic_name.specs.declared.ids.EventId.{EventId}
use Rattle.ic_path.specs.Orders.{IsIn}
use Rattle.ic_path.proofs.Picks.{none_in, pick_before}
use Rattle.ic_set.specs.Removal.{IsLeastOf}
use Rattle.ic_set.proofs.LeastEvents.{least_first, least_moves, least_stays}
use Rattle.ic_set.proofs.removal.least_of.Goals as goal

-- one id more was seen, and is no longer left
seen_more : (done : List EventId) (id : EventId) {left rest ids : List EventId} → left ≡ id ∷ rest → done ++ left ≡ ids → (done ++ id ∷ []) ++ rest ≡ ids
seen_more done id {rest = rest} steps all = append_assoc done (id ∷ []) rest ∙ ap (λ es. done ++ es) (sym steps) ∙ all

-- all ids were seen where none is left
all_seen : (done : List EventId) {left ids : List EventId} → left ≡ [] → done ++ left ≡ ids → done ≡ ids
all_seen done over all = sym (append-nil done) ∙ ap (λ es. done ++ es) (sym over) ∙ all

pub loop-id-init : goal.loop-id-init
loop-id-init c = ([], refl, tt, λ d i. none_in i)

pub loop-id-preserved-then-not-comes_before : goal.loop-id-preserved-then-not-comes_before
loop-id-preserved-then-not-comes_before c =
    let i = c.loop-id.invariant in
    let so_far = rw c.in-Some-least.is at i.2 in
    (i.0 ++ c.in-Some.id ∷ [], seen_more i.0 c.in-Some.id c.in-Some.ensures.next i.1, least_stays _ _ _ _ c.comes_before.result c.if-not-comes_before.true c.comes_before.ensures so_far, tt)

pub loop-id-preserved-in_default-least : goal.loop-id-preserved-in_default-least
loop-id-preserved-in_default-least c =
    let i = c.loop-id.invariant in
    let so_far = rw c.in-Some-least.is at i.2 in
    let there = c.requires c.in-Some-least.found (subst (λ es. IsIn c.in-Some-least.found es) i.1 (_, pick_before c.loop-id.left so_far.among.1)) in (
      i.0 ++ c.in-Some.id ∷ [],
      seen_more i.0 c.in-Some.id c.in-Some.ensures.next i.1,
      least_moves _ c.lawful.ensures.lines _ _ _ there.0 there.1 there.2 c.comes_before.result c.if-not-comes_before.false c.comes_before.ensures so_far,
      tt,
    )

pub loop-id-preserved : goal.loop-id-preserved
loop-id-preserved c =
    let i = c.loop-id.invariant in
    (i.0 ++ c.in-Some.id ∷ [], seen_more i.0 c.in-Some.id c.in-Some.ensures.next i.1, least_first _ c.lawful.ensures.lines _ _ (rw c.in_default-least.is at i.3), tt)

pub returns-clause-found : goal.returns-clause-found
returns-clause-found c =
    let i = c.loop-id.invariant in
    subst (λ ds. IfSome c.loop-id.least (λ least. IsLeastOf c.args.roster.now.events ds least)) (all_seen i.0 c.in_default.ensures.over i.1) i.2

pub returns-clause-absent : goal.returns-clause-absent
returns-clause-absent c =
    let i = c.loop-id.invariant in
    subst (λ ds. IfNone c.loop-id.least ((d : EventId) → IsIn d ds → ⊥)) (all_seen i.0 c.in_default.ensures.over i.1) i.3
