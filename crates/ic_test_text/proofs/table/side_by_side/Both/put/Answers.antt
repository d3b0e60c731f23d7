use Rattle.std.proofs.Common.{◌≡◌, false, true, Bool, List, [], ◌∷◌, ◌++◌, inl, inr, sym, ap, ◌∙◌, subst}
use Rattle.std.specs.List.{list_any}
use Rattle.std.specs.Cmp.{IsEquivalence}
use Rattle.ic_path.specs.Orders.{Alike, IsIn}
use Rattle.ic_path.specs.Links.{IsSlim}
use Rattle.ic_path.proofs.Alikes.{alike_then, alike_back, alike-cons, alike-in}
use Rattle.ic_path.proofs.ListTests.{any-picked}
use Rattle.ic_path.proofs.Orders.{slim-alike}
use Rattle.ic_path.proofs.Picks.{in_first, in-cons_cases, pick_before, pick_behind}
use Rattle.ic_name.specs.declared.ids.Link.{Link}
use Rattle.ic_name.specs.declared.ids.LinkId.{LinkId}
use Rattle.ic_name.specs.contracts.ids.LinkIdEq.TheImpl.Laws.{laws-law}
use Rattle.ic_link.specs.Links.{shape, CanAdd}
use Rattle.ic_test_text.specs.Stores.{AreSame}
use Rattle.ic_test_text.proofs.table.side_by_side.Both.put.Goals as goal

-- A link with another id than those that are known can be added where it finds room.
can_add : (same : LinkId → LinkId → Bool) → IsEquivalence same → (table rows : List Link) (ids known : List LinkId) (l : Link) (b : Bool) → AreSame table rows ids → known ≡ ids → b ≡ list_any (λ i. same i l.id) known → b ≡ false → IsSlim shape (l ∷ table) → CanAdd table l
can_add same laws table rows ids known l b are is any other room = record {
  fresh = λ m i e. (
      let there : IsIn l.id ids = subst (λ d. IsIn d ids) e (are.known m i) in
      let yes : list_any (λ d. same d l.id) ids ≡ true = any-picked (λ d. same d l.id) there.1 (laws.refl l.id) in
      let unlisted : list_any (λ d. same d l.id) ids ≡ false = ap (list_any (λ d. same d l.id)) (sym is) ∙ sym any ∙ other in
      let bad : ⊥ = cc in
      bad
      );
  room = room;
}

-- So it can where the same links are in another order.
can_too : (ls ms : List Link) (l : Link) → Alike ls ms → CanAdd ls l → CanAdd ms l
can_too ls ms l same can = record {
  fresh = λ m i. can.fresh m (alike-in (alike_back same) i);
  room = slim-alike shape (alike-cons l same) can.room;
}

-- Its id is then known too.
known_more : (l : Link) (ls : List Link) (ids : List LinkId) → ((m : Link) → IsIn m ls → IsIn m.id ids) → (m : Link) → IsIn m (l ∷ ls) → IsIn m.id (ids ++ l.id ∷ [])
known_more l ls ids known m i = elim (in-cons_cases i) [
  | inl e ↦ subst (λ (x : Link). IsIn x.id (ids ++ l.id ∷ [])) (sym e) (_, pick_behind ids (in_first l.id []).1)
  | inr j ↦ (let w = known m j in (_, pick_before (l.id ∷ []) w.1))
]

pub add-requires : goal.add-requires
add-requires c = can_add _ laws-law _ _ _ _ c.args.link _ c.requires c.deref.ensures.value c.contains.ensures.value c.if-contains.false (c.has_room.ensures.0 c.if-not-has_room.false)

pub add-requires-2 : goal.add-requires-2
add-requires-2 c = can_too _ _ c.args.link c.requires.links (can_add _ laws-law _ _ _ _ c.args.link _ c.requires c.deref.ensures.value c.contains.ensures.value c.if-contains.false (c.has_room.ensures.0 c.if-not-has_room.false))

pub returns : goal.returns
returns c = record {
  links = alike_then (alike_back c.in_ok-add.ensures.ok) (alike_then (alike-cons c.args.link c.requires.links) c.in_ok-add-2.ensures.ok);
  known = λ m i. rw c.in_ok-push.ensures.items (known_more c.args.link _ _ c.requires.known m (alike-in (alike_back c.in_ok-add.ensures.ok) i));
}
