-- The events of an order by their places, and their names read from the end.
use Rattle.std.proofs.Common.{◌≡◌, ℕ, ◌+◌, ◌<◌, List, [], ◌∷◌, ◌++◌, take, drop, get_or, length, map, reverse, arith, sym, ap, ◌∙◌}
use Rattle.std.proofs.lemmas.List.{map-append, drop_more, take-append-drop, get_or-map, length-map}
use Rattle.ic_name.specs.Events.{Pair, pair}
use Rattle.ic_name.specs.declared.ids.EventId.{EventId}
use Rattle.ic_path.specs.Orders.{IsIn}
use Rattle.ic_path.proofs.Picks.{in_first}
use Rattle.ic_roster.specs.Rosters.{Stander}
use Rattle.ic_path.proofs.InLists.{in_behind}
use Rattle.ic_undo.proofs.Backs.{reverse_more}

-- an order is as long as its ids
pub order_length : (order : List Stander) (ids : List EventId) → map (λ x. x.id) order ≡ ids → length order ≡ length ids
order_length order ids h = sym (length-map order (λ x. x.id)) ∙ ap length h

-- the event at a place, before those behind it
pub record IsAtPlace (order : List Stander) (k : ℕ) (d : EventId) : Type 0 where
  pub placed : Stander
  pub under : placed.id ≡ d
  pub left : drop k order ≡ placed ∷ drop (k + 1) order
  pub parts : order ≡ take k order ++ placed ∷ drop (k + 1) order

-- an order has an event at each place of its ids
pub at_place : (order : List Stander) (ids : List EventId) (k : ℕ) (d : EventId) → map (λ x. x.id) order ≡ ids → k < length order → IsAtPlace order k (get_or ids k d)
at_place [] ids k d h l = absurd (omega arith)
at_place (y ∷ ys) ids k d h l =
    let left : drop k (y ∷ ys) ≡ get_or (y ∷ ys) k y ∷ drop (k + 1) (y ∷ ys) = drop_more (y ∷ ys) k y l in
    record {
      placed = get_or (y ∷ ys) k y;
      under = sym (get_or-map (λ (x : Stander). x.id) (y ∷ ys) k y d l) ∙ ap (λ ds. get_or ds k d) h;
      left = left;
      parts = sym (take-append-drop k (y ∷ ys)) ∙ ap (λ xs. take k (y ∷ ys) ++ xs) left;
    }

-- it is in the order
pub in_place : (order : List Stander) (k : ℕ) (d : EventId) → (p : IsAtPlace order k d) → IsIn p.placed order
in_place order k d p = let i : IsIn p.placed (take k order ++ p.placed ∷ drop (k + 1) order) = in_behind (take k order) (in_first p.placed (drop (k + 1) order)) in rw p.parts i

-- one name more, read from the end
pub names_more : (order : List Stander) (k : ℕ) (d : EventId) (p : IsAtPlace order k d) (names : List Pair) (name : Pair) → name ≡ pair p.placed.event → map (λ x. pair x.event) (reverse (drop (k + 1) order)) ≡ names
    → map (λ x. pair x.event) (reverse (drop k order)) ≡ names ++ name ∷ []
names_more order k d p names name is h =
    ap (λ xs. map (λ (x : Stander). pair x.event) (reverse xs)) p.left
    ∙ ap (map (λ (x : Stander). pair x.event)) (reverse_more p.placed (drop (k + 1) order))
    ∙ map-append (λ (x : Stander). pair x.event) (reverse (drop (k + 1) order)) (p.placed ∷ [])
    ∙ ap (λ ys. ys ++ pair p.placed.event ∷ []) h
    ∙ ap (λ n. names ++ n ∷ []) (sym is)
