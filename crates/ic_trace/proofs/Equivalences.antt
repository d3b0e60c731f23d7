-- Equivalence by names is equivalence.
use Rattle.std.proofs.Common.{◌≡◌, List, [], ◌∷◌, map, refl, sym, ◌∙◌}
use Rattle.ic_name.specs.Events.{Event}
use Rattle.ic_path.specs.Orders.{Alike}
use Rattle.ic_theory.specs.Starts.{Start, IsProper}
use Rattle.ic_theory.specs.Letters as theory
use Rattle.ic_theory.proofs.Kept.{one_standing}
use Rattle.ic_theory.proofs.Normal.{consistent}
use Rattle.ic_trace.specs.declared.lists.Letter.{Letter}
use Rattle.ic_trace.specs.declared.moving.Move.{Move}
use Rattle.ic_trace.specs.Letters.{named, Leaves}
use Rattle.ic_trace.specs.Moves.{Makes, swaps, fire_undo, undo_fire, MakeInTurn, ends, goes_on, Lead, AreEquivalent, same, forth, back}
use Rattle.ic_trace.proofs.LegalMoves.{move_legal, unnumbered, turns_equivalent}
use Rattle.ic_trace.proofs.OneList.{one_legal}

module _ (s : Start) where
  -- the first move of a single one
  first_move : {m : Move} {ls ks : List theory.Letter} → MakeInTurn s ls (m ∷ []) ks → Makes s m ls ks
  first_move (goes_on m ends) = m

  -- a move has a number
  numbered : {ls ks : List theory.Letter} → theory.Move s ls ks → (m : Move) × Makes s m ls ks
  numbered (theory.swaps before behind x y c) = (_, swaps before behind x y c)
  numbered (theory.fire_undo before behind e) = (_, fire_undo before behind e)
  numbered (theory.undo_fire before behind e) = (_, undo_fire before behind e)

  -- equivalent lists are so by names
  pub by_names : {ls ms : List theory.Letter} → theory.AreEquivalent s ls ms → AreEquivalent s (map named ls) (map named ms)
  by_names theory.same = same
  by_names (theory.forth m a b p) = let n = numbered m in forth (_, _, a, goes_on n.1 ends, refl, refl) (by_names p)
  by_names (theory.back m a b p) = let n = numbered m in back (_, _, b, goes_on n.1 ends, refl, refl) (by_names p)

  module _ (ok : IsProper s) where
    -- what is equivalent by names to a legal list is legal and equivalent to it
    pub by_events : {xs ys : List Letter} → AreEquivalent s xs ys → (ls : List theory.Letter) → theory.IsLegal s ls → map named ls ≡ xs → (ms : List theory.Letter) × theory.IsLegal s ms × theory.AreEquivalent s ls ms × (map named ms ≡ ys)
    by_events same ls l h = (ls, l, theory.same, h)
    by_events (forth w p) ls l h =
        let m = unnumbered s ok (first_move w.3) in
        let e : w.0 ≡ ls = one_legal s ok w.2 l (w.4 ∙ sym h) in
        let m' = rw e at m in
        let k = move_legal s ok m w.2 in
        let r = by_events p w.1 k w.5 in
        (r.0, r.1, theory.forth m' l k r.2, r.3)
    by_events (back w p) ls l h =
        let m = unnumbered s ok (first_move w.3) in
        let k = move_legal s ok m w.2 in
        let e : w.1 ≡ ls = one_legal s ok k l (w.5 ∙ sym h) in
        let m' = rw e at m in
        let r = by_events p w.0 w.2 w.4 in
        (r.0, r.1, theory.back m' l w.2 r.2, r.3)

    -- so lists by names are equivalent where they leave one set, and only there
    pub equivalent_leave : {xs ys : List Letter} {es fs : List Event} → Leaves s xs es → Leaves s ys fs → AreEquivalent s xs ys → Alike es fs
    equivalent_leave {es = es} {fs = fs} x y p =
        let r = by_events p x.0 (es, x.1) x.2 in
        let e : r.0 ≡ y.0 = one_legal s ok r.1 (fs, y.1) (r.3 ∙ sym y.2) in
        one_standing s ok x.1 y.1 (rw e at r.2)

    pub left_equivalent : {xs ys : List Letter} {es fs : List Event} → Leaves s xs es → Leaves s ys fs → Alike es fs → AreEquivalent s xs ys
    left_equivalent x y a = rw (← x.2, ← y.2) (by_names (consistent s ok x.1 y.1 a))

    -- moves keep what stands
    pub led_leave : {xs ys : List Letter} {ms : List Move} {es fs : List Event} → Lead s xs ms ys → Leaves s xs es → Leaves s ys fs → Alike es fs
    led_leave {es = es} {fs = fs} w x y =
        let q = turns_equivalent s ok w.3 w.2 in
        let e : w.0 ≡ x.0 = one_legal s ok w.2 (es, x.1) (w.4 ∙ sym x.2) in
        let q' = rw e at q in
        equivalent_leave x y (rw (x.2, w.5) at (by_names q'))
