-- A set of events has one journal, in whatever order it is listed.
use Rattle.std.proofs.Common.{◌≡◌, ℕ, List, [], ◌∷◌, map, refl, sym, ap, ◌∙◌}
use Rattle.ic_name.specs.Events.{Event}
use Rattle.ic_path.specs.Orders.{Alike, IsIn}
use Rattle.ic_path.proofs.Alikes.{alike_back, alike_then}
use Rattle.ic_path.proofs.Picks.{in_first, in_more}
use Rattle.ic_theory.specs.Starts.{Start}
use Rattle.ic_theory.specs.Sound.{IsSound}
use Rattle.ic_theory.proofs.Replies.{canonical_total}
use Rattle.ic_theory.proofs.Restored.{rank-alike}
use Rattle.ic_cause.specs.Journals.{Ranked, AreCanonical, IsJournal}
use Rattle.ic_path.proofs.StrictOrders.{sorted_same}

-- a ranked event is told by its event, where that gives its rank
ranked_same : (rank : Event → ℕ) (xs ys : List Ranked) → map (λ (x : Ranked). x.event) xs ≡ map (λ (x : Ranked). x.event) ys
    → ((x : Ranked) → IsIn x xs → x.rank ≡ rank x.event) → ((y : Ranked) → IsIn y ys → y.rank ≡ rank y.event) → xs ≡ ys
ranked_same rank [] [] e f g = refl
ranked_same rank [] (y ∷ ys) e f g = cc
ranked_same rank (x ∷ xs) [] e f g = cc
ranked_same rank (x ∷ xs) (y ∷ ys) e f g =
    let event : x.event ≡ y.event = cc in
    let behind : map (λ (z : Ranked). z.event) xs ≡ map (λ (z : Ranked). z.event) ys = cc in
    let number : x.rank ≡ y.rank = f x (in_first x xs) ∙ ap rank event ∙ sym (g y (in_first y ys)) in
    let rest = ranked_same rank xs ys behind (λ z i. f z (in_more x i)) (λ z i. g z (in_more y i)) in
    λ i. record { event = event i; rank = number i } ∷ rest i

module _ (s : Start) {es fs : List Event} (a : Alike es fs) (sound : IsSound s es) where
  -- events in canonical order stand in one order
  pub canonical_same : (xs ys : List Event) → Alike xs ys → AreCanonical s es xs → AreCanonical s fs ys → xs ≡ ys
  canonical_same xs ys b h k = sorted_same (canonical_total sound.rank) xs ys b (h sound.rank sound.ranked) (k sound.rank (rank-alike s sound.rank a sound.ranked))

  -- a set has one journal
  pub one_journal : (xs ys : List Ranked) → IsJournal s es xs → IsJournal s fs ys → xs ≡ ys
  one_journal xs ys h k = ranked_same sound.rank xs ys
      (canonical_same _ _ (alike_then (alike_back h.alike) (alike_then a k.alike)) h.canonical k.canonical)
      (h.ranks sound.rank sound.ranked)
      (k.ranks sound.rank (rank-alike s sound.rank a sound.ranked))
