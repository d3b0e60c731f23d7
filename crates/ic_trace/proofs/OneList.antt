-- A legal list by names is that of one list of events.
use Rattle.std.proofs.Common.{◌≡◌, List, [], ◌∷◌, map, inl, refl, ap}
use Rattle.ic_name.specs.Events.{Event, pair}
use Rattle.ic_path.specs.Orders.{Alike, here}
use Rattle.ic_theory.specs.Starts.{Start, IsProper}
use Rattle.ic_theory.specs.Firings.{IsFired, nothing, fired}
use Rattle.ic_theory.specs.Letters.{Letter, Fire, Undo, Runs, fires, undoes, IsLegal, same}
use Rattle.ic_theory.proofs.Future.{one_partner}
use Rattle.ic_theory.proofs.Kept.{one_standing}
use Rattle.ic_trace.specs.Letters.{named}
use Rattle.ic_trace.proofs.LastFired.{fired_rest}

module _ (s : Start) (ok : IsProper s) where
  -- equal first letters and equal others
  both : {x y : Letter} {ls ms : List Letter} → x ≡ y → ls ≡ ms → x ∷ ls ≡ y ∷ ms
  both h t = λ i. h i ∷ t i

  -- two lists that are accepted after firings and have the same names are one
  pub one_list : {es fs es' fs' : List Event} (ls ms : List Letter) → IsFired s es → IsFired s fs → Runs s es ls es' → Runs s fs ms fs' → map named ls ≡ map named ms → ls ≡ ms
  one_list [] [] f g r q h = refl
  one_list [] (m ∷ ms) f g r q h = cc
  one_list (l ∷ ls) [] f g r q h = cc
  one_list (Fire x ∷ ls) (Undo y ∷ ms) f g r q h = cc
  one_list (Undo x ∷ ls) (Fire y ∷ ms) f g r q h = cc
  one_list (Fire x ∷ ls) (Fire y ∷ ms) f g (fires a r) (fires b q) h =
      let p : pair x ≡ pair y = cc in
      let t : map named ls ≡ map named ms = cc in
      let e : x ≡ y = one_partner s ok x y (fired f a) (fired g b) here here x.lead (inl refl) (inl (ap (λ z. z.lead) p)) in
      both (ap Fire e) (one_list ls ms (fired f a) (fired g b) r q t)
  one_list (Undo x ∷ ls) (Undo y ∷ ms) f g (undoes k n r) (undoes j m q) h =
      let p : pair x ≡ pair y = cc in
      let t : map named ls ≡ map named ms = cc in
      let e : x ≡ y = one_partner s ok x y f g k j x.lead (inl refl) (inl (ap (λ z. z.lead) p)) in
      both (ap Undo e) (one_list ls ms (fired_rest s ok f k n) (fired_rest s ok g j m) r q t)

  -- two legal lists of the same names are one
  pub one_legal : {ls ms : List Letter} → IsLegal s ls → IsLegal s ms → map named ls ≡ map named ms → ls ≡ ms
  one_legal {ls} {ms} l m h = one_list ls ms nothing nothing l.1 m.1 h

  -- what a list by names leaves is one set
  pub one_left : {es fs : List Event} (ls ms : List Letter) → Runs s [] ls es → Runs s [] ms fs → map named ls ≡ map named ms → Alike es fs
  one_left {es} ls ms r q h = let e = one_list ls ms nothing nothing r q h in one_standing s ok {ms = ms} (rw e at r) q same
