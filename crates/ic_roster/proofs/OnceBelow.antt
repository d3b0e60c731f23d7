-- Numbers that differ from one another and lie below a bound are at most as many as the bound.
use Rattle.std.proofs.Common.{◌≡◌, ℕ, suc, ◌<◌, ◌≤◌, ◌^◌, List, [], ◌∷◌, length, map, sym, subst, arith}
use Rattle.std.specs.Prelude.{All}
use Rattle.std.specs.List.{IsDistinct}
use Rattle.std.proofs.Math.Dec.{eqb}
use Rattle.std.proofs.lemmas.Bool.{ne_eqb}
use Rattle.std.proofs.lemmas.List.{length-map}
use Rattle.std.proofs.lemmas.List.Elements.{All-contains, All-cons, recursion_from_All}
use Rattle.std.proofs.lemmas.Map.Keys.{IsDistinct-cons}
use Rattle.std.proofs.lemmas.Map.Steps.{length-le_from_distinct_below}
use Rattle.ic_path.specs.Orders.{IsIn, IsOnce, here}
use Rattle.ic_path.proofs.EachOnce.{once_rest}
use Rattle.ic_path.proofs.InLists.{all_of_each}
use Rattle.ic_path.proofs.Picks.{in-contains}
use Rattle.ic_name.specs.declared.ids.EventId.{EventId}
use Rattle.ic_roster.proofs.RecordLoops.{has_in}

-- no number is equal to one after it
distinct_once : (ns : List ℕ) → IsOnce ns → IsDistinct eqb ns
unfolding IsDistinct
distinct_once [] once = tt
distinct_once (n ∷ ns) once =
    IsDistinct-cons eqb n ns
    (recursion_from_All _ ns (all_of_each _ ns (λ m i. ne_eqb n m (λ e. once n ns here (subst (λ k. IsIn k ns) (sym e) i)))))
    (distinct_once ns (once_rest once here))

-- there are at most as many as the bound says
pub once_below : (ns : List ℕ) (bound : ℕ) → IsOnce ns → All (λ n. n < bound) ns → length ns ≤ bound
once_below ns bound once all = length-le_from_distinct_below ns bound (distinct_once ns once) (λ n h. All-contains (λ m. m < bound) ns n all (in-contains (has_in n ns h)))

-- events of different lines are fewer than all lines, because a further line is none of theirs
pub fewer_than_lines : (line : ℕ) (ds : List EventId) → IsOnce (line ∷ map (λ (d : EventId). d.line) ds) → line < 2 ^ 32 → All (λ n. n < 2 ^ 32) (map (λ (d : EventId). d.line) ds) → length ds < 2 ^ 32
fewer_than_lines line ds once small all =
    let ns = map (λ (d : EventId). d.line) ds in
    let few : suc (length ns) ≤ 2 ^ 32 = once_below (line ∷ ns) (2 ^ 32) once (All-cons (λ n. n < 2 ^ 32) line ns small all) in
    let same : length ns ≡ length ds = length-map ds (λ (d : EventId). d.line) in
    omega (arith, few, same)
