-- The text of a number behind an underscore, written from its end on over underscores.
use Rattle.std.proofs.Common.{◌≡◌, ℕ, ◌+◌, ◌-◌, ◌<◌, List, ◌∷◌, length, take, drop, get_or, sym, ap, ◌∙◌, arith}
use Rattle.std.specs.Prelude.{replicate}
use Rattle.std.proofs.lemmas.List.{length-take, length-replicate, get_or-take, get_or-replicate, drop_more, take_all}

-- digits that end at the end of 21 underscores, with the underscore before them
pub underlined : (digits new : List ℕ) (start : ℕ) → 0 < start → start + length digits ≡ 21 → take start new ≡ take start (replicate 21 95) → drop start new ≡ digits → take (21 - (start - 1)) (drop (start - 1) new) ≡ 95 ∷ digits
underlined digits new start some fits before written =
    let i = start - 1 in
    let marks : List ℕ = replicate 21 95 in
    let low : i < length new = omega (arith, some, fits, ap length before, length-take start new, length-take start marks, length-replicate {A = ℕ} 21 95) in
    let here : i < start = omega (arith, some) in
    let first : get_or new i 0 ≡ 95 =
    sym (get_or-take start new i 0 here) ∙ ap (λ xs. get_or xs i 0) before ∙ get_or-take start marks i 0 here ∙ get_or-replicate 21 i 95 0 (omega (arith, some, fits)) in
    let next : i + 1 ≡ start = omega (arith, some) in
    let whole : drop i new ≡ 95 ∷ digits = drop_more new i 0 low ∙ (λ j. first j ∷ (ap (λ k. drop k new) next ∙ written) j) in
    ap (take (21 - i)) whole ∙ take_all (21 - i) (95 ∷ digits) (omega (arith, some, fits))
