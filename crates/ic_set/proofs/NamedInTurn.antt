-- Agents named by place, as one more is named.
use Rattle.std.proofs.Common.{◌≡◌, ℕ, ◌+◌, ◌<◌, List, [], ◌∷◌, ◌++◌, take, drop, length, arith, ap, ◌∙◌}
use Rattle.std.specs.Prelude.{slice_index_or}
use Rattle.std.proofs.lemmas.List.{map-append, take_more, length-take-le}
use Rattle.ic_name.specs.Names.{Name}
use Rattle.ic_name.specs.declared.kinds.Kind.{Kind}
use Rattle.ic_theory.specs.Born.{named}
use Rattle.ic_set.specs.declared.entering.NewAgent.{NewAgent}
use Rattle.ic_set.specs.Entering.{named_in, agents_in}
use Rattle.ic_link.proofs.InPlace.{split_at}

-- the last of them has the name of its place
named_behind : (name : ℕ → Name) (k : ℕ) (xs : List Kind) (x : Kind) → named name k (xs ++ x ∷ []) ≡ named name k xs ++ (name (k + length xs), x) ∷ []
named_behind name k [] x = ap (λ n. (name n, x) ∷ []) (omega arith)
named_behind name k (y ∷ xs) x = ap (λ zs. (name k, y) ∷ zs) (named_behind name (k + 1) xs x ∙ ap (λ n. named name (k + 1) xs ++ (name n, x) ∷ []) (omega arith))

-- those of two lists stand one behind the other
named_parts : (name : ℕ → Name) (k : ℕ) (xs ys : List Kind) → named name k (xs ++ ys) ≡ named name k xs ++ named name (k + length xs) ys
named_parts name k [] ys = ap (λ n. named name n ys) (omega arith)
named_parts name k (x ∷ xs) ys = ap (λ zs. (name k, x) ∷ zs) (named_parts name (k + 1) xs ys ∙ ap (λ n. named name (k + 1) xs ++ named name n ys) (omega arith))

-- so they are those before a place, the one of that place, and those behind it
pub named_split : (name : ℕ → Name) (xs : List Kind) (i : ℕ) (d : Kind) → i < length xs → named name 0 xs ≡ named name 0 (take i xs) ++ (name i, slice_index_or xs i d) ∷ named name (i + 1) (drop (i + 1) xs)
named_split name xs i d h =
    let long = length-take-le i xs (omega arith) in
    let place : 0 + length (take i xs) ≡ i = omega arith in
    ap (named name 0) (split_at xs i d h) ∙ named_parts name 0 (take i xs) (slice_index_or xs i d ∷ drop (i + 1) xs)
    ∙ ap (λ n. named name 0 (take i xs) ++ named name n (slice_index_or xs i d ∷ drop (i + 1) xs)) place

-- so with one more kind taken there is one more agent
pub named_more : (name : ℕ → Name) (xs : List Kind) (i : ℕ) (d : Kind) → i < length xs → named name 0 (take (i + 1) xs) ≡ named name 0 (take i xs) ++ (name i, slice_index_or xs i d) ∷ []
named_more name xs i d h =
    let long = length-take-le i xs (omega arith) in
    let place : 0 + length (take i xs) ≡ i = omega arith in
    ap (named name 0) (take_more xs i d h) ∙ named_behind name 0 (take i xs) (slice_index_or xs i d)
    ∙ ap (λ n. named name 0 (take i xs) ++ (name n, slice_index_or xs i d) ∷ []) place

-- and of a list with one agent more
pub agents_behind : (ns : List Name) (xs ys : List NewAgent) (x : NewAgent) → ys ≡ xs ++ x ∷ [] → agents_in ns ys ≡ agents_in ns xs ++ named_in ns x ∷ []
agents_behind ns xs ys x e = ap (agents_in ns) e ∙ map-append (named_in ns) xs (x ∷ [])
