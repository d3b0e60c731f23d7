-- Lines that are put at the end of a text one by one.
use Rattle.std.proofs.Common.{◌≡◌, ℕ, ◌+◌, ◌<◌, ◌≤◌, List, [], ◌∷◌, ◌++◌, length, map, take, get_or, sym, ap, arith, ◌∙◌, append-nil}
use Rattle.std.specs.List.{flat_map}
use Rattle.std.proofs.lemmas.List.{take_more, take_all, get_or-map, flat_map_more, length-map}
use Rattle.ic_path.specs.Orders.{IsIn}
use Rattle.ic_path.proofs.OnceLists.{pick_at}

-- the lines of the first elements of a list are at the end of the text, whichever list it is of those that fit
abbrev pub HasLines : {X Y : Type 0} → (X → Y) → (X → List ℕ) → (X → Type 0) → List Y → List ℕ → ℕ → List ℕ → Type 0
HasLines {X} key line P ys head i text = (order : List X) → ((x : X) → IsIn x order → P x) → map key order ≡ ys → text ≡ head ++ flat_map line (take i order)

-- no line yet
pub no_lines : {X Y : Type 0} (key : X → Y) (line : X → List ℕ) (P : X → Type 0) (ys : List Y) (head : List ℕ) → HasLines key line P ys head 0 head
no_lines key line P ys head order fit named = sym (append-nil head)

-- a line more
pub more_lines : {X Y : Type 0} (key : X → Y) (line : X → List ℕ) (P : X → Type 0) (ys : List Y) (head old new : List ℕ) (i : ℕ) (d : Y) → i < length ys
    → HasLines key line P ys head i old → ((x : X) → P x → key x ≡ get_or ys i d → new ≡ old ++ line x) → HasLines key line P ys head (i + 1) new
more_lines {X} key line P ys head old new i d h had more order fit named = by order fit named
  where
    long : (xs : List X) → map key xs ≡ ys → i < length xs
    long xs e = let n = ap length e in let m = length-map xs key in omega arith

    by : (xs : List X) → ((x : X) → IsIn x xs → P x) → map key xs ≡ ys → new ≡ head ++ flat_map line (take (i + 1) xs)
    by [] fit e = let n : 0 ≡ length ys = ap length e in absurd (omega arith)
    by (z ∷ zs) fit e =
        let l = long (z ∷ zs) e in
        let x = get_or (z ∷ zs) i z in
        let is : key x ≡ get_or ys i d = sym (get_or-map key (z ∷ zs) i z d l) ∙ ap (λ us. get_or us i d) e in
        more x (fit x (_, pick_at (z ∷ zs) i z l)) is
        ∙ ap (λ us. us ++ line x) (had (z ∷ zs) fit e)
        ∙ flat_map_more line head (take i (z ∷ zs)) x
        ∙ ap (λ us. head ++ flat_map line us) (sym (take_more (z ∷ zs) i z l))

-- all lines
pub all_lines : {X Y : Type 0} (key : X → Y) (line : X → List ℕ) (P : X → Type 0) (ys : List Y) (head text : List ℕ) (i : ℕ) → length ys ≤ i
    → HasLines key line P ys head i text → (order : List X) → ((x : X) → IsIn x order → P x) → map key order ≡ ys → text ≡ head ++ flat_map line order
all_lines key line P ys head text i h had order fit named =
    let n = ap length named in
    let m = length-map order key in
    had order fit named ∙ ap (λ us. head ++ flat_map line us) (take_all i order (omega arith))
