-- The ancestors of a name, which have its first digits.
use Rattle.std.proofs.Common.{◌≡◌, ℕ, zero, suc, ◌+◌, ◌-◌, ◌<◌, ◌≤◌, List, length, take, get_or, sym, ◌∙◌, ap, subst, arith}
use Rattle.std.proofs.lemmas.List.{take_more, take_all}
use Rattle.ic_name.specs.Names.{Name, child_name}
use Rattle.ic_names.specs.Tables.{StandsAt, IsAbsent, IsTable}

-- the start number and so many first digits
abbrev pub front_name : Name → ℕ → Name
front_name n i = record { start = n.start; digits = take i n.digits }

-- one digit more is that of a child
pub front-more : (n : Name) (i : ℕ) → i < length n.digits → child_name (front_name n i) (get_or n.digits i 0) ≡ front_name n (i + 1)
front-more n i h = ap (λ ds. record { start = n.start; digits = ds }) (sym (take_more n.digits i 0 h))

-- all digits are those of the name
pub front-all : (n : Name) (i : ℕ) → length n.digits ≤ i → front_name n i ≡ n
front-all n i h = let ds : take i n.digits ≡ n.digits = take_all i n.digits h in λ j. record { start = n.start; digits = ds j }

-- with a name its ancestors stand
fronts_stand : {ns : List Name} → IsTable ns → (n : Name) (k : ℕ) → StandsAt ns n k → (j i : ℕ) → i + j ≡ length n.digits → (p : ℕ) × StandsAt ns (front_name n i) p
fronts_stand {ns} table n k stands zero i e = (k, subst (λ m. StandsAt ns m k) (sym (front-all n i (omega arith))) stands)
fronts_stand {ns} table n k stands (suc j) i e =
    let next = fronts_stand table n k stands j (i + 1) (omega arith) in
    let child = subst (λ m. StandsAt ns m next.0) (sym (front-more n i (omega arith))) next.1 in
    let parent = table.parents (front_name n i) (get_or n.digits i 0) next.0 child in
    (parent.0, parent.2)

-- where an ancestor is absent, the name is
pub absent_behind : {ns : List Name} → IsTable ns → (n : Name) (i : ℕ) → i ≤ length n.digits → IsAbsent ns (front_name n i) → IsAbsent ns n
absent_behind table n i low absent k within named =
    let front = fronts_stand table n k (record { within = within; named = named }) (length n.digits - i) i (omega arith) in
    absent front.0 front.1.within front.1.named

-- the child of an ancestor by the next digit
pub front_next : (n m : Name) (ds : List ℕ) (i : ℕ) → m ≡ front_name n i → ds ≡ n.digits → i < length ds → child_name m (get_or ds i 0) ≡ front_name n (i + 1)
front_next n m ds i named same h =
    let len = ap length same in
    ap (λ a. child_name a (get_or ds i 0)) named ∙ ap (λ l. child_name (front_name n i) (get_or l i 0)) same ∙ front-more n i (omega arith)
