-- The text of the digits: one more at a time, how long it is, and what stands where.
use Rattle.std.proofs.Common.{◌≡◌, ℕ, ◌+◌, ◌<◌, zero, suc, List, [], ◌∷◌, ◌++◌, length, take, get_or, refl, ◌∙◌, ap, append_assoc, length-append, ◌*◌, ◌-◌, drop, arith}
use Rattle.std.proofs.lemmas.List.{take_more, take_all, drop_at}
use Rattle.ic_name.specs.NameTexts.{digits_text}

-- a last digit
pub digits_text-snoc : (ds : List ℕ) (d : ℕ) → digits_text (ds ++ d ∷ []) ≡ digits_text ds ++ 46 ∷ (48 + d) ∷ []
digits_text-snoc [] d = refl
digits_text-snoc (e ∷ ds) d = ap (λ t. 46 ∷ (48 + e) ∷ t) (digits_text-snoc ds d)

-- the text with one digit more
pub digits_text-more : (head : List ℕ) (ds : List ℕ) (i : ℕ) → i < length ds → (head ++ digits_text (take i ds)) ++ 46 ∷ (48 + get_or ds i 0) ∷ [] ≡ head ++ digits_text (take (i + 1) ds)
digits_text-more head ds i h = rw (take_more ds i 0 h, digits_text-snoc (take i ds) (get_or ds i 0)) (simp append_assoc)

-- two bytes for each digit
pub length-digits_text : (ds : List ℕ) → length (digits_text ds) ≡ 2 * length ds
length-digits_text [] = refl
length-digits_text (d ∷ ds) =
    let behind = length-digits_text ds in
    omega arith

-- where a digit stands
pub get_or-digits_text : (ds : List ℕ) (i : ℕ) → i < length ds → get_or (digits_text ds) (2 * i + 1) 0 ≡ 48 + get_or ds i 0
get_or-digits_text [] i h = absurd (omega arith)
get_or-digits_text (d ∷ ds) zero h = refl
get_or-digits_text (d ∷ ds) (suc i) h =
    let behind = get_or-digits_text ds i (omega arith) in
    let place : 2 * suc i + 1 ≡ suc (suc (2 * i + 1)) = omega arith in
    rw place behind

-- the text of the digits is what is left behind the start number
pub digits_behind : (start t ds : List ℕ) (g : ℕ) → t ≡ start ++ digits_text ds → length ds ≡ g → take (length t - (length t - 2 * g)) (drop (length t - 2 * g) t) ≡ digits_text ds
digits_behind start t ds g e count =
    let parts = length-append start (digits_text ds) in
    let long = length-digits_text ds in
    let whole : length t ≡ length (start ++ digits_text ds) = ap length e in
    let front : length start ≡ length t - 2 * g = omega arith in
    let behind : drop (length t - 2 * g) t ≡ digits_text ds = ap (λ u. drop (length t - 2 * g) u) e ∙ drop_at start (digits_text ds) (length t - 2 * g) front in
    ap (λ u. take (length t - (length t - 2 * g)) u) behind ∙ take_all (length t - (length t - 2 * g)) (digits_text ds) (omega arith)

-- the byte behind the next dot is the next digit
pub digits_more : (dotted ds done : List ℕ) (i : ℕ) → dotted ≡ digits_text ds → i < length ds → done ≡ take i ds → done ++ (get_or dotted (2 * i + 1) 0 - 48) ∷ [] ≡ take (i + 1) ds
digits_more dotted ds done i e inside here =
    let byte : get_or dotted (2 * i + 1) 0 ≡ 48 + get_or ds i 0 = ap (λ u. get_or u (2 * i + 1) 0) e ∙ get_or-digits_text ds i inside in
    let digit : get_or dotted (2 * i + 1) 0 - 48 ≡ get_or ds i 0 = omega arith in
    rw (digit, here, take_more ds i 0 inside) refl
