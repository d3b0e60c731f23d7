-- The text of a name is read to its end, so that it is the text of one name alone.
use Rattle.std.proofs.Common.{◌≡◌, ℕ, ◌+◌, ◌-◌, ◌/◌, ◌%◌, ◌<◌, ◌≤◌, Bool, true, false, ◌&&◌, List, [], ◌∷◌, ◌++◌, length, Some, refl, sym, ◌∙◌, ap, arith}
use Rattle.std.proofs.lemmas.List.{append_cancel_left}
use Rattle.std.proofs.lemmas.Bool.{le-leb, lt-ltb, ne_eqb}
use Rattle.std.specs.Prelude.{All, nat_lt, ◌==◌}
use Rattle.std.specs.Fmt.{decimal}
use Rattle.std.proofs.lemmas.List.Elements.{All-head, All-tail}
use Rattle.std.proofs.lemmas.Fmt.{decimal_by_steps}
use Rattle.ic_name.specs.declared.limits.TheConstants.{MAX_START_AGENTS}
use Rattle.ic_name.specs.declared.shapes.Shape.{Shape}
use Rattle.ic_name.specs.declared.shapes.Place.TheVariants.{Front, Whole, Dotted}
use Rattle.ic_name.specs.Names.{Name}
use Rattle.ic_name.specs.NameTexts.{digits_text, IsTextOf}
use Rattle.ic_name.specs.NameShapes.{next_place, is_decimal, is_child_digit, may_go_on, longer_start}
use Rattle.ic_name.proofs.NameReading.{run, run-append}

-- the shape of a name's text
abbrev pub shape_of : Name → Shape
shape_of n = record { start = n.start; generations = length n.digits }

-- a start number alone
abbrev start_shape : ℕ → Shape
start_shape k = record { start = k; generations = 0 }

-- two tests that hold
both_true : (a b : Bool) → a ≡ true → b ≡ true → a && b ≡ true
both_true true b h g = g
both_true false b h g = absurd cc

-- the byte of a decimal digit
digit_is_decimal : (d : ℕ) → d < 10 → is_decimal (48 + d) ≡ true
digit_is_decimal d h = both_true _ _ (le-leb 48 (48 + d) (omega arith)) (le-leb (48 + d) 57 (omega arith))

-- a start number of one digit
one_digit_runs : (k : ℕ) → k < 10 → k < MAX_START_AGENTS → run (Some Front) ((48 + k) ∷ []) ≡ Some (Whole (start_shape k))
one_digit_runs k h small =
    let value : (48 + k) - 48 ≡ k = omega arith in
    rw (digit_is_decimal k h, value) refl

-- the last digit of a longer start number
last_digit_runs : (k : ℕ) → 10 ≤ k → k < MAX_START_AGENTS → next_place (Whole (start_shape (k / 10))) (48 + k % 10) ≡ Some (Whole (start_shape k))
last_digit_runs k long small =
    let value : longer_start (k / 10) (48 + k % 10) ≡ k = omega arith in
    let no_dot : (48 + k % 10) == 46 ≡ false = ne_eqb _ _ (λ h. omega arith) in
    let positive : nat_lt 0 (k / 10) ≡ true = lt-ltb _ _ (omega arith) in
    let below : nat_lt (longer_start (k / 10) (48 + k % 10)) MAX_START_AGENTS ≡ true = lt-ltb _ _ (omega arith) in
    let decimal_digit : is_decimal (48 + k % 10) ≡ true = digit_is_decimal (k % 10) (omega arith) in
    let goes : may_go_on (start_shape (k / 10)) (48 + k % 10) ≡ true = both_true _ _ (both_true _ _ decimal_digit refl) (both_true _ _ positive below) in
    rw (no_dot, goes, value) refl

-- the text of a start number is read to its end
abbrev StartRuns : ℕ → List ℕ → Type 0
StartRuns k t = k < MAX_START_AGENTS → run (Some Front) t ≡ Some (Whole (start_shape k))

-- and so it is for each start number
start_runs : (k : ℕ) → k < MAX_START_AGENTS → run (Some Front) (decimal k) ≡ Some (Whole (start_shape k))
start_runs k small = decimal_by_steps StartRuns one_digit_runs more k (omega arith) small
  where
    more : (n : ℕ) (ds : List ℕ) → 10 ≤ n → StartRuns (n / 10) ds → StartRuns n (ds ++ ((48 + n % 10) ∷ []))
    more n ds long here fits = rw (run-append (Some Front) ds ((48 + n % 10) ∷ []), here (omega arith)) (last_digit_runs n long fits)

-- a digit behind a dot
child_runs : (s : Shape) (d : ℕ) → d < 4 → next_place (Dotted s) (48 + d) ≡ Some (Whole (record { start = s.start; generations = s.generations + 1 }))
child_runs s d h =
    let fits : is_child_digit (48 + d) ≡ true = both_true _ _ (le-leb 48 (48 + d) (omega arith)) (le-leb (48 + d) 51 (omega arith)) in
    rw fits refl

-- the digits of a name are read to their end
digits_run : (start g : ℕ) (ds : List ℕ) → All (λ d. d < 4) ds → run (Some (Whole (record { start = start; generations = g }))) (digits_text ds) ≡ Some (Whole (record { start = start; generations = g + length ds }))
digits_run start g [] h =
    let same : g + 0 ≡ g = omega arith in
    rw same refl
digits_run start g (d ∷ ds) h =
    let same : g + 1 + length ds ≡ g + length (d ∷ ds) = omega arith in
    ap (λ o. run o (digits_text ds)) (child_runs (record { start = start; generations = g }) d (All-head (λ e. e < 4) d ds h))
    ∙ digits_run start (g + 1) ds (All-tail (λ e. e < 4) d ds h)
    ∙ ap (λ m. Some (Whole (record { start = start; generations = m }))) same

-- the text of a name is read to its end
pub name_runs : (n : Name) (t : List ℕ) → IsTextOf n t → run (Some Front) t ≡ Some (Whole (shape_of n))
name_runs n t is =
    let same : 0 + length n.digits ≡ length n.digits = omega arith in
    rw (is.text, run-append (Some Front) (decimal n.start) (digits_text n.digits), start_runs n.start is.starts, digits_run n.start 0 n.digits is.digit, same) refl

-- the digits are those of their text
pub digits_text_injective : (ds es : List ℕ) → digits_text ds ≡ digits_text es → ds ≡ es
digits_text_injective [] [] h = refl
digits_text_injective [] (e ∷ es) h = absurd cc
digits_text_injective (d ∷ ds) [] h = absurd cc
digits_text_injective (d ∷ ds) (e ∷ es) h =
    let shifted : 48 + d ≡ 48 + e = cc in
    let first : d ≡ e = omega arith in
    let behind : digits_text ds ≡ digits_text es = cc in
    let rest = digits_text_injective ds es behind in
    cc

-- a text is that of one name alone
pub one_name : (m n : Name) (t : List ℕ) → IsTextOf m t → IsTextOf n t → m ≡ n
one_name m n t is_m is_n =
    let run_m = name_runs m t is_m in
    let run_n = name_runs n t is_n in
    let shapes : shape_of m ≡ shape_of n = cc in
    let starts : m.start ≡ n.start = ap (λ s. s.start) shapes in
    let texts : decimal m.start ++ digits_text m.digits ≡ decimal n.start ++ digits_text n.digits = sym is_m.text ∙ is_n.text in
    let behind : decimal m.start ++ digits_text m.digits ≡ decimal m.start ++ digits_text n.digits = texts ∙ ap (λ k. decimal k ++ digits_text n.digits) (sym starts) in
    let digits = digits_text_injective m.digits n.digits (append_cancel_left (decimal m.start) _ _ behind) in
    λ i. record { start = starts i; digits = digits i }
