-- Reading the text of a name byte by byte: where it stands, and what has been read there.
use Rattle.std.proofs.Common.{◌≡◌, ℕ, ◌+◌, ◌-◌, ◌*◌, ◌/◌, ◌%◌, ◌<◌, ◌≤◌, Bool, true, false, List, [], ◌∷◌, ◌++◌, length, take, drop, get_or, Option, Some, None, refl, sym, ◌∙◌, ap, subst, append_assoc, append-nil, length-append, arith}
use Rattle.std.proofs.lemmas.Bool.{leb-true, ltb-true, eqb-true, and_parts}
use Rattle.std.specs.Prelude.{if◌then◌else◌, ◌==◌}
use Rattle.std.specs.Fmt.{decimal}
use Rattle.std.proofs.lemmas.List.{take_more, take_all}
use Rattle.std.proofs.lemmas.List.Elements.{All-nil, All-push}
use Rattle.std.proofs.lemmas.Fmt.{decimal_digit, decimal_step}
use Rattle.ic_name.specs.declared.limits.TheConstants.{MAX_START_AGENTS}
use Rattle.ic_name.specs.declared.shapes.Shape.{Shape}
use Rattle.ic_name.specs.declared.shapes.Place.{Place}
use Rattle.ic_name.specs.declared.shapes.Place.TheVariants.{Front, Whole, Dotted}
use Rattle.ic_name.specs.NameTexts.{digits_text}
use Rattle.ic_name.specs.NameShapes.{HasShape, next_place, is_decimal, is_child_digit, may_go_on, longer_start, generations_of}
use Rattle.ic_name.proofs.NameTextFacts.{digits_text-snoc, length-digits_text, digits_behind}

-- one byte more, where the bytes before it begin a name
abbrev pub onward : Option Place → ℕ → Option Place
onward None c = None
onward (Some p) c = next_place p c

-- where reading stands after more bytes, if they go on
abbrev pub run : Option Place → List ℕ → Option Place
run o [] = o
run o (c ∷ cs) = run (onward o c) cs

-- more bytes, in two parts
pub run-append : (o : Option Place) (t u : List ℕ) → run o (t ++ u) ≡ run (run o t) u
run-append o [] u = refl
run-append o (c ∷ t) u = run-append (onward o c) t u

-- what begins no name goes on to none
pub run-none : (t : List ℕ) → run None t ≡ None
run-none [] = refl
run-none (c ∷ t) = run-none t

-- what has been read at a place
abbrev pub Stands : Place → List ℕ → Type 0
Stands Front t = t ≡ []
Stands (Whole s) t = HasShape s t
Stands (Dotted s) t = (h : List ℕ) × HasShape s h × (t ≡ h ++ 46 ∷ [])

-- a choice that gave a value
taken : {A : Type 0} (b : Bool) (x q : A) → (if b then Some x else None) ≡ Some q → (b ≡ true) × (x ≡ q)
taken true x q h = (refl, cc)
taken false x q h = absurd cc

-- the bytes of decimal digits
within_decimal : (c : ℕ) → is_decimal c ≡ true → (48 ≤ c) × (c ≤ 57)
within_decimal c h =
    let parts = and_parts _ _ h in
    (leb-true _ _ parts.0, leb-true _ _ parts.1)

-- the bytes of the digits of children
within_child : (c : ℕ) → is_child_digit c ≡ true → (48 ≤ c) × (c ≤ 51)
within_child c h =
    let parts = and_parts _ _ h in
    (leb-true _ _ parts.0, leb-true _ _ parts.1)

-- a first digit
front_read : (c : ℕ) → is_decimal c ≡ true → HasShape (record { start = c - 48; generations = 0 }) (c ∷ [])
front_read c h =
    let range = within_decimal c h in
    let digit : decimal (c - 48) ≡ (48 + (c - 48)) ∷ [] = decimal_digit (c - 48) (omega arith) in
    let same : 48 + (c - 48) ≡ c = omega arith in
    record {
      name = record { start = c - 48; digits = [] };
      written = record {
        starts = omega arith;
        digit = All-nil (λ d. d < 4);
        text = rw (digit, same) refl;
      };
      start = refl;
      generations = refl;
    }

-- a name without generations has no digits
no_digits : (ds : List ℕ) → length ds ≡ 0 → ds ≡ []
no_digits [] h = refl
no_digits (d ∷ ds) h = absurd (omega arith)

-- a start number of one digit more
longer_read : (s : Shape) (t : List ℕ) (c : ℕ) → HasShape s t → may_go_on s c ≡ true → HasShape (record { start = longer_start s.start c; generations = 0 }) (t ++ c ∷ [])
longer_read s t c shape h =
    let parts = and_parts _ _ h in
    let front = and_parts _ _ parts.0 in
    let back = and_parts _ _ parts.1 in
    let range = within_decimal c front.0 in
    let none : s.generations ≡ 0 = eqb-true _ _ front.1 in
    let positive : 0 < s.start = ltb-true _ _ back.0 in
    let small : longer_start s.start c < MAX_START_AGENTS = ltb-true _ _ back.1 in
    let n = shape.name in
    let start : n.start ≡ s.start = shape.start in
    let generations : length n.digits ≡ s.generations = shape.generations in
    let empty : n.digits ≡ [] = no_digits n.digits (generations ∙ none) in
    let step = decimal_step (longer_start s.start c) (omega arith) (omega arith) in
    let quotient : longer_start s.start c / 10 ≡ n.start = omega arith in
    let digit : 48 + longer_start s.start c % 10 ≡ c = omega arith in
    let before : t ≡ decimal n.start = shape.written.text ∙ ap (λ ds. decimal n.start ++ digits_text ds) empty ∙ append-nil (decimal n.start) in
    let after : decimal (longer_start s.start c) ≡ decimal n.start ++ c ∷ [] = rw (step, quotient, digit) refl in
    record {
      name = record { start = longer_start s.start c; digits = [] };
      written = record {
        starts = small;
        digit = All-nil (λ d. d < 4);
        text = ap (λ u. u ++ c ∷ []) before ∙ sym after ∙ sym (append-nil (decimal (longer_start s.start c)));
      };
      start = refl;
      generations = refl;
    }

-- a digit behind a dot
child_read : (s : Shape) (t : List ℕ) (c : ℕ) → HasShape s t → is_child_digit c ≡ true → HasShape (record { start = s.start; generations = s.generations + 1 }) ((t ++ 46 ∷ []) ++ c ∷ [])
child_read s t c shape h =
    let range = within_child c h in
    let n = shape.name in
    let generations : length n.digits ≡ s.generations = shape.generations in
    let same : 48 + (c - 48) ≡ c = omega arith in
    let longer : digits_text (n.digits ++ (c - 48) ∷ []) ≡ digits_text n.digits ++ 46 ∷ c ∷ [] = rw (digits_text-snoc n.digits (c - 48), same) refl in
    record {
      name = record { start = n.start; digits = n.digits ++ (c - 48) ∷ [] };
      written = record {
        starts = shape.written.starts;
        digit = All-push (λ d. d < 4) n.digits (c - 48) shape.written.digit (omega arith);
        text = rw (longer, shape.written.text) (simp append_assoc);
      };
      start = shape.start;
      generations = rw (length-append n.digits ((c - 48) ∷ [])) (omega arith);
    }

-- what has been read, with one byte more
pub stands_next : (p q : Place) (t : List ℕ) (c : ℕ) → Stands p t → next_place p c ≡ Some q → Stands q (t ++ c ∷ [])
stands_next Front q t c stands h =
    let went = taken _ _ _ h in
    let shape = front_read c went.0 in
    subst (λ r. Stands r (t ++ c ∷ [])) went.1 (rw stands shape)
stands_next (Whole s) q t c stands h = whole_next (c == 46) (may_go_on s c) refl refl h
  where
    whole_next : (dot more : Bool) → c == 46 ≡ dot → may_go_on s c ≡ more → (if dot then Some (Dotted s) else if more then Some (Whole (record { start = longer_start s.start c; generations = 0 })) else None) ≡ Some q → Stands q (t ++ c ∷ [])
    whole_next true more is_dot goes e =
        let same : Dotted s ≡ q = cc in
        let byte : c ≡ 46 = eqb-true _ _ is_dot in
        subst (λ r. Stands r (t ++ c ∷ [])) same (t, stands, ap (λ b. t ++ b ∷ []) byte)
    whole_next false more is_dot goes e =
        let went = taken _ _ _ e in
        subst (λ r. Stands r (t ++ c ∷ [])) went.1 (longer_read s t c stands (goes ∙ went.0))
stands_next (Dotted s) q t c stands h =
    let went = taken _ _ _ h in
    let shape = child_read s stands.0 c stands.1 went.0 in
    subst (λ r. Stands r (t ++ c ∷ [])) went.1 (rw stands.2 shape)

-- what has been read after more bytes
run_stands : (p q : Place) (t u : List ℕ) → Stands p t → run (Some p) u ≡ Some q → Stands q (t ++ u)
run_stands p q t [] stands h =
    let same : p ≡ q = cc in
    subst (λ r. Stands r (t ++ [])) same (rw (append-nil t) stands)
run_stands p q t (c ∷ u) stands h =
    elim (next_place p c) as (λ o. next_place p c ≡ o → run o u ≡ Some q → Stands q (t ++ c ∷ u)) [
      | None ↦ λ e ends. absurd (let none = run-none u in cc)
      | Some r ↦ λ e ends. rw (← append_assoc t (c ∷ []) u) (run_stands r q (t ++ c ∷ []) u (stands_next p r t c stands e) ends)
    ] refl h

-- what a text that goes on says
pub reads_to : (q : Place) (t : List ℕ) → run (Some Front) t ≡ Some q → Stands q t
reads_to q t h = run_stands Front q [] t refl h

-- a text has at least two bytes for each digit
pub shape_fits : (s : Shape) (t : List ℕ) → HasShape s t → 2 * s.generations ≤ length t
shape_fits s t shape =
    let n = shape.name in
    let count : length n.digits ≡ s.generations = shape.generations in
    let digits = length-digits_text n.digits in
    let whole : length t ≡ length (decimal n.start ++ digits_text n.digits) = ap length shape.written.text in
    let parts = length-append (decimal n.start) (digits_text n.digits) in
    omega arith

-- the text of the digits is what is left behind the start number
pub dotted_part : (s : Shape) (t : List ℕ) (shape : HasShape s t) → take (length t - (length t - 2 * s.generations)) (drop (length t - 2 * s.generations) t) ≡ digits_text shape.name.digits
dotted_part s t shape = digits_behind (decimal shape.name.start) t shape.name.digits s.generations shape.written.text shape.generations

-- no more digits than bytes have been read
pub stands_fits : (p : Place) (t : List ℕ) → Stands p t → generations_of p ≤ length t
stands_fits Front t stands = omega arith
stands_fits (Whole s) t stands =
    let fits = shape_fits s t stands in
    omega arith
stands_fits (Dotted s) t stands =
    let fits = shape_fits s stands.0 stands.1 in
    let whole : length t ≡ length (stands.0 ++ 46 ∷ []) = ap length stands.2 in
    let parts = length-append stands.0 (46 ∷ []) in
    omega arith

-- one byte more of a text
pub runs_more : (t : List ℕ) (k : ℕ) (p : Place) (o : Option Place) → k < length t → run (Some Front) (take k t) ≡ Some p → next_place p (get_or t k 0) ≡ o → run (Some Front) (take (k + 1) t) ≡ o
runs_more t k p o inside here next = rw (take_more t k 0 inside, run-append (Some Front) (take k t) (get_or t k 0 ∷ []), here) next

-- every byte of a text
pub runs_all : (t : List ℕ) (k : ℕ) (p : Place) → length t ≤ k → run (Some Front) (take k t) ≡ Some p → run (Some Front) t ≡ Some p
runs_all t k p past here =
    let whole : take k t ≡ t = take_all k t past in
    rw whole at here
