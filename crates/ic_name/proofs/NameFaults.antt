-- Where a text stops being the beginning of a name's text.
use Rattle.std.proofs.Common.{◌≡◌, ◌≢◌, ℕ, ◌+◌, ◌<◌, List, [], ◌∷◌, ◌++◌, length, take, get_or, drop, append_assoc, inl, inr, Some, None, refl, sym, ◌∙◌, ap, append-nil, arith}
use Rattle.std.proofs.lemmas.List.{take-append-drop, take-take}
use Rattle.std.proofs.lemmas.Bool.{cases_lt}
use Rattle.std.proofs.Math.Seq.{take-length}
use Rattle.ic_name.specs.declared.shapes.Shape.{Shape}
use Rattle.ic_name.specs.declared.shapes.Place.{Place}
use Rattle.ic_name.specs.declared.shapes.Place.TheVariants.{Front, Whole, Dotted}
use Rattle.ic_name.specs.NameTexts.{IsNameText, BeginsName, IsBadAt}
use Rattle.ic_name.specs.NameShapes.{HasShape, next_place}
use Rattle.ic_name.proofs.NameReading.{run, run-append, run-none, Stands, stands_next, reads_to, runs_more}
use Rattle.ic_name.proofs.NameRuns.{name_runs, shape_of}

-- a text of some shape is that of a name
pub shaped_named : (s : Shape) (t : List ℕ) → HasShape s t → IsNameText t
shaped_named s t shape = record { name = shape.name; written = shape.written }

-- what has been read begins a name
stands_begins : (p : Place) (t : List ℕ) → Stands p t → BeginsName t
stands_begins Front t stands = record { rest = 48 ∷ []; whole = shaped_named _ _ (stands_next Front (Whole (record { start = 0; generations = 0 })) t 48 stands refl) }
stands_begins (Whole s) t stands = record { rest = []; whole = rw (append-nil t) (shaped_named s t stands) }
stands_begins (Dotted s) t stands = record { rest = 48 ∷ []; whole = shaped_named _ _ (stands_next (Dotted s) (Whole (record { start = s.start; generations = s.generations + 1 })) t 48 stands refl) }

-- what begins a name goes on
pub begins_not : (t : List ℕ) → run (Some Front) t ≡ None → ¬ (BeginsName t)
begins_not t ends begins =
    let whole = name_runs begins.whole.name (t ++ begins.rest) begins.whole.written in
    let none : run (run (Some Front) t) begins.rest ≡ None = rw ends (run-none begins.rest) in
    let parts = run-append (Some Front) t begins.rest in
    cc

-- the byte at the offset is the first with which the text begins no name
pub bad_byte : (t : List ℕ) (k : ℕ) (p : Place) → k < length t → run (Some Front) (take k t) ≡ Some p → next_place p (get_or t k 0) ≡ None → IsBadAt t k
bad_byte t k p inside here stops =
    let longer : run (Some Front) (take (k + 1) t) ≡ None = runs_more t k p None inside here stops in
    record {
      within = omega arith;
      before = stands_begins p (take k t) (reads_to p (take k t) here);
      after = λ h. begins_not (take (k + 1) t) longer;
      whole = λ h. absurd (omega arith);
    }

-- the text breaks off
pub broken_off : (t : List ℕ) (p : Place) → run (Some Front) t ≡ Some p → ((s : Shape) → p ≢ Whole s) → IsBadAt t (length t)
broken_off t p here part = record {
  within = omega arith;
  before = rw (take-length t) (stands_begins p t (reads_to p t here));
  after = λ h. absurd (omega arith);
  whole = λ h named. part (shape_of named.name) (let whole = name_runs named.name t named.written in cc);
}

-- a front of what begins a name begins it too
front_begins : (t : List ℕ) (i : ℕ) → BeginsName t → BeginsName (take i t)
front_begins t i begins =
    let parts = take-append-drop i t in
    let joined : take i t ++ (drop i t ++ begins.rest) ≡ t ++ begins.rest = sym (append_assoc (take i t) (drop i t) begins.rest) ∙ ap (λ u. u ++ begins.rest) parts in
    record { rest = drop i t ++ begins.rest; whole = rw joined begins.whole }

-- the text of a name begins one
named_begins : (t : List ℕ) → IsNameText t → BeginsName t
named_begins t named = record { rest = []; whole = rw (append-nil t) named }

-- a bad text is that of no name
pub bad_not_named : (t : List ℕ) (k : ℕ) → IsBadAt t k → ¬ (IsNameText t)
bad_not_named t k bad named =
    elim (cases_lt k (length t)) [
      | inl inside ↦ bad.after inside (front_begins t (k + 1) (named_begins t named))
      | inr past ↦ bad.whole (omega arith) named
    ]

-- where a text is bad, no longer front of it begins a name
bad_first : (t : List ℕ) (j k : ℕ) → IsBadAt t j → IsBadAt t k → ¬ (j < k)
bad_first t j k bad_j bad_k less =
    let within = bad_k.within in
    let shorter : take (j + 1) (take k t) ≡ take (j + 1) t = take-take (j + 1) k t (omega arith) in
    let begins : BeginsName (take (j + 1) (take k t)) = front_begins (take k t) (j + 1) bad_k.before in
    bad_j.after (omega arith) (rw shorter at begins)

-- a text is bad at one offset alone
pub bad_once : (t : List ℕ) (j k : ℕ) → IsBadAt t j → IsBadAt t k → j ≡ k
bad_once t j k bad_j bad_k =
    let up = bad_first t j k bad_j bad_k in
    let down = bad_first t k j bad_k bad_j in
    omega arith
