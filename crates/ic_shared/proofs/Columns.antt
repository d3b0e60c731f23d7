-- The columns of passes, and what their receipts tell.
use Rattle.std.proofs.Common.{◌≡◌, ◌≢◌, ◌↔◌, IsTrue, ℕ, zero, suc, ◌+◌, ◌*◌, List, [], ◌∷◌, length, map, option_map, get_or, ltb, ltb-true, ltb-false, true, false, Some, None, refl, sym, ap, ◌∙◌, subst, arith}
use Rattle.std.specs.Prelude.{◌==◌, slice_get}
use Rattle.std.proofs.lemmas.Bool.Decides.{nat_tests}
use Rattle.std.proofs.lemmas.Option.{slice_get-map, slice_get_read, slice_get_past}
use Rattle.ic_name.specs.Names.{Name}
use Rattle.ic_name.specs.declared.lines.Line.{Line}
use Rattle.ic_history.specs.Notes.{line_read}
use Rattle.ic_shared.specs.declared.receipts.Receipt.{Receipt}
use Rattle.ic_shared.specs.declared.receipts.RunReceipt.{RunReceipt}
use Rattle.ic_shared.specs.declared.passes.Column.TheVariants.{Calls, Runs}
use Rattle.ic_shared.specs.Passes.{PassView, Told, told_by, told_in, IsFor, column, columns}
use Rattle.ic_shared.specs.Settles.{Confirms}
use Rattle.ic_shared.proofs.Owned.{number_for}

module _ (ns : List Name) where
  -- a pass's calls are the column with twice its number
  pub calls_at : (passes : List PassView) (number k : ℕ) (pass : PassView) → number ≡ 2 * k → slice_get passes k ≡ Some pass → slice_get (columns ns passes) number ≡ Some (column ns pass Calls)
  calls_at [] number k pass twice at = absurd (cc (at))
  calls_at (p ∷ ps) zero zero pass twice at = let same : p ≡ pass = cc in ap (λ z. Some (column ns z Calls)) same
  calls_at (p ∷ ps) zero (suc k) pass twice at = absurd (omega arith)
  calls_at (p ∷ ps) (suc zero) k pass twice at = absurd (omega arith)
  calls_at (p ∷ ps) (suc (suc number)) zero pass twice at = absurd (omega arith)
  calls_at (p ∷ ps) (suc (suc number)) (suc k) pass twice at = calls_at ps number k pass (omega arith) at

  -- and its runs are the next one
  pub runs_at : (passes : List PassView) (number k : ℕ) (pass : PassView) → number ≡ 2 * k + 1 → slice_get passes k ≡ Some pass → slice_get (columns ns passes) number ≡ Some (column ns pass Runs)
  runs_at [] number k pass twice at = absurd (cc (at))
  runs_at (p ∷ ps) zero k pass twice at = absurd (omega arith)
  runs_at (p ∷ ps) (suc zero) zero pass twice at = let same : p ≡ pass = cc in ap (λ z. Some (column ns z Runs)) same
  runs_at (p ∷ ps) (suc zero) (suc k) pass twice at = absurd (omega arith)
  runs_at (p ∷ ps) (suc (suc number)) zero pass twice at = absurd (omega arith)
  runs_at (p ∷ ps) (suc (suc number)) (suc k) pass twice at = runs_at ps number k pass (omega arith) at

  -- there are two columns for each pass
  pub columns_length : (passes : List PassView) → length (columns ns passes) ≡ 2 * length passes
  columns_length [] = refl
  columns_length (p ∷ ps) = let rest = columns_length ps in omega arith

-- the element that is read at a place stands there
pub found_at : {A : Type 0} (xs read : List A) (i : ℕ) (x : A) → read ≡ xs → true ≡ ltb i (length read) → x ≡ get_or read i x → slice_get xs i ≡ Some x
found_at {A = A} xs read i x same within is = subst (λ (zs : List A). slice_get zs i ≡ Some x) same (slice_get_read read _ i x refl (ltb-true _ _ (sym within)) is)

-- where none is read none stands there
pub none_at : {A : Type 0} (xs read : List A) (i : ℕ) → read ≡ xs → false ≡ ltb i (length read) → slice_get xs i ≡ None
none_at {A = A} xs read i same past = subst (λ (zs : List A). slice_get zs i ≡ None) same (slice_get_past read i (ltb-false _ _ (sym past)))

-- what the receipt at a place tells stands at the place
pub told_at : {A : Type 0} (tell : A → Told) (rs : List A) (i : ℕ) (r : A) → slice_get rs i ≡ Some r → slice_get (map tell rs) i ≡ Some (tell r)
told_at tell rs i r at = slice_get-map tell rs i ∙ ap (option_map tell) at

-- what is told is for a line exactly where the line with the number is one that it is for
confirmed : (lines : List Line) (xs : List Told) (i number : ℕ) (x : Told) (B : Type 0) → slice_get xs i ≡ Some x → B ↔ ((l : Line) × (slice_get lines number ≡ Some l) × IsFor number l x) → B ↔ Confirms lines xs i number
confirmed lines xs i number x B at is = (
  (λ b. let l = is.0 b in (l.0, x, l.1, at, l.2)),
  (λ h. is.1 (h.0, h.2, subst (IsFor number h.0) (let same : Some h.1 ≡ Some x = sym h.3 ∙ at in cc) h.4)),
)

-- a call's receipt with the number is for the line with its call and its reply
pub call_confirmed : (lines : List Line) (rs : List Receipt) (i number : ℕ) (r : Receipt) (B : Type 0) → slice_get rs i ≡ Some r → r.number ≡ number
    → B ↔ (slice_get lines number ≡ Some (record { call = r.call; reply = r.reply })) → B ↔ Confirms lines (map told_by rs) i number
call_confirmed lines rs i number r B at its is = confirmed lines (map told_by rs) i number (told_by r) B (told_at told_by rs i r at) (
  (λ b. (record { call = r.call; reply = r.reply }, is.0 b, λ u. record { number = its u; line = Some (record { call = r.call; reply = r.reply }) })),
  (λ h. is.1 (h.1 ∙ sym (ap (λ (z : Told). z.line) h.2))),
)

-- a run's receipt with the number is for the line that its note tells by the names
pub run_confirmed : (ns : List Name) (lines : List Line) (rs : List RunReceipt) (i number : ℕ) (r : RunReceipt) (B : Type 0) → slice_get rs i ≡ Some r → r.number ≡ number
    → B ↔ ((l : Line) × (slice_get lines number ≡ Some l) × (line_read ns r.note ≡ Some l)) → B ↔ Confirms lines (map (told_in ns) rs) i number
run_confirmed ns lines rs i number r B at its is = confirmed lines (map (told_in ns) rs) i number (told_in ns r) B (told_at (told_in ns) rs i r at) (
  (λ b. let l = is.0 b in (l.0, l.1, λ u. record { number = its u; line = l.2 u })),
  (λ h. is.1 (h.0, h.1, ap (λ (z : Told). z.line) h.2)),
)

-- where there's no receipt none is for the line
pub none_confirmed : {A : Type 0} (tell : A → Told) (lines : List Line) (xs : List A) (i number : ℕ) → slice_get xs i ≡ None → IsTrue false ↔ Confirms lines (map tell xs) i number
none_confirmed tell lines xs i number at = (λ t. absurd cc, λ h. let e : None ≡ Some h.1 = sym (slice_get-map tell xs i ∙ ap (option_map tell) at) ∙ h.3 in absurd cc)

-- two numbers are the same where a test says so
same_number : (m n : ℕ) → IsTrue (m == n) → m ≡ n
same_number m n t = grind (arith, nat_tests)

-- a receipt with another number isn't for the line
pub other_number : (lines : List Line) (xs : List Told) (i number : ℕ) (x : Told) → slice_get xs i ≡ Some x → x.number ≢ number → IsTrue (x.number == number) ↔ Confirms lines xs i number
other_number lines xs i number x at other = (
  λ t. absurd (other (same_number x.number number t)),
  λ h.
      let same : h.1 ≡ x = (let e : Some h.1 ≡ Some x = sym h.3 ∙ at in cc) in
      absurd (other (ap (λ (z : Told). z.number) (sym same) ∙ number_for number h.0 h.1 h.4)),
)
