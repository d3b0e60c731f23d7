-- What settling has found, put together.
use Rattle.std.proofs.Common.{◌≡◌, ℕ, ◌+◌, ◌-◌, ◌++◌, zero, suc, take, List, [], ◌∷◌, length, drop, refl, ap, ◌∙◌, subst, arith, length-append}
use Rattle.ic_journal.specs.Views.{BenchView}
use Rattle.ic_name.specs.declared.lines.Line.{Line}
use Rattle.ic_shared.specs.Passes.{PassView, added_by_all, columns}
use Rattle.ic_theory.specs.Starts.{Start}
use Rattle.ic_shared.specs.Openings.{OpeningView, opened}
use Rattle.ic_shared.specs.Settles.{Settles}
use Rattle.ic_shared.specs.Agrees.{Agrees}

-- where each part was found to agree, all of it does
pub agrees : (passes : List PassView) (bench : BenchView) (start : Start) (lines : List Line) (base number : ℕ)
    → bench.start ≡ start → base ≡ length lines → bench.lines ≡ lines ++ drop (length lines) bench.lines → number ≡ length bench.lines → length bench.lines ≡ base + added_by_all passes
    → Settles base (drop base bench.lines) (columns bench.names passes) → Agrees (opened start lines (length passes)) passes bench (number - base)
agrees passes bench start lines base number same based parts all sum h =
    let whole : length bench.lines ≡ length lines + length (drop (length lines) bench.lines) = ap length parts ∙ length-append lines (drop (length lines) bench.lines) in record {
      every_pass = refl;
      start = same;
      opened = parts;
      added = omega arith;
      counted = omega arith;
      settled = subst (λ (n : ℕ). Settles n (drop n bench.lines) (columns bench.names passes)) based h;
    }

-- what holds of an opening's parts and the passes as they came back holds of the opening and the passes
pub of_opening : (P : OpeningView → List PassView → Type 0) (opening : OpeningView) (passes seen : List PassView) (start : Start) (lines : List Line) (count : ℕ)
    → seen ≡ passes → length passes ≡ count → opened start lines count ≡ opening → P (opened start lines (length seen)) seen → P opening passes
of_opening P opening passes seen start lines count same every is h =
    subst (λ (o : OpeningView). P o passes) (ap (λ (n : ℕ). opened start lines n) every ∙ is) (subst (λ (xs : List PassView). P (opened start lines (length xs)) xs) same h)

-- a Vec whose slice came back as it was
pub put_back : {A : Type 0} (now old : List A) (n : ℕ) → now ≡ old → length old ≡ n → take n (now ++ drop (length now) old) ≡ old
put_back {A = A} now old n same len = ap (λ zs. take n (zs ++ drop (length zs) old)) same ∙ (let e : take n (old ++ drop (length old) old) ≡ old = first old n (drop (length old) old) len in e)
  where
    first : (xs : List A) (n : ℕ) (ys : List A) → length xs ≡ n → take n (xs ++ ys) ≡ xs
    first [] zero ys e = refl
    first [] (suc n) ys e = absurd (omega arith)
    first (x ∷ xs) zero ys e = absurd (omega arith)
    first (x ∷ xs) (suc n) ys e = ap (λ zs. x ∷ zs) (first xs n ys (omega arith))
