-- What writers hold after one write and another.
use Rattle.std.proofs.Common.{◌≡◌, ◌∙◌, ℕ, ◌+◌, ◌-◌, ◌≤◌, List, ◌++◌, ap, append_assoc, take, drop, length, append-nil, sym, arith, length-drop, [], ◌∷◌, zero, suc, refl}
use Rattle.std.proofs.lemmas.List.{take-append-drop}
use Rattle.std.specs.Prelude.{Option, Some, None}
use Rattle.std.specs.Io.KnownBytes.{Appends, Keeps}
use Rattle.ic_command.specs.Faults.{AppendsFront}

pub appends_more : (a b c : Option (List ℕ)) (xs ys zs : List ℕ) → Appends a b xs → Appends b c ys → zs ≡ xs ++ ys → Appends a c zs
appends_more None b c xs ys zs h k e = tt
appends_more (Some x) None c xs ys zs h k e = absurd h
appends_more (Some x) (Some y) None xs ys zs h k e = absurd k
appends_more (Some x) (Some y) (Some z) xs ys zs h k e = rw (k, h, e) (append_assoc x xs ys)

-- what stands behind a place, taken by its length
take-whole : (xs : List ℕ) (n : ℕ) → length xs ≤ n → take n xs ≡ xs
take-whole [] zero h = refl
take-whole [] (suc n) h = refl
take-whole (x ∷ xs) zero h = absurd (omega arith)
take-whole (x ∷ xs) (suc n) h = ap (λ ys. x ∷ ys) (take-whole xs n (omega arith))

pub suffix : (xs : List ℕ) (k : ℕ) → take (length xs - k) (drop k xs) ≡ drop k xs
suffix xs k = take-whole (drop k xs) (length xs - k) (simp length-drop (omega arith))

-- a write within what was left stays within the whole
pub within_more : (xs : List ℕ) (done n : ℕ) → done ≤ length xs → n ≤ length (take (length xs - done) (drop done xs)) → done + n ≤ length xs
within_more xs done n h k =
    let e : length (take (length xs - done) (drop done xs)) ≡ length (drop done xs) = ap length (suffix xs done) in
    omega (arith, e, length-drop done xs)

-- what was taken of the bytes so far is a front of them
pub front_written : (old new : Option (List ℕ)) (bytes : List ℕ) (done : ℕ) → Appends old new (take done bytes) → AppendsFront old new bytes
front_written old new bytes done h = record { front = take done bytes; behind = drop done bytes; parts = sym (take-append-drop done bytes); appended = h }

-- one write more that takes nothing leaves it so
pub nothing_more : (old now new : Option (List ℕ)) (bytes rest : List ℕ) (done n : ℕ) → n ≡ 0 → Appends old now (take done bytes) → Appends now new (take n rest) → AppendsFront old new bytes
nothing_more old now new bytes rest done n e h k =
    let none : take n rest ≡ [] = ap (λ m. take m rest) e in
    front_written old new bytes done (appends_more old now new (take done bytes) (take n rest) (take done bytes) h k (sym (append-nil (take done bytes)) ∙ ap (λ ys. take done bytes ++ ys) (sym none)))

-- so does one that fails
pub kept_front : (old now new : Option (List ℕ)) (bytes : List ℕ) (done : ℕ) → Appends old now (take done bytes) → Keeps now new → AppendsFront old new bytes
kept_front old now new bytes done h k = nothing_more old now new bytes [] done 0 refl h (keeps-appends now new k)
  where
    keeps-appends : (a b : Option (List ℕ)) → Keeps a b → Appends a b []
    keeps-appends None b h = tt
    keeps-appends (Some x) None h = absurd h
    keeps-appends (Some x) (Some y) h = h ∙ sym (append-nil x)
