-- What is left of an input as lines are taken.
use Rattle.std.proofs.Common.{◌≡◌, ℕ, ◌+◌, ◌<◌, ◌≤◌, Bool, true, false, List, [], ◌∷◌, ◌++◌, length, refl, sym, ap, arith, ◌∙◌, eqb, append_assoc, append-nil, length-append}
use Rattle.std.specs.Prelude.{Option, Some, None, IfSome, if◌then◌else◌}
use Rattle.std.specs.Io.KnownBytes.{prepend_known, Consumes, IsAtEnd}
use Rattle.ic_command.specs.declared.lines.piece.Piece.TheVariants.{Line, TooLong, End}
use Rattle.ic_command.specs.Lines.{first_line, has_feed, behind_line, Takes}
use Rattle.ic_command.proofs.FirstLines.{first-append, first-prepend}

no_feed-append : (xs ys : List ℕ) → has_feed xs ≡ false → has_feed ys ≡ false → has_feed (xs ++ ys) ≡ false
no_feed-append xs ys h k = (first-prepend xs ys h).1 ∙ k

-- a line feed in the buffer ends the line
pub whole_taken : (old left : Option (List ℕ)) (unread rest line longer : List ℕ) (most : ℕ) → Consumes old (prepend_known unread left) line → has_feed line ≡ false
    → has_feed unread ≡ true → longer ≡ line ++ first_line unread → rest ≡ behind_line unread → IfSome old (λ o. Takes (Line true) longer most o (prepend_known rest left))
whole_taken None left unread rest line longer most h p q e f = tt
whole_taken (Some xs) None unread rest line longer most h p q e f = absurd h
whole_taken (Some xs) (Some ys) unread rest line longer most h p q e f =
    let a = first-prepend line (unread ++ ys) p in
    let b = first-append unread ys q in
    (e ∙ rw (h, a.0, b.0) refl, rw (h, a.1, b.1) refl, rw (h, a.2, b.2, f) refl)

-- more than has room: the line is longer
pub longer_taken : (old left : Option (List ℕ)) (unread rest line longer : List ℕ) (most : ℕ) → Consumes old (prepend_known unread left) line → has_feed line ≡ false
    → longer ≡ line → rest ≡ unread → most < length line + length (first_line unread) → IfSome old (λ o. Takes TooLong longer most o (prepend_known rest left))
longer_taken None left unread rest line longer most h p e f m = tt
longer_taken (Some xs) None unread rest line longer most h p e f m = absurd h
longer_taken (Some xs) (Some ys) unread rest line longer most h p e f m =
    let a = first-prepend line (unread ++ ys) p in
    let grown = first_grows unread ys in
    let whole : length (first_line xs) ≡ length line + length (first_line (unread ++ ys)) = ap (λ zs. length (first_line zs)) h ∙ ap length a.0 ∙ length-append line (first_line (unread ++ ys)) in
    (omega arith, rw (h, a.2, f) refl)
  where
    first_grows : (xs ys : List ℕ) → length (first_line xs) ≤ length (first_line (xs ++ ys))
    first_grows [] ys = omega arith
    first_grows (x ∷ xs) ys = go (eqb x 10) (first_grows xs ys)
      where
        go : (b : Bool) → length (first_line xs) ≤ length (first_line (xs ++ ys)) → length (if b then [] else x ∷ first_line xs) ≤ length (if b then [] else x ∷ first_line (xs ++ ys))
        go true h = omega arith
        go false h = omega arith

-- the whole buffer is a part of the line, and the next one is filled
pub part_taken : (old left next : Option (List ℕ)) (unread rest line longer bytes : List ℕ) → Consumes old (prepend_known unread left) line → has_feed line ≡ false
    → has_feed unread ≡ false → longer ≡ line ++ unread → Consumes left next bytes → (has_feed longer ≡ false) × Consumes old (prepend_known bytes next) longer
part_taken old left next unread rest line longer bytes h p q e k = (rw e (no_feed-append line unread p q), go old left next h k)
  where
    go : (old left next : Option (List ℕ)) → Consumes old (prepend_known unread left) line → Consumes left next bytes → Consumes old (prepend_known bytes next) longer
    go None left next h k = tt
    go (Some xs) None next h k = absurd h
    go (Some xs) (Some ys) None h k = absurd k
    go (Some xs) (Some ys) (Some zs) h k = rw (h, k, e) (sym (append_assoc line unread (bytes ++ zs)))

-- the input ends within a line, or in front of one
pub end_taken : (old next : Option (List ℕ)) (longer bytes : List ℕ) (most : ℕ) → Consumes old (prepend_known bytes next) longer → has_feed longer ≡ false → bytes ≡ [] → IsAtEnd next
    → (longer ≡ [] → IfSome old (λ o. Takes End longer most o (prepend_known bytes next))) × IfSome old (λ o. Takes (Line false) longer most o (prepend_known bytes next))
end_taken None next longer bytes most h p e f = (λ _. tt, tt)
end_taken (Some xs) None longer bytes most h p e f = absurd h
end_taken (Some xs) (Some zs) longer bytes most h p e f =
    let all : xs ≡ longer = h ∙ rw (e, f, append-nil) refl in
    let none : bytes ++ zs ≡ [] = rw (e, f) refl in
    let a = first-prepend longer [] p in
    let first : first_line xs ≡ longer = ap first_line (all ∙ sym (append-nil longer)) ∙ a.0 ∙ append-nil longer in
    let feed : has_feed xs ≡ false = ap has_feed all ∙ p in
    let behind : behind_line xs ≡ [] = ap behind_line (all ∙ sym (append-nil longer)) ∙ a.2 in
    (λ empty. (all ∙ empty, ap Some none), (sym first, sym feed, ap Some (none ∙ sym behind)))

pub no_bytes : (xs : List ℕ) → length xs ≡ 0 → xs ≡ []
no_bytes [] h = refl
no_bytes (x ∷ xs) h = absurd (omega arith)

-- both have the same behind their first line, where both are known
abbrev pub SameBehind : Option (List ℕ) → Option (List ℕ) → Type 0
SameBehind None now = Unit {0}
SameBehind (Some xs) None = ⊥
SameBehind (Some xs) (Some ys) = behind_line ys ≡ behind_line xs

pub same_behind : (old : Option (List ℕ)) → SameBehind old old
same_behind None = tt
same_behind (Some xs) = refl

-- a line feed is found in the buffer, and what stands behind it is left
pub skipped_whole : (old left : Option (List ℕ)) (unread rest : List ℕ) → SameBehind old (prepend_known unread left) → has_feed unread ≡ true → rest ≡ behind_line unread
    → IfSome old (λ o. prepend_known rest left ≡ Some (behind_line o))
skipped_whole None left unread rest h q e = tt
skipped_whole (Some xs) None unread rest h q e = absurd h
skipped_whole (Some xs) (Some ys) unread rest h q e = let b = first-append unread ys q in ap Some (ap (λ zs. zs ++ ys) e ∙ sym b.2 ∙ h)

-- none is found, and the next buffer is filled
pub skipped_part : (old left next : Option (List ℕ)) (unread bytes : List ℕ) → SameBehind old (prepend_known unread left) → has_feed unread ≡ false → Consumes left next bytes
    → SameBehind old (prepend_known bytes next)
skipped_part None left next unread bytes h q k = tt
skipped_part (Some xs) None next unread bytes h q k = absurd h
skipped_part (Some xs) (Some ys) None unread bytes h q k = absurd k
skipped_part (Some xs) (Some ys) (Some zs) unread bytes h q k = let a = first-prepend unread ys q in sym (ap behind_line k) ∙ sym a.2 ∙ h

-- the input has ended
pub skipped_end : (old next : Option (List ℕ)) (bytes : List ℕ) → SameBehind old (prepend_known bytes next) → bytes ≡ [] → IsAtEnd next → IfSome old (λ o. prepend_known bytes next ≡ Some (behind_line o))
skipped_end None next bytes h e f = tt
skipped_end (Some xs) None bytes h e f = absurd h
skipped_end (Some xs) (Some zs) bytes h e f =
    let none : bytes ++ zs ≡ [] = rw (e, f) refl in
    let behind : [] ≡ behind_line xs = sym (ap behind_line none) ∙ h in
    ap Some (none ∙ behind)
