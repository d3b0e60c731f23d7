-- Texts that lie one behind the other.
use Rattle.std.proofs.Common.{◌≡◌, ℕ, zero, suc, ◌+◌, ◌-◌, ◌≤◌, List, [], ◌∷◌, ◌++◌, Some, None, slice_get, get_or, length, take, drop, ltb, ltb-true, ltb-false, true, false, refl, sym, ap, subst, ◌∙◌, arith}
use Rattle.std.proofs.lemmas.Option.{slice_get_read, slice_get_past}
use Rattle.std.proofs.lemmas.List.{length-take, length-drop, take-append-drop, take-append-le, drop-append-le, take_all}
use Rattle.std.proofs.Math.Seq.{drop-nil, drop-length, drop-append_seam}
use Rattle.ic_start.specs.Texts.{part, cut, AreEnds, begin}

-- there are as many texts as ends
pub as_many : (bytes : List ℕ) (from : ℕ) (ends : List ℕ) → length (cut bytes from ends) ≡ length ends
as_many bytes from [] = refl
as_many bytes from (e ∷ es) = ap suc (as_many bytes e es)

-- the texts begin before they end
begins_before : (from : ℕ) (ends : List ℕ) (all : ℕ) → AreEnds from ends all → from ≤ all
begins_before from [] all h = omega (arith, h)
begins_before from (e ∷ es) all h = let r = begins_before e es all h.1 in omega (arith, h.0, r)

-- the text with a number lies where it begins, up to its end
text_at : (bytes : List ℕ) (from : ℕ) (ends : List ℕ) (all i e : ℕ) → AreEnds from ends all → slice_get ends i ≡ Some e
    → (begin from ends i ≤ e) × (e ≤ all) × (slice_get (cut bytes from ends) i ≡ Some (part bytes (begin from ends i) e))
text_at bytes from [] all i e h found = cc
text_at bytes from (x ∷ xs) all zero e h found =
    let same : x ≡ e = cc in
    (omega (arith, h.0, same), (let r = begins_before x xs all h.1 in omega (arith, r, same)), λ t. Some (part bytes from (same t)))
text_at bytes from (x ∷ xs) all (suc zero) e h found = text_at bytes x xs all zero e h.1 found
text_at bytes from (x ∷ xs) all (suc (suc j)) e h found = text_at bytes x xs all (suc j) e h.1 found

none_at : (bytes : List ℕ) (from : ℕ) (ends : List ℕ) (i : ℕ) → slice_get ends i ≡ None → slice_get (cut bytes from ends) i ≡ None
none_at bytes from [] i h = refl
none_at bytes from (x ∷ xs) zero h = cc
none_at bytes from (x ∷ xs) (suc i) h = none_at bytes x xs i h

-- the text whose end is read, and none where none is
pub text_read : (bytes ends read : List ℕ) (all i e : ℕ) → AreEnds 0 ends all → read ≡ ends → true ≡ ltb i (length read) → e ≡ get_or read i e
    → (begin 0 ends i ≤ e) × (e ≤ all) × (slice_get (cut bytes 0 ends) i ≡ Some (part bytes (begin 0 ends i) e))
text_read bytes ends read all i e h same in_range is =
    text_at bytes 0 ends all i e h (subst (λ (xs : List ℕ). slice_get xs i ≡ Some e) same (slice_get_read read _ i e refl (ltb-true _ _ (sym in_range)) is))

pub none_read : (bytes ends read : List ℕ) (i : ℕ) → read ≡ ends → false ≡ ltb i (length read) → slice_get (cut bytes 0 ends) i ≡ None
none_read bytes ends read i same past =
    none_at bytes 0 ends i (subst (λ (xs : List ℕ). slice_get xs i ≡ None) same (slice_get_past read i (ltb-false _ _ (sym past))))

-- bytes behind others change none of the texts
one_text : (bytes text : List ℕ) (from n all : ℕ) → all ≡ length bytes → from ≡ all → n ≡ all + length text → part (bytes ++ text) from n ≡ text
one_text bytes text from n all a f e =
    let place : from ≡ length bytes = f ∙ a in
    let behind : drop from (bytes ++ text) ≡ text = ap (λ k. drop k (bytes ++ text)) place ∙ drop-append_seam bytes text in
    ap (take (n - from)) behind ∙ take_all (n - from) text (omega (arith, a, f, e))

pub one_more : (bytes text : List ℕ) (from : ℕ) (ends : List ℕ) (n all : ℕ) → AreEnds from ends all → all ≡ length bytes → n ≡ all + length text
    → cut (bytes ++ text) from (ends ++ n ∷ []) ≡ cut bytes from ends ++ text ∷ []
one_more bytes text from [] n all h a e = let r = one_text bytes text from n all a h e in λ t. r t ∷ []
one_more bytes text from (x ∷ xs) n all h a e =
    let last = begins_before x xs all h.1 in
    let front : drop from (bytes ++ text) ≡ drop from bytes ++ text = drop-append-le from bytes text (omega (arith, h.0, last, a)) in
    let first : part (bytes ++ text) from x ≡ part bytes from x =
    ap (take (x - from)) front ∙ take-append-le (x - from) (drop from bytes) text (omega (arith, h.0, last, a, length-drop from bytes)) in
    let r = one_more bytes text x xs n all h.1 a e in
    λ t. first t ∷ r t

pub ends_more : (from : ℕ) (ends : List ℕ) (n all : ℕ) → AreEnds from ends all → all ≤ n → AreEnds from (ends ++ n ∷ []) n
ends_more from [] n all h e = (omega (arith, h, e), refl)
ends_more from (x ∷ xs) n all h e = (h.0, ends_more x xs n all h.1 e)

-- what is left out in two parts
drops : (m k n : ℕ) (xs : List ℕ) → n ≡ m + k → drop k (drop m xs) ≡ drop n xs
drops zero k n xs e = let same : k ≡ n = omega (arith, e) in ap (λ i. drop i xs) same
drops (suc m) k n [] e = drop-nil k ∙ sym (drop-nil n)
drops (suc m) k zero (x ∷ xs) e = absurd (omega (arith, e))
drops (suc m) k (suc n) (x ∷ xs) e = drops m k n xs (omega (arith, e))

-- the bytes from a place on are those up to another and those from there on
parts : (bytes : List ℕ) (from end : ℕ) → from ≤ end → drop from bytes ≡ part bytes from end ++ drop end bytes
parts bytes from end h =
    let rest : drop (end - from) (drop from bytes) ≡ drop end bytes = drops from (end - from) end bytes (omega (arith, h)) in
    sym (take-append-drop (end - from) (drop from bytes)) ∙ ap (λ xs. part bytes from end ++ xs) rest

-- as long as it says
long : (bytes : List ℕ) (from end all : ℕ) → from ≤ end → end ≤ all → all ≡ length bytes → length (part bytes from end) ≡ end - from
long bytes from end all h g a = omega (arith, h, g, a, length-drop from bytes, length-take (end - from) (drop from bytes))

-- where the texts are the same so are the ends and the bytes
same_parts : (b c : List ℕ) (from : ℕ) (es fs : List ℕ) (m n : ℕ) → AreEnds from es m → AreEnds from fs n → m ≡ length b → n ≡ length c → cut b from es ≡ cut c from fs
    → (es ≡ fs) × (drop from b ≡ drop from c)
same_parts b c from [] [] m n h g a d e =
    let left : drop from b ≡ [] = ap (λ k. drop k b) (h ∙ a) ∙ drop-length b in
    let right : drop from c ≡ [] = ap (λ k. drop k c) (g ∙ d) ∙ drop-length c in
    (refl, left ∙ sym right)
same_parts b c from [] (y ∷ ys) m n h g a d e = cc
same_parts b c from (x ∷ xs) [] m n h g a d e = cc
same_parts b c from (x ∷ xs) (y ∷ ys) m n h g a d e =
    let first : part b from x ≡ part c from y = cc in
    let rest : cut b x xs ≡ cut c y ys = cc in
    let end : x ≡ y =
    omega (arith, h.0, g.0, ap length first, long b from x m h.0 (begins_before x xs m h.1) a, long c from y n g.0 (begins_before y ys n g.1) d) in
    let r = same_parts b c x xs ys m n h.1 (subst (λ k. AreEnds k ys n) (sym end) g.1) a d (rest ∙ ap (λ k. cut c k ys) (sym end)) in
    let bytes : drop from b ≡ drop from c =
    parts b from x h.0 ∙ (λ t. first t ++ r.1 t) ∙ ap (λ k. part c from y ++ drop k c) end ∙ sym (parts c from y g.0) in
    ((λ t. end t ∷ r.0 t), bytes)

pub same_texts : (b c es fs : List ℕ) → AreEnds 0 es (length b) → AreEnds 0 fs (length c) → cut b 0 es ≡ cut c 0 fs → (es ≡ fs) × (b ≡ c)
same_texts b c es fs h g e = same_parts b c 0 es fs (length b) (length c) h g refl refl e
