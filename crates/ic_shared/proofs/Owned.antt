-- The receipts for the lines so far.
use Rattle.std.proofs.Common.{◌≡◌, ◌≢◌, ℕ, zero, suc, ◌+◌, ◌<◌, ◌≤◌, Bool, true, false, List, [], ◌∷◌, ◌++◌, length, take, drop, Some, cond, sym, refl, ap, ◌∙◌, subst, arith, length-append, get_or-set_same, get_or-set_other, get_or, length-drop, ◌-◌, append-nil, ne_eqb, eq-eqb}
use Rattle.std.specs.Prelude.{slice_get, slice_index, slice_set, nat_eq, replicate}
use mathlib.Core.Logic.{dite}
use native.Mathlib.Decide.{ℕ_discrete, dec_lt}
use Rattle.ic_name.specs.declared.lines.Line.{Line}
use Rattle.ic_history.proofs.FirstElements.{take_next}
use Rattle.ic_shared.specs.Passes.{Told, IsFor}
use Rattle.ic_shared.specs.Settles.{owned, AreFor, Settles, SettlesTo, NumberAt, IsNext, WrongAt, differs, early, twice, unclaimed}

module _ {A : Type 0} where
  -- an element that stands at a place is within the list
  pub get_length : (xs : List A) (i : ℕ) (x : A) → slice_get xs i ≡ Some x → i < length xs
  get_length [] i x e = absurd (cc (e))
  get_length (y ∷ ys) zero x e = omega arith
  get_length (y ∷ ys) (suc i) x e = let h = get_length ys i x e in omega arith

  -- so many first elements of a list that has no more
  take_whole : (xs : List A) (n : ℕ) → length xs ≤ n → take n xs ≡ xs
  take_whole [] zero h = refl
  take_whole [] (suc n) h = refl
  take_whole (x ∷ xs) zero h = absurd (omega arith)
  take_whole (x ∷ xs) (suc n) h = ap (λ zs. x ∷ zs) (take_whole xs n (omega arith))

  -- a place past those that are left out
  pub get_drop : (b : ℕ) (xs : List A) (j : ℕ) → slice_get (drop b xs) j ≡ slice_get xs (b + j)
  get_drop zero xs j = ap (slice_get xs) (omega arith)
  get_drop (suc b) [] j = refl
  get_drop (suc b) (x ∷ xs) j = get_drop b xs j ∙ ap (slice_get (x ∷ xs)) (same b j)
    where
      same : (b j : ℕ) → suc (b + j) ≡ suc b + j
      same b j = omega arith

-- so many first elements
take_length : {A : Type 0} (j : ℕ) (xs : List A) → j ≤ length xs → length (take j xs) ≡ j
take_length zero xs h = refl
take_length (suc j) [] h = absurd (omega arith)
take_length (suc j) (x ∷ xs) h = ap suc (take_length j xs (omega arith))

-- a receipt for a line has the line's number
pub number_for : (number : ℕ) (l : Line) (x : Told) → IsFor number l x → x.number ≡ number
number_for number l x is = ap (λ (z : Told). z.number) is

-- a receipt more is for a line more
for_snoc : (ls : List (ℕ × Line)) (xs : List Told) (l : ℕ × Line) (x : Told) → AreFor ls xs → IsFor l.0 l.1 x → AreFor (ls ++ l ∷ []) (xs ++ x ∷ [])
for_snoc [] [] l x old new = (new, tt)
for_snoc [] (y ∷ xs) l x old new = absurd old
for_snoc (m ∷ ls) [] l x old new = absurd old
for_snoc (m ∷ ls) (y ∷ xs) l x old new = (old.0, for_snoc ls xs l x old.1 new)

-- each receipt is for a line
line_for : (ls : List (ℕ × Line)) (xs : List Told) (i : ℕ) (x : Told) → AreFor ls xs → slice_get xs i ≡ Some x → (l : ℕ × Line) × (slice_get ls i ≡ Some l) × IsFor l.0 l.1 x
line_for ls [] i x h at = absurd (cc (at))
line_for [] (y ∷ xs) i x h at = absurd h
line_for (l ∷ ls) (y ∷ xs) zero x h at = let same : y ≡ x = cc in (l, refl, subst (IsFor l.0 l.1) same h.0)
line_for (l ∷ ls) (y ∷ xs) (suc i) x h at = line_for ls xs i x h.1 at

-- each line has a receipt
receipt_for : (ls : List (ℕ × Line)) (xs : List Told) (i : ℕ) (l : ℕ × Line) → AreFor ls xs → slice_get ls i ≡ Some l → (x : Told) × (slice_get xs i ≡ Some x) × IsFor l.0 l.1 x
receipt_for [] xs i l h at = absurd (cc (at))
receipt_for (m ∷ ls) [] i l h at = absurd h
receipt_for (m ∷ ls) (x ∷ xs) zero l h at = let same : m ≡ l = cc in (x, refl, subst (λ (z : ℕ × Line). IsFor z.0 z.1 x) same h.0)
receipt_for (m ∷ ls) (x ∷ xs) (suc i) l h at = receipt_for ls xs i l h.1 at

-- the lines of a column with a line more
owned_snoc : (b n : ℕ) (os : List ℕ) (ls : List Line) (o : ℕ) (l : Line) → length os ≡ length ls → owned b n (os ++ o ∷ []) (ls ++ l ∷ []) ≡ owned b n os ls ++ cond (nat_eq o b) ((n + length ls, l) ∷ []) []
owned_snoc b n [] [] o l e = ap (λ (k : ℕ). cond (nat_eq o b) ((k, l) ∷ []) []) (omega arith)
owned_snoc b n [] (m ∷ ls) o l e = absurd (omega arith)
owned_snoc b n (p ∷ os) [] o l e = absurd (omega arith)
owned_snoc b n (p ∷ os) (m ∷ ls) o l e =
    let ih = owned_snoc b (n + 1) os ls o l (omega arith) in
    let next : n + 1 + length ls ≡ n + suc (length ls) = omega arith in
    let tail : owned b (n + 1) (os ++ o ∷ []) (ls ++ l ∷ []) ≡ owned b (n + 1) os ls ++ cond (nat_eq o b) ((n + suc (length ls), l) ∷ []) [] = ih ∙ ap (λ (k : ℕ). owned b (n + 1) os ls ++ cond (nat_eq o b) ((k, l) ∷ []) []) next in
    elim (nat_eq p b) as (λ v. cond v ((n, m) ∷ owned b (n + 1) (os ++ o ∷ []) (ls ++ l ∷ [])) (owned b (n + 1) (os ++ o ∷ []) (ls ++ l ∷ [])) ≡ cond v ((n, m) ∷ owned b (n + 1) os ls) (owned b (n + 1) os ls) ++ cond (nat_eq o b) ((n + suc (length ls), l) ∷ []) [])
    [ true ↦ (λ u. (n, m) ∷ tail u) | false ↦ tail ]

-- before the first line no column has had a receipt
pub settles_start : (base : ℕ) (added : List Line) (columns : List (List Told)) (cursors : List ℕ) → ((b : ℕ) → slice_index cursors b ≡ 0) → SettlesTo base added columns cursors 0
settles_start base added columns cursors zeros =
    ([], refl, (λ b xs there. (let z = zeros b in omega arith, subst (λ (n : ℕ). AreFor [] (take n xs)) (sym (zeros b)) tt)), (λ k h. absurd (omega arith)))

-- the next line has the next receipt of a column
pub settles_step : (base : ℕ) (added : List Line) (columns : List (List Told)) (cursors : List ℕ) (j p : ℕ) (xs : List Told) (l : Line) (x : Told)
    → SettlesTo base added columns cursors j → p < length cursors → p < length columns → slice_get columns p ≡ Some xs → slice_get added j ≡ Some l
    → slice_get xs (slice_index cursors p) ≡ Some x → IsFor (base + j) l x
    → SettlesTo base added columns (slice_set cursors p (slice_index cursors p + 1)) (j + 1)
settles_step base added columns cursors j p xs l x h in_cursors in_columns there line mine is =
    let owners = h.0 ++ p ∷ [] in
    let c : ℕ = slice_index cursors p in
    let now : List ℕ = slice_set cursors p (c + 1) in
    let here : slice_index now p ≡ c + 1 = get_or-set_same cursors p (c + 1) 0 in_cursors in
    let jth = get_length added j l line in
    let longer : take (j + 1) added ≡ take j added ++ l ∷ [] = take_next added j l line in
    let len : length (take j added) ≡ j = take_length j added (omega arith) in
    let same : length h.0 ≡ length (take j added) = h.1 ∙ sym len in
    let at : base + length (take j added) ≡ base + j = ap (λ n. base + n) len in
    let each : (q : ℕ) → owned q base owners (take (j + 1) added) ≡ owned q base h.0 (take j added) ++ cond (nat_eq p q) ((base + j, l) ∷ []) [] = λ q.
    ap (owned q base owners) longer ∙ owned_snoc q base h.0 (take j added) p l same ∙ ap (λ (n : ℕ). owned q base h.0 (take j added) ++ cond (nat_eq p q) ((n, l) ∷ []) []) at in (
      owners,
      (let e = h.1 in simp length-append (omega arith)),
      (λ q ys there'. dite (ℕ_discrete q p)
          (λ (e : q ≡ p).
          let both : xs ≡ ys = (let s : Some xs ≡ Some ys = sym there ∙ ap (slice_get columns) (sym e) ∙ there' in cc) in
          let old = h.2 p xs there in
          let lt = get_length xs c x mine in
          let lines : owned p base h.0 (take j added) ++ (base + j, l) ∷ [] ≡ owned p base owners (take (j + 1) added) = ap (λ (v : Bool). owned p base h.0 (take j added) ++ cond v ((base + j, l) ∷ []) []) (sym (eq-eqb p p refl)) ∙ sym (each p) in
          let receipts : take c xs ++ x ∷ [] ≡ take (slice_index now p) xs = sym (take_next xs c x mine) ∙ ap (λ n. take n xs) (sym here) in
          let more = for_snoc (owned p base h.0 (take j added)) (take c xs) (base + j, l) x old.1 is in
          subst (λ (z : ℕ × List Told). (slice_index now z.0 ≤ length z.1) × AreFor (owned z.0 base owners (take (j + 1) added)) (take (slice_index now z.0) z.1)) (λ i. (sym e i, both i))
          (omega arith, subst (λ (z : List (ℕ × Line) × List Told). AreFor z.0 z.1) (λ i. (lines i, receipts i)) more))
          (λ (ne : q ≢ p).
          let old = h.2 q ys there' in
          let kept : slice_index now q ≡ slice_index cursors q = get_or-set_other cursors p q (c + 1) 0 ne in
          let lines : owned q base h.0 (take j added) ≡ owned q base owners (take (j + 1) added) = sym (append-nil (owned q base h.0 (take j added))) ∙ ap (λ (v : Bool). owned q base h.0 (take j added) ++ cond v ((base + j, l) ∷ []) []) (sym (ne_eqb p q (λ e. ne (sym e)))) ∙ sym (each q) in
          (omega arith, subst (λ (z : List (ℕ × Line) × ℕ). AreFor z.0 (take z.1 ys)) (λ i. (lines i, sym kept i)) old.1))),
      (λ k lt. at_owner h.0 p k (length columns) h.3 in_columns (let e = length-append h.0 (p ∷ []) in omega arith)),
    )
  where
    at_owner : (os : List ℕ) (p k n : ℕ) → ((k : ℕ) → k < length os → slice_index os k < n) → p < n → k < length os + 1 → slice_index (os ++ p ∷ []) k < n
    at_owner [] p zero n old new lt = new
    at_owner [] p (suc k) n old new lt = absurd (omega arith)
    at_owner (o ∷ os) p zero n old new lt = old 0 (omega arith)
    at_owner (o ∷ os) p (suc k) n old new lt = at_owner os p k n (λ i h. old (suc i) (omega arith)) new (omega arith)

-- after the last line no column has a receipt left
pub settles_end : (base : ℕ) (added : List Line) (columns : List (List Told)) (cursors : List ℕ) (j : ℕ)
    → SettlesTo base added columns cursors j → j ≡ length added
    → ((b : ℕ) (xs : List Told) → slice_get columns b ≡ Some xs → length xs ≤ slice_index cursors b)
    → Settles base added columns
settles_end base added columns cursors j h all ends = (
  h.0,
  h.1 ∙ all,
  (λ b xs there.
      let lines = take_whole added j (omega arith) in
      let receipts = take_whole xs (slice_index cursors b) (ends b xs there) in
      subst (λ (z : List Line × List Told). AreFor (owned b base h.0 z.0) z.1) (λ i. (lines i, receipts i)) (h.2 b xs there).1),
  h.3,
)

-- the element that is read at a place stands there
pub get_at : {A : Type 0} (xs : List A) (p : ℕ) (d r : A) → p < length xs → r ≡ get_or xs p d → slice_get xs p ≡ Some r
get_at [] p d r h e = absurd (omega arith)
get_at (x ∷ xs) zero d r h e = ap (λ z. Some z) (sym e)
get_at (x ∷ xs) (suc p) d r h e = get_at xs p d r (omega arith) e

-- no cursor is past the number of the lines
pub bounded_step : (cursors : List ℕ) (j p : ℕ) → p < length cursors → ((q : ℕ) → slice_index cursors q ≤ j) → (q : ℕ) → slice_index (slice_set cursors p (slice_index cursors p + 1)) q ≤ j + 1
bounded_step cursors j p lt old q = dite (ℕ_discrete q p)
    (λ (e : q ≡ p).
    let here : slice_index (slice_set cursors p (slice_index cursors p + 1)) p ≡ slice_index cursors p + 1 = get_or-set_same cursors p (slice_index cursors p + 1) 0 lt in
    let o = old p in
    subst (λ (i : ℕ). slice_index (slice_set cursors p (slice_index cursors p + 1)) i ≤ j + 1) (sym e) (omega arith))
    (λ (ne : q ≢ p).
    let kept : slice_index (slice_set cursors p (slice_index cursors p + 1)) q ≡ slice_index cursors q = get_or-set_other cursors p q (slice_index cursors p + 1) 0 ne in
    let o = old q in
    omega arith)

-- cursors that stand at the first receipts
pub zeros : (n q : ℕ) → slice_index (replicate n 0) q ≡ 0
zeros zero q = refl
zeros (suc n) zero = refl
zeros (suc n) (suc q) = zeros n q

-- the number of the column's next receipt
pub next_of : (columns : List (List Told)) (cursors : List ℕ) (b number : ℕ) (xs : List Told) → slice_get columns b ≡ Some xs → IsNext columns cursors b number → NumberAt xs (slice_index cursors b) number
next_of columns cursors b number xs there h =
    let same : h.0 ≡ xs = (let e : Some h.0 ≡ Some xs = sym h.1 ∙ there in cc) in
    subst (λ (z : List Told). NumberAt z (slice_index cursors b) number) same h.2

-- one column more has no receipt left
pub ends_more : (columns : List (List Told)) (cursors : List ℕ) (b : ℕ) (xs : List Told) → ((q : ℕ) (ys : List Told) → q < b → slice_get columns q ≡ Some ys → length ys ≤ slice_index cursors q)
    → slice_get columns b ≡ Some xs → length xs ≤ slice_index cursors b
    → (q : ℕ) (ys : List Told) → q < b + 1 → slice_get columns q ≡ Some ys → length ys ≤ slice_index cursors q
ends_more columns cursors b xs old there here q ys lt there' = dite (ℕ_discrete q b)
    (λ (e : q ≡ b).
    let same : xs ≡ ys = (let x : Some xs ≡ Some ys = sym there ∙ ap (slice_get columns) (sym e) ∙ there' in cc) in
    subst (λ (z : ℕ × List Told). length z.1 ≤ slice_index cursors z.0) (λ i. (sym e i, same i)) here)
    (λ (ne : q ≢ b). old q ys (omega arith) there')

-- each line of a column has a number of these lines
owned_below : (b n : ℕ) (os : List ℕ) (ls : List Line) (i : ℕ) (r : ℕ × Line) → length os ≡ length ls → slice_get (owned b n os ls) i ≡ Some r → r.0 < n + length ls
owned_below b n [] ls i r e at = absurd (cc (at))
owned_below b n (o ∷ os) [] i r e at = absurd (omega arith)
owned_below b n (o ∷ os) (l ∷ ls) i r e at = go (nat_eq o b) i (λ k there. owned_below b (n + 1) os ls k r (omega arith) there) at
  where
    go : (v : Bool) (i : ℕ) → ((k : ℕ) → slice_get (owned b (n + 1) os ls) k ≡ Some r → r.0 < n + 1 + length ls) → slice_get (cond v ((n, l) ∷ owned b (n + 1) os ls) (owned b (n + 1) os ls)) i ≡ Some r → r.0 < n + length (l ∷ ls)
    go true zero ih at = let same : (n, l) ≡ r = cc in let k = ap (λ (z : ℕ × Line). z.0) same in omega arith
    go true (suc i) ih at = let h = ih i at in omega arith
    go false i ih at = let h = ih i at in omega arith

-- each of the lines is owned by its owner
owned_has : (n : ℕ) (os : List ℕ) (ls : List Line) (t : ℕ) → t < length os → length os ≡ length ls → (i : ℕ) × (r : ℕ × Line) × (slice_get (owned (slice_index os t) n os ls) i ≡ Some r) × (r.0 ≡ n + t)
owned_has n [] ls t lt e = absurd (omega arith)
owned_has n (o ∷ os) [] t lt e = absurd (omega arith)
owned_has n (o ∷ os) (l ∷ ls) zero lt e =
    (0, (n, l), subst (λ (v : Bool). slice_get (cond v ((n, l) ∷ owned o (n + 1) os ls) (owned o (n + 1) os ls)) 0 ≡ Some (n, l)) (sym (eq-eqb o o refl)) refl, omega arith)
owned_has n (o ∷ os) (l ∷ ls) (suc t) lt e =
    let ih = owned_has (n + 1) os ls t (omega arith) (omega arith) in
    let q : ℕ = slice_index os t in
    let next = found (nat_eq o q) (n, l) (owned q (n + 1) os ls) ih.0 ih.1 ih.2 in
    (next.0, ih.1, next.1, (let k = ih.3 in omega arith))
  where
    found : (v : Bool) (x : ℕ × Line) (rest : List (ℕ × Line)) (i : ℕ) (r : ℕ × Line) → slice_get rest i ≡ Some r → (k : ℕ) × (slice_get (cond v (x ∷ rest) rest) k ≡ Some r)
    found true x rest i r at = (suc i, at)
    found false x rest i r at = (i, at)

-- an element among the first ones
get_take : {A : Type 0} (n : ℕ) (xs : List A) (i : ℕ) (x : A) → slice_get (take n xs) i ≡ Some x → (i < n) × (slice_get xs i ≡ Some x)
get_take zero xs i x e = absurd (cc (e))
get_take (suc n) [] i x e = absurd (cc (e))
get_take (suc n) (y ∷ ys) zero x e = (omega arith, e)
get_take (suc n) (y ∷ ys) (suc i) x e = let h = get_take n ys i x e in (omega arith, h.1)

-- and one of the first elements is among them
take_get : {A : Type 0} (n : ℕ) (xs : List A) (i : ℕ) (x : A) → i < n → slice_get xs i ≡ Some x → slice_get (take n xs) i ≡ Some x
take_get zero xs i x lt e = absurd (omega arith)
take_get (suc n) [] i x lt e = e
take_get (suc n) (y ∷ ys) zero x lt e = e
take_get (suc n) (y ∷ ys) (suc i) x lt e = take_get n ys i x (omega arith) e

-- at each place within a list stands an element
there_is : {A : Type 0} (xs : List A) (i : ℕ) → i < length xs → (x : A) × (slice_get xs i ≡ Some x)
there_is [] i lt = absurd (omega arith)
there_is (x ∷ xs) zero lt = (x, refl)
there_is (x ∷ xs) (suc i) lt = there_is xs i (omega arith)

-- a next receipt with the number of a line before
pub second : (base : ℕ) (lines : List Line) (columns : List (List Told)) (cursors : List ℕ) (j p k : ℕ)
    → SettlesTo base (drop base lines) columns cursors j → j ≤ length (drop base lines) → IsNext columns cursors p k → k < base + j → WrongAt base lines columns k
second base lines columns cursors j p k h within next lt = dite (dec_lt k base)
    (λ (less : k < base). early p next.0 (slice_index cursors p) next.1 next.2 less)
    (λ more.
    let added = drop base lines in
    let t : ℕ = k - base in
    let len = take_length j added within in
    let count = h.1 in
    let has = owned_has base h.0 (take j added) t (omega arith) (h.1 ∙ sym len) in
    let q : ℕ = slice_index h.0 t in
    let owner = there_is columns q (h.3 t (omega arith)) in
    let mine = h.2 q owner.0 owner.1 in
    let receipt = receipt_for (owned q base h.0 (take j added)) (take (slice_index cursors q) owner.0) has.0 has.1 mine.1 has.2 in
    let part = get_take (slice_index cursors q) owner.0 has.0 receipt.0 receipt.1 in
    let its = number_for has.1.0 has.1.1 receipt.0 receipt.2 in
    let number : receipt.0.number ≡ k = (let n = has.3 in omega arith) in
    twice p next.0 (slice_index cursors p) q owner.0 has.0 next.1 next.2 owner.1 (receipt.0, part.1, number) (λ (e : p ≡ q) i. let s = ap (slice_index cursors) e in let l = part.0 in omega arith))

-- no next receipt has the number, and none has a lesser one
pub none_in_order : (base : ℕ) (lines : List Line) (columns : List (List Told)) (cursors : List ℕ) (j : ℕ)
    → SettlesTo base (drop base lines) columns cursors j → j < length (drop base lines) → base ≤ length lines
    → ((p : ℕ) → p < length columns → ¬ IsNext columns cursors p (base + j))
    → ((p : ℕ) → p < length columns → (n : ℕ) → IsNext columns cursors p n → base + j ≤ n)
    → WrongAt base lines columns (base + j)
none_in_order base lines columns cursors j h within small none least =
    let added = drop base lines in
    let len = take_length j added (omega arith) in
    unclaimed
    (omega arith)
    (let d = length-drop base lines in omega arith)
    (λ p xs i there at.
    let pth = get_length columns p xs there in
    let mine = h.2 p xs there in
    let c : ℕ = slice_index cursors p in
    let ith = get_length xs i at.0 at.1 in
    dite (dec_lt i c)
    (λ (lt : i < c).
    let line = line_for (owned p base h.0 (take j added)) (take c xs) i at.0 mine.1 (take_get c xs i at.0 lt at.1) in
    let low = owned_below p base h.0 (take j added) i line.0 (h.1 ∙ sym len) line.1 in
    let its = number_for line.0.0 line.0.1 at.0 line.2 in
    let n = at.2 in
    absurd (omega arith))
    (λ ge. dite (ℕ_discrete i c)
    (λ (e : i ≡ c). absurd (none p pth (xs, there, (at.0, subst (λ (z : ℕ). slice_get xs z ≡ Some at.0) e at.1, at.2))))
    (λ ne.
    let next = there_is xs c (omega arith) in
    let isnext : IsNext columns cursors p next.0.number = (xs, there, (next.0, next.1, refl)) in
    let l = least p pth next.0.number isnext in
    (c, next.0.number, omega arith, more (base + j) next.0.number l (λ e. none p pth (xs, there, (next.0, next.1, sym e))), (next.0, next.1, refl)))))
  where
    more : (a b : ℕ) → a ≤ b → a ≢ b → a < b
    more a b le ne = omega arith

-- a receipt past the last line
past : (base : ℕ) (lines : List Line) (columns : List (List Told)) (cursors : List ℕ) (p k : ℕ) → IsNext columns cursors p k → length lines ≤ k → WrongAt base lines columns k
past base lines columns cursors p k next far = differs p next.0 (slice_index cursors p) next.1 next.2 (λ c. let l = get_length lines k c.0 c.2 in absurd (omega arith))

-- a receipt that is left over
pub left_over : (base : ℕ) (lines : List Line) (columns : List (List Told)) (cursors : List ℕ) (j p k : ℕ)
    → SettlesTo base (drop base lines) columns cursors j → j ≡ length (drop base lines) → IsNext columns cursors p k → base ≤ length lines → WrongAt base lines columns k
left_over base lines columns cursors j p k h all next within = dite (dec_lt k (length lines))
    (λ (lt : k < length lines). second base lines columns cursors j p k h (omega arith) next (let d = length-drop base lines in omega arith))
    (λ far. past base lines columns cursors p k next (omega arith))
