-- The entries of the name table: each has its own count, and its first place in the text.
use Rattle.std.proofs.Common.{◌≡◌, ℕ, ◌+◌, Bool, true, false, cond, List, [], ◌∷◌, ◌++◌, Some, refl, sym, ap, subst, ◌∙◌, eqb, ◌&&◌, append_assoc}
use Rattle.std.specs.Prelude.{count_by, find}
use Rattle.std.specs.List.{fold}
use Rattle.std.specs.Str.{bytes_eq}
use Rattle.std.proofs.lemmas.Bool.{eqb-true}
use Rattle.std.proofs.lemmas.Slice.Eq.{bytes_eq-Decides}
use Rattle.ic_text.specs.Tokens.{Token, symbol, name, opening, closing, comma, equals, semicolon, profile, stray, digit, bad, Item}
use Rattle.ic_text.specs.Names.{Entry, enter, times, is_free, is_reserved_free}
use Rattle.ic_text.specs.Texts.{is_reserved}
use Rattle.ic_text.specs.Reading.{State, initial}
use Rattle.ic_text.proofs.Steps.{step_adds, seen_with}
use Rattle.ic_text.proofs.Sound.{Runs, texts}

-- no entry has the text
abbrev IsApart : List ℕ → List Entry → Type 0
IsApart x [] = Unit {0}
IsApart x (n ∷ ns) = (bytes_eq x n.text ≡ false) × IsApart x ns

-- no two entries have one text
abbrev pub IsOwn : List Entry → Type 0
IsOwn [] = Unit {0}
IsOwn (n ∷ ns) = IsApart n.text ns × IsOwn ns

-- another name keeps them apart
apart_enter : (x y : List ℕ) (o : ℕ) (ns : List Entry) → bytes_eq x y ≡ false → IsApart x ns → IsApart x (enter y o ns)
apart_enter x y o [] e h = (e, tt)
apart_enter x y o (n ∷ ns) e h = by_test (bytes_eq y n.text) (apart_enter x y o ns e h.1)
  where
    by_test : (b : Bool) → IsApart x (enter y o ns) → IsApart x (cond b (record n { times = n.times + 1 } ∷ ns) (n ∷ enter y o ns))
    by_test true ih = h
    by_test false ih = (h.0, ih)

-- different either way
flip : (x y : List ℕ) → bytes_eq y x ≡ false → bytes_eq x y ≡ false
flip x y e = by_test (bytes_eq x y) refl
  where
    by_test : (b : Bool) → bytes_eq x y ≡ b → b ≡ false
    by_test false f = refl
    by_test true f =
        let g : bytes_eq y x ≡ true = (bytes_eq-Decides y x).1 (sym ((bytes_eq-Decides x y).0 f)) in
        let z : true ≡ false = sym g ∙ e in absurd cc

-- one occurrence more keeps them apart
own_enter : (y : List ℕ) (o : ℕ) (ns : List Entry) → IsOwn ns → IsOwn (enter y o ns)
own_enter y o [] h = (tt, tt)
own_enter y o (n ∷ ns) h = by_test (bytes_eq y n.text) refl (own_enter y o ns h.1)
  where
    by_test : (b : Bool) → bytes_eq y n.text ≡ b → IsOwn (enter y o ns) → IsOwn (cond b (record n { times = n.times + 1 } ∷ ns) (n ∷ enter y o ns))
    by_test true e ih = h
    by_test false e ih = (apart_enter n.text y o ns (flip n.text y e) h.0, ih)

-- each entry of ns has the count that the whole table has for its text
abbrev pub IsCounted : List Entry → List Entry → Type 0
IsCounted whole [] = Unit {0}
IsCounted whole (n ∷ ns) = (times n.text whole ≡ n.times) × IsCounted whole ns

-- an entry of another name counts for none of these
counted_more : (h : Entry) (whole ns : List Entry) → IsApart h.text ns → IsCounted whole ns → IsCounted (h ∷ whole) ns
counted_more h whole [] a c = tt
counted_more h whole (n ∷ ns) a c = (rw (flip n.text h.text a.0) c.0, counted_more h whole ns a.1 c.1)

-- where each text has one entry, each has its count
own_counted : (ns : List Entry) → IsOwn ns → IsCounted ns ns
own_counted [] h = tt
own_counted (n ∷ ns) h = (rw ((bytes_eq-Decides n.text n.text).1 refl) refl, counted_more n ns ns h.0 (own_counted ns h.1))

-- one token more keeps them apart
seen_own : (t : Token) (o : ℕ) (ns : List Entry) → IsOwn ns → IsOwn (seen_with t o ns)
seen_own (name y) o ns h = own_enter y o ns h
seen_own (symbol k) o ns h = h
seen_own opening o ns h = h
seen_own closing o ns h = h
seen_own comma o ns h = h
seen_own equals o ns h = h
seen_own semicolon o ns h = h
seen_own profile o ns h = h
seen_own stray o ns h = h
seen_own digit o ns h = h
seen_own bad o ns h = h

-- so do all tokens
runs_own : (is : List Item) (s m : State) → Runs s is m → IsOwn s.seen → IsOwn m.seen
runs_own [] s m g h = subst (λ (y : State). IsOwn y.seen) g h
runs_own (i ∷ is) s m g h = runs_own is g.0 m g.2 (rw ((step_adds s g.0 i.at i.token g.1).seen) (seen_own i.token i.at s.seen h))

-- each entry has its count where reading stands
pub runs_counted : (is : List Item) (m : State) → Runs initial is m → IsCounted m.seen m.seen
runs_counted is m g = own_counted m.seen (runs_own is initial m g tt)

-- the names that occur once are as many as the entries with the count 1
free_from : (whole ns : List Entry) (a : ℕ) → IsCounted whole ns → fold (λ n x. n + cond (eqb (times x whole) 1) 1 0) a (texts ns) ≡ fold (λ n x. n + cond (is_free x) 1 0) a ns
free_from whole [] a c = refl
free_from whole (n ∷ ns) a c =
    ap (λ (k : ℕ). fold (λ n x. n + cond (eqb (times x whole) 1) 1 0) (a + cond (eqb k 1) 1 0) (texts ns)) c.0
    ∙ free_from whole ns (a + cond (eqb n.times 1) 1 0) c.1

-- the same of the whole table
pub free_is : (whole : List Entry) → IsCounted whole whole → count_by (λ x. eqb (times x whole) 1) (texts whole) ≡ count_by is_free whole
free_is whole c = free_from whole whole 0 c

-- the entries stand where they say
abbrev pub AreAt : List Item → List Entry → Type 0
AreAt all [] = Unit {0}
AreAt all (n ∷ ns) = ((before : List Item) × (rest : List Item) × (all ≡ before ++ record { at = n.first; token = name n.text } ∷ rest)) × AreAt all ns

-- one occurrence more, where it stands
enter_at : (all before rest : List Item) (y : List ℕ) (o : ℕ) (ns : List Entry) → all ≡ before ++ record { at = o; token = name y } ∷ rest → AreAt all ns → AreAt all (enter y o ns)
enter_at all before rest y o [] e h = ((before, rest, e), tt)
enter_at all before rest y o (n ∷ ns) e h = by_test (bytes_eq y n.text) (enter_at all before rest y o ns e h.1)
  where
    by_test : (b : Bool) → AreAt all (enter y o ns) → AreAt all (cond b (record n { times = n.times + 1 } ∷ ns) (n ∷ enter y o ns))
    by_test true ih = h
    by_test false ih = (h.0, ih)

-- one token more, where it stands
seen_at : (all before rest : List Item) (t : Token) (o : ℕ) (ns : List Entry) → all ≡ before ++ record { at = o; token = t } ∷ rest → AreAt all ns → AreAt all (seen_with t o ns)
seen_at all before rest (name y) o ns e h = enter_at all before rest y o ns e h
seen_at all before rest (symbol k) o ns e h = h
seen_at all before rest opening o ns e h = h
seen_at all before rest closing o ns e h = h
seen_at all before rest comma o ns e h = h
seen_at all before rest equals o ns e h = h
seen_at all before rest semicolon o ns e h = h
seen_at all before rest profile o ns e h = h
seen_at all before rest stray o ns e h = h
seen_at all before rest digit o ns e h = h
seen_at all before rest bad o ns e h = h

-- the entries stand where they say wherever reading stands
pub runs_at : (all before is : List Item) (s m : State) → all ≡ before ++ is → Runs s is m → AreAt all s.seen → AreAt all m.seen
runs_at all before [] s m e g h = subst (λ (y : State). AreAt all y.seen) g h
runs_at all before (i ∷ is) s m e g h =
    runs_at all (before ++ i ∷ []) is g.0 m (e ∙ sym (append_assoc before (i ∷ []) is)) g.2
    (rw ((step_adds s g.0 i.at i.token g.1).seen) (seen_at all before is i.token i.at s.seen e h))

-- a reserved name that occurs once, in the table
pub record Reserved (all : List Item) (whole : List Entry) (n : Entry) : Type 0 where
  pub before : List Item
  pub rest : List Item
  pub parts : all ≡ before ++ record { at = n.first; token = name n.text } ∷ rest
  pub reserved : is_reserved n.text ≡ true
  pub once : times n.text whole ≡ 1

-- the one that is found is one
pub found_reserved : (all : List Item) (whole ns : List Entry) (n : Entry) → IsCounted whole ns → AreAt all ns → find is_reserved_free ns ≡ Some n → Reserved all whole n
found_reserved all whole [] n c a e = absurd cc
found_reserved all whole (m ∷ ns) n c a e = by_test (is_reserved_free m) refl e (found_reserved all whole ns n c.1 a.1)
  where
    both : (p q : Bool) → (p && q) ≡ true → (p ≡ true) × (q ≡ true)
    both true q f = (refl, f)
    both false q f = absurd cc

    by_test : (b : Bool) → is_reserved_free m ≡ b → cond b (Some m) (find is_reserved_free ns) ≡ Some n → (find is_reserved_free ns ≡ Some n → Reserved all whole n) → Reserved all whole n
    by_test true f g ih =
        let k : m ≡ n = cc in
        let h = both (eqb m.times 1) (is_reserved m.text) f in
        subst (λ (y : Entry). Reserved all whole y) k (record { before = a.0.0; rest = a.0.1; parts = a.0.2; reserved = h.1; once = c.0 ∙ eqb-true m.times 1 h.0 })
    by_test false f g ih = ih g
