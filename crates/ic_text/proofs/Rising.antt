-- The names of the table stand in the order of their first occurrences, so the first reserved one that occurs once has the least place.
use Rattle.std.proofs.Common.{◌≡◌, ℕ, ◌+◌, ◌≤◌, ◌⊎◌, inl, inr, Bool, true, false, cond, List, [], ◌∷◌, ◌++◌, Some, refl, sym, ap, subst, ◌∙◌, arith, eqb, ◌&&◌}
use Rattle.std.specs.Prelude.{find}
use Rattle.std.specs.Str.{bytes_eq}
use Rattle.std.proofs.lemmas.Slice.Eq.{bytes_eq-Decides}
use Rattle.ic_text.specs.Texts.{is_reserved}
use Rattle.ic_text.specs.Tokens.{Token, symbol, name, opening, closing, comma, equals, semicolon, profile, stray, digit, bad, Item}
use Rattle.ic_text.specs.Names.{Entry, enter, times, is_reserved_free}
use Rattle.ic_text.specs.Reading.{State}
use Rattle.ic_text.proofs.Steps.{step_adds, seen_with}
use Rattle.ic_text.proofs.Sound.{Runs}
use Rattle.ic_text.proofs.Offsets.{IsAbove, lower}
use Rattle.ic_text.proofs.Entries.{IsCounted}

-- the first places rise from lo to hi
abbrev pub IsRising : ℕ → ℕ → List Entry → Type 0
IsRising lo hi [] = lo ≤ hi
IsRising lo hi (n ∷ ns) = (lo ≤ n.first) × IsRising n.first hi ns

-- a name has an entry with a place up to o
abbrev pub HasEntry : List ℕ → ℕ → List Entry → Type 0
HasEntry x o [] = ⊥
HasEntry x o (n ∷ ns) = ((n.text ≡ x) × (n.first ≤ o)) ⊎ HasEntry x o ns

-- ---- one occurrence more

-- up to a greater place too
widen : (lo hi o : ℕ) (ns : List Entry) → IsRising lo hi ns → hi ≤ o → IsRising lo o ns
widen lo hi o [] h le = omega (arith, h, le)
widen lo hi o (n ∷ ns) h le = (h.0, widen n.first hi o ns h.1 le)

-- the first place is the least
least_first : (lo hi : ℕ) (ns : List Entry) → IsRising lo hi ns → lo ≤ hi
least_first lo hi [] h = h
least_first lo hi (n ∷ ns) h = omega (arith, h.0, least_first n.first hi ns h.1)

-- the table goes on rising
enter_rising : (x : List ℕ) (lo hi o : ℕ) (ns : List Entry) → IsRising lo hi ns → hi ≤ o → IsRising lo o (enter x o ns)
enter_rising x lo hi o [] h le = (omega (arith, h, le), omega arith)
enter_rising x lo hi o (n ∷ ns) h le = by_test (bytes_eq x n.text) (enter_rising x n.first hi o ns h.1 le)
  where
    by_test : (b : Bool) → IsRising n.first o (enter x o ns) → IsRising lo o (cond b (record n { times = n.times + 1 } ∷ ns) (n ∷ enter x o ns))
    by_test true ih = (h.0, widen n.first hi o ns h.1 le)
    by_test false ih = (h.0, ih)

-- the name has an entry
enter_has : (x : List ℕ) (lo hi o : ℕ) (ns : List Entry) → IsRising lo hi ns → hi ≤ o → HasEntry x o (enter x o ns)
enter_has x lo hi o [] h le = inl (refl, omega arith)
enter_has x lo hi o (n ∷ ns) h le = by_test (bytes_eq x n.text) refl (enter_has x n.first hi o ns h.1 le)
  where
    by_test : (b : Bool) → bytes_eq x n.text ≡ b → HasEntry x o (enter x o ns) → HasEntry x o (cond b (record n { times = n.times + 1 } ∷ ns) (n ∷ enter x o ns))
    by_test true e ih = inl (sym ((bytes_eq-Decides x n.text).0 e), omega (arith, least_first n.first hi ns h.1, le))
    by_test false e ih = inr ih

-- the others keep theirs
enter_keeps : (x y : List ℕ) (o p : ℕ) (ns : List Entry) → HasEntry x o ns → HasEntry x o (enter y p ns)
enter_keeps x y o p [] h = absurd h
enter_keeps x y o p (n ∷ ns) h = by_test (bytes_eq y n.text) h (enter_keeps x y o p ns)
  where
    by_test : (b : Bool) → HasEntry x o (n ∷ ns) → (HasEntry x o ns → HasEntry x o (enter y p ns)) → HasEntry x o (cond b (record n { times = n.times + 1 } ∷ ns) (n ∷ enter y p ns))
    by_test true g ih = g
    by_test false (inl g) ih = inl g
    by_test false (inr g) ih = inr (ih g)

-- ---- one token more

-- the table goes on rising
seen_rising : (t : Token) (lo hi o : ℕ) (ns : List Entry) → IsRising lo hi ns → hi ≤ o → IsRising lo o (seen_with t o ns)
seen_rising (name x) lo hi o ns h le = enter_rising x lo hi o ns h le
seen_rising (symbol k) lo hi o ns h le = widen lo hi o ns h le
seen_rising opening lo hi o ns h le = widen lo hi o ns h le
seen_rising closing lo hi o ns h le = widen lo hi o ns h le
seen_rising comma lo hi o ns h le = widen lo hi o ns h le
seen_rising equals lo hi o ns h le = widen lo hi o ns h le
seen_rising semicolon lo hi o ns h le = widen lo hi o ns h le
seen_rising profile lo hi o ns h le = widen lo hi o ns h le
seen_rising stray lo hi o ns h le = widen lo hi o ns h le
seen_rising digit lo hi o ns h le = widen lo hi o ns h le
seen_rising bad lo hi o ns h le = widen lo hi o ns h le

-- names keep their entries
seen_keeps : (x : List ℕ) (o p : ℕ) (t : Token) (ns : List Entry) → HasEntry x o ns → HasEntry x o (seen_with t p ns)
seen_keeps x o p (name y) ns h = enter_keeps x y o p ns h
seen_keeps x o p (symbol k) ns h = h
seen_keeps x o p opening ns h = h
seen_keeps x o p closing ns h = h
seen_keeps x o p comma ns h = h
seen_keeps x o p equals ns h = h
seen_keeps x o p semicolon ns h = h
seen_keeps x o p profile ns h = h
seen_keeps x o p stray ns h = h
seen_keeps x o p digit ns h = h
seen_keeps x o p bad ns h = h

-- ---- all tokens

-- names keep their entries
runs_keep : (x : List ℕ) (o : ℕ) (is : List Item) (s m : State) → Runs s is m → HasEntry x o s.seen → HasEntry x o m.seen
runs_keep x o [] s m g h = subst (λ (y : State). HasEntry x o y.seen) g h
runs_keep x o (i ∷ is) s m g h = runs_keep x o is g.0 m g.2 (rw ((step_adds s g.0 i.at i.token g.1).seen) (seen_keeps x o i.at i.token s.seen h))

-- in the end the table rises, and holds a name that stands in the text, by its place or an earlier one
pub record IsOrdered (x : List ℕ) (o : ℕ) (m : State) : Type 0 where
  pub most : ℕ
  pub rising : IsRising 0 most m.seen
  pub has : HasEntry x o m.seen

-- the table rises
runs_rise : (is : List Item) (s m : State) (k : ℕ) → Runs s is m → IsRising 0 k s.seen → IsAbove k is → (most : ℕ) × IsRising 0 most m.seen
runs_rise [] s m k g h above = (k, subst (λ (y : State). IsRising 0 k y.seen) g h)
runs_rise (i ∷ is) s m k g h above =
    runs_rise is g.0 m i.at g.2 (rw ((step_adds s g.0 i.at i.token g.1).seen) (seen_rising i.token 0 k i.at s.seen h above.0)) (lower i.at (i.at + 1) is (omega arith) above.1)

-- both, for a name of the text
pub runs_ordered : (before : List Item) (x : List ℕ) (o : ℕ) (rest : List Item) (s m : State) (k : ℕ) → Runs s (before ++ record { at = o; token = name x } ∷ rest) m
    → IsRising 0 k s.seen → IsAbove k (before ++ record { at = o; token = name x } ∷ rest) → IsOrdered x o m
runs_ordered [] x o rest s m k g h above =
    let seen = (step_adds s g.0 o (name x) g.1).seen in
    let r = runs_rise rest g.0 m o g.2 (rw seen (enter_rising x 0 k o s.seen h above.0)) (lower o (o + 1) rest (omega arith) above.1) in
    record { most = r.0; rising = r.1; has = runs_keep x o rest g.0 m g.2 (rw seen (enter_has x 0 k o s.seen h above.0)) }
runs_ordered (i ∷ before) x o rest s m k g h above =
    runs_ordered before x o rest g.0 m i.at g.2 (rw ((step_adds s g.0 i.at i.token g.1).seen) (seen_rising i.token 0 k i.at s.seen h above.0)) (lower i.at (i.at + 1) _ (omega arith) above.1)

-- ---- the first reserved name that occurs once

-- no entry stands before the table begins
has_least : (x : List ℕ) (o lo hi : ℕ) (ns : List Entry) → IsRising lo hi ns → HasEntry x o ns → lo ≤ o
has_least x o lo hi [] r h = absurd h
has_least x o lo hi (n ∷ ns) r (inl h) = omega (arith, r.0, h.1)
has_least x o lo hi (n ∷ ns) r (inr h) = omega (arith, r.0, has_least x o n.first hi ns r.1 h)

-- the entry that is found has the least place
pub reserved_first : (x : List ℕ) (o lo hi : ℕ) (whole ns : List Entry) (n : Entry) → IsRising lo hi ns → IsCounted whole ns → HasEntry x o ns → times x whole ≡ 1 → is_reserved x ≡ true
    → find is_reserved_free ns ≡ Some n → n.first ≤ o
reserved_first x o lo hi whole [] n r c h once starts e = absurd h
reserved_first x o lo hi whole (m ∷ ns) n r c h once starts e = by_test (is_reserved_free m) refl h e (λ k f. reserved_first x o m.first hi whole ns n r.1 c.1 k once starts f)
  where
    here : m.text ≡ x → is_reserved_free m ≡ false → ⊥
    here f g =
        let one : m.times ≡ 1 = sym c.0 ∙ ap (λ (w : List ℕ). times w whole) f ∙ once in
        let free : eqb m.times 1 ≡ true = rw one refl in
        let res : is_reserved m.text ≡ true = ap is_reserved f ∙ starts in
        let both : (eqb m.times 1 && is_reserved m.text) ≡ true = rw (free, res) refl in
        let z : true ≡ false = sym both ∙ g in
        absurd cc

    by_test : (b : Bool) → is_reserved_free m ≡ b → HasEntry x o (m ∷ ns) → cond b (Some m) (find is_reserved_free ns) ≡ Some n → (HasEntry x o ns → find is_reserved_free ns ≡ Some n → n.first ≤ o) → n.first ≤ o
    by_test true f (inl k) g ih = let z : m ≡ n = cc in omega (arith, k.1, ap (λ (y : Entry). y.first) z)
    by_test true f (inr k) g ih = let z : m ≡ n = cc in omega (arith, has_least x o m.first hi ns r.1 k, ap (λ (y : Entry). y.first) z)
    by_test false f (inl k) g ih = absurd (here k.0 f)
    by_test false f (inr k) g ih = ih k g
