-- The names of entries.
use Rattle.std.proofs.Common.{◌≡◌, ℕ, zero, suc, ◌+◌, ◌<◌, List, [], ◌∷◌, ◌++◌, length, set, refl, sym, ◌∙◌, ap, arith, length-append}
use Rattle.ic_name.specs.Names.{Name}
use Rattle.ic_names.specs.declared.entry.Entry.{Entry}
use Rattle.ic_names.specs.Rows.{name_from, origin_of, names_with, names_of, entry_at}

-- as many names as entries
names_with-length : (ns : List Name) (es : List Entry) → length (names_with ns es) ≡ length ns + length es
names_with-length ns [] = omega arith
names_with-length ns (e ∷ es) = omega (arith, names_with-length (ns ++ name_from ns (origin_of e) ∷ []) es, length-append ns (name_from ns (origin_of e) ∷ []))

pub names_of-length : (es : List Entry) → length (names_of es) ≡ length es
names_of-length es = omega (arith, names_with-length [] es)

-- a place of a name is one of an entry
pub place_inside : (es : List Entry) (k : ℕ) → k < length (names_of es) → k < length es
place_inside es k h = omega (arith, names_of-length es)

-- one entry more
names_with-push : (ns : List Name) (es : List Entry) (e : Entry) → names_with ns (es ++ e ∷ []) ≡ names_with ns es ++ name_from (names_with ns es) (origin_of e) ∷ []
names_with-push ns [] e = refl
names_with-push ns (x ∷ es) e = names_with-push (ns ++ name_from ns (origin_of x) ∷ []) es e

pub names_of-push : (es : List Entry) (e : Entry) → names_of (es ++ e ∷ []) ≡ names_of es ++ name_from (names_of es) (origin_of e) ∷ []
names_of-push es e = names_with-push [] es e

-- an entry that is written with its origin as it was
names_with-set : (ns : List Name) (es : List Entry) (k : ℕ) (e : Entry) → origin_of e ≡ origin_of (entry_at es k) → names_with ns (set es k e) ≡ names_with ns es
names_with-set ns [] k e h = refl
names_with-set ns (x ∷ es) zero e h = ap (λ o. names_with (ns ++ name_from ns o ∷ []) es) h
names_with-set ns (x ∷ es) (suc k) e h = names_with-set (ns ++ name_from ns (origin_of x) ∷ []) es k e h

pub names_of-set : (es : List Entry) (k : ℕ) (e : Entry) → origin_of e ≡ origin_of (entry_at es k) → names_of (set es k e) ≡ names_of es
names_of-set es k e h = names_with-set [] es k e h

-- the number of entries is that of names
pub counted : (es : List Entry) (r len : ℕ) → r ≡ len → len ≡ length es → r ≡ length (names_of es)
counted es r len is all = is ∙ all ∙ sym (names_of-length es)
