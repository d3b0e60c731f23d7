-- Ids with the set of their lines, and others that are put behind them.
use Rattle.std.proofs.Common.{◌≡◌, ℕ, Bool, true, false, cond, IsTrue, List, [], ◌∷◌, ◌++◌, map, inl, inr, refl, sym, ap, subst, arith, append_assoc, ◌∙◌}
use Rattle.std.specs.BTreeMap.{is_at}
use Rattle.std.specs.Ordering.{nat_cmp}
use Rattle.std.proofs.lemmas.Bool.Decides.{nat_tests}
use Rattle.std.proofs.lemmas.List.{append-nil, map-append}
use Rattle.ic_name.specs.declared.ids.EventId.{EventId}
use Rattle.ic_path.specs.Orders.{IsIn}
use Rattle.ic_path.specs.Rings.{HasEachOnce}
use Rattle.ic_path.proofs.EachOnce.{once_cons}
use Rattle.ic_path.proofs.Picks.{none_in, pick_before, in-cons_cases}
use Rattle.ic_undo.specs.Resting.{HaveLines, PutsBehind}
use Rattle.ic_undo.proofs.MarkedEvents.{once-append}
use Rattle.ic_undo.proofs.Places.{parts, in_part}

-- the lines of ids
abbrev pub lines_of : List EventId → List ℕ
lines_of ids = map (λ (d : EventId). d.line) ids

-- no ids have no lines
pub lines_none : (has : ℕ → Bool) → ((n : ℕ) → has n ≡ false) → HaveLines [] has
lines_none has none = record { each = λ n t. (let f = none n in absurd cc); only = λ n i. absurd (none_in i); once = λ n rest k i. none_in (rest, k) }

-- a number is at itself only
at_number : (m n : ℕ) → is_at (nat_cmp m) n ≡ true → m ≡ n
at_number m n = grind (arith, nat_tests)

at_itself : (m : ℕ) → is_at (nat_cmp m) m ≡ true
at_itself m = grind (arith, nat_tests)

-- the lines that a test tells, with one more
lines_with : (ns : List ℕ) (has new : ℕ → Bool) (m : ℕ) → has m ≡ false → HasEachOnce (λ n. IsTrue (has n)) ns → ((n : ℕ) → new n ≡ cond (is_at (nat_cmp m) n) true (has n)) → HasEachOnce (λ n. IsTrue (new n)) (ns ++ m ∷ [])
lines_with ns has new m fresh h put = record {
  each = λ n t. each n (is_at (nat_cmp m) n) refl (sym (put n) ∙ t);
  only = λ n i. put n ∙ only n i (is_at (nat_cmp m) n) refl;
  once = once-append ns h.once (once_cons none_in (λ x rest k i. none_in (rest, k))) apart;
}
  where
    each : (n : ℕ) (b : Bool) → is_at (nat_cmp m) n ≡ b → cond b true (has n) ≡ true → IsIn n (ns ++ m ∷ [])
    each n true e t = subst (λ k. IsIn k (ns ++ m ∷ [])) (at_number m n e) (in_part ns m [])
    each n false e t = let i = h.each n t in (_, pick_before (m ∷ []) i.1)

    only : (n : ℕ) → IsIn n (ns ++ m ∷ []) → (b : Bool) → is_at (nat_cmp m) n ≡ b → cond b true (has n) ≡ true
    only n i true e = refl
    only n i false e = elim (parts ns i) [
      | inl j ↦ h.only n j
      | inr k ↦ elim k [ inl q ↦ (let t : is_at (nat_cmp m) n ≡ true = subst (λ o. is_at (nat_cmp m) o ≡ true) (sym q) (at_itself m) in absurd cc) | inr r ↦ absurd (none_in r) ]
    ]

    apart : (n : ℕ) → IsIn n ns → IsIn n (m ∷ []) → ⊥
    apart n i j = elim (in-cons_cases j) [ inl q ↦ (let t = subst (λ o. has o ≡ true) q (h.only n i) in cc) | inr r ↦ none_in r ]

-- an id whose line is new is put behind the ids
pub lines_more : (ids : List EventId) (has new : ℕ → Bool) (d : EventId) → has d.line ≡ false → HaveLines ids has → ((n : ℕ) → new n ≡ cond (is_at (nat_cmp d.line) n) true (has n)) → HaveLines (ids ++ d ∷ []) new
lines_more ids has new d fresh h put = subst (HasEachOnce (λ n. IsTrue (new n))) (sym (map-append (λ (e : EventId). e.line) ids (d ∷ []))) (lines_with (lines_of ids) has new d.line fresh h put)

-- a line of some ids is one of more
pub line_still : (n : ℕ) (ids put : List EventId) → IsIn n (lines_of ids) → IsIn n (lines_of (ids ++ put))
line_still n ids put i = subst (IsIn n) (sym (map-append (λ (e : EventId). e.line) ids put)) (_, pick_before (lines_of put) i.1)

-- of no others none are put
pub puts_none : (ids : List EventId) → PutsBehind ids [] ids
puts_none ids = record { put = []; behind = sym (append-nil ids); only = λ d i. i; lines = λ d i. absurd (none_in i) }

-- of one more, it is put
pub puts_more : (old others ids : List EventId) (d : EventId) → PutsBehind old others ids → PutsBehind old (others ++ d ∷ []) (ids ++ d ∷ [])
puts_more old others ids d p = record {
  put = p.put ++ d ∷ [];
  behind = ap (λ es. es ++ d ∷ []) p.behind ∙ append_assoc old p.put (d ∷ []);
  only = λ e i. elim (parts p.put i) [
    | inl j ↦ (_, pick_before (d ∷ []) (p.only e j).1)
    | inr k ↦ elim k [ inl q ↦ subst (λ o. IsIn o (others ++ d ∷ [])) (sym q) (in_part others d []) | inr r ↦ absurd (none_in r) ]
  ];
  lines = λ e i. elim (parts others i) [
    | inl j ↦ line_still e.line ids (d ∷ []) (p.lines e j)
    | inr k ↦ elim k [ inl q ↦ subst (λ o. IsIn o.line (lines_of (ids ++ d ∷ []))) (sym q) (subst (IsIn d.line) (sym (map-append (λ (o : EventId). o.line) ids (d ∷ []))) (in_part (lines_of ids) d.line [])) | inr r ↦ absurd (none_in r) ]
  ];
}

-- or its line is there
pub puts_same : (old others ids : List EventId) (d : EventId) → IsIn d.line (lines_of ids) → PutsBehind old others ids → PutsBehind old (others ++ d ∷ []) ids
puts_same old others ids d there p = record {
  put = p.put;
  behind = p.behind;
  only = λ e i. (_, pick_before (d ∷ []) (p.only e i).1);
  lines = λ e i. elim (parts others i) [
    | inl j ↦ p.lines e j
    | inr k ↦ elim k [ inl q ↦ subst (λ o. IsIn o.line (lines_of ids)) (sym q) there | inr r ↦ absurd (none_in r) ]
  ];
}
