-- The marks of a desk, and those of a state.
use Rattle.std.proofs.Common.{◌≡◌, ℕ, zero, suc, ◌<◌, ◌≤◌, List, [], ◌∷◌, ◌++◌, length, map, set, take, drop, get_or, Bool, true, false, not, Option, Some, None, ◌⊎◌, inl, inr, refl, sym, ap, subst, append-nil, arith, ◌∙◌}
use Rattle.std.specs.Prelude.{slice_get}
use Rattle.std.specs.Option.{is_some}
use Rattle.std.proofs.lemmas.List.{length-map, take_all, drop_all}
use Rattle.std.proofs.lemmas.Option.{slice_get_cases, get_or_from_slice_get}
use Rattle.ic_path.specs.Orders.{Pick, here, there, IsIn, Alike}
use Rattle.ic_path.proofs.Picks.{none_in, in_picked, in_others, in-cons_cases, pick-map}
use Rattle.ic_path.proofs.Alikes.{alike_back, alike_then, alike_pick, alike-cons, alike-in, alike-length, alike-map, append-alike-comm, picked_alike}
use Rattle.ic_path.proofs.OnceLists.{pick_at}
use Rattle.ic_path.proofs.InLists.{in-append_cases, in-map, map_cases}
use Rattle.ic_desk.specs.Desks.{Noted, NoneNoted, IsNoted, Puts, replaced, added}
use Rattle.ic_desk.specs.Places.{IsPlace, IsPlaceIn, PutsAt}
use Rattle.ic_desk.specs.Views.{NamedView, note_of}
use Rattle.ic_desk.specs.declared.desk.TheConstants.{MAX_MARKS}

-- an element that is put at a place stands with those that stood with the one before
put_at : {X : Type 0} (xs : List X) (i : ℕ) (x : X) → i < length xs → Pick x (set xs i x) (take i xs ++ drop (suc i) xs)
put_at [] i x h = absurd (omega arith)
put_at (y ∷ xs) zero x h = here
put_at (y ∷ xs) (suc i) x h = there (put_at xs i x (omega arith))

-- what a test for a place says
pub has_none : {X : Type 0} (r : Option X) (b : Bool) → is_some r ≡ not b → b ≡ true → r ≡ None
has_none None b h t = refl
has_none (Some x) true h t = cc
has_none (Some x) false h t = cc

pub has_some : {X : Type 0} (r : Option X) (b : Bool) → is_some r ≡ not b → b ≡ false → r ≡ None → ⊥
has_some None true h t e = cc
has_some None false h t e = cc
has_some (Some x) b h t e = cc

-- a place at which there is an element
pub record HasAt {X : Type 0} (xs : List X) (i : ℕ) (x : X) : Type 0 where
  pub within : i < length xs
  pub is : get_or xs i x ≡ x

pub has_at : {X : Type 0} (xs : List X) (i : ℕ) (x : X) → slice_get xs i ≡ Some x → HasAt xs i x
has_at {X} xs i x e = by (slice_get_cases xs i).1
  where
    by : ((y : X) × (i < length xs) × (slice_get xs i ≡ Some y) × (get_or xs i y ≡ y)) ⊎ ((length xs ≤ i) × (slice_get xs i ≡ None)) → HasAt xs i x
    by (inl w) = let same : w.0 ≡ x = let found = w.2 in cc in record { within = w.1; is = subst (λ y. get_or xs i y ≡ y) same w.3 }
    by (inr w) = let none = w.1 in absurd cc

-- a list in whose place another one of its length comes is that one
pub written_back : {X : Type 0} (n : ℕ) (new old : List X) → length new ≡ n → length old ≡ n → take n (new ++ drop (length new) old) ≡ new
written_back n new old e f =
    let none : drop (length new) old ≡ [] = drop_all (length new) old (omega (arith, e, f)) in
    ap (λ xs. take n (new ++ xs)) none ∙ ap (take n) (append-nil new) ∙ take_all n new (omega (arith, e))

-- a mark of this name is one of these
pub record IsFound (marks : List NamedView) (name : List ℕ) (x : NamedView) : Type 0 where
  pub there : IsIn x marks
  pub named : x.name ≡ name

-- what stands at the place is one
pub found : (marks : List NamedView) (name : List ℕ) (i : ℕ) → IsPlace marks name (Some i) → (d : NamedView) → IsFound marks name (get_or marks i d)
found marks name i p d =
    let is = get_or_from_slice_get marks i p.0 d p.1 in
    record {
      there = subst (λ y. IsIn y marks) ((has_at marks i p.0 p.1).is ∙ sym is) (_, pick_at marks i p.0 (has_at marks i p.0 p.1).within);
      named = ap (λ (y : NamedView). y.name) is ∙ p.2;
    }

-- whatever would be read elsewhere
pub same_read : (marks : List NamedView) (name : List ℕ) (i : ℕ) → IsPlace marks name (Some i) → (d e : NamedView) → get_or marks i d ≡ get_or marks i e
same_read marks name i p d e = get_or_from_slice_get marks i p.0 d p.1 ∙ sym (get_or_from_slice_get marks i p.0 e p.1)

-- the place of a mark is one
pub place_in : (marks : List NamedView) (name : List ℕ) (place : Option ℕ) → IsPlace marks name place → IsPlaceIn marks place
place_in marks name (Some i) p = (has_at marks i p.0 p.1).within
place_in marks name None p = tt

module _ (marks : List NamedView) {ms : List Noted} (alike : Alike (map note_of marks) ms) where
  -- a mark of the desk is one of the state
  pub noted : (name : List ℕ) (x : NamedView) → IsIn x marks → x.name ≡ name → IsNoted ms name (note_of x)
  noted name x i e = record { there = alike-in alike (in-map note_of i); named = e }

  -- where no mark of the desk has the name none of the state has
  pub none_noted : (name : List ℕ) → IsPlace marks name None → NoneNoted ms name
  none_noted name none x i e =
      let m = map_cases note_of marks (alike-in (alike_back alike) i) in
      none m.0 m.1 (ap (λ (y : Noted). y.name) m.2 ∙ e)

  -- they are equally many
  pub noted_length : length ms ≡ length marks
  noted_length = sym (alike-length alike) ∙ length-map marks note_of

  -- a mark that is put in
  pub puts : (new : List NamedView) (name : List ℕ) (place : Option ℕ) (x : NamedView) → x.name ≡ name → IsPlace marks name place → (place ≡ None → length marks < MAX_MARKS)
      → PutsAt marks place x new → (next : List Noted) × Puts ms (note_of x) next × Alike (map note_of new) next
  puts new name (Some i) x e p room is =
      let at = has_at marks i p.0 p.1 in
      let k = alike_pick alike (pick-map note_of (pick_at marks i p.0 at.within)) in
      let same : (note_of (get_or marks i p.0)).name ≡ x.name = ap (λ (y : NamedView). y.name) at.is ∙ p.2 ∙ sym e in (
        note_of x ∷ k.0,
        replaced k.1 same,
        subst (λ xs. Alike (map note_of xs) (note_of x ∷ k.0)) (sym is)
            (alike_then (alike-map note_of (picked_alike (put_at marks i x at.within))) (alike-cons (note_of x) k.2)),
      )
  puts new name None x e p room is =
      let fresh = subst (λ n. NoneNoted ms n) (sym e) (none_noted name p) in
      let few = room refl in
      let count = noted_length in (
        note_of x ∷ ms,
        added fresh (omega (arith, few, count)),
        subst (λ xs. Alike (map note_of xs) (note_of x ∷ ms)) (sym is)
            (alike_then (alike-map note_of (append-alike-comm marks (x ∷ []))) (alike-cons (note_of x) alike)),
      )

-- what is said of each mark, and of the one that is put in, is said of all
pub put_all : (P : NamedView → Type 0) (marks new : List NamedView) (place : Option ℕ) (x : NamedView) → IsPlaceIn marks place → PutsAt marks place x new
    → ((y : NamedView) → IsIn y marks → P y) → P x → (y : NamedView) → IsIn y new → P y
put_all P marks new (Some i) x within is each one y j =
    elim (in_others (put_at marks i x within) (subst (λ xs. IsIn y xs) is j)) [
      | inl q ↦ subst P (sym q) one
      | inr k ↦ each y (in_picked (pick_at marks i x within) k)
    ]
put_all P marks new None x within is each one y j =
    elim (in-append_cases marks (subst (λ xs. IsIn y xs) is j)) [
      | inl k ↦ each y k
      | inr k ↦ elim (in-cons_cases k) [ inl q ↦ subst P (sym q) one | inr n ↦ absurd (none_in n) ]
    ]
