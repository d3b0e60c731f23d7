-- Writes to the dependents of several events, one after the other.
use Rattle.std.proofs.Common.{◌≡◌, ◌≢◌, ℕ, ◌<◌, ◌==◌, Bool, true, false, ◌||◌, List, [], ◌∷◌, ◌++◌, length, map, get_or, take, All, Option, refl, sym, ap, ◌∙◌, subst}
use Rattle.std.specs.Option.{IsSomeAnd}
use Rattle.std.proofs.lemmas.Bool.{eqb-true, eq-eqb}
use Rattle.std.proofs.lemmas.List.{length-map, take-map, get_or-map}
use Rattle.std.proofs.lemmas.List.Elements.{All-get_or}
use Rattle.ic_name.specs.declared.ids.EventId.{EventId}
use Rattle.ic_path.proofs.InLists.{in-map}
use Rattle.ic_path.specs.Orders.{IsIn, IsOnce}
use Rattle.ic_path.proofs.ListTests.{any-picked, any_in, any-end}
use Rattle.ic_path.proofs.OnceLists.{pick_at, not_before}
use Rattle.ic_roster.specs.KeptEvents.{KeptEvent}
use Rattle.ic_roster.specs.Slots.{slot_at}
use Rattle.ic_roster.specs.Records.{dependents_at, has}
use Rattle.ic_roster.specs.RecordChanges.{HasRoom, Changes}
use Rattle.ic_roster.proofs.RecordFacts.{shows_then, has_one, differ}

-- what is found is in the list
pub has_in : (k : ℕ) (ks : List ℕ) → has k ks ≡ true → IsIn k ks
has_in k ks h = any_in (λ j. k == j) k ks (λ j. eqb-true k j) h

-- what is in the list is found
pub in_has : {k : ℕ} {ks : List ℕ} → IsIn k ks → has k ks ≡ true
in_has {k} i = any-picked (λ j. k == j) i.1 (eq-eqb k k refl)

-- a slot of the list is in it
pub has_here : (ks : List ℕ) (i : ℕ) (d : ℕ) → i < length ks → has (get_or ks i d) ks ≡ true
has_here ks i d h = any-picked (λ j. get_or ks i d == j) (pick_at ks i d h) (eq-eqb (get_or ks i d) (get_or ks i d) refl)

-- where none is twice, it isn't among those before it
pub new_here : (ks : List ℕ) (i : ℕ) (d : ℕ) → i < length ks → IsOnce ks → has (get_or ks i d) (take i ks) ≡ false
new_here ks i d h once = by (has (get_or ks i d) (take i ks)) refl
  where
    by : (b : Bool) → has (get_or ks i d) (take i ks) ≡ b → has (get_or ks i d) (take i ks) ≡ false
    by true e = absurd (not_before ks i d h once (has_in _ (take i ks) e))
    by false e = e

-- the slots of ids
abbrev pub slots_of : List EventId → List ℕ
slots_of es = map (λ (d : EventId). d.slot) es

-- the slot of an id of the list is among theirs
pub id_here : (es : List EventId) (i : ℕ) (d : EventId) → i < length es → has ((get_or es i d).slot) (slots_of es) ≡ true
id_here es i d h = in_has (in-map (λ (e : EventId). e.slot) (_, pick_at es i d h))

-- where no slot is twice, it isn't among those before it
pub id_new : (es : List EventId) (i : ℕ) (d : EventId) → i < length es → IsOnce (slots_of es) → has ((get_or es i d).slot) (slots_of (take i es)) ≡ false
id_new es i d h once =
    let f = λ (e : EventId). e.slot in
    let at : get_or (slots_of es) i d.slot ≡ (get_or es i d).slot = get_or-map f es i d d.slot h in
    let before : take i (slots_of es) ≡ slots_of (take i es) = take-map f i es in
    (λ u. has (sym at u) (sym before u)) ∙ new_here (slots_of es) i d.slot (rw (length-map es f) h) once

-- what holds of each slot holds of that of an id of the list
pub id_at : (P : ℕ → Type 0) (es : List EventId) (i : ℕ) (d : EventId) → i < length es → All P (slots_of es) → P ((get_or es i d).slot)
id_at P es i d h all = All-get_or (λ (e : EventId). P e.slot) es i d h (λ k e l. subst P (get_or-map (λ (q : EventId). q.slot) es k e e.slot l) (all k e.slot (rw (length-map es (λ (q : EventId). q.slot)) l)))

-- whether a slot is in a list with one more at its end
has_end : (k c : ℕ) (ks : List ℕ) (x y : Bool) → has k ks ≡ x → (k == c) ≡ y → has k (ks ++ c ∷ []) ≡ x || y
has_end k c ks x y h e = any-end (λ j. k == j) c ks ∙ rw (h, e) refl

-- the cases of a slot of a longer list: it is among the others, it is the last, or it is neither
pub data Cases (k c : ℕ) (ks : List ℕ) : Type 0 where
  among : has k ks ≡ true → has k (ks ++ c ∷ []) ≡ true → Cases k c ks
  last : has k ks ≡ false → k ≡ c → has k (ks ++ c ∷ []) ≡ true → Cases k c ks
  neither : has k ks ≡ false → (k == c) ≡ false → has k (ks ++ c ∷ []) ≡ false → Cases k c ks

-- each slot is in one of the cases
cases_of : (k c : ℕ) (ks : List ℕ) → Cases k c ks
cases_of k c ks = by (has k ks) (k == c) refl refl
  where
    by : (x y : Bool) → has k ks ≡ x → (k == c) ≡ y → Cases k c ks
    by true y h e = among h (has_end k c ks true y h e)
    by false true h e = last h (eqb-true k c e) (has_end k c ks false true h e)
    by false false h e = neither h e (has_end k c ks false false h e)

-- one more event's dependents are changed
pub changes_more : (P : List ℕ → List ℕ → Type 0) (c : ℕ) (ks : List ℕ) (a b d : List (Option KeptEvent)) → has c ks ≡ false
    → Changes P ks a b → Changes P (c ∷ []) b d → Changes P (ks ++ c ∷ []) a d
changes_more P c ks a b d new first second = record {
  shows = shows_then a b d first.shows second.shows;
  changed = λ k h. changed k h (cases_of k c ks);
  others = λ k h. others k h (cases_of k c ks);
}
  where
    apart : (k : ℕ) → has k ks ≡ true → (y : Bool) → (k == c) ≡ y → has k (c ∷ []) ≡ false
    apart k h true e = let s : k ≡ c = eqb-true k c e in let t : has c ks ≡ true = sym (ap (λ x. has x ks) s) ∙ h in absurd (cc)
    apart k h false e = has_one k c ∙ e

    changed : (k : ℕ) → has k (ks ++ c ∷ []) ≡ true → Cases k c ks → P (dependents_at a k) (dependents_at d k)
    changed k h (among e _) = rw (second.others k (apart k e _ refl)) (first.changed k e)
    changed k h (last e s _) = subst (λ x. P x (dependents_at d k)) (first.others k e) (second.changed k (has_one k c ∙ eq-eqb k c s))
    changed k h (neither _ _ e) = absurd (cc)

    others : (k : ℕ) → has k (ks ++ c ∷ []) ≡ false → Cases k c ks → dependents_at d k ≡ dependents_at a k
    others k h (among _ e) = absurd (cc)
    others k h (last _ _ e) = absurd (cc)
    others k h (neither e l _) = second.others k (has_one k c ∙ l) ∙ first.others k e

-- room stays where the record does
pub room_still : (m n : List (Option KeptEvent)) (k : ℕ) → slot_at n k ≡ slot_at m k → HasRoom m k → HasRoom n k
room_still m n k same room = subst (λ o. IsSomeAnd o (λ x. 0 < x.spare)) (sym same) room

-- those that are left keep their room as one event's dependents are written
pub rooms_left : (m n : List (Option KeptEvent)) (c : ℕ) (done : List ℕ) (k : ℕ) → (has k done ≡ false → HasRoom m k) → (k ≢ c → slot_at n k ≡ slot_at m k) → has k (done ++ c ∷ []) ≡ false → HasRoom n k
rooms_left m n c done k room others new = by (cases_of k c done)
  where
    by : Cases k c done → HasRoom n k
    by (among _ e) = absurd (cc)
    by (last _ _ e) = absurd (cc)
    by (neither e l _) = room_still m n k (others (differ k c l)) (room e)

-- one more event has room
pub rooms_more : (m n : List (Option KeptEvent)) (c : ℕ) (done : List ℕ) (k : ℕ) → (has k done ≡ true → HasRoom m k) → (HasRoom m k → HasRoom n k) → HasRoom n c → has k (done ++ c ∷ []) ≡ true → HasRoom n k
rooms_more m n c done k room kept this h = by (cases_of k c done)
  where
    by : Cases k c done → HasRoom n k
    by (among e _) = kept (room e)
    by (last _ s _) = subst (HasRoom n) (sym s) this
    by (neither _ _ e) = absurd (cc)
