-- Causes and dependents stay each other's as an event goes.
use Rattle.std.proofs.Common.{◌≡◌, ◌≢◌, ℕ, ◌==◌, Bool, true, false, ◌||◌, List, [], ◌∷◌, Option, Some, None, refl, sym, ap, ◌∙◌, subst}
use Rattle.std.specs.Prelude.{option_map, unwrap_or}
use Rattle.std.proofs.lemmas.Bool.{eqb-true}
use Rattle.ic_path.specs.Orders.{here, Alike, IsIn, IsOnce}
use Rattle.ic_path.proofs.EachOnce.{once_rest}
use Rattle.ic_path.proofs.ListTests.{any-alike}
use Rattle.ic_path.proofs.OnceLists.{once-alike}
use Rattle.ic_roster.specs.KeptEvents.{KeptEvent}
use Rattle.ic_roster.specs.Slots.{slot_at, shown, HoldsOneMore}
use Rattle.ic_roster.specs.EventSlots.{id_in, event_by, events_in}
use Rattle.ic_roster.specs.Records.{causes_at, dependents_at, has, AreLinked}
use Rattle.ic_roster.specs.RecordChanges.{Changes, Takes}
use Rattle.ic_roster.proofs.RecordFacts.{same_causes}
use Rattle.ic_roster.proofs.RecordLoops.{has_in}
use Rattle.ic_roster.proofs.AddedLinks.{causes_here, record_lacking, record_elsewhere}
use Rattle.ic_roster.proofs.LinkedEvents.{once_none, noted_cause, same_shown, id_beside}

-- an event that is no cause: `m` is what was, `mid` lacks its record, and `n` lacks it at the dependents of its causes, too
module _ (m mid n : List (Option KeptEvent)) (event : ℕ) (r : KeptEvent) (is : AreLinked m) (holds : HoldsOneMore mid m event r)
    (free : (f : ℕ) → has event (causes_at m f) ≡ false) (changes : Changes (Takes event) r.causes mid n) where
  -- its list of causes is empty
  causes_gone : (q : ℕ) → (q == event) ≡ true → causes_at n q ≡ []
  causes_gone q h = same_causes mid n changes.shows q ∙ ap (λ o. unwrap_or (option_map (λ (s : KeptEvent). s.causes) o) []) (record_lacking mid m event r holds q h)

  -- and the others are as they were
  causes_stay : (q : ℕ) → (q == event) ≡ false → causes_at n q ≡ causes_at m q
  causes_stay q h = same_causes mid n changes.shows q ∙ sym (ap (λ o. unwrap_or (option_map (λ (s : KeptEvent). s.causes) o) []) (record_elsewhere mid m event r holds q h))

  -- it is a dependent of its causes alone
  its_place : (e : ℕ) → has event (dependents_at m e) ≡ has e r.causes
  its_place e = is.linked e event ∙ ap (has e) (causes_here mid m event r holds)

  -- it has no dependents
  users_gone : (q : ℕ) → (q == event) ≡ true → dependents_at n q ≡ []
  users_gone q h =
      let s : q ≡ event = eqb-true q event h in
      let none : has q r.causes ≡ false = ap (λ x. has x r.causes) s ∙ ap (has event) (sym (causes_here mid m event r holds)) ∙ free event in
      changes.others q none ∙ ap (λ o. unwrap_or (option_map (λ (s : KeptEvent). s.dependents) o) []) (record_lacking mid m event r holds q h)

  -- the other records have theirs
  users_kept : (q : ℕ) → (q == event) ≡ false → dependents_at mid q ≡ dependents_at m q
  users_kept q h = sym (ap (λ o. unwrap_or (option_map (λ (s : KeptEvent). s.dependents) o) []) (record_elsewhere mid m event r holds q h))

  -- each of its causes has it as a dependent no more
  users_less : (q : ℕ) → (q == event) ≡ false → has q r.causes ≡ true → Alike (dependents_at m q) (event ∷ dependents_at n q)
  users_less q h k =
      let same = users_kept q h in
      subst (λ es. Alike es (event ∷ dependents_at n q)) same (changes.changed q k (ap (has event) same ∙ its_place q ∙ k))

  -- and no other event differs
  users_stay : (q : ℕ) → (q == event) ≡ false → has q r.causes ≡ false → dependents_at n q ≡ dependents_at m q
  users_stay q h k = changes.others q k ∙ users_kept q h

  -- with it the dependents of its causes had none twice
  less_once : (q : ℕ) → (q == event) ≡ false → has q r.causes ≡ true → IsOnce (event ∷ dependents_at n q)
  less_once q h k = once-alike (users_less q h k) (is.dependents_once q)

  -- the links are kept both ways
  pub removed_linked : AreLinked n
  removed_linked = record {
    linked = λ e f. linked e f (e == event) (has e r.causes) (f == event) refl refl refl;
    causes_once = λ e. causes_once e (e == event) refl;
    dependents_once = λ e. dependents_once e (e == event) (has e r.causes) refl refl;
  }
    where
      gone : (e : ℕ) → (e == event) ≡ false → has e r.causes ≡ true → (b : Bool) → has event (dependents_at n e) ≡ b → has event (dependents_at n e) ≡ false
      gone e h k true t = absurd (less_once e h k event (dependents_at n e) here (has_in event (dependents_at n e) t))
      gone e h k false t = t

      linked : (e f : ℕ) (x z y : Bool) → (e == event) ≡ x → has e r.causes ≡ z → (f == event) ≡ y → has f (dependents_at n e) ≡ has e (causes_at n f)
      linked e f true z true h _ k = rw (users_gone e h, causes_gone f k) refl
      linked e f true z false h _ k =
          let s : e ≡ event = eqb-true e event h in
          rw (users_gone e h, causes_stay f k) (sym (ap (λ q. has q (causes_at m f)) s ∙ free f))
      linked e f false true true h l k =
          let s : f ≡ event = eqb-true f event k in
          rw (causes_gone f k) (ap (λ q. has q (dependents_at n e)) s ∙ gone e h l _ refl)
      linked e f false true false h l k =
          let both : has f (dependents_at m e) ≡ (f == event) || has f (dependents_at n e) = any-alike (λ j. f == j) (users_less e h l) in
          rw (causes_stay f k) (sym (sym (is.linked e f) ∙ both ∙ ap (λ b. b || has f (dependents_at n e)) k))
      linked e f false false true h l k =
          let s : f ≡ event = eqb-true f event k in
          rw (causes_gone f k, users_stay e h l) (ap (λ q. has q (dependents_at m e)) s ∙ its_place e ∙ l)
      linked e f false false false h l k = rw (causes_stay f k, users_stay e h l) (is.linked e f)

      causes_once : (e : ℕ) (x : Bool) → (e == event) ≡ x → IsOnce (causes_at n e)
      causes_once e true h = subst IsOnce (sym (causes_gone e h)) once_none
      causes_once e false h = subst IsOnce (sym (causes_stay e h)) (is.causes_once e)

      dependents_once : (e : ℕ) (x z : Bool) → (e == event) ≡ x → has e r.causes ≡ z → IsOnce (dependents_at n e)
      dependents_once e true z h _ = subst IsOnce (sym (users_gone e h)) once_none
      dependents_once e false true h l = once_rest (less_once e h l) here
      dependents_once e false false h l = subst IsOnce (sym (users_stay e h l)) (is.dependents_once e)

-- the other events are told by the same ids as before
pub others_shown : (m mid : List (Option KeptEvent)) (event : ℕ) (r : KeptEvent) → HoldsOneMore mid m event r → ((k : ℕ) → has event (causes_at m k) ≡ false) → shown (event_by (id_in m)) mid ≡ events_in mid
others_shown m mid event r holds free = same_shown (id_in m) (id_in mid) mid (λ k s h c i. id_beside mid m event r holds c (apart k s h c i))
  where
    kept : (k : ℕ) (s : KeptEvent) → slot_at mid k ≡ Some s → slot_at m k ≡ Some s
    kept k s h = holds.others k (λ e. (let none : None ≡ Some s = sym (ap (slot_at mid) e ∙ holds.vacant) ∙ h in absurd cc)) ∙ h

    apart : (k : ℕ) (s : KeptEvent) → slot_at mid k ≡ Some s → (c : ℕ) → IsIn c s.causes → c ≢ event
    apart k s h c i e =
        let some : has event (causes_at m k) ≡ true = subst (λ q. has q (causes_at m k) ≡ true) e (noted_cause m k s (kept k s h) c i) in
        let none = free k in
        absurd cc
