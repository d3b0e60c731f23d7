-- Causes and dependents stay each other's as an event comes.
use Rattle.std.proofs.Common.{◌≡◌, ℕ, ◌==◌, Bool, true, false, List, [], ◌∷◌, Option, Some, None, refl, sym, ap, ◌∙◌, subst}
use Rattle.std.specs.Prelude.{option_map, unwrap_or}
use Rattle.std.proofs.lemmas.Bool.{eqb-true}
use Rattle.ic_path.specs.Orders.{Alike, IsOnce}
use Rattle.ic_path.proofs.EachOnce.{once_cons}
use Rattle.ic_path.proofs.ListTests.{any-alike}
use Rattle.ic_path.proofs.OnceLists.{once-alike}
use Rattle.ic_roster.specs.KeptEvents.{KeptEvent}
use Rattle.ic_roster.specs.Slots.{slot_at, HoldsOneMore}
use Rattle.ic_roster.specs.Records.{causes_at, dependents_at, has, AreLinked}
use Rattle.ic_roster.specs.RecordChanges.{Changes, Puts}
use Rattle.ic_roster.proofs.RecordFacts.{same_causes, differ}
use Rattle.ic_roster.proofs.RecordLoops.{in_has}

-- slots that hold a record more
module _ (few more : List (Option KeptEvent)) (event : ℕ) (r : KeptEvent) (holds : HoldsOneMore few more event r) where
  -- the slot of the event holds it
  pub record_here : (q : ℕ) → (q == event) ≡ true → slot_at more q ≡ Some r
  record_here q h = ap (slot_at more) (eqb-true q event h) ∙ holds.filled

  -- with its causes
  pub causes_here : causes_at more event ≡ r.causes
  causes_here = ap (λ o. unwrap_or (option_map (λ (s : KeptEvent). s.causes) o) []) holds.filled

  -- it was vacant
  pub record_lacking : (q : ℕ) → (q == event) ≡ true → slot_at few q ≡ None
  record_lacking q h = ap (slot_at few) (eqb-true q event h) ∙ holds.vacant

  -- another slot has what it had
  pub record_elsewhere : (q : ℕ) → (q == event) ≡ false → slot_at more q ≡ slot_at few q
  record_elsewhere q h = holds.others q (differ q event h)

-- an event with new causes: `m` is what was, `mid` has its record, too, and `n` has the event at the dependents of its causes
module _ (m mid n : List (Option KeptEvent)) (event : ℕ) (r : KeptEvent) (is : AreLinked m) (holds : HoldsOneMore m mid event r)
    (empty : r.dependents ≡ []) (once : IsOnce r.causes) (apart : has event r.causes ≡ false) (changes : Changes (Puts event) r.causes mid n) where
  -- its list of causes is that of the record
  new_causes : (q : ℕ) → (q == event) ≡ true → causes_at n q ≡ r.causes
  new_causes q h = same_causes mid n changes.shows q ∙ ap (λ o. unwrap_or (option_map (λ (s : KeptEvent). s.causes) o) []) (record_here m mid event r holds q h)

  -- and the others are as they were
  old_causes : (q : ℕ) → (q == event) ≡ false → causes_at n q ≡ causes_at m q
  old_causes q h = same_causes mid n changes.shows q ∙ ap (λ o. unwrap_or (option_map (λ (s : KeptEvent). s.causes) o) []) (record_elsewhere m mid event r holds q h)

  -- it had no causes
  no_causes : causes_at m event ≡ []
  no_causes = ap (λ o. unwrap_or (option_map (λ (s : KeptEvent). s.causes) o) []) (holds.vacant)

  -- its record notes no dependents
  users_between : (q : ℕ) → dependents_at mid q ≡ dependents_at m q
  users_between q = by (q == event) refl
    where
      by : (b : Bool) → (q == event) ≡ b → dependents_at mid q ≡ dependents_at m q
      by true h = rw (record_here m mid event r holds q h, record_lacking m mid event r holds q h) empty
      by false h = rw (record_elsewhere m mid event r holds q h) refl

  -- each of its causes has it as a dependent more
  users_more : (q : ℕ) → has q r.causes ≡ true → Alike (event ∷ dependents_at m q) (dependents_at n q)
  users_more q h = subst (λ es. Alike (event ∷ es) (dependents_at n q)) (users_between q) (changes.changed q h)

  -- and no other event has
  users_same : (q : ℕ) → has q r.causes ≡ false → dependents_at n q ≡ dependents_at m q
  users_same q h = changes.others q h ∙ users_between q

  -- it was no dependent
  not_user : (q : ℕ) → has event (dependents_at m q) ≡ false
  not_user q = is.linked q event ∙ ap (has q) no_causes

  -- the links are kept both ways
  pub added_linked : AreLinked n
  added_linked = record {
    linked = λ e f. linked e f (has e r.causes) (f == event) refl refl;
    causes_once = λ e. causes_once e (e == event) refl;
    dependents_once = λ e. dependents_once e (has e r.causes) refl;
  }
    where
      linked : (e f : ℕ) (x y : Bool) → has e r.causes ≡ x → (f == event) ≡ y → has f (dependents_at n e) ≡ has e (causes_at n f)
      linked e f true true h k = sym (any-alike (λ j. f == j) (users_more e h)) ∙ rw (k, new_causes f k, h) refl
      linked e f true false h k = sym (any-alike (λ j. f == j) (users_more e h)) ∙ rw (k, old_causes f k) (is.linked e f)
      linked e f false true h k =
          let s : f ≡ event = eqb-true f event k in
          rw (users_same e h, new_causes f k, h) (ap (λ q. has q (dependents_at m e)) s ∙ not_user e)
      linked e f false false h k = rw (users_same e h, old_causes f k) (is.linked e f)

      causes_once : (e : ℕ) (y : Bool) → (e == event) ≡ y → IsOnce (causes_at n e)
      causes_once e true k = subst IsOnce (sym (new_causes e k)) once
      causes_once e false k = subst IsOnce (sym (old_causes e k)) (is.causes_once e)

      dependents_once : (e : ℕ) (x : Bool) → has e r.causes ≡ x → IsOnce (dependents_at n e)
      dependents_once e true h =
          once-alike (users_more e h)
          (once_cons (λ i. let t : has event (dependents_at m e) ≡ true = in_has i in let u = not_user e in absurd (cc)) (is.dependents_once e))
      dependents_once e false h = subst IsOnce (sym (users_same e h)) (is.dependents_once e)
