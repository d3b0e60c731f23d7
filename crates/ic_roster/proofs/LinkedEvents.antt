-- What the records of events tell of their causes and dependents.
use Rattle.std.proofs.Common.{◌≡◌, ◌≢◌, ◌+◌, ℕ, Bool, true, false, List, [], ◌∷◌, map, Option, Some, None, refl, sym, ap, subst, ◌∙◌}
use Rattle.std.specs.Prelude.{unwrap_or, option_map, IsSome, is_some, All}
use Rattle.std.proofs.lemmas.List.Elements.{All-head, All-tail, All-contains, All-map, All-weaker}
use Rattle.ic_path.specs.Orders.{IsIn, IsOnce}
use Rattle.ic_path.proofs.InLists.{in-map, map_cases, map_agrees, all_of_each}
use Rattle.ic_path.proofs.ListTests.{the_one}
use Rattle.ic_path.proofs.OnceLists.{once_map}
use Rattle.ic_path.proofs.Picks.{none_in, pick-map, in-contains}
use Rattle.slab.specs.Slab.{entries_from}
use Rattle.slab.proofs.SlabLemmas.{Contains-entries}
use Rattle.ic_name.specs.declared.ids.AgentId.{AgentId}
use Rattle.ic_name.specs.declared.ids.EventId.{EventId}
use Rattle.ic_roster.specs.KeptEvents.{KeptEvent}
use Rattle.ic_roster.specs.Placed.{PlacedEvent, AreKept, AreUsers, child_in}
use Rattle.ic_roster.specs.Slots.{slot_at, shown, HoldsOneMore}
use Rattle.ic_roster.specs.EventSlots.{event_line, id_in, event_by, events_in}
use Rattle.ic_roster.specs.Records.{causes_at, dependents_at, has, AreLinked}
use Rattle.ic_roster.proofs.Slots.{shown_from_slot}
use Rattle.ic_roster.proofs.EventFacts.{record_of}
use Rattle.ic_roster.proofs.RecordLoops.{has_in, in_has}

-- the id of the event in a slot, by its record
pub id_held : (slots : List (Option KeptEvent)) (k : ℕ) (r : KeptEvent) → slot_at slots k ≡ Some r → id_in slots k ≡ record { slot = k; line = r.line }
id_held slots k r h i = record { slot = k; line = unwrap_or (option_map event_line (h i)) 0 }

-- the id of the event in the slot of an id, where its record is of the line of the id
pub id_is : (slots : List (Option KeptEvent)) (d : EventId) (r : KeptEvent) → slot_at slots d.slot ≡ Some r → r.line ≡ d.line → id_in slots d.slot ≡ d
id_is slots d r h e = id_held slots d.slot r h ∙ λ i. record { slot = d.slot; line = e i }

-- an event of the id stands
abbrev IsUnder : List (Option KeptEvent) → EventId → Type 0
IsUnder slots d = (x : PlacedEvent) × IsIn x (events_in slots) × (x.id ≡ d)

-- the id of the event in the slot of an id that stands
id_kept : (slots : List (Option KeptEvent)) (d : EventId) → IsUnder slots d → id_in slots d.slot ≡ d
id_kept slots d (x, i, e) = let r = record_of slots d x i e in id_is slots d r.kept r.holds r.line

-- the causes of an event that stands
its_causes : (slots : List (Option KeptEvent)) (x : PlacedEvent) → IsIn x (events_in slots) → x.causes ≡ map (id_in slots) (causes_at slots x.id.slot)
its_causes slots x i =
    let r = record_of slots x.id x i refl in
    ap (λ (y : PlacedEvent). y.causes) r.shows ∙ ap (λ o. map (id_in slots) (unwrap_or (option_map (λ (q : KeptEvent). q.causes) o) [])) (sym r.holds)

-- a cause of an event that stands
record CauseOf (slots : List (Option KeptEvent)) (d : EventId) (k : ℕ) : Type 0 where
  id : id_in slots d.slot ≡ d
  found : has d.slot (causes_at slots k) ≡ true

-- is in a slot that the event's record notes
cause_of : (slots : List (Option KeptEvent)) (x : PlacedEvent) → IsIn x (events_in slots) → (d : EventId) → IsIn d x.causes → CauseOf slots d x.id.slot
cause_of slots x i d j =
    let c = map_cases (id_in slots) (causes_at slots x.id.slot) (subst (λ ds. IsIn d ds) (its_causes slots x i) j) in
    let s : c.0 ≡ d.slot = ap (λ (e : EventId). e.slot) c.2 in
    record { id = ap (id_in slots) (sym s) ∙ c.2; found = ap (λ q. has q (causes_at slots x.id.slot)) (sym s) ∙ in_has c.1 }

-- an event with a cause stands with it
stands_with : (slots : List (Option KeptEvent)) (j k : ℕ) → has j (causes_at slots k) ≡ true → (x : PlacedEvent) × IsIn x (events_in slots) × (x.id ≡ id_in slots k) × IsIn (id_in slots j) x.causes
stands_with slots j k h = by (slot_at slots k) refl h
  where
    by : (o : Option KeptEvent) → slot_at slots k ≡ o → has j (unwrap_or (option_map (λ (q : KeptEvent). q.causes) o) []) ≡ true → (x : PlacedEvent) × IsIn x (events_in slots) × (x.id ≡ id_in slots k) × IsIn (id_in slots j) x.causes
    by None e i = absurd cc
    by (Some r) e i = (event_by (id_in slots) (k, r), shown_from_slot (event_by (id_in slots)) slots k r e, sym (id_held slots k r e), in-map (id_in slots) (has_in j r.causes i))

-- an event that is no cause is among the causes of none
pub free_of : (slots : List (Option KeptEvent)) (d : EventId) → id_in slots d.slot ≡ d → ((x : PlacedEvent) → IsIn x (events_in slots) → IsIn d x.causes → ⊥) → (k : ℕ) → has d.slot (causes_at slots k) ≡ false
free_of slots d id free k = by (has d.slot (causes_at slots k)) refl
  where
    by : (b : Bool) → has d.slot (causes_at slots k) ≡ b → has d.slot (causes_at slots k) ≡ false
    by false h = h
    by true h = let x = stands_with slots d.slot k h in absurd (free x.0 x.1 (subst (λ q. IsIn q x.0.causes) id x.3))

-- a cause in the record of a slot is one of the event there
pub noted_cause : (slots : List (Option KeptEvent)) (k : ℕ) (r : KeptEvent) → slot_at slots k ≡ Some r → (c : ℕ) → IsIn c r.causes → has c (causes_at slots k) ≡ true
noted_cause slots k r h c i = ap (λ o. has c (unwrap_or (option_map (λ (q : KeptEvent). q.causes) o) [])) h ∙ in_has i

-- a slot that is noted as a cause holds a record
pub cause_filled : (slots : List (Option KeptEvent)) → AreLinked slots → (j k : ℕ) → has j (causes_at slots k) ≡ true → IsSome (slot_at slots j)
cause_filled slots is j k h = by (slot_at slots j) refl
  where
    by : (o : Option KeptEvent) → slot_at slots j ≡ o → IsSome (slot_at slots j)
    by None e =
        let none : has k (dependents_at slots j) ≡ false = ap (λ o. has k (unwrap_or (option_map (λ (q : KeptEvent). q.dependents) o) [])) e in
        let some = is.linked j k in
        absurd cc
    by (Some r) e = rw e refl

-- so does one that is noted as a dependent
pub user_filled : (slots : List (Option KeptEvent)) → AreLinked slots → (j k : ℕ) → has k (dependents_at slots j) ≡ true → IsSome (slot_at slots k)
user_filled slots is j k h = by (slot_at slots k) refl
  where
    by : (o : Option KeptEvent) → slot_at slots k ≡ o → IsSome (slot_at slots k)
    by None e =
        let none : has j (causes_at slots k) ≡ false = ap (λ o. has j (unwrap_or (option_map (λ (q : KeptEvent). q.causes) o) [])) e in
        let some = is.linked j k in
        absurd cc
    by (Some r) e = rw e refl

-- each slot that is noted in a record's causes holds a record
pub causes_filled : (slots : List (Option KeptEvent)) → AreLinked slots → (k : ℕ) → All (λ j. IsSome (slot_at slots j)) (causes_at slots k)
causes_filled slots is k = all_of_each _ _ (λ j i. cause_filled slots is j k (in_has i))

-- and each that is noted in its dependents
pub users_filled : (slots : List (Option KeptEvent)) → AreLinked slots → (j : ℕ) → All (λ k. IsSome (slot_at slots k)) (dependents_at slots j)
users_filled slots is j = all_of_each _ _ (λ k i. user_filled slots is j k (in_has i))

-- the causes of the event under an id
pub causes_of : (slots : List (Option KeptEvent)) (d : EventId) (x : PlacedEvent) → IsIn x (events_in slots) → x.id ≡ d → map (id_in slots) (causes_at slots d.slot) ≡ x.causes
causes_of slots d x i e = ap (λ (q : EventId). map (id_in slots) (causes_at slots q.slot)) (sym e) ∙ sym (its_causes slots x i)

-- the dependents of an event are those that have it among their causes
pub linked_users : (slots : List (Option KeptEvent)) → AreLinked slots → (d : EventId) → id_in slots d.slot ≡ d → AreUsers (events_in slots) d (map (id_in slots) (dependents_at slots d.slot))
linked_users slots is d id = record {
  each = λ f x. each f x.0 x.1 x.2 x.3;
  only = λ f i. only f (map_cases (id_in slots) (dependents_at slots d.slot) i);
  once = once_map (id_in slots) (dependents_at slots d.slot) (λ j k h g e. ap (λ (q : EventId). q.slot) e) (is.dependents_once d.slot);
}
  where
    each : (f : EventId) (x : PlacedEvent) → IsIn x (events_in slots) → x.id ≡ f → IsIn d x.causes → IsIn f (map (id_in slots) (dependents_at slots d.slot))
    each f x i same j =
        let c = cause_of slots x i d j in
        let h : has x.id.slot (dependents_at slots d.slot) ≡ true = is.linked d.slot x.id.slot ∙ c.found in
        subst (λ q. IsIn q (map (id_in slots) (dependents_at slots d.slot))) (id_kept slots x.id (x, i, refl) ∙ same) (in-map (id_in slots) (has_in x.id.slot _ h))

    only : (f : EventId) → (k : ℕ) × IsIn k (dependents_at slots d.slot) × (id_in slots k ≡ f) → (x : PlacedEvent) × IsIn x (events_in slots) × (x.id ≡ f) × IsIn d x.causes
    only f (k, i, e) =
        let x = stands_with slots d.slot k (sym (is.linked d.slot k) ∙ in_has i) in
        (x.0, x.1, x.2 ∙ e, subst (λ q. IsIn q x.0.causes) id x.3)

-- nothing is in the empty list twice
pub once_none : {X : Type 0} → IsOnce {X = X} []
once_none e rest k i = elim k [ ]

-- an event that doesn't stand has no dependents
pub absent_users : (slots : List (Option KeptEvent)) → AreLinked slots → (d : EventId) → ((r : KeptEvent) → slot_at slots d.slot ≡ Some r → r.line ≢ d.line) → AreUsers (events_in slots) d []
absent_users slots is d other = record {
  each = λ f x. (let c = cause_of slots x.0 x.1 d x.3 in
      let r = the_one (slot_at slots d.slot) (cause_filled slots is d.slot x.0.id.slot c.found) in
      absurd (other r.0 r.1 (ap (λ (q : EventId). q.line) (sym (id_held slots d.slot r.0 r.1) ∙ c.id))));
  only = λ f i. absurd (none_in i);
  once = once_none;
}

-- the causes of each event stand
pub linked_kept : (slots : List (Option KeptEvent)) → AreLinked slots → (x : PlacedEvent) → IsIn x (events_in slots) → AreKept (events_in slots) x.causes
linked_kept slots is x i = all_of_each (IsUnder slots) x.causes (λ d j. (let c = cause_of slots x i d j in
    let r = the_one (slot_at slots d.slot) (cause_filled slots is d.slot x.id.slot c.found) in
    (event_by (id_in slots) (d.slot, r.0), shown_from_slot (event_by (id_in slots)) slots d.slot r.0 r.1, sym (id_held slots d.slot r.0 r.1) ∙ c.id)))

-- events that stand have records in their slots
pub kept_filled : (slots : List (Option KeptEvent)) (ds : List EventId) → AreKept (events_in slots) ds → All (λ k. IsSome (slot_at slots k)) (map (λ d. d.slot) ds)
kept_filled slots ds kept = All-map (λ k. IsSome (slot_at slots k)) (λ (d : EventId). d.slot) ds (All-weaker (IsUnder slots) (λ (d : EventId). IsSome (slot_at slots d.slot)) held ds kept)
  where
    held : (d : EventId) → IsUnder slots d → IsSome (slot_at slots d.slot)
    held d (x, i, e) = let r = record_of slots d x i e in rw r.holds refl

-- the ids in the slots of events that stand are theirs
pub kept_ids : (slots : List (Option KeptEvent)) (ds : List EventId) → AreKept (events_in slots) ds → map (id_in slots) (map (λ d. d.slot) ds) ≡ ds
kept_ids slots [] kept = refl
kept_ids slots (d ∷ ds) kept = λ i. id_kept slots d (All-head (IsUnder slots) d ds kept) i ∷ kept_ids slots ds (All-tail (IsUnder slots) d ds kept) i

-- the ids in the slots of the children of a line are theirs
pub children_ids : (line : ℕ) (ids : List AgentId) → All (λ a. a.serial ≡ line + 1) ids → map (child_in line) (map (λ a. a.slot) ids) ≡ ids
children_ids line [] all = refl
children_ids line (a ∷ ids) all =
    let its : a.serial ≡ line + 1 = All-head (λ (b : AgentId). b.serial ≡ line + 1) a ids all in
    let others = children_ids line ids (All-tail (λ (b : AgentId). b.serial ≡ line + 1) a ids all) in
    λ i. record { slot = a.slot; serial = sym its i } ∷ others i

-- where no image is there twice, nothing is
pub once_before : {X Y : Type 0} (f : X → Y) (xs : List X) → IsOnce (map f xs) → IsOnce xs
once_before f xs once x rest k i = once (f x) (map f rest) (pick-map f k) (in-map f i)

-- a vacant slot is none of those that are filled
pub not_filled : (slots : List (Option KeptEvent)) (k : ℕ) (ks : List ℕ) → slot_at slots k ≡ None → All (λ j. IsSome (slot_at slots j)) ks → has k ks ≡ false
not_filled slots k ks none filled = by (has k ks) refl
  where
    by : (b : Bool) → has k ks ≡ b → has k ks ≡ false
    by false h = h
    by true h =
        let some : is_some (slot_at slots k) ≡ true = All-contains (λ j. IsSome (slot_at slots j)) ks k filled (in-contains (has_in k ks h)) in
        let not : is_some (slot_at slots k) ≡ false = ap is_some none in
        absurd cc

-- records of whose causes each has the same id show the same
pub same_shown : (ids ids' : ℕ → EventId) (slots : List (Option KeptEvent)) → ((k : ℕ) (r : KeptEvent) → slot_at slots k ≡ Some r → (c : ℕ) → IsIn c r.causes → ids c ≡ ids' c)
    → shown (event_by ids) slots ≡ shown (event_by ids') slots
same_shown ids ids' slots same = map_agrees (event_by ids) (event_by ids') (entries_from 0 slots) (λ e i.
    (let held = (Contains-entries (record { slots = slots; vacant_key = 0; capacity = 0 }) e.0 e.1).0 (in-contains i) in
    let causes = map_agrees ids ids' e.1.causes (same e.0 e.1 held) in
    λ u. record { id = record { slot = e.0; line = e.1.line }; interaction = e.1.interaction; rank = e.1.rank; born = map (child_in e.1.line) e.1.born; causes = causes u }))

-- another slot than that of a record more has the same id
pub id_beside : (few more : List (Option KeptEvent)) (key : ℕ) (r : KeptEvent) → HoldsOneMore few more key r → (k : ℕ) → k ≢ key → id_in more k ≡ id_in few k
id_beside few more key r holds k other i = record { slot = k; line = unwrap_or (option_map event_line (holds.others k other i)) 0 }
