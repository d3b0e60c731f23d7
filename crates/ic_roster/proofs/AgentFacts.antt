-- What the records of agents and their index tell of the agents.
use Rattle.std.proofs.Common.{◌≡◌, ◌≢◌, ℕ, List, ◌∷◌, Option, Some, None, refl, sym, ap, subst, ◌∙◌}
use Rattle.std.specs.Prelude.{IsSome}
use Rattle.ic_slots.specs.Slots.{slot_of}
use Rattle.ic_path.specs.Orders.{Alike, IsIn}
use Rattle.ic_name.specs.declared.ids.AgentId.{AgentId}
use Rattle.ic_name.specs.declared.kinds.Kind.{Kind}
use Rattle.ic_names.specs.declared.table.NameId.{NameId}
use Rattle.ic_roster.specs.declared.agent_records.AgentRecord.{AgentRecord}
use Rattle.ic_roster.specs.declared.agent_records.PlacedAgent.{PlacedAgent}
use Rattle.ic_roster.specs.Placed.{HaveOwnPlaces, IsNewPlace}
use Rattle.ic_roster.specs.Slots.{slot_at, HoldsOneMore, IsIndexOf}
use Rattle.ic_roster.specs.AgentSlots.{agent_at, agents_in, agent_place}
use Rattle.ic_roster.proofs.Slots.{ShowsAt, shown_from_slot, slot_from_shown, shown_apart, shown_emptied}
use Rattle.ic_roster.proofs.Indexes.{one_slot, none_numbered, lacks_number, held_number}

-- one slot holds one record
one_record : (slots : List (Option AgentRecord)) (j k : ℕ) (a b : AgentRecord) → slot_at slots j ≡ Some a → slot_at slots k ≡ Some b → j ≡ k → a ≡ b
one_record slots j k a b h g e = let s = ap (slot_at slots) e in cc

-- the place of an agent's name is that of its record
place_shown : (slots : List (Option AgentRecord)) (x : PlacedAgent) (s : ShowsAt agent_at slots x) → agent_place s.value ≡ x.name.place
place_shown slots x s = ap (λ (y : PlacedAgent). y.name.place) (sym s.shows)

-- an agent is in the slot of its id
record_of : (slots : List (Option AgentRecord)) (x : PlacedAgent) → IsIn x (agents_in slots) → (a : AgentRecord) × (slot_at slots x.id.slot ≡ Some a) × (x ≡ agent_at (x.id.slot, a))
record_of slots x i =
    let s = slot_from_shown agent_at slots x i in
    let k : s.key ≡ x.id.slot = sym (ap (λ m. m.id.slot) s.shows) in
    (s.value, subst (λ j. slot_at slots j ≡ Some s.value) k s.holds, subst (λ j. x ≡ agent_at (j, s.value)) k s.shows)

-- the slot of an agent's id holds something
pub holds_agent : (slots : List (Option AgentRecord)) (xs : List PlacedAgent) (x : PlacedAgent) → agents_in slots ≡ xs → IsIn x xs → IsSome (slot_at slots x.id.slot)
holds_agent slots xs x e i = let r = record_of slots x (subst (λ ys. IsIn x ys) (sym e) i) in rw r.1 refl

-- each agent has a slot and a place of its own
pub own_places : (slots : List (Option AgentRecord)) (index : List (Option ℕ)) → IsIndexOf agent_place slots index → HaveOwnPlaces (agents_in slots)
own_places slots index both = record {
  slots = λ x y rest k i e. (let s = shown_apart agent_at slots x y rest k i in
      s.apart (sym (ap (λ m. m.id.slot) s.second.shows) ∙ e ∙ ap (λ m. m.id.slot) s.first.shows));
  places = λ x y rest k i e. (let s = shown_apart agent_at slots x y rest k i in
      s.apart (one_slot agent_place slots index both s.second.key s.first.key s.second.value s.first.value s.second.holds s.first.holds
      (place_shown slots y s.second ∙ e ∙ sym (place_shown slots x s.first))));
}

-- the record under an id is an agent
pub is_under : (slots : List (Option AgentRecord)) (id : AgentId) (a : AgentRecord) → slot_at slots id.slot ≡ Some a → a.serial ≡ id.serial → IsIn (record { id = id; name = a.name; kind = a.kind }) (agents_in slots)
is_under slots id a h e =
    let m : agent_at (id.slot, a) ≡ record { id = id; name = a.name; kind = a.kind } = λ i. record { id = record { slot = id.slot; serial = e i }; name = a.name; kind = a.kind } in
    subst (λ x. IsIn x (agents_in slots)) m (shown_from_slot agent_at slots id.slot a h)

-- no agent has an id whose slot is vacant
pub none_under : (slots : List (Option AgentRecord)) (id : AgentId) → slot_at slots id.slot ≡ None → (x : PlacedAgent) → IsIn x (agents_in slots) → x.id ≢ id
none_under slots id h x i e = let r = record_of slots x i in let s = ap (λ j. slot_at slots j.slot) e in let f = r.1 in absurd cc

-- no agent has an id whose slot holds another serial number
pub other_under : (slots : List (Option AgentRecord)) (id : AgentId) (a : AgentRecord) → slot_at slots id.slot ≡ Some a → a.serial ≢ id.serial → (x : PlacedAgent) → IsIn x (agents_in slots) → x.id ≢ id
other_under slots id a h other x i e =
    let r = record_of slots x i in
    let s : r.0 ≡ a = one_record slots _ _ _ _ r.1 h (ap (λ j. j.slot) e) in
    other (ap (λ b. b.serial) (sym s) ∙ sym (ap (λ m. m.id.serial) r.2) ∙ ap (λ j. j.serial) e)

-- the record in the slot of a place is the agent there
pub is_at_place : (slots : List (Option AgentRecord)) (index : List (Option ℕ)) → IsIndexOf agent_place slots index → (name : NameId) (k : ℕ) (a : AgentRecord) → slot_of index name.place ≡ Some k → slot_at slots k ≡ Some a
    → (kind : Kind) × IsIn (record { id = record { slot = k; serial = a.serial }; name = name; kind = kind }) (agents_in slots)
is_at_place slots index both name k a found h =
    let p : a.name.place ≡ name.place = held_number agent_place slots index both name.place k a found h in
    let m : agent_at (k, a) ≡ record { id = record { slot = k; serial = a.serial }; name = name; kind = a.kind } = λ i. record { id = record { slot = k; serial = a.serial }; name = record { place = p i }; kind = a.kind } in
    (a.kind, subst (λ x. IsIn x (agents_in slots)) m (shown_from_slot agent_at slots k a h))

-- no agent has its name at a place that the index lacks
pub none_at_place : (slots : List (Option AgentRecord)) (index : List (Option ℕ)) → IsIndexOf agent_place slots index → (place : ℕ) → slot_of index place ≡ None → IsNewPlace (agents_in slots) place
none_at_place slots index both place lacks x i e =
    let s = slot_from_shown agent_at slots x i in
    none_numbered agent_place slots index both place lacks s.key s.value s.holds (place_shown slots x s ∙ e)

-- the index lacks a new place
pub lacks_place : (slots : List (Option AgentRecord)) (index : List (Option ℕ)) → IsIndexOf agent_place slots index → (place : ℕ) → IsNewPlace (agents_in slots) place → slot_of index place ≡ None
lacks_place slots index both place fresh = lacks_number agent_place slots index both place (λ k a h e. fresh (agent_at (k, a)) (shown_from_slot agent_at slots k a h) e)

-- the agent that was in an emptied slot is gone
pub gone_from_slot : (old new : List (Option AgentRecord)) (key : ℕ) (a : AgentRecord) → HoldsOneMore new old key a → (x : PlacedAgent) → IsIn x (agents_in old) → x.id.slot ≡ key → Alike (agents_in old) (x ∷ agents_in new)
gone_from_slot old new key a more x i s =
    let r = record_of old x i in
    let same : r.0 ≡ a = one_record old x.id.slot key r.0 a r.1 more.filled s in
    let e : agent_at (key, a) ≡ x = sym (r.2 ∙ λ j. agent_at (s j, same j)) in
    subst (λ y. Alike (agents_in old) (y ∷ agents_in new)) e (shown_emptied agent_at old new key a more)
