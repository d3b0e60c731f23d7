-- What the records of standing events and their index tell of the events.
use Rattle.std.proofs.Common.{◌≡◌, ◌≢◌, ◌↔◌, ℕ, List, [], ◌∷◌, map, Option, Some, None, refl, sym, ap, subst, ◌∙◌}
use Rattle.std.specs.Prelude.{IsSome}
use Rattle.slab.specs.Slab.{entries_from}
use Rattle.ic_slots.specs.Slots.{slot_of, Gives}
use Rattle.ic_path.specs.Orders.{IsIn, Alike}
use Rattle.ic_name.specs.declared.ids.EventId.{EventId}
use Rattle.ic_names.specs.declared.table.NameId.{NameId}
use Rattle.ic_roster.specs.KeptEvents.{KeptEvent}
use Rattle.ic_roster.specs.declared.events.EventEntry.{EventEntry}
use Rattle.ic_roster.specs.Placed.{PlacedEvent, HaveOwnKeys, IsNewKey, IsPlacedEntry, child_in}
use Rattle.ic_roster.specs.Slots.{slot_at, shown, HoldsOneMore}
use Rattle.ic_roster.specs.EventSlots.{id_in, event_by, events_in, event_line, event_lead, AreIndexed}
use Rattle.ic_roster.proofs.Slots.{ShowsAt, slot_from_shown, shown_from_slot, shown_apart, shown_emptied}
use Rattle.ic_roster.proofs.Indexes.{held_number, not_vacant, none_numbered, lacks_number, one_slot, index_entered, index_taken}
use Rattle.ic_roster.proofs.OwnNumbers.{one_owner, own_entered, own_taken}

-- the slot of an event is that of its id
key_shown : (ids : ℕ → EventId) (slots : List (Option KeptEvent)) (x : PlacedEvent) (s : ShowsAt (event_by ids) slots x) → s.key ≡ x.id.slot
key_shown ids slots x s = ap (λ (y : PlacedEvent). y.id.slot) (sym s.shows)

-- the line of an event is that of its record
line_shown : (ids : ℕ → EventId) (slots : List (Option KeptEvent)) (x : PlacedEvent) (s : ShowsAt (event_by ids) slots x) → event_line s.value ≡ x.id.line
line_shown ids slots x s = ap (λ (y : PlacedEvent). y.id.line) (sym s.shows)

-- the place of the lead of an event is that of its record
lead_shown : (ids : ℕ → EventId) (slots : List (Option KeptEvent)) (x : PlacedEvent) (s : ShowsAt (event_by ids) slots x) → event_lead s.value ≡ x.interaction.lead.place
lead_shown ids slots x s = ap (λ (y : PlacedEvent). y.interaction.lead.place) (sym s.shows)

-- each event has a slot, a line and a place of the lead of its own
pub own_keys : (slots : List (Option KeptEvent)) (leads : List (Option ℕ)) → AreIndexed slots leads → HaveOwnKeys (events_in slots)
own_keys slots leads t = record {
  slots = λ x y rest k i same.
      let a = shown_apart (event_by (id_in slots)) slots x y rest k i in
      a.apart (key_shown (id_in slots) slots y a.second ∙ same ∙ sym (key_shown (id_in slots) slots x a.first));
  lines = λ x y rest k i same.
      let a = shown_apart (event_by (id_in slots)) slots x y rest k i in
      a.apart (one_owner event_line slots t.lined a.second.key a.first.key a.second.value a.first.value a.second.holds a.first.holds (line_shown (id_in slots) slots y a.second ∙ same ∙ sym (line_shown (id_in slots) slots x a.first)));
  leads = λ x y rest k i same.
      let a = shown_apart (event_by (id_in slots)) slots x y rest k i in
      a.apart (one_slot event_lead slots leads t.led a.second.key a.first.key a.second.value a.first.value a.second.holds a.first.holds (lead_shown (id_in slots) slots y a.second ∙ same ∙ sym (lead_shown (id_in slots) slots x a.first)));
}

-- the record of an event under its id
pub record RecordOf (slots : List (Option KeptEvent)) (id : EventId) (x : PlacedEvent) : Type 0 where
  pub kept : KeptEvent
  pub holds : slot_at slots id.slot ≡ Some kept
  pub line : kept.line ≡ id.line
  pub shows : x ≡ event_by (id_in slots) (id.slot, kept)

-- an event of an id has a record in the slot of that id
pub record_of : (slots : List (Option KeptEvent)) (id : EventId) (x : PlacedEvent) → IsIn x (events_in slots) → x.id ≡ id → RecordOf slots id x
record_of slots id x i e =
    let s = slot_from_shown (event_by (id_in slots)) slots x i in
    let n : s.key ≡ id.slot = key_shown (id_in slots) slots x s ∙ ap (λ (d : EventId). d.slot) e in
    record {
      kept = s.value;
      holds = ap (slot_at slots) (sym n) ∙ s.holds;
      line = line_shown (id_in slots) slots x s ∙ ap (λ (d : EventId). d.line) e;
      shows = s.shows ∙ ap (λ k. event_by (id_in slots) (k, s.value)) n;
    }

-- the slot of an id of which something is told holds a record of its line
entry_record : (slots : List (Option KeptEvent)) (xs : List PlacedEvent) (id : EventId) (entry : EventEntry) → events_in slots ≡ xs → IsPlacedEntry xs id entry → (r : KeptEvent) × (slot_at slots id.slot ≡ Some r) × (r.line ≡ id.line)
entry_record slots xs id entry e told = let r = record_of slots id told.0 (subst (λ s. IsIn told.0 s) (sym e) told.1) told.2 in (r.kept, r.holds, r.line)

-- it holds something
pub holds_event : (slots : List (Option KeptEvent)) (xs : List PlacedEvent) (id : EventId) (entry : EventEntry) → events_in slots ≡ xs → IsPlacedEntry xs id entry → IsSome (slot_at slots id.slot)
holds_event slots xs id entry e told = let r = entry_record slots xs id entry e told in rw r.1 refl

-- and what it holds is of the line
pub line_kept : (slots : List (Option KeptEvent)) (xs : List PlacedEvent) (id : EventId) (entry : EventEntry) (r : KeptEvent) → events_in slots ≡ xs → IsPlacedEntry xs id entry → slot_at slots id.slot ≡ Some r → r.line ≡ id.line
line_kept slots xs id entry r e told h =
    let k = entry_record slots xs id entry e told in
    let both : Some k.0 ≡ Some r = sym k.1 ∙ h in
    let one : k.0 ≡ r = cc in
    ap event_line (sym one) ∙ k.2

-- where a slot is vacant, no event has an id with it
pub id_absent : (slots : List (Option KeptEvent)) (id : EventId) → slot_at slots id.slot ≡ None → (x : PlacedEvent) → IsIn x (events_in slots) → x.id ≢ id
id_absent slots id h x i e = let r = record_of slots id x i e in let found : None ≡ Some r.kept = sym h ∙ r.holds in cc

-- where a slot holds an event of another line, no event has the id
pub id_elsewhere : (slots : List (Option KeptEvent)) (id : EventId) (r : KeptEvent) → slot_at slots id.slot ≡ Some r → r.line ≢ id.line
    → (x : PlacedEvent) → IsIn x (events_in slots) → x.id ≢ id
id_elsewhere slots id r h differs x i e =
    let k = record_of slots id x i e in
    let n : Some k.kept ≡ Some r = sym k.holds ∙ h in
    let m : k.kept ≡ r = cc in
    differs (ap event_line (sym m) ∙ k.line)

-- a record of the line of an id, in its slot, is the event of that id
pub id_there : (slots : List (Option KeptEvent)) (id : EventId) (r : KeptEvent) → slot_at slots id.slot ≡ Some r → r.line ≡ id.line → (x : PlacedEvent) × IsIn x (events_in slots) × (x.id ≡ id)
id_there slots id r h e = (event_by (id_in slots) (id.slot, r), shown_from_slot (event_by (id_in slots)) slots id.slot r h, λ i. record { slot = id.slot; line = e i })

-- it is told as such as the event of that id
pub event_of_id : (slots : List (Option KeptEvent)) (id : EventId) (r : KeptEvent) (entry : EventEntry) → slot_at slots id.slot ≡ Some r → r.line ≡ id.line → entry.interaction ≡ r.interaction → entry.rank ≡ r.rank → IsPlacedEntry (events_in slots) id entry
event_of_id slots id r entry h e interaction rank =
    (event_by (id_in slots) (id.slot, r), shown_from_slot (event_by (id_in slots)) slots id.slot r h, λ i. record { slot = id.slot; line = e i }, sym interaction, sym rank)

-- the record in the slot of a place is the event that is led there
pub lead_found : (slots : List (Option KeptEvent)) (leads : List (Option ℕ)) → AreIndexed slots leads → (lead : NameId) (k : ℕ) (r : KeptEvent) → slot_of leads lead.place ≡ Some k → slot_at slots k ≡ Some r
    → (x : PlacedEvent) × IsIn x (events_in slots) × (x.id ≡ record { slot = k; line = r.line }) × (x.interaction.lead ≡ lead)
lead_found slots leads t lead k r found h =
    let p : r.interaction.lead.place ≡ lead.place = held_number event_lead slots leads t.led lead.place k r found h in
    (event_by (id_in slots) (k, r), shown_from_slot (event_by (id_in slots)) slots k r h, refl, λ i. record { place = p i })

-- no event is led from a place that the index lacks
pub lead_absent : (slots : List (Option KeptEvent)) (leads : List (Option ℕ)) → AreIndexed slots leads → (place : ℕ) → slot_of leads place ≡ None
    → (x : PlacedEvent) → IsIn x (events_in slots) → x.interaction.lead.place ≢ place
lead_absent slots leads t place lacks x i e =
    let s = slot_from_shown (event_by (id_in slots)) slots x i in
    none_numbered event_lead slots leads t.led place lacks s.key s.value s.holds (lead_shown (id_in slots) slots x s ∙ e)

-- the index has a slot for a place just where an event is led from there
pub lead_indexed : (slots : List (Option KeptEvent)) (leads : List (Option ℕ)) → AreIndexed slots leads → (lead : NameId)
    → IsSome (slot_of leads lead.place) ↔ ((x : PlacedEvent) × IsIn x (events_in slots) × (x.interaction.lead ≡ lead))
lead_indexed slots leads t lead = by (slot_of leads lead.place) refl
  where
    IsLed : Type 0
    IsLed = (x : PlacedEvent) × IsIn x (events_in slots) × (x.interaction.lead ≡ lead)

    held : (k : ℕ) (r : Option KeptEvent) → slot_of leads lead.place ≡ Some k → slot_at slots k ≡ r → IsLed
    held k None found e = absurd (not_vacant event_lead slots leads t.led lead.place k found e)
    held k (Some r) found e = let l = lead_found slots leads t lead k r found e in (l.0, l.1, l.3)

    by : (o : Option ℕ) → slot_of leads lead.place ≡ o → IsSome o ↔ IsLed
    by None e = (λ h. absurd cc, λ l. absurd (lead_absent slots leads t lead.place e l.0 l.1 (ap (λ (n : NameId). n.place) l.2)))
    by (Some k) e = (λ h. held k (slot_at slots k) e refl, λ l. refl)

-- an event of a new line and a new lead is entered
pub keys_entered : (old new : List (Option KeptEvent)) (leads leads' : List (Option ℕ)) (k : ℕ) (r : KeptEvent) → AreIndexed old leads → HoldsOneMore old new k r
    → IsNewKey (events_in old) (event_line r) (event_lead r) → Gives (event_lead r) (Some k) leads leads' → AreIndexed new leads'
keys_entered old new leads leads' k r t more fresh gives = record {
  lined = own_entered event_line old new k r t.lined more (λ j x h e. (fresh (event_by (id_in old) (j, x)) (shown_from_slot (event_by (id_in old)) old j x h)).0 e);
  led = index_entered event_lead old new leads leads' k r t.led more (lacks_number event_lead old leads t.led (event_lead r) (λ j x h e. (fresh (event_by (id_in old) (j, x)) (shown_from_slot (event_by (id_in old)) old j x h)).1 e)) gives;
}

-- an event is taken out with its line and its lead
pub keys_taken : (old new : List (Option KeptEvent)) (leads leads' : List (Option ℕ)) (k : ℕ) (r : KeptEvent) → AreIndexed old leads → HoldsOneMore new old k r → Gives (event_lead r) None leads leads' → AreIndexed new leads'
keys_taken old new leads leads' k r t more takes = record { lined = own_taken event_line old new k r t.lined more; led = index_taken event_lead old new leads leads' k r t.led more takes }

-- where the slot of an id is emptied, the event of that id goes
pub event_gone : (old new : List (Option KeptEvent)) (id : EventId) (r : KeptEvent) → HoldsOneMore new old id.slot r → shown (event_by (id_in old)) new ≡ events_in new
    → (x : PlacedEvent) → IsIn x (events_in old) → x.id ≡ id → Alike (events_in old) (x ∷ events_in new)
event_gone old new id r more others x i e =
    let k = record_of old id x i e in
    let n : Some k.kept ≡ Some r = sym k.holds ∙ more.filled in
    let m : k.kept ≡ r = cc in
    let a : Alike (events_in old) (event_by (id_in old) (id.slot, r) ∷ events_in new) = subst (λ ys. Alike (events_in old) (event_by (id_in old) (id.slot, r) ∷ ys)) others (shown_emptied (event_by (id_in old)) old new id.slot r more) in
    subst (λ y. Alike (events_in old) (y ∷ events_in new)) (sym (k.shows ∙ ap (λ v. event_by (id_in old) (id.slot, v)) m)) a

-- the record in the slot of an id has the lead and the children of the event of that id
pub event_given : (slots : List (Option KeptEvent)) (id : EventId) (r : KeptEvent) → slot_at slots id.slot ≡ Some r
    → (x : PlacedEvent) → IsIn x (events_in slots) → x.id ≡ id → (r.interaction.lead ≡ x.interaction.lead) × (map (child_in r.line) r.born ≡ x.born)
event_given slots id r h x i e =
    let k = record_of slots id x i e in
    let n : Some r ≡ Some k.kept = sym h ∙ k.holds in
    let m : r ≡ k.kept = cc in
    let y : event_by (id_in slots) (id.slot, r) ≡ x = ap (λ v. event_by (id_in slots) (id.slot, v)) m ∙ sym k.shows in
    (ap (λ (z : PlacedEvent). z.interaction.lead) y, ap (λ (z : PlacedEvent). z.born) y)

-- the id of the event of the record under a slot
abbrev pub id_at : ℕ × KeptEvent → EventId
id_at p = record { slot = p.0; line = p.1.line }

-- the ids of all events
pub ids_shown : (slots : List (Option KeptEvent)) → map id_at (entries_from 0 slots) ≡ map (λ (x : PlacedEvent). x.id) (events_in slots)
ids_shown slots = by (entries_from 0 slots)
  where
    by : (es : List (ℕ × KeptEvent)) → map id_at es ≡ map (λ (x : PlacedEvent). x.id) (map (event_by (id_in slots)) es)
    by [] = refl
    by (e ∷ es) = ap (λ ds. id_at e ∷ ds) (by es)
