-- Agents and events with the names at their places.
use Rattle.std.proofs.Common.{◌≡◌, ◌≢◌, ◌↔◌, ℕ, ◌<◌, List, ◌∷◌, [], map, length, Option, Some, None, Result, Ok, Err, inl, inr, refl, sym, ap, subst, ◌∙◌}
use Rattle.std.specs.Prelude.{IfOk, OnErr, IsSomeAnd}
use Rattle.ic_path.specs.Orders.{Alike, IsIn}
use Rattle.ic_path.proofs.Picks.{in_picked, in-cons_cases}
use Rattle.ic_path.proofs.Alikes.{alike-in, alike_back}
use Rattle.ic_name.specs.Names.{Name, name_cmp}
use Rattle.ic_name.specs.declared.ids.EventId.{EventId}
use Rattle.ic_names.specs.declared.table.NameId.{NameId}
use Rattle.ic_names.specs.Tables.{name_at, StandsAt, IsAbsent, IsTable, Enters, GrowsUpTo}
use Rattle.ic_names.proofs.Growing.{entered_keeps, grown_keeps}
use Rattle.ic_roster.specs.declared.interaction.Interaction.{Interaction}
use Rattle.ic_roster.specs.declared.agent_records.PlacedAgent.{PlacedAgent}
use Rattle.ic_roster.specs.Rosters.{HaveOwnNames, IsNewName, Stander, HaveOwnLines, IsNewEvent, event_in, IsNamed}
use Rattle.ic_roster.specs.Placed.{PlacedEvent, HaveOwnPlaces, IsNewPlace, HaveOwnKeys, IsNewKey, member_in, stander_in, AreNamed}
use Rattle.ic_roster.proofs.Images.{picked_image, each_image, two_images}
use Rattle.ic_path.proofs.InLists.{map_agrees, in-map}

-- each name stands where it stood
abbrev pub KeepsPlaces : List Name → List Name → Type 0
KeepsPlaces old new = (n : Name) (k : ℕ) → StandsAt old n k → StandsAt new n k

-- a name that is entered with its ancestors keeps the places, and so does an error
pub kept_by_name : {X E : Type 0} (old new : List Name) (n : Name) (r : Result X E) → IfOk r (λ x. GrowsUpTo old n new) → OnErr r (new ≡ old) → KeepsPlaces old new
kept_by_name old new n (Ok x) grown same m k s = grown_keeps old new n m k grown s
kept_by_name old new n (Err e) grown same m k s = subst (λ ns. StandsAt ns m k) (sym same) s

-- a child that is entered keeps the places, and so does an error
pub kept_by_child : {X E : Type 0} (old new : List Name) (n : Name) (r : Result X E) → IfOk r (λ x. Enters old n new) → OnErr r (new ≡ old) → KeepsPlaces old new
kept_by_child old new n (Ok x) enters same m k s = entered_keeps old new n m k enters s
kept_by_child old new n (Err e) enters same m k s = subst (λ ns. StandsAt ns m k) (sym same) s

module _ (old new : List Name) (keeps : KeepsPlaces old new) where
  -- a place keeps its name
  stays : (k : ℕ) → k < length old → StandsAt new (name_at old k) k
  stays k h = keeps (name_at old k) k (record { within = h; named = refl })

  -- the places of an event keep their names
  event_stays : (i : Interaction) → IsNamed old i → event_in new i ≡ event_in old i
  event_stays i named =
      let lead = (stays i.lead.place named.lead).named in
      let other = (stays i.other.place named.other).named in
      λ u. record { lead = lead u; lead_kind = i.lead_kind; other = other u; other_kind = i.other_kind }

  -- they are still among the names
  still_named : (i : Interaction) → IsNamed old i → IsNamed new i
  still_named i named =
      let lead = stays i.lead.place named.lead in
      let other = stays i.other.place named.other in
      record { lead = lead.within; other = other.within; ordered = (λ u. name_cmp (lead.named u) (other.named u)) ∙ named.ordered }

  -- the agents keep their names
  pub agents_stay : (xs : List PlacedAgent) (es : List PlacedEvent) → AreNamed old xs es → map (member_in new) xs ≡ map (member_in old) xs
  agents_stay xs es named = map_agrees (member_in new) (member_in old) xs (λ x i. (let s = (stays x.name.place (named.agents x i)).named in λ u. record { id = x.id; name = s u; kind = x.kind }))

  -- the events keep their names
  pub events_stay : (xs : List PlacedAgent) (es : List PlacedEvent) → AreNamed old xs es → map (stander_in new) es ≡ map (stander_in old) es
  events_stay xs es named = map_agrees (stander_in new) (stander_in old) es (λ x i. (let s = event_stays x.interaction (named.events x i) in λ u. record { id = x.id; event = s u; rank = x.rank; born = x.born; causes = x.causes }))

  -- all of them are still named
  pub all_still_named : (xs : List PlacedAgent) (es : List PlacedEvent) → AreNamed old xs es → AreNamed new xs es
  all_still_named xs es named = record {
    agents = λ x i. (stays x.name.place (named.agents x i)).within;
    events = λ x i. still_named x.interaction (named.events x i);
  }

module _ (ns : List Name) (table : IsTable ns) (xs : List PlacedAgent) (es : List PlacedEvent) (named : AreNamed ns xs es) where
  -- each agent has a name of its own
  pub own_names : HaveOwnPlaces xs → HaveOwnNames (map (member_in ns) xs)
  own_names own = record {
    slots = two_images (member_in ns) xs (λ x y. y.id.slot ≢ x.id.slot) own.slots;
    names = two_images (member_in ns) xs (λ x y. y.name ≢ x.name)
        (λ x y rest k i e. own.places x y rest k i (table.once y.name.place x.name.place (named.agents y (in_picked k i)) (named.agents x (rest, k)) e));
  }

  -- each event has a lead of its own
  pub own_lines : HaveOwnKeys es → HaveOwnLines (map (stander_in ns) es)
  own_lines own = record {
    slots = two_images (stander_in ns) es (λ x y. y.id.slot ≢ x.id.slot) own.slots;
    lines = two_images (stander_in ns) es (λ x y. y.id.line ≢ x.id.line) own.lines;
    leads = two_images (stander_in ns) es (λ x y. y.event.lead ≢ x.event.lead)
        (λ x y rest k i e. own.leads x y rest k i (table.once y.interaction.lead.place x.interaction.lead.place (named.events y (in_picked k i)).lead (named.events x (rest, k)).lead e));
  }

  -- a place that no agent has is that of a name that no agent has
  pub new_name : (place : ℕ) → place < length ns → IsNewPlace xs place → IsNewName (map (member_in ns) xs) (name_at ns place)
  new_name place inside fresh = each_image (member_in ns) xs (λ x. x.name ≢ name_at ns place) (λ x i e. fresh x i (table.once x.name.place place (named.agents x i) inside e))

  -- a place from which no event is led is that of a name that leads none
  pub new_lead : (place : ℕ) → place < length ns → ((x : PlacedEvent) → IsIn x es → x.interaction.lead.place ≢ place) → (x : Stander) → IsIn x (map (stander_in ns) es) → x.event.lead ≢ name_at ns place
  new_lead place inside fresh = each_image (stander_in ns) es (λ x. x.event.lead ≢ name_at ns place) (λ x i e. fresh x i (table.once x.interaction.lead.place place (named.events x i).lead inside e))

  -- a name leads an event just where one is led from its place
  pub named_lead : (name : NameId) → name.place < length ns
      → ((x : PlacedEvent) × IsIn x es × (x.interaction.lead ≡ name)) ↔ ((x : Stander) × IsIn x (map (stander_in ns) es) × (x.event.lead ≡ name_at ns name.place))
  named_lead name inside = (forth, back)
    where
      forth : ((x : PlacedEvent) × IsIn x es × (x.interaction.lead ≡ name)) → (x : Stander) × IsIn x (map (stander_in ns) es) × (x.event.lead ≡ name_at ns name.place)
      forth l = (stander_in ns l.0, in-map (stander_in ns) l.1, ap (λ (n : NameId). name_at ns n.place) l.2)

      back : ((x : Stander) × IsIn x (map (stander_in ns) es) × (x.event.lead ≡ name_at ns name.place)) → (x : PlacedEvent) × IsIn x es × (x.interaction.lead ≡ name)
      back l =
          let p = picked_image (stander_in ns) es l.1.1 in
          let same : name_at ns p.0.interaction.lead.place ≡ name_at ns name.place = ap (λ (x : Stander). x.event.lead) (sym p.3) ∙ l.2 in
          let place : p.0.interaction.lead.place ≡ name.place = table.once p.0.interaction.lead.place name.place (named.events p.0 (p.1, p.2)).lead inside same in
          (p.0, (p.1, p.2), λ i. record { place = place i })

module _ (ns : List Name) (xs : List PlacedAgent) (es : List PlacedEvent) where
  -- no agent has a name that is absent
  pub absent_name : (n : Name) → AreNamed ns xs es → IsAbsent ns n → IsNewName (map (member_in ns) xs) n
  absent_name n named absent = each_image (member_in ns) xs (λ x. x.name ≢ n) (λ x i e. absent x.name.place (named.agents x i) e)

  -- a name that is absent leads no event
  pub absent_lead : (n : Name) → AreNamed ns xs es → IsAbsent ns n → (x : Stander) → IsIn x (map (stander_in ns) es) → x.event.lead ≢ n
  absent_lead n named absent = each_image (stander_in ns) es (λ x. x.event.lead ≢ n) (λ x i e. absent x.interaction.lead.place (named.events x i).lead e)

  -- one agent more that is named, or an error
  pub agent_named : {X E : Type 0} (new : List PlacedAgent) (x : X → PlacedAgent) (r : Result X E) → AreNamed ns xs es → ((d : X) → (x d).name.place < length ns)
      → IfOk r (λ d. Alike (x d ∷ xs) new) → OnErr r (new ≡ xs) → AreNamed ns new es
  agent_named new x (Ok d) named inside more same = record {
    agents = λ y i. elim (in-cons_cases (alike-in (alike_back more) i)) [
      | inl e ↦ subst (λ z. z.name.place < length ns) (sym e) (inside d)
      | inr j ↦ named.agents y j
    ];
    events = named.events;
  }
  agent_named new x (Err e) named inside more same = subst (λ zs. AreNamed ns zs es) (sym same) named

  -- one event more that is named, or an error
  pub event_named : {X E : Type 0} (new : List PlacedEvent) (x : X → PlacedEvent) (r : Result X E) → AreNamed ns xs es → ((d : X) → IsNamed ns (x d).interaction)
      → IfOk r (λ d. Alike (x d ∷ es) new) → OnErr r (new ≡ es) → AreNamed ns xs new
  event_named new x (Ok d) named inside more same = record {
    agents = named.agents;
    events = λ y i. elim (in-cons_cases (alike-in (alike_back more) i)) [
      | inl e ↦ subst (λ z. IsNamed ns z.interaction) (sym e) (inside d)
      | inr j ↦ named.events y j
    ];
  }
  event_named new x (Err e) named inside more same = subst (λ zs. AreNamed ns xs zs) (sym same) named

-- a new name stands at a new place
pub new_place : (ns : List Name) (xs : List PlacedAgent) (place : ℕ) → IsNewName (map (member_in ns) xs) (name_at ns place) → IsNewPlace xs place
new_place ns xs place fresh x i e = fresh (member_in ns x) (in-map (member_in ns) i) (ap (name_at ns) e)

-- a new event has a new line, and is led from a new place
pub new_key : (ns : List Name) (es : List PlacedEvent) (line : ℕ) (i : Interaction) → IsNewEvent (map (stander_in ns) es) line (event_in ns i) → IsNewKey es line i.lead.place
new_key ns es line i fresh x j = let n = fresh (stander_in ns x) (in-map (stander_in ns) j) in (n.0, λ e. n.1 (ap (name_at ns) e))

-- the place of the lead of an event that is named is that of its name
pub lead_named : (ns : List Name) (x : PlacedEvent) (o : Option NameId) → IsNamed ns x.interaction → IsSomeAnd o (λ lead. lead ≡ x.interaction.lead) → IsSomeAnd o (λ lead. StandsAt ns (stander_in ns x).event.lead lead.place)
lead_named ns x None named h = absurd h
lead_named ns x (Some lead) named h = record { within = subst (λ (n : NameId). n.place < length ns) (sym h) named.lead; named = ap (λ (n : NameId). name_at ns n.place) h }

-- the ids of the events with their names
pub stander_ids : (ns : List Name) (es : List PlacedEvent) → map (λ (x : Stander). x.id) (map (stander_in ns) es) ≡ map (λ (x : PlacedEvent). x.id) es
stander_ids ns [] = refl
stander_ids ns (x ∷ xs) = ap (λ (ds : List EventId). x.id ∷ ds) (stander_ids ns xs)
