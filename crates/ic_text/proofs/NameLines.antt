-- The lines of agents, by the places of their names.
use Rattle.std.proofs.Common.{◌≡◌, ℕ, ◌+◌, ◌<◌, ◌≤◌, Bool, true, false, List, length, get_or, ◌⊎◌, inl, inr, refl, sym, ap, subst, ◌∙◌, arith, Option, Some, None}
use Rattle.std.specs.Prelude.{◌==◌, if◌then◌else◌, slice_get, option_map, IsSome}
use Rattle.std.proofs.lemmas.Bool.{eqb-true, eq-eqb}
use Rattle.std.proofs.lemmas.List.{length-map}
use Rattle.std.proofs.lemmas.List.Elements.{All-get_or}
use Rattle.std.proofs.lemmas.Option.{slice_get_within, slice_get-map, slice_get_cases, same_Some, slice_get-get_or, get_or_from_slice_get}
use Rattle.ic_names.specs.Tables.{name_at, IsTable}
use Rattle.ic_slots.specs.Slots.{slot_of, Gives}
use Rattle.ic_theory.specs.Listed.{NetAgent, agent_among}
use Rattle.ic_net.specs.Placed.{listed_at, port_at, IsAgentInside}
use Rattle.ic_net.specs.declared.sheet.SheetLists.{SheetLists}
use Rattle.ic_net.specs.declared.sheet.placed.PlacedAgent.{PlacedAgent}
use Rattle.ic_text.specs.Lists.{agents_of, agent_on, partners_on, AreNetLists}
use Rattle.ic_text.specs.declared.print.agent_lines.AgentLine.{AgentLine}
use Rattle.ic_text.proofs.Places.{one_place, place_found}

-- the agent at a place is listed there
pub listed_there : (s : SheetLists) (k : ℕ) (a : PlacedAgent) → slice_get s.agents.now k ≡ Some a → slice_get (agents_of s) k ≡ Some (listed_at s.names.now a)
listed_there s k a at_k = slice_get-map (listed_at s.names.now) s.agents.now k ∙ ap (option_map (listed_at s.names.now)) at_k

-- an agent that is listed at a place is there
pub record There (s : SheetLists) (k : ℕ) (a : NetAgent) : Type 0 where
  pub agent : PlacedAgent
  pub at_k : slice_get s.agents.now k ≡ Some agent
  pub listed : listed_at s.names.now agent ≡ a

pub there_is : (s : SheetLists) (k : ℕ) (a : NetAgent) → slice_get (agents_of s) k ≡ Some a → There s k a
there_is s k a at_k = go (slice_get_cases s.agents.now k).1
  where
    low : k < length s.agents.now
    low = subst (λ m. k < m) (length-map s.agents.now (listed_at s.names.now)) (slice_get_within (agents_of s) k a at_k)

    go : ((x : PlacedAgent) × (k < length s.agents.now) × (slice_get s.agents.now k ≡ Some x) × (get_or s.agents.now k x ≡ x)) ⊎ ((length s.agents.now ≤ k) × (slice_get s.agents.now k ≡ None)) → There s k a
    go (inl h) = record { agent = h.0; at_k = h.2; listed = same_Some (listed_at s.names.now h.0) a (sym (listed_there s k h.0 h.2) ∙ at_k) }
    go (inr h) = absurd (omega (arith, low, h.0))

-- a port of an agent is one of what is listed of it
pub port_within : (s : SheetLists) (l : AgentLine) (i : ℕ) → i < length (partners_on l) → i < length (agent_on s l).partners
port_within s l i h = subst (λ m. i < m) (sym (length-map (partners_on l) (port_at s.names.now))) h

module _ (s : SheetLists) (net : AreNetLists s) where
  -- the places of an agent that is there are places of the table
  pub inside_there : (k : ℕ) (a : PlacedAgent) → slice_get s.agents.now k ≡ Some a → IsAgentInside s.names.now a
  inside_there k a at_k = subst (IsAgentInside s.names.now) (get_or_from_slice_get s.agents.now k a a at_k) (All-get_or (IsAgentInside s.names.now) s.agents.now k a (slice_get_within s.agents.now k a at_k) net.inside)

  -- the line of one agent more is put under the place of its name
  pub line_put : (old new : List (Option ℕ)) (i : ℕ) (d : PlacedAgent) → i < length s.agents.now → Gives (get_or s.agents.now i d).name.place (Some i) old new
      → ((k : ℕ) (a : PlacedAgent) → k < i → slice_get s.agents.now k ≡ Some a → slot_of old a.name.place ≡ Some k)
      → (k : ℕ) (a : PlacedAgent) → k < i + 1 → slice_get s.agents.now k ≡ Some a → slot_of new a.name.place ≡ Some k
  line_put old new i d within gives before k a low at_k = go (a.name.place == x.name.place) refl (gives a.name.place)
    where
      x : PlacedAgent
      x = get_or s.agents.now i d

      at_i : slice_get s.agents.now i ≡ Some x
      at_i = slice_get-get_or s.agents.now i d within

      go : (b : Bool) → (a.name.place == x.name.place) ≡ b → slot_of new a.name.place ≡ (if b then Some i else slot_of old a.name.place) → slot_of new a.name.place ≡ Some k
      go true e is =
          let same : name_at s.names.now a.name.place ≡ name_at s.names.now x.name.place = ap (name_at s.names.now) (eqb-true a.name.place x.name.place e) in
          let here : k ≡ i = one_place (agents_of s) k i (listed_at s.names.now a) (listed_at s.names.now x) net.wired.in_order (listed_there s k a at_k) (listed_there s i x at_i) same in
          is ∙ ap Some (sym here)
      go false e is =
          let other : k ≡ i → ⊥ = λ h. apart h e in
          let less : k < i = grind (arith, other, low) in
          is ∙ before k a less at_k
        where
          apart : k ≡ i → (a.name.place == x.name.place) ≡ false → ⊥
          apart h f =
              let agent : a ≡ x = same_Some a x (sym at_k ∙ ap (slice_get s.agents.now) h ∙ at_i) in
              let t : true ≡ false = sym (eq-eqb a.name.place x.name.place (ap (λ (y : PlacedAgent). y.name.place) agent)) ∙ f in
              cc

  module _ (slots : List (Option ℕ)) (lines : (k : ℕ) (a : PlacedAgent) → slice_get s.agents.now k ≡ Some a → slot_of slots a.name.place ≡ Some k) (table : IsTable s.names.now) (p : ℕ) (inside : p < length s.names.now) where
    -- the line that is found for the name of an agent is the agent's
    line_found : (a : NetAgent) → agent_among (name_at s.names.now p) (agents_of s) ≡ Some a → (k : ℕ) × (slot_of slots p ≡ Some k) × (slice_get (agents_of s) k ≡ Some a)
    line_found a found =
        let here = place_found (name_at s.names.now p) (agents_of s) a found in
        let there = there_is s here.0 a here.1 in
        let own = inside_there here.0 there.agent there.at_k in
        let name : name_at s.names.now there.agent.name.place ≡ name_at s.names.now p = ap (λ (b : NetAgent). b.name) there.listed ∙ here.2 in
        let place : there.agent.name.place ≡ p = table.once there.agent.name.place p own.name inside name in
        (here.0, ap (slot_of slots) (sym place) ∙ lines here.0 there.agent there.at_k, here.1)

    -- so there is one for each agent
    pub line_there : IsSome (agent_among (name_at s.names.now p) (agents_of s)) → (k : ℕ) × (slot_of slots p ≡ Some k) × (slice_get (agents_of s) k ≡ agent_among (name_at s.names.now p) (agents_of s))
    line_there = go (agent_among (name_at s.names.now p) (agents_of s)) refl
      where
        go : (o : Option NetAgent) → agent_among (name_at s.names.now p) (agents_of s) ≡ o → IsSome o → (k : ℕ) × (slot_of slots p ≡ Some k) × (slice_get (agents_of s) k ≡ o)
        go None e h = cc
        go (Some a) e h = line_found a e
