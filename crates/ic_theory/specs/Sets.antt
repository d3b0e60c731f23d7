-- Sets of events, as lists read up to order: their agents, their links, and which agents they consume.
use Rattle.std.specs.Prelude.{◌≡◌, ◌⊎◌, ℕ, ◌+◌, List, [], ◌∷◌, ◌++◌, if◌then◌else◌}
use Rattle.ic_name.specs.Names.{Name}
use Rattle.ic_name.specs.Events.{Event}
use Rattle.ic_name.specs.Same.{same_name}
use Rattle.ic_name.specs.declared.kinds.Kind.{Kind}
use Rattle.ic_theory.specs.Born.{Link, born_agents, born_links}
use Rattle.ic_theory.specs.Starts.{Start, start_agents, start_links}

-- what was there first, with what each event made; nothing is ever taken away
abbrev pub with_made : {X : Type 0} → (Event → List X) → List X → List Event → List X
with_made made first [] = first
with_made made first (e ∷ es) = made e ++ with_made made first es

-- the agents of the start and of the events
abbrev pub agents : Start → List Event → List (Name × Kind)
agents s es = with_made born_agents (start_agents s) es

-- the links of the start and of the events
abbrev pub links : Start → List Event → List Link
links s es = with_made (born_links s.profile) (start_links s) es

-- how many agents of the list have the name
abbrev pub named_times : Name → List (Name × Kind) → ℕ
named_times n [] = 0
named_times n (x ∷ xs) = (if same_name n x.0 then 1 else 0) + named_times n xs

-- how often the events consume the agent
abbrev pub consumed_times : Name → List Event → ℕ
consumed_times n [] = 0
consumed_times n (e ∷ es) = ((if same_name n e.lead then 1 else 0) + (if same_name n e.other then 1 else 0)) + consumed_times n es

-- the event consumes the agent
abbrev pub Consumes : Event → Name → Type 0
Consumes e n = (n ≡ e.lead) ⊎ (n ≡ e.other)
