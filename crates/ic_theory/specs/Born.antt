-- What an event makes: its children and its links.
use Rattle.std.specs.Prelude.{ℕ, ◌+◌, List, [], ◌∷◌, map, Option, Some}
use Rattle.ic_name.specs.Names.{Name, child_name}
use Rattle.ic_name.specs.Events.{Event}
use Rattle.ic_name.specs.declared.kinds.Kind.{Kind}
use Rattle.ic_name.specs.declared.rules.Profile.{Profile}
use Rattle.ic_name.specs.declared.rules.RuleEnd.{RuleEnd}
use Rattle.ic_name.specs.declared.rules.RuleEnd.TheVariants.{Child, Lead, Other}
use Rattle.ic_name.specs.declared.ports.Port.{Port}
use Rattle.ic_name.specs.declared.ports.Port.TheVariants.{Of}
use Rattle.ic_theory.specs.Rules.{born_kinds, born_ends}

-- the port that an end of a rule is: children bear the lead's name with their digit
abbrev pub port_of : Event → RuleEnd → Port
port_of e (Child i j) = Of (child_name e.lead i) j
port_of e (Lead j) = Of e.lead j
port_of e (Other j) = Of e.other j

-- a link: its maker, an event or the start, its place among what that makes, and its two ends
pub record Link : Type 0 where
  pub maker : Option Event
  pub place : ℕ
  pub a : Port
  pub b : Port

-- the links of a list of pairs of ports, numbered by place from k on
abbrev pub placed : Option Event → ℕ → List (Port × Port) → List Link
placed m k [] = []
placed m k (p ∷ ps) = record { maker = m; place = k; a = p.0; b = p.1 } ∷ placed m (k + 1) ps

-- the agents of a list of kinds, each named by its place
abbrev pub named : (ℕ → Name) → ℕ → List Kind → List (Name × Kind)
named name k [] = []
named name k (x ∷ xs) = (name k, x) ∷ named name (k + 1) xs

-- the children
abbrev pub born_agents : Event → List (Name × Kind)
born_agents e = named (child_name e.lead) 0 (born_kinds e.lead_kind e.other_kind)

-- the two ports of each link, by place
abbrev pub born_joins : Profile → Event → List (Port × Port)
born_joins v e = map (λ (x : RuleEnd × RuleEnd). (port_of e x.0, port_of e x.1)) (born_ends v e.lead_kind e.other_kind)

-- the links
abbrev pub born_links : Profile → Event → List Link
born_links v e = placed (Some e) 0 (born_joins v e)
