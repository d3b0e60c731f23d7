-- Tests for equal tables.
use Rattle.std.proofs.Common.{◌≡◌, List, map, refl, ap, Bor}
use Rattle.std.specs.Map.Iter.{TakesFirst, deref_pair}
use Rattle.std.proofs.lemmas.Iterator.{YieldsList}
use Rattle.std.proofs.lemmas.Iterator.Consumers.{YieldsList-from_shown}
use Rattle.ic_name.specs.Names.{Name}
use Rattle.ic_net.specs.declared.agents.NetAgent.{NetAgent}
use Rattle.ic_net.specs.Sheets.{listed_agent}

-- an iterator of a table of agents gives what the table lists
pub listed_rest : (s all : List (Name × NetAgent)) → s ≡ all → YieldsList (TakesFirst deref_pair) (λ (p : Bor Name × Bor NetAgent). listed_agent (deref_pair p)) s (map listed_agent all)
listed_rest s all e = rw (← e) (YieldsList-from_shown (TakesFirst deref_pair) (λ (p : Bor Name × Bor NetAgent). listed_agent (deref_pair p)) (map listed_agent) (λ s t h. rw h.0 refl) (λ s x t h. ap (map listed_agent) h) s)
