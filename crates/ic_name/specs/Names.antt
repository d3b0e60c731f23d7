-- Names of agents: a start number and the digits of the generations, and their order.
use Rattle.std.specs.Prelude.{ℕ, ◌<◌, ◌≤◌, List, [], ◌∷◌, ◌++◌, length, All}
use Rattle.std.specs.declared.cmp.Ordering.{Ordering}
use Rattle.std.specs.Ordering.{on, then_cmp, nat_cmp}
use Rattle.std.specs.Cmp.Lexicographic.{slice_cmp}
use Rattle.ic_name.specs.declared.limits.TheConstants.{MAX_DEPTH, MAX_START_AGENTS}

-- the number of a start agent, and the digits of the generations that lead from it to the agent
pub record Name : Type 0 where
  pub start : ℕ
  pub digits : List ℕ

-- a number of a start agent, digits up to 3, and not too many
pub record IsName (n : Name) : Type 0 where
  pub starts : n.start < MAX_START_AGENTS
  pub digit : All (λ d. d < 4) n.digits
  pub shallow : length n.digits ≤ MAX_DEPTH

-- the number of generations
abbrev pub depth : Name → ℕ
depth n = length n.digits

-- fewer digits first, then the lesser start number, then digits from the left
abbrev pub name_cmp : Name → Name → Ordering
name_cmp = then_cmp (on depth nat_cmp) (then_cmp (on (λ n. n.start) nat_cmp) (on (λ n. n.digits) (slice_cmp nat_cmp)))

-- the name of a start agent
abbrev pub start_name : ℕ → Name
start_name k = record { start = k; digits = [] }

-- the name of a child
abbrev pub child_name : Name → ℕ → Name
child_name n d = record { start = n.start; digits = n.digits ++ d ∷ [] }
