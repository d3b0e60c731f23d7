-- The text that is printed for a net, read.
use Rattle.std.specs.Prelude.{◌≡◌, ℕ, List, []}
use Rattle.ic_theory.specs.Starts.{Start}
use Rattle.ic_theory.specs.Nets.{IsSameNet, net_of}
use Rattle.ic_theory.specs.Listed.{ListedNet, IsListing, shown}
use Rattle.ic_text.specs.Grammar.{Denotes}
use Rattle.ic_text.specs.Faults.{Stands}
use Rattle.ic_text.specs.declared.grammar.refusal.Refusal.{Refusal}
use Rattle.ic_text.specs.NetText.{net_text}
use Rattle.ic_text.specs.Reread.{IsReread}

-- the net's text denotes a start and has no fault; the start has the net; and whatever lists that is printed by the same bytes
pub record IsReadBack (names : List (List ℕ)) (l : ListedNet) : Type 0 where
  pub start : Start
  pub denotes : Denotes (net_text names l) start
  pub faultless : (f : Refusal) → Stands (net_text names l) f → ⊥
  pub reread : IsReread names l start
  pub same_bytes : (m : ListedNet) → IsListing m → IsSameNet (shown m) (net_of start []) → net_text start.names m ≡ net_text names l
