-- What is said of a set of events, in whatever order it is listed.
use Rattle.std.proofs.Common.{◌≡◌, List, length, arith}
use Rattle.ic_name.specs.Events.{Event}
use Rattle.ic_path.specs.Orders.{Alike}
use Rattle.ic_path.proofs.Alikes.{alike_back, alike-in, alike-length}
use Rattle.ic_theory.specs.Starts.{Start, start_agents}
use Rattle.ic_theory.specs.Born.{born_agents}
use Rattle.ic_theory.specs.Sets.{agents}
use Rattle.ic_theory.specs.Causes.{IsDependent}
use Rattle.ic_theory.specs.Machine.{IsFull, IsLeastDependent}
use Rattle.ic_theory.proofs.Future.{made_alike}
use Rattle.ic_theory.proofs.Ranks.{same_set, cause_included}
use Rattle.ic_theory.proofs.Restored.{rank-alike}

-- the same number of agents
pub agent_count : (s : Start) {es fs : List Event} → Alike es fs → length (agents s es) ≡ length (agents s fs)
agent_count s a = alike-length (made_alike born_agents (start_agents s) a)

-- the same room
pub full-alike : (s : Start) {es fs : List Event} (e : Event) → Alike es fs → IsFull s es e → IsFull s fs e
full-alike s e a h = let n = agent_count s a in omega arith

-- the same dependents
pub dependent-alike : (s : Start) {es fs : List Event} {e f : Event} → Alike es fs → IsDependent s es e f → IsDependent s fs e f
dependent-alike s a d = (alike-in a d.0, cause_included s (same_set a) d.1)

-- the same least dependents
pub least-alike : (s : Start) {es fs : List Event} {e f : Event} → Alike es fs → IsLeastDependent s es e f → IsLeastDependent s fs e f
least-alike s a l = record {
  dependent = dependent-alike s a l.dependent;
  least = λ rank r g d. l.least rank (rank-alike s rank (alike_back a) r) g (dependent-alike s (alike_back a) d);
}
