-- What keeps an event from being active, where the events of the set stand in another order.
use Rattle.std.proofs.Common.{List, sym, ◌∙◌}
use Rattle.ic_name.specs.Events.{Event, Pair}
use Rattle.ic_name.specs.declared.ports.Port.{Port}
use Rattle.ic_name.specs.declared.ports.Port.TheVariants.{Of}
use Rattle.ic_name.specs.declared.ports.Port.TheVariants as port
use Rattle.ic_path.specs.Orders.{Alike}
use Rattle.ic_path.proofs.Alikes.{alike_back}
use Rattle.ic_path.proofs.Orders.{degree-alike}
use Rattle.ic_theory.specs.Born.{born_agents, born_links}
use Rattle.ic_theory.specs.Starts.{Start, start_agents, start_links, net_shape}
use Rattle.ic_theory.specs.Wires.{IsLoose, IsWire}
use Rattle.ic_theory.proofs.Future.{in_included, made_alike, path_included}
use Rattle.ic_theory.proofs.Ranks.{consumed-alike, same_set}
use Rattle.ic_undo.specs.Obstacles.{IsObstacle}
use Rattle.ic_undo.specs.declared.obstacle.Obstacle.{Obstacle}
use Rattle.ic_undo.specs.declared.obstacle.Obstacle.TheVariants as obstacle

-- a loose port is loose in any order of the set
loose-alike : (s : Start) {es fs : List Event} (p : Port) → Alike es fs → IsLoose s es p → IsLoose s fs p
loose-alike s (Of n i) a l = (l.0, in_included born_agents (start_agents s) (same_set a) l.1, l.2, sym (consumed-alike n a) ∙ l.3)
loose-alike s (port.Name j) a l = sym (degree-alike net_shape (made_alike (born_links s.profile) (start_links s) a) (port.Name j)) ∙ l

-- and a wire is a wire
wire-alike : (s : Start) {es fs : List Event} {p q : Port} → Alike es fs → IsWire s es p q → IsWire s fs p q
wire-alike s {p = p} {q} a w = record { path = path_included s (same_set a) w.path; from_loose = loose-alike s p a w.from_loose; to_loose = loose-alike s q a w.to_loose }

-- so what is in the way of an event is the same
pub obstacle-alike : (s : Start) (p : Pair) (why : Obstacle) {es fs : List Event} → Alike es fs → IsObstacle s es p why → IsObstacle s fs p why
obstacle-alike s p (obstacle.Absent n) a h = (h.0, λ q w. h.1 q (wire-alike s (alike_back a) w))
obstacle-alike s p (obstacle.Joined q r) a h = (wire-alike s a h.0, wire-alike s a h.1)
obstacle-alike s p obstacle.Unknown a h = h
