-- Links that the start made are links of a proper start.
use Rattle.std.proofs.Common.{◌≡◌, ℕ, ◌+◌, ◌≤◌, ◌<◌, ◌&&◌, Bool, true, false, List, [], ◌∷◌, length, map, None, refl, ap, arith, leb, inl, inr}
use Rattle.std.proofs.lemmas.Bool.{cases_lt, and_parts}
use Rattle.std.proofs.lemmas.Bool.Decides.{nat_tests}
use Rattle.ic_name.specs.Names.{Name, start_name}
use Rattle.ic_name.specs.Kinds.{arity}
use Rattle.ic_name.specs.Same.{same_name}
use Rattle.ic_name.proofs.SameFacts.{same_name_true, same_port_self}
use Rattle.ic_name.specs.declared.kinds.Kind.{Kind}
use Rattle.ic_name.specs.declared.kinds.Kind.TheVariants.{Gamma, Delta, Eps}
use Rattle.ic_name.specs.declared.rules.Profile.{Profile}
use Rattle.ic_name.specs.declared.ids.Spot.{Spot}
use Rattle.ic_name.specs.declared.ids.Spot.TheVariants as spots
use Rattle.ic_name.specs.declared.ids.Link.{Link}
use Rattle.ic_name.specs.declared.ports.Port.{Port}
use Rattle.ic_theory.specs.Links.{degree}
use Rattle.ic_theory.specs.Born.{named}
use Rattle.ic_theory.specs.Starts.{Start, IsProper, net_shape, start_links, port_times}
use Rattle.ic_start.specs.Links.{IsOfStart, AreNumbered}
use Rattle.ic_start.specs.Starts.{port_at, join_of, IsStartSpot, AreStartLinks, start_of}
use Rattle.ic_text.proofs.LinkEnds.{hit, ends, degree_is}

-- no symbol has more than three ports
few_ports : (k : Kind) → arity k ≤ 2
few_ports Gamma = omega arith
few_ports Delta = omega arith
few_ports Eps = omega arith

-- a port that agents with these kinds have
port_is_one : (k slot i : ℕ) (kinds : List Kind) → 1 ≤ port_times (start_name slot) i (named start_name k kinds) → (slot < k + length kinds) × (i ≤ 2)
port_is_one k slot i [] h = absurd (omega (arith, h))
port_is_one k slot i (x ∷ xs) h = by_test (same_name (start_name slot) (start_name k) && leb i (arity x)) refl (port_is_one (k + 1) slot i xs)
  where
    by_test : (b : Bool) → (same_name (start_name slot) (start_name k) && leb i (arity x)) ≡ b
        → (1 ≤ port_times (start_name slot) i (named start_name (k + 1) xs) → (slot < (k + 1) + length xs) × (i ≤ 2))
        → (slot < k + length (x ∷ xs)) × (i ≤ 2)
    by_test true e ih =
        let a = and_parts (same_name (start_name slot) (start_name k)) (leb i (arity x)) e in
        let s : slot ≡ k = ap (λ (n : Name). n.start) (same_name_true (start_name slot) (start_name k) a.0) in
        let le : i ≤ arity x = (let f = a.1 in grind (arith, nat_tests)) in
        (omega (arith, s), omega (arith, le, few_ports x))
    by_test false e ih =
        let m = ih (let g = rw e at h in omega (arith, g)) in
        (omega (arith, m.0), m.1)

-- a spot with a link end, in a proper start
spot_is_in : (s : Start) → IsProper s → (p : Spot) → IsOfStart p → 1 ≤ degree net_shape (start_links s) (port_at p) → IsStartSpot (length s.kinds) (length s.names) p
spot_is_in s proper (spots.Agent a i) z h =
    let m = port_is_one 0 a.slot i s.kinds (omega (arith, h, proper.agent_ports (start_name a.slot) i)) in
    (omega (arith, m.0), z, m.1)
spot_is_in s proper (spots.Name j) z h =
    elim (cases_lt j (length s.names)) [
      | inl lt ↦ lt
      | inr le ↦ absurd (omega (arith, h, proper.no_others j le))
    ]

-- a port is itself
hit_self : (p : Port) → hit p p ≡ 1
hit_self p = rw (same_port_self p) refl

-- links whose ends are among those of the start
links_are_in : (s : Start) → IsProper s → (k : ℕ) (ls : List Link) → AreNumbered k ls → ((p : Port) → ends p (map join_of ls) ≤ degree net_shape (start_links s) p)
    → AreStartLinks (length s.kinds) (length s.names) k ls
links_are_in s proper k [] h few = tt
links_are_in s proper k (l ∷ ls) h few = (
  h.0,
  spot_is_in s proper l.a h.1 (omega (arith, few (port_at l.a), hit_self (port_at l.a))),
  spot_is_in s proper l.b h.2 (omega (arith, few (port_at l.b), hit_self (port_at l.b))),
  links_are_in s proper (k + 1) ls h.3 (λ p. omega (arith, few p)),
)

-- links that the start made, which make it proper, are links of a start
pub are_start_links : (kinds : List Kind) (links : List Link) (names : List (List ℕ)) (profile : Profile) → AreNumbered 0 links → IsProper (start_of kinds links names profile) → AreStartLinks (length kinds) (length names) 0 links
are_start_links kinds links names profile h proper =
    links_are_in (start_of kinds links names profile) proper 0 links h (λ p. omega (arith, degree_is None 0 (map join_of links) p))
