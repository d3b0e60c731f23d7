-- A port of an agent has one link in the start of a printed text.
use Rattle.std.proofs.Common.{◌≡◌, ℕ, ◌+◌, ◌≤◌, ◌<◌, List, [], length, inl, inr, refl, arith, Some, None}
use Rattle.std.proofs.lemmas.Bool.{cases_lt}
use Rattle.ic_name.specs.Names.{Name}
use Rattle.ic_name.specs.declared.ports.Port.{Port}
use Rattle.ic_name.specs.declared.ports.Port.TheVariants.{Of}
use Rattle.ic_theory.specs.Links.{degree}
use Rattle.ic_theory.specs.Firings.{nothing}
use Rattle.ic_theory.specs.Listed.{ListedNet, shown}
use Rattle.ic_theory.specs.Starts.{Start, net_shape, start_links}
use Rattle.ic_theory.specs.Wires.{IsLoose}
use Rattle.ic_theory.proofs.Loose.{loose_degree}
use Rattle.ic_text.proofs.LinkEnds.{ends, degree_is}
use Rattle.ic_text.specs.Printable.{IsPrintable}
use Rattle.ic_text.specs.Reread.{line_of, reread_port}
use Rattle.ic_text.proofs.Owners.{owner_of}
use Rattle.ic_text.proofs.AgentLines.{agent_there}
use Rattle.ic_text.proofs.PrintedStart.{number_in, IsPrintedStart, same_number}
use Rattle.ic_text.proofs.PrintedLinks.{text_port}

module _ (names : List (List ℕ)) (l : ListedNet) (ok : IsPrintable names l) (s : Start) (is : IsPrintedStart names l s) where
  -- the links at a port are the ends at it
  pub joins_ends : (p : Port) → degree net_shape (start_links s) p ≡ ends p s.joins
  joins_ends p = degree_is None 0 s.joins p

  -- a text with a link has a number below the number of names
  pub text_low : (x : List ℕ) → 1 ≤ ends (text_port s x) s.joins → number_in s x < length s.names
  text_low x h =
      elim (cases_lt (number_in s x) (length s.names)) [
        | inl lt ↦ lt
        | inr le ↦ (let z = is.proper.no_others (number_in s x) le in absurd (omega (arith, z, joins_ends (text_port s x))))
      ]

  -- so it is the only one with its port
  pub text_one : (x y : List ℕ) → 1 ≤ ends (text_port s x) s.joins → text_port s x ≡ text_port s y → x ≡ y
  text_one x y h e = let f : number_in s x ≡ number_in s y = cc in same_number s.names is.once x y (text_low x h) f

  -- a port of an agent is one of the start's agents'
  pub agent_loose : (n : Name) (i : ℕ) (q : Port) → (shown l).partner (Of n i) ≡ Some q → IsLoose s [] (reread_port names l s (Of n i))
  agent_loose n i q e =
      let o = owner_of l ok.listing n i q e in
      let there_is = agent_there 0 l.agents n o.agent o.found in
      let line : 0 + line_of l.agents n ≡ line_of l.agents n = omega arith in
      (o.agent.kind, rw (is.kinds, ← line) there_is, o.within, refl)

  -- it has one link
  pub agent_degree : (n : Name) (i : ℕ) (q : Port) → (shown l).partner (Of n i) ≡ Some q → degree net_shape (start_links s) (reread_port names l s (Of n i)) ≡ 1
  agent_degree n i q e = loose_degree s is.proper [] nothing (reread_port names l s (Of n i)) (agent_loose n i q e)
