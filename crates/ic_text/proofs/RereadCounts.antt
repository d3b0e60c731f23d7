-- The net of a printed text has as many wires as the net that was printed.
use Rattle.std.proofs.Common.{◌≡◌, ℕ, ◌+◌, Bool, List, [], ◌∷◌, length, map, flat_map, refl, sym, ap, subst, ◌∙◌, arith, Some}
use Rattle.std.specs.Prelude.{cond}
use Rattle.std.specs.List.{AllByRecursion}
use Rattle.std.specs.Ordering.{is_lt}
use Rattle.std.proofs.lemmas.List.{length-map}
use Rattle.std.proofs.lemmas.List.Folds.{flat_map-map}
use Rattle.ic_name.specs.Names.{Name, start_name}
use Rattle.ic_name.specs.declared.ports.Port.{Port}
use Rattle.ic_name.specs.declared.ports.Port.TheVariants.{Of}
use Rattle.ic_name.specs.declared.ports.Port.TheVariants as port
use Rattle.ic_theory.specs.Orders.{Alike, IsIn}
use Rattle.ic_theory.proofs.Picks.{pick-map}
use Rattle.ic_theory.proofs.Alikes.{alike-length}
use Rattle.ic_theory.proofs.EachOnce.{once_alike}
use Rattle.ic_theory.specs.Listed.{NetAgent, ListedNet, partner_at, shown, port_cmp, ends_from, ends_of, wires_of}
use Rattle.ic_theory.specs.Starts.{Start}
use Rattle.ic_text.specs.NetText.{name_text}
use Rattle.ic_text.specs.Reread.{line_of, reread_port}
use Rattle.ic_text.proofs.Elements.{each_in, place_in, map_cases}
use Rattle.ic_text.proofs.Everywhere.{each_flat}
use Rattle.ic_text.proofs.Owners.{found_agent}
use Rattle.ic_text.proofs.FreeNames.{same_free}
use Rattle.ic_text.proofs.Pointwise.{flat_map_mapped}
use Rattle.ic_text.proofs.PrintedStart.{number_in}
use Rattle.ic_text.proofs.Tallies.{tally, tally_is, tally-append, tally_map}
use Rattle.ic_text.proofs.NamePairs.{name_pairs, pairs_once, pair_partners, pair_there, is_rising, half_rise}
use Rattle.ic_text.proofs.RereadListing.{IsRereadListing}
use Rattle.ic_text.proofs.RereadAgents.{image, same_agents}
use Rattle.ic_text.proofs.RereadOrder.{IsFound, cmp_kept}
use Rattle.ic_text.proofs.RereadWires.{IsEnd, partner_end, agent_found}
use Rattle.ic_theory.proofs.OnceLists.{once_map}

-- a port that is less than its partner
abbrev leads : Port × Port → Bool
leads x = is_lt (port_cmp x.0 x.1)

-- the ports of agents, with their partners
abbrev agent_ends : List NetAgent → List (Port × Port)
agent_ends as' = flat_map (λ a. ends_from a.name 0 a.partners) as'

-- the free names, with their partners
abbrev free_ends : List (ℕ × Port) → List (Port × Port)
free_ends fs = map (λ (x : ℕ × Port). (port.Name x.0, x.1)) fs

-- of the free names those lead whose partner is a greater one
free_leads : (fs : List (ℕ × Port)) → tally leads (free_ends fs) ≡ tally is_rising (name_pairs fs)
free_leads [] = refl
free_leads ((j, port.Name k) ∷ fs) = ap (λ n. cond (is_rising (j, k)) 1 0 + n) (free_leads fs)
free_leads ((j, Of n i) ∷ fs) = omega (arith, free_leads fs)

-- so these make the count of wires
wires_are : (l : ListedNet) → wires_of l ≡ tally leads (agent_ends l.agents) + tally is_rising (name_pairs l.frees)
wires_are l = sym (tally_is leads (ends_of l)) ∙ tally-append leads (agent_ends l.agents) (free_ends l.frees) ∙ ap (λ n. tally leads (agent_ends l.agents) + n) (free_leads l.frees)

module _ (names : List (List ℕ)) (l m : ListedNet) (s : Start) (is : IsRereadListing names l s m) where
  -- a port with its partner, as they are read
  abbrev both : Port × Port → Port × Port
  both x = (reread_port names l s x.0, reread_port names l s x.1)

  -- the ports of an agent, as they are read
  ends_kept : (n : Name) (i : ℕ) (ps : List Port) → ends_from (start_name (line_of l.agents n)) i (map (reread_port names l s) ps) ≡ map both (ends_from n i ps)
  ends_kept n i [] = refl
  ends_kept n i (p ∷ ps) = ap (λ es. both (Of n i, p) ∷ es) (ends_kept n (i + 1) ps)

  -- those of all agents
  agents_kept : agent_ends m.agents ≡ map both (agent_ends l.agents)
  agents_kept =
      ap agent_ends (same_agents names l m s is)
      ∙ flat_map-map (λ (a : NetAgent). ends_from a.name 0 a.partners) (image names l s) l.agents
      ∙ flat_map_mapped _ both (λ (a : NetAgent). ends_from a.name 0 a.partners) l.agents (λ a k. ends_kept a.name 0 a.partners)

  -- a port leads after reading where it did before
  leads_kept : (n : Name) (i : ℕ) (q : Port) → IsFound l.agents (Of n i) → IsEnd l.agents q → leads (both (Of n i, q)) ≡ leads (Of n i, q)
  leads_kept n i (port.Name j) f g = refl
  leads_kept n i (Of x j) f g = ap is_lt (cmp_kept names l s is.printed.listing.in_order n x i j f g)

  each_kept : (a : NetAgent) → IsIn a l.agents → (i : ℕ) (ps : List Port) → AllByRecursion (IsEnd l.agents) ps → AllByRecursion (λ x. leads (both x) ≡ leads x) (ends_from a.name i ps)
  each_kept a k i [] h = tt
  each_kept a k i (p ∷ ps) h = (leads_kept a.name i p (agent_found names l s is.printed a i k) h.0, each_kept a k (i + 1) ps h.1)

  -- the partners of an agent
  partners_end : (a : NetAgent) → IsIn a l.agents → AllByRecursion (IsEnd l.agents) a.partners
  partners_end a k = each_in _ a.partners (λ q j. let r = place_in j.1 in
      partner_end names l s is.printed (Of a.name r.0) q (ap (partner_at r.0) (found_agent a is.printed.listing.in_order k.1) ∙ r.1))

  -- as many ports of agents lead
  same_leads : tally leads (agent_ends m.agents) ≡ tally leads (agent_ends l.agents)
  same_leads =
      ap (tally leads) agents_kept
      ∙ tally_map leads leads both (agent_ends l.agents)
      (each_flat _ (λ (a : NetAgent). ends_from a.name 0 a.partners) l.agents (each_in _ l.agents (λ a k. each_kept a k 0 a.partners (partners_end a k))))

  -- the number of a free name's text
  abbrev number : ℕ → ℕ
  number j = number_in s (name_text names j)

  abbrev numbers : ℕ × ℕ → ℕ × ℕ
  numbers z = (number z.0, number z.1)

  -- free names stay apart
  number_one : (i j : ℕ) (p q : Port) → (shown l).partner (port.Name i) ≡ Some p → (shown l).partner (port.Name j) ≡ Some q → number i ≡ number j → i ≡ j
  number_one i j p q e f h = same_free names l is.printed i j p q e f (sym (is.texts i p e) ∙ ap (name_text s.names) h ∙ is.texts j q f)

  -- the pairs of free names that are partners
  pairs_kept : Alike (map numbers (name_pairs l.frees)) (name_pairs m.frees)
  pairs_kept = once_alike _ _ (once_map numbers (name_pairs l.frees) apart (pairs_once l.frees is.printed.listing.numbered)) (pairs_once m.frees is.printable.listing.numbered) from to
    where
      of_pair : (z : ℕ × ℕ) → IsIn z (name_pairs l.frees) → (shown l).partner (port.Name z.0) ≡ Some (port.Name z.1)
      of_pair z i = pair_partners l is.printed.listing z i

      back : (z : ℕ × ℕ) → IsIn z (name_pairs l.frees) → (shown l).partner (port.Name z.1) ≡ Some (port.Name z.0)
      back z i = (is.printed.wired (port.Name z.0) (port.Name z.1) (of_pair z i)).1

      apart : (x y : ℕ × ℕ) → IsIn x (name_pairs l.frees) → IsIn y (name_pairs l.frees) → numbers x ≡ numbers y → x ≡ y
      apart x y i j e =
          let a = number_one x.0 y.0 (port.Name x.1) (port.Name y.1) (of_pair x i) (of_pair y j) (ap (λ (z : ℕ × ℕ). z.0) e) in
          let b = number_one x.1 y.1 (port.Name x.0) (port.Name y.0) (back x i) (back y j) (ap (λ (z : ℕ × ℕ). z.1) e) in
          λ u. (a u, b u)

      from : (x : ℕ × ℕ) → IsIn x (map numbers (name_pairs l.frees)) → IsIn x (name_pairs m.frees)
      from x i =
          let r = map_cases numbers (name_pairs l.frees) i in
          subst (λ z. IsIn z (name_pairs m.frees)) (sym r.2) (pair_there m (number r.0.0) (number r.0.1) (is.partners (port.Name r.0.0) (port.Name r.0.1) (of_pair r.0 r.1)))

      to : (x : ℕ × ℕ) → IsIn x (name_pairs m.frees) → IsIn x (map numbers (name_pairs l.frees))
      to x i = let r = is.no_others (port.Name x.0) (port.Name x.1) (pair_partners m is.printable.listing x i) in by_ports r.0 r.1 r.2 r.3 r.4
        where
          by_ports : (p q : Port) → (shown l).partner p ≡ Some q → port.Name x.0 ≡ reread_port names l s p → port.Name x.1 ≡ reread_port names l s q → IsIn x (map numbers (name_pairs l.frees))
          by_ports (Of n i) q e f g = cc
          by_ports (port.Name j) (Of n i) e f g = cc
          by_ports (port.Name j) (port.Name k) e f g =
              let a : x.0 ≡ number j = cc in
              let b : x.1 ≡ number k = cc in
              let same : ◌≡◌ {A = ℕ × ℕ} (numbers (j, k)) x = λ u. (sym a u, sym b u) in
              subst (λ z. IsIn z (map numbers (name_pairs l.frees))) same (_, pick-map numbers (pair_there l j k e).1)

  -- as many of these rise
  same_rise : tally is_rising (name_pairs m.frees) ≡ tally is_rising (name_pairs l.frees)
  same_rise =
      let long : length (map numbers (name_pairs l.frees)) ≡ length (name_pairs l.frees) = length-map (name_pairs l.frees) numbers in
      omega (arith, half_rise names l is.printed, half_rise s.names m is.printable, alike-length pairs_kept, long)

  -- so the wires are as many
  pub same_count : wires_of m ≡ wires_of l
  same_count = wires_are m ∙ (λ u. same_leads u + same_rise u) ∙ sym (wires_are l)
