-- The ports that the agents' lines show, their partners, and what is written at them.
use Rattle.std.proofs.Common.{◌≡◌, ℕ, ◌+◌, ◌<◌, List, [], ◌∷◌, length, map, flat_map, Some, unwrap_or, refl, sym, ap, ◌∙◌, arith}
use Rattle.std.specs.Prelude.{IsSome}
use Rattle.std.specs.List.{AllByRecursion}
use Rattle.std.specs.List.Sorted.{IsStrictlySortedBy}
use Rattle.std.specs.declared.cmp.Ordering.TheVariants.{Less}
use Rattle.std.proofs.lemmas.Map.Keys.{sorted_head}
use Rattle.std.proofs.lemmas.Option.{slice_get-get_or}
use Rattle.ic_name.specs.Names.{Name, name_cmp}
use Rattle.ic_name.specs.Kinds.{arity}
use Rattle.ic_name.specs.declared.kinds.Kind.{Kind}
use Rattle.ic_name.specs.declared.kinds.Kind.TheVariants.{Gamma, Delta, Eps}
use Rattle.ic_name.specs.declared.ports.Port.{Port}
use Rattle.ic_name.specs.declared.ports.Port.TheVariants.{Of}
use Rattle.ic_name.specs.declared.ports.Port.TheVariants as port
use Rattle.ic_theory.specs.Listed.{NetAgent, ListedNet, IsListing, agent_among, partner_at, free_among, shown}
use Rattle.ic_text.specs.NetText.{name_text, shown_ports, partner_of, label_of, port_label, numbered_wires}
use Rattle.ic_text.specs.Printable.{IsFreeName, IsPrintable}
use Rattle.ic_text.proofs.Everywhere.{each, each_in, each_both, each_so, each_map, each_of_map, each_flat}
use Rattle.ic_text.proofs.Owners.{found_agent}
use Rattle.ic_text.proofs.Spelled.{IsNameText, numbered_is_name}

-- the ports of agents, as their lines show them
abbrev pub line_ports : NetAgent → List Port
line_ports a = map (λ i. Of a.name i) (shown_ports a.kind)

abbrev pub all_ports : List NetAgent → List Port
all_ports as' = flat_map line_ports as'

-- ---- agents by name

-- the names behind a name in order
pub names_above : (n : Name) (as' : List NetAgent) → IsStrictlySortedBy name_cmp (n ∷ map (λ (a : NetAgent). a.name) as') → AllByRecursion (λ b. name_cmp n b.name ≡ Less) as'
names_above n as' s = each_map (λ m. name_cmp n m ≡ Less) (λ (a : NetAgent). a.name) as' (sorted_head name_cmp n (map (λ (a : NetAgent). a.name) as') s)

-- each agent is found by its name
agents_found : (l : ListedNet) → IsListing l → AllByRecursion (λ a. agent_among a.name l.agents ≡ Some a) l.agents
agents_found l h = each_in (λ a. agent_among a.name l.agents ≡ Some a) l.agents (λ a i. found_agent a h.in_order i.1)

-- ---- partners

-- the ports of a line are the agent's
ports_within : (k : Kind) → AllByRecursion (λ i. i < arity k + 1) (shown_ports k)
ports_within Gamma = (omega arith, (omega arith, (omega arith, tt)))
ports_within Delta = (omega arith, (omega arith, (omega arith, tt)))
ports_within Eps = (omega arith, tt)

-- the partner of each port of a line is the one that the net shows
pub partners_shown : (l : ListedNet) → IsListing l → AllByRecursion (λ a. AllByRecursion (λ i. (shown l).partner (Of a.name i) ≡ Some (partner_of a i)) (shown_ports a.kind)) l.agents
partners_shown l h = each_both (λ a. agent_among a.name l.agents ≡ Some a) (λ (a : NetAgent). length a.partners ≡ arity a.kind + 1) _ l.agents by_agent (agents_found l h) (each _ l.agents h.whole)
  where
    by_agent : (a : NetAgent) → agent_among a.name l.agents ≡ Some a → length a.partners ≡ arity a.kind + 1 → AllByRecursion (λ i. (shown l).partner (Of a.name i) ≡ Some (partner_of a i)) (shown_ports a.kind)
    by_agent a found whole = each_so _ _ (shown_ports a.kind) (λ i lt. ap (partner_at i) found ∙ slice_get-get_or a.partners i (Of a.name i) (rw whole lt)) (ports_within a.kind)

-- what holds of each port of an agent that has a partner holds of the ports of the lines
pub each_port : (l : ListedNet) → IsListing l → (P : Port → Type 0) → ((n : Name) (i : ℕ) (q : Port) → (shown l).partner (Of n i) ≡ Some q → P (Of n i)) → AllByRecursion P (all_ports l.agents)
each_port l h P f = each_flat P line_ports l.agents (each_so _ _ l.agents by_agent (partners_shown l h))
  where
    by_agent : (a : NetAgent) → AllByRecursion (λ i. (shown l).partner (Of a.name i) ≡ Some (partner_of a i)) (shown_ports a.kind) → AllByRecursion P (line_ports a)
    by_agent a k = each_of_map P (λ i. Of a.name i) (shown_ports a.kind) (each_so _ _ (shown_ports a.kind) (λ i e. f a.name i (partner_of a i) e) k)

-- ---- labels

-- what is written at a port, by the partner that the net shows
abbrev pub label_at : List (List ℕ) → ListedNet → Port → List ℕ
label_at names l p = label_of names (numbered_wires l.agents) p (unwrap_or ((shown l).partner p) p)

-- a label by the partner
pub label_by : (names : List (List ℕ)) (l : ListedNet) (p q : Port) → (shown l).partner p ≡ Some q → label_at names l p ≡ label_of names (numbered_wires l.agents) p q
label_by names l p q e = ap (λ o. label_of names (numbered_wires l.agents) p (unwrap_or o p)) e

-- the labels of the lines
pub labels_shown : (names : List (List ℕ)) (l : ListedNet) → IsListing l → AllByRecursion (λ a. AllByRecursion (λ i. port_label names (numbered_wires l.agents) a i ≡ label_at names l (Of a.name i)) (shown_ports a.kind)) l.agents
labels_shown names l h = each_so _ _ l.agents (λ a k. each_so _ _ (shown_ports a.kind) (λ i e. sym (label_by names l (Of a.name i) (partner_of a i) e)) k) (partners_shown l h)

-- a name that a port is linked to is one of the free names
pub loose : (names : List (List ℕ)) (l : ListedNet) → IsPrintable names l → (p : Port) (j : ℕ) → (shown l).partner p ≡ Some (port.Name j) → IsSome (free_among j l.frees)
loose names l h p j e = rw ((h.wired p (port.Name j) e).1) refl

-- a name that may stand free is a name
pub free_is_name : (x : List ℕ) → IsFreeName x → IsNameText x
free_is_name [] h = absurd h
free_is_name (b ∷ bs) h = (h.0, each _ bs h.2)

-- a label is a name
pub label_is_name : (names : List (List ℕ)) (l : ListedNet) → IsPrintable names l → (p q : Port) → (shown l).partner p ≡ Some q → IsNameText (label_of names (numbered_wires l.agents) p q)
label_is_name names l h p (Of n i) e = numbered_is_name _
label_is_name names l h p (port.Name j) e = free_is_name (name_text names j) (h.free j (loose names l h p j e))

-- and so are those of the lines
pub labels_are_names : (names : List (List ℕ)) (l : ListedNet) → IsPrintable names l → AllByRecursion (λ a. AllByRecursion (λ i. IsNameText (port_label names (numbered_wires l.agents) a i)) (shown_ports a.kind)) l.agents
labels_are_names names l h = each_so _ _ l.agents (λ a k. each_so _ _ (shown_ports a.kind) (λ i e. label_is_name names l h (Of a.name i) (partner_of a i) e) k) (partners_shown l h.listing)
