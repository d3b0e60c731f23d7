-- The names of a printed text within the reader's limits are short.
use Rattle.std.proofs.Common.{◌≡◌, ℕ, zero, suc, ◌+◌, ◌*◌, ◌^◌, ◌≤◌, ◌<◌, List, [], ◌∷◌, ◌++◌, length, map, flat_map, Some, ap, ◌∙◌, arith, codes, length-append}
use Rattle.std.specs.List.{AllByRecursion}
use Rattle.std.proofs.lemmas.Fmt.{length-decimal-le}
use Rattle.ic_name.specs.Names.{Name}
use Rattle.ic_name.specs.declared.ports.Port.{Port}
use Rattle.ic_name.specs.declared.ports.Port.TheVariants.{Of}
use Rattle.ic_name.specs.declared.ports.Port.TheVariants as port
use Rattle.ic_theory.specs.Listed.{ListedNet, wires_of, shown}
use Rattle.ic_text.specs.declared.grammar.limits.TheConstants.{MAX_NAME}
use Rattle.ic_text.proofs.WireCounts.{few_numbers}
use Rattle.ic_text.specs.NetText.{name_text, agent_line, free_line, free_wires, numbered, numbered_wires, ring_lines, header, profile_line, net_text}
use Rattle.ic_text.specs.Printable.{IsPrintable, IsWithinLimits}
use Rattle.ic_text.proofs.Everywhere.{each_append, each_of_map}
use Rattle.ic_text.proofs.FreePairs.{each_free_text}
use Rattle.ic_text.proofs.LabelFacts.{label_at as label_number}
use Rattle.ic_text.proofs.PairCounts.{is_free}
use Rattle.ic_text.proofs.NameCounts.{printed}
use Rattle.ic_text.proofs.ShownPorts.{all_ports, each_port, label_at, label_by}
use Rattle.ic_text.proofs.TextNames.{pair_names, ring_names, text_names}

-- a ring has a line of its own
rings_long : (k n : ℕ) → n ≤ length (ring_lines k n)
rings_long k zero = omega arith
rings_long k (suc n) =
    let one = length-append (numbered k ++ codes " = " ++ numbered k ++ codes ";\n") (ring_lines (k + 1) n) in
    let two = length-append (numbered k ++ codes " = " ++ numbered k) (codes ";\n") in
    let rest = rings_long (k + 1) n in
    omega arith

-- so there are no more than the text has bytes
rings_within : (names : List (List ℕ)) (l : ListedNet) → l.rings ≤ length (net_text names l)
rings_within names l =
    let ws = numbered_wires l.agents in
    let front : List ℕ = header (length l.agents) (wires_of l) l.rings ++ profile_line l.profile ++ flat_map (agent_line names ws) l.agents ++ flat_map free_line (free_wires names l.frees) in
    let all : length (front ++ ring_lines (length ws) l.rings) ≡ length front + length (ring_lines (length ws) l.rings) = length-append front (ring_lines (length ws) l.rings) in
    let rings = rings_long (length ws) l.rings in
    omega arith

-- the numbers of a text within the limits
pub numbers_within : (names : List (List ℕ)) (l : ListedNet) → IsWithinLimits names l → 3 * length l.agents + l.rings < 10 ^ 7
numbers_within names l h =
    let rings = rings_within names l in
    let short = h.short in
    let few = h.few_agents in
    omega arith

-- a number's text is short
number_short : (k : ℕ) → k < 10 ^ 7 → length (numbered k) ≤ MAX_NAME
number_short k lt = let d = length-decimal-le 7 k (omega arith) lt (omega arith) in omega arith

module _ (names : List (List ℕ)) (l : ListedNet) (h : IsPrintable names l) (w : IsWithinLimits names l) where
  -- a text of at most so many bytes
  abbrev IsShort : List ℕ → Type 0
  IsShort x = length x ≤ MAX_NAME

  label_short : (n : Name) (i : ℕ) (q : Port) → (shown l).partner (Of n i) ≡ Some q → IsShort (label_at names l (Of n i))
  label_short n i (Of m j) e =
      let t = label_number names l h.listing n m i j e in
      let below = t.below in
      let few = few_numbers l.agents in
      let all = numbers_within names l w in
      let same : length (label_at names l (Of n i)) ≡ length (numbered t.number) = ap length (label_by names l (Of n i) (Of m j) e ∙ t.text) in
      let short = number_short t.number (omega arith) in
      omega arith
  label_short n i (port.Name j) e =
      let same : length (label_at names l (Of n i)) ≡ length (name_text names j) = ap length (label_by names l (Of n i) (port.Name j) e) in
      let short = w.short_names j (is_free l j (Of n i) (h.wired (Of n i) (port.Name j) e).1) in
      omega arith

  pairs_short : (es : List (List ℕ × List ℕ)) → AllByRecursion (λ x. IsShort x.0 × IsShort x.1) es → AllByRecursion IsShort (pair_names es)
  pairs_short [] k = tt
  pairs_short (e ∷ es) k = (k.0.0, (k.0.1, pairs_short es k.1))

  rings_short : (k n : ℕ) → k + n < 10 ^ 7 → AllByRecursion IsShort (ring_names k n)
  rings_short k zero lt = tt
  rings_short k (suc n) lt = let one = number_short k (omega arith) in (one, (one, rings_short (k + 1) n (omega arith)))

  -- each name is short
  pub names_short : AllByRecursion IsShort (printed names l)
  names_short =
      let few = few_numbers l.agents in
      let all = numbers_within names l w in
      rw (text_names names l h.listing)
      (each_append IsShort (map (label_at names l) (all_ports l.agents)) _ (each_of_map IsShort (label_at names l) (all_ports l.agents) (each_port l h.listing _ label_short))
      (each_append IsShort (pair_names (free_wires names l.frees)) _ (pairs_short (free_wires names l.frees) (each_free_text names l h IsShort (λ j m e. w.short_names j (is_free l j (port.Name m) e))))
      (rings_short (length (numbered_wires l.agents)) l.rings (omega arith))))
