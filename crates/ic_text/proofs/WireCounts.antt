-- How many wires the agents' lines show by numbers.
use Rattle.std.proofs.Common.{◌≡◌, ◌+◌, ◌*◌, ◌≤◌, Bool, true, false, List, [], ◌∷◌, ◌++◌, length, arith, length-append}
use Rattle.std.specs.Prelude.{Option, Some, None, if◌then◌else◌}
use Rattle.std.specs.List.{fold, filter_map, cons_option, flat_map, list_any}
use Rattle.ic_name.specs.Same.{same_port}
use Rattle.ic_name.specs.declared.kinds.Kind.{Kind}
use Rattle.ic_name.specs.declared.kinds.Kind.TheVariants.{Gamma, Delta, Eps}
use Rattle.ic_name.specs.declared.ports.Port.{Port}
use Rattle.ic_name.specs.declared.ports.Port.TheVariants.{Of}
use Rattle.ic_theory.specs.Listed.{NetAgent}
use Rattle.ic_text.specs.NetText.{add, line_wires, numbered_wires, partner_of, shown_ports, wire_of}

-- at most one value for each element
filter_map_short : {X Y : Type 0} (f : X → Option Y) (xs : List X) → length (filter_map f xs) ≤ length xs
filter_map_short f [] = omega arith
filter_map_short f (x ∷ xs) = one_more (f x) (filter_map_short f xs) where
  one_more : (o : Option _) → length (filter_map f xs) ≤ length xs → length (cons_option o (filter_map f xs)) ≤ length (x ∷ xs)
  one_more None h = omega arith
  one_more (Some y) h = omega arith

-- one wire more at most
add_short : (ws : List Port) (w : Port) → length (add ws w) ≤ length ws + 1
add_short ws w = by_test (list_any (same_port w) ws) where
  by_test : (b : Bool) → length (if b then ws else ws ++ w ∷ []) ≤ length ws + 1
  by_test true = omega arith
  by_test false = omega (arith, length-append ws (w ∷ []))

-- at most one number for each wire that is entered
fold_short : (ws xs : List Port) → length (fold add ws xs) ≤ length ws + length xs
fold_short ws [] = omega arith
fold_short ws (x ∷ xs) =
    let one = add_short ws x in
    let others = fold_short (add ws x) xs in
    omega arith

-- a line shows at most three ports
few_ports : (k : Kind) → length (shown_ports k) ≤ 3
few_ports Gamma = omega arith
few_ports Delta = omega arith
few_ports Eps = omega arith

-- at most three wires for each agent's line
lines_short : (as' : List NetAgent) → length (flat_map line_wires as') ≤ 3 * length as'
lines_short [] = omega arith
lines_short (a ∷ as') =
    let one = filter_map_short (λ i. wire_of (Of a.name i) (partner_of a i)) (shown_ports a.kind) in
    let three = few_ports a.kind in
    let others = lines_short as' in
    let all : length (line_wires a ++ flat_map line_wires as') ≡ length (line_wires a) + length (flat_map line_wires as') = length-append (line_wires a) (flat_map line_wires as') in
    omega arith

-- at most three numbers for each agent
pub few_numbers : (as' : List NetAgent) → length (numbered_wires as') ≤ 3 * length as'
few_numbers as' =
    let all = fold_short [] (flat_map line_wires as') in
    let few = lines_short as' in
    omega arith
