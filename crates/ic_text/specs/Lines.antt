-- The pieces of the text that the printer writes one by one.
use Rattle.std.specs.Prelude.{ℕ, List, [], ◌++◌, codes}
use Rattle.std.specs.Borrow.{Bor}
use Rattle.std.specs.BTreeMap.{insert_entry}
use Rattle.std.specs.Cmp.Lexicographic.{slice_cmp}
use Rattle.std.specs.List.{fold, cons_option}
use Rattle.std.specs.Ordering.{nat_cmp}
use Rattle.ic_name.specs.declared.ports.Port.{Port}
use Rattle.ic_theory.specs.Listed.{NetAgent}
use Rattle.ic_text.specs.NetText.{free_wire, numbered, port_label}

-- the line of the ring of this number
abbrev pub ring_line : ℕ → List ℕ
ring_line k = numbered k ++ codes " = " ++ numbered k ++ codes ";\n"

-- the auxiliary ports in the line of a gamma or delta, up to its principal port
abbrev pub auxiliaries : List (List ℕ) → List Port → NetAgent → List ℕ
auxiliaries names ws a = port_label names ws a 1 ++ codes "," ++ port_label names ws a 2 ++ codes ") = "

-- two texts that are lent
abbrev pub lent_texts : Bor (List ℕ) × Bor (List ℕ) → List ℕ × List ℕ
lent_texts x = (x.0.now, x.1.now)

-- these wires between free names, with the one of a loose name, where it is the lesser of two
abbrev pub with_free_wire : List (List ℕ) → List (List ℕ × List ℕ) → ℕ × Port → List (List ℕ × List ℕ)
with_free_wire names es f = fold (λ es x. insert_entry (slice_cmp nat_cmp) es x.0 x.1) es (cons_option (free_wire names f) [])
