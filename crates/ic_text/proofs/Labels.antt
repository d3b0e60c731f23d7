-- The number that is written at a port.
use Rattle.std.proofs.Common.{◌≡◌, ℕ, List, ap, ◌∙◌, sym}
use Rattle.std.specs.Prelude.{Some, position, unwrap_or}
use Rattle.ic_name.specs.Names.{Name}
use Rattle.ic_name.specs.Same.{same_port}
use Rattle.ic_name.specs.declared.ports.Port.{Port}
use Rattle.ic_name.specs.declared.ports.Port.TheVariants.{Of}
use Rattle.ic_theory.specs.Listed.{NetAgent}
use Rattle.ic_text.specs.NetText.{label_of, numbered, partner_of, port_label, wire_of}
use Rattle.ic_text.specs.Numbers.{port_wire, wire_place}
use Rattle.ic_text.proofs.Wires.{wire_between}

-- where the partner is a port of an agent, it is the place of the wire between the two
pub number_label : (names : List (List ℕ)) (ws : List Port) (a : NetAgent) (i : ℕ) (n : Name) (j : ℕ) (k : ℕ) → partner_of a i ≡ Of n j → k ≡ unwrap_or (wire_place ws (port_wire a i)) 0 → numbered k ≡ port_label names ws a i
number_label names ws a i n j k partner number =
    let here = Of a.name i in
    let w = wire_between here n j in
    let wire : port_wire a i ≡ Some w.wire = ap (wire_of here) partner ∙ w.is in
    let place : k ≡ unwrap_or (position (same_port w.wire) ws) 0 = number ∙ ap (λ o. unwrap_or (wire_place ws o) 0) wire in
    let label : label_of names ws here (Of n j) ≡ numbered (unwrap_or (position (same_port w.wire) ws) 0) = ap (λ o. numbered (unwrap_or (position (same_port (unwrap_or o here)) ws) 0)) w.is in
    ap numbered place ∙ sym label ∙ sym (ap (label_of names ws here) partner)
