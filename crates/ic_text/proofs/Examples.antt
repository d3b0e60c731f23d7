-- Worked texts.
use Rattle.std.proofs.Common.{◌≡◌, [], ◌∷◌, refl, arith}
use Rattle.std.specs.Prelude.{codes}
use Rattle.std.proofs.lemmas.Fmt.{decimal_digit}
use Rattle.ic_name.specs.Names.{start_name}
use Rattle.ic_name.specs.declared.kinds.Kind.TheVariants.{Gamma, Delta, Eps}
use Rattle.ic_name.specs.declared.rules.Profile.TheVariants.{Classic, Straight}
use Rattle.ic_name.specs.declared.ports.Port.TheVariants.{Of}
use Rattle.ic_name.specs.declared.ports.Port.TheVariants as port
use Rattle.ic_theory.specs.Listed.{ListedNet}
use Rattle.ic_text.specs.NetText.{net_text}

-- G(x,a) = D(x,b); with a ring
abbrev first : ListedNet
first = record {
  agents = record { name = start_name 0; kind = Gamma; partners = Of (start_name 1) 0 ∷ Of (start_name 1) 1 ∷ port.Name 1 ∷ [] }
      ∷ record { name = start_name 1; kind = Delta; partners = Of (start_name 0) 0 ∷ Of (start_name 0) 1 ∷ port.Name 2 ∷ [] } ∷ [];
  frees = (1, Of (start_name 0) 2) ∷ (2, Of (start_name 1) 2) ∷ [];
  rings = 1;
  profile = Classic;
}

-- the wire x comes first, then the one between the principal ports, then the ring
first_text : net_text (codes "x" ∷ codes "a" ∷ codes "b" ∷ []) first ≡ codes "# agents 2 wires 4 rings 1\nG(_0,a) = _1;\nD(_0,b) = _1;\n_2 = _2;\n"
first_text = rw (decimal_digit 0 (omega arith), decimal_digit 1 (omega arith), decimal_digit 2 (omega arith), decimal_digit 4 (omega arith)) refl

-- z = y; y = x;
abbrev wire : ListedNet
wire = record { agents = []; frees = (0, port.Name 2) ∷ (2, port.Name 0) ∷ []; rings = 0; profile = Classic }

-- the lesser name comes first, though it is the later one
wire_text : net_text (codes "z" ∷ codes "y" ∷ codes "x" ∷ []) wire ≡ codes "# agents 0 wires 1 rings 0\nx = z;\n"
wire_text = rw (decimal_digit 0 (omega arith), decimal_digit 1 (omega arith)) refl

-- and the same with the two names swapped
swapped_text : net_text (codes "x" ∷ codes "y" ∷ codes "z" ∷ []) wire ≡ codes "# agents 0 wires 1 rings 0\nx = z;\n"
swapped_text = rw (decimal_digit 0 (omega arith), decimal_digit 1 (omega arith)) refl

-- G(x,x) = G(y,y);
abbrev selves : ListedNet
selves = record {
  agents = record { name = start_name 0; kind = Gamma; partners = Of (start_name 1) 0 ∷ Of (start_name 0) 2 ∷ Of (start_name 0) 1 ∷ [] }
      ∷ record { name = start_name 1; kind = Gamma; partners = Of (start_name 0) 0 ∷ Of (start_name 1) 2 ∷ Of (start_name 1) 1 ∷ [] } ∷ [];
  frees = [];
  rings = 0;
  profile = Classic;
}

-- a wire from an agent to itself has one number, at both of its ports
selves_text : net_text (codes "x" ∷ codes "y" ∷ []) selves ≡ codes "# agents 2 wires 3 rings 0\nG(_0,_0) = _1;\nG(_2,_2) = _1;\n"
selves_text = rw (decimal_digit 0 (omega arith), decimal_digit 1 (omega arith), decimal_digit 2 (omega arith), decimal_digit 3 (omega arith)) refl

-- a ring alone
abbrev ring : ListedNet
ring = record { agents = []; frees = []; rings = 1; profile = Classic }

-- its number is 0, since no wire has one
ring_text : net_text (codes "x" ∷ []) ring ≡ codes "# agents 0 wires 0 rings 1\n_0 = _0;\n"
ring_text = rw (decimal_digit 0 (omega arith), decimal_digit 1 (omega arith)) refl

-- E = E; under the straight profile
abbrev erasers : ListedNet
erasers = record {
  agents = record { name = start_name 0; kind = Eps; partners = Of (start_name 1) 0 ∷ [] } ∷ record { name = start_name 1; kind = Eps; partners = Of (start_name 0) 0 ∷ [] } ∷ [];
  frees = [];
  rings = 0;
  profile = Straight;
}

-- an epsilon has no parentheses, and the profile has a line
erasers_text : net_text [] erasers ≡ codes "# agents 2 wires 1 rings 0\n@straight;\nE = _0;\nE = _0;\n"
erasers_text = rw (decimal_digit 0 (omega arith), decimal_digit 1 (omega arith), decimal_digit 2 (omega arith)) refl
