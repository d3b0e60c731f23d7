-- What a net's tables list of a start, and which active pair an agent leads.
use Rattle.std.specs.Prelude.{ℕ, ◌+◌, zero, suc, Bool, List, [], ◌∷◌, ◌++◌, Option, slice_get, if◌then◌else◌}
use Rattle.ic_name.specs.Names.{Name, start_name}
use Rattle.ic_name.specs.declared.kinds.Kind.{Kind}
use Rattle.ic_name.specs.declared.kinds.Kind.TheVariants.{Eps}
use Rattle.ic_name.specs.declared.ports.Port.{Port}
use Rattle.ic_theory.specs.Listed.{NetAgent as Listed, led_pair}

-- the values at an agent's ports, by number
abbrev pub at_ports : {X : Type 0} → Kind → (ℕ → X) → List X
at_ports Eps f = f 0 ∷ []
at_ports _ f = f 0 ∷ f 1 ∷ f 2 ∷ []

-- the agents of a start from number k on, the partners of whose ports the function gives
abbrev pub listed_from : (ℕ → ℕ → Port) → ℕ → List Kind → List Listed
listed_from partner k [] = []
listed_from partner k (x ∷ xs) = record { name = start_name k; kind = x; partners = at_ports x (partner k) } ∷ listed_from partner (k + 1) xs

-- the names below n that occur once, with their partners
abbrev pub frees_upto : (ℕ → Bool) → (ℕ → Port) → ℕ → List (ℕ × Port)
frees_upto once partner zero = []
frees_upto once partner (suc n) = frees_upto once partner n ++ (if once n then (n, partner n) ∷ [] else [])

-- the active pair that an agent leads, if it does
abbrev pub pair_led_by : Listed → Option (Name × Name)
pair_led_by a = led_pair a.name (slice_get a.partners 0)
