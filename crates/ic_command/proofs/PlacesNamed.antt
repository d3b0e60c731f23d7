-- The place that words name, by the parts that they write.
use Rattle.std.proofs.Common.{◌≡◌, ℕ, List, [], ◌∷◌, sym, subst}
use Rattle.std.specs.Prelude.{Option, Some}
use Rattle.ic_name.specs.Names.{Name}
use Rattle.ic_command.specs.Commands.{IsNameIn, IsNumberIn}
use Rattle.ic_command.specs.MarkNames.{IsMarkName, IsMarkNameIn}
use Rattle.ic_command.specs.Places.{NamesPlace, port, free}
use Rattle.ic_command.specs.declared.place.TheConstants.{MAX_PORT}
use Rattle.ic_command.specs.declared.place.Place.TheVariants.{Port, Free}

-- a free name
pub names_free : (word name : List ℕ) (o : Option (List ℕ)) → IsMarkNameIn word o → o ≡ Some name → NamesPlace (word ∷ []) (Free name)
names_free word name o is some =
    let named = subst (IsMarkNameIn word) some is in
    subst (λ w. NamesPlace (w ∷ []) (Free name)) named.1 (free (subst IsMarkName (sym named.1) named.0))

-- an agent and the number of a port
pub names_port : (agent number : List ℕ) (n : Name) (p : ℕ) (o : Option Name) (q : Option ℕ) → IsNameIn agent o → o ≡ Some n → IsNumberIn MAX_PORT number q → q ≡ Some p
    → NamesPlace (agent ∷ number ∷ []) (Port n p)
names_port agent number n p o q named some numbered one =
    let name = subst (IsNameIn agent) some named in
    subst (λ w. NamesPlace (w ∷ number ∷ []) (Port n p)) (sym name.1) (port name.0 (subst (IsNumberIn MAX_PORT number) one numbered))
