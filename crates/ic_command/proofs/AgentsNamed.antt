-- The event that two words name.
use Rattle.std.proofs.Common.{◌≡◌, ◌≢◌, ◌↔◌, ℕ, List, [], ◌∷◌, refl, sym, ◌∙◌}
use Rattle.std.specs.Prelude.{Option, Some, None, IsSome, IfSome}
use Rattle.ic_name.specs.Names.{Name, IsName}
use Rattle.ic_name.specs.Events.{Pair, pair_of}
use Rattle.ic_name.specs.NameTexts.{name_text}
use Rattle.ic_name.proofs.NameAnswers.{same_text}
use Rattle.ic_command.specs.Commands.{IsEventIn}

-- the words are the names of two agents, or those of one
pub names_event : (v w : List ℕ) (ws : List (List ℕ)) (m n : Name) (r : Option Pair) → ws ≡ v ∷ w ∷ [] → IsName m → v ≡ name_text m → IsName n → w ≡ name_text n
    → (IsSome r ↔ (m ≢ n)) → IfSome r (λ e. e ≡ pair_of m n) → IsEventIn ws r
names_event v w ws m n (Some e) whole is_m v_m is_n w_n some named = record { first = m; second = n; first_is = is_m; second_is = is_n; apart = some.0 refl; written = cc; named = named }
names_event v w ws m n None whole is_m v_m is_n w_n some named =
    λ e a.
    let written = a.written in
    let left : name_text m ≡ name_text a.first = cc in
    let right : name_text n ≡ name_text a.second = cc in
    let first = same_text m a.first is_m a.first_is left in
    let second = same_text n a.second is_n a.second_is right in
    let apart : m ≢ n = λ same. a.apart (sym first ∙ same ∙ second) in
    let is_some = some.1 apart in
    absurd cc
