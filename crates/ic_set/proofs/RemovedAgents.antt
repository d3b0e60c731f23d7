-- Agents that are removed in turn.
use Rattle.std.proofs.Common.{◌≡◌, ℕ, ◌+◌, ◌<◌, ◌≤◌, List, [], ◌∷◌, ◌++◌, length, map, drop, ◌∙◌}
use Rattle.std.specs.Prelude.{slice_index_or}
use Rattle.std.proofs.lemmas.List.{drop_more, drop_all}
use Rattle.ic_name.specs.declared.ids.AgentId.{AgentId}
use Rattle.ic_path.specs.Orders.{Alike, IsIn}
use Rattle.ic_path.proofs.Alikes.{alike_back, alike_then, alike-cancel, alike-in}
use Rattle.ic_path.proofs.Picks.{in_first}
use Rattle.ic_roster.specs.Rosters.{Member}

-- once the next of them has gone, the others behind it are left to go
pub next_gone : (more left now new : List Member) (ids : List AgentId) (i : ℕ) (d : AgentId) → i < length ids → map (λ m. m.id) more ≡ drop i ids → Alike now (more ++ left)
    → ((m : Member) → IsIn m now → m.id ≡ slice_index_or ids i d → Alike now (m ∷ new)) → (rest : List Member) × (map (λ m. m.id) rest ≡ drop (i + 1) ids) × Alike new (rest ++ left)
next_gone [] left now new ids i d h e a gone = let f = e ∙ drop_more ids i d h in absurd cc
next_gone (m ∷ more) left now new ids i d h e a gone =
    let f : (m.id ∷ map (λ (k : Member). k.id) more) ≡ (slice_index_or ids i d ∷ drop (i + 1) ids) = e ∙ drop_more ids i d h in
    let id : m.id ≡ slice_index_or ids i d = cc in
    let tail : map (λ (k : Member). k.id) more ≡ drop (i + 1) ids = cc in
    (more, tail, alike-cancel (alike_then (alike_back (gone m (alike-in (alike_back a) (in_first m (more ++ left))) id)) a))

-- once all have gone the others are left
pub all_gone : (more left now : List Member) (ids : List AgentId) (i : ℕ) → length ids ≤ i → map (λ m. m.id) more ≡ drop i ids → Alike now (more ++ left) → Alike left now
all_gone [] left now ids i h e a = alike_back a
all_gone (m ∷ more) left now ids i h e a = let f = e ∙ drop_all i ids h in absurd cc
