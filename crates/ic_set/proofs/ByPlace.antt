-- Agents by place under their ids.
use Rattle.std.proofs.Common.{◌≡◌, ℕ, zero, suc, ◌+◌, ◌<◌, List, [], ◌∷◌, map, length, refl, sym, ap, arith, ◌∙◌}
use Rattle.std.specs.Prelude.{slice_index_or}
use Rattle.std.proofs.lemmas.List.{length-map}
use Rattle.ic_name.specs.Names.{Name}
use Rattle.ic_name.specs.declared.kinds.Kind.{Kind}
use Rattle.ic_path.specs.Orders.{IsIn}
use Rattle.ic_path.proofs.Picks.{in_first, in_more}
use Rattle.ic_link.specs.Made.{no_id}
use Rattle.ic_theory.specs.Born.{named}
use Rattle.ic_roster.specs.Rosters.{Member}
use Rattle.ic_set.specs.Views.{agent_of}

-- the agent that is entered at a place has the id and the name of that place
pub nth_entered : (name : ℕ → Name) (k : ℕ) (ms : List Member) (kinds : List Kind) → map agent_of ms ≡ named name k kinds → (i : ℕ) → i < length ms
    → (m : Member) × IsIn m ms × (m.id ≡ slice_index_or (map (λ x. x.id) ms) i no_id) × (m.name ≡ name (k + i))
nth_entered name k [] kinds e i h = absurd (omega arith)
nth_entered name k (m ∷ ms) [] e i h = cc
nth_entered name k (m ∷ ms) (x ∷ kinds) e zero h =
    let first : agent_of m ≡ (name k, x) = cc in
    (m, in_first m ms, refl, ap (λ y. y.0) first ∙ ap name (omega arith))
nth_entered name k (m ∷ ms) (x ∷ kinds) e (suc i) h =
    let rest : map agent_of ms ≡ named name (k + 1) kinds = cc in
    let ih = nth_entered name (k + 1) ms kinds rest i (omega arith) in
    (ih.0, in_more m ih.1, ih.2, ih.3 ∙ ap name (omega arith))

-- as many agents are named as there are kinds
length-named : (name : ℕ → Name) (k : ℕ) (kinds : List Kind) → length (named name k kinds) ≡ length kinds
length-named name k [] = refl
length-named name k (x ∷ kinds) = ap suc (length-named name (k + 1) kinds)

-- so there are as many of them as kinds
pub length-entered : (name : ℕ → Name) (ms : List Member) (kinds : List Kind) → map agent_of ms ≡ named name 0 kinds → length ms ≡ length kinds
length-entered name ms kinds e = sym (length-map ms agent_of) ∙ ap length e ∙ length-named name 0 kinds
