-- The children of an event under their ids.
use Rattle.std.proofs.Common.{◌≡◌, ℕ, zero, suc, ◌+◌, ◌<◌, ◌≤◌, List, [], ◌∷◌, map, length, refl, sym, ap, arith, ◌∙◌, subst}
use Rattle.std.specs.Prelude.{slice_index_or}
use Rattle.std.proofs.lemmas.List.{length-map}
use Rattle.ic_name.specs.Names.{Name, child_name}
use Rattle.ic_name.specs.Events.{Event}
use Rattle.ic_name.specs.declared.kinds.Kind.{Kind}
use Rattle.ic_name.specs.declared.ids.AgentId.{AgentId}
use Rattle.ic_name.proofs.SameFacts.{same_name_self}
use Rattle.ic_path.specs.Orders.{Pick, IsIn, Alike}
use Rattle.ic_path.proofs.Picks.{in_first, in_more}
use Rattle.ic_path.proofs.Alikes.{alike-in, picked_alike}
use Rattle.ic_link.specs.Made.{no_id}
use Rattle.ic_theory.specs.Born.{named, born_agents}
use Rattle.ic_theory.specs.Rules.{born_kinds}
use Rattle.ic_theory.specs.Starts.{Start}
use Rattle.ic_theory.specs.Sets.{agents, named_times}
use Rattle.ic_theory.specs.Sound.{IsSound}
use Rattle.ic_theory.proofs.AnyOrder.{named-alike}
use Rattle.ic_theory.proofs.Counts.{names_once, named_times-append}
use Rattle.ic_theory.proofs.Future.{named_in}
use Rattle.ic_path.proofs.InLists.{in-map}
use Rattle.ic_roster.specs.Rosters.{Member}
use Rattle.ic_set.specs.Views.{agent_of, AreChildren}
use Rattle.ic_set.specs.Entering.{CanEnter}

-- the agent that is entered at a place has the id and the name of that place
nth_entered : (name : ℕ → Name) (k : ℕ) (ms : List Member) (kinds : List Kind) → map agent_of ms ≡ named name k kinds → (i : ℕ) → i < length ms
    → (m : Member) × IsIn m ms × (m.id ≡ slice_index_or (map (λ x. x.id) ms) i no_id) × (m.name ≡ name (k + i))
nth_entered name k [] kinds e i h = absurd (omega arith)
nth_entered name k (m ∷ ms) [] e i h = cc
nth_entered name k (m ∷ ms) (x ∷ kinds) e zero h =
    let first : agent_of m ≡ (name k, x) = cc in
    (m, in_first m ms, refl, ap (λ y. y.0) first ∙ ap name (omega arith))
nth_entered name k (m ∷ ms) (x ∷ kinds) e (suc i) h =
    let rest : map agent_of ms ≡ named name (k + 1) kinds = cc in
    let ih = nth_entered name (k + 1) ms kinds rest i (omega arith) in
    (ih.0, in_more m ih.1, ih.2, ih.3 ∙ ap name (omega arith))

-- as many agents are named as there are kinds
pub length-named : (name : ℕ → Name) (k : ℕ) (kinds : List Kind) → length (named name k kinds) ≡ length kinds
length-named name k [] = refl
length-named name k (x ∷ kinds) = ap suc (length-named name (k + 1) kinds)

module _ (e : Event) (born : List AgentId) (children : List Member) (are : AreChildren e born children) where
  -- each child has an id
  pub length-born : length born ≡ length (born_kinds e.lead_kind e.other_kind)
  length-born =
      ap length (sym are.under) ∙ length-map children (λ x. x.id) ∙ sym (length-map children agent_of)
      ∙ ap length are.named ∙ length-named (child_name e.lead) 0 (born_kinds e.lead_kind e.other_kind)

  -- the child of a digit is under the id of that place
  pub nth_child : (i : ℕ) → i < length born → (m : Member) × IsIn m children × (m.id ≡ slice_index_or born i no_id) × (m.name ≡ child_name e.lead i)
  nth_child i h =
      let long : length (map (λ (x : Member). x.id) children) ≡ length born = ap length are.under in
      let same = length-map children (λ (x : Member). x.id) in
      let m = nth_entered (child_name e.lead) 0 children (born_kinds e.lead_kind e.other_kind) are.named i (omega arith) in
      (m.0, m.1, subst (λ ids. m.0.id ≡ slice_index_or ids i no_id) are.under m.2, m.3 ∙ ap (child_name e.lead) (omega arith))

-- the children of an event of a sound set have names that no other agent of it has
pub new_children : (s : Start) (es : List Event) (e : Event) (ms : List Member) → IsSound s (e ∷ es) → Alike (map agent_of ms) (agents s es) → CanEnter ms (born_agents e)
new_children s es e ms sound a = record { new = λ x i m j q. fresh x i m j q; apart = λ x y rest k i q. twice x y rest k i q }
  where
    both : (x : Name) → named_times x (born_agents e) + named_times x (agents s es) ≤ 1
    both x = let once = names_once s (e ∷ es) sound.apart x in let sum = named_times-append x (born_agents e) (agents s es) in omega arith

    fresh : (x : Name × Kind) → IsIn x (born_agents e) → (m : Member) → IsIn m ms → m.name ≡ x.0 → ⊥
    fresh x i m j q =
        let there = alike-in a (in-map agent_of j) in
        let one = named_in x.0 refl i.1 in
        let two = named_in x.0 {x = agent_of m} (sym q) there.1 in
        let few = both x.0 in
        omega arith

    twice : (x y : Name × Kind) (rest : List (Name × Kind)) → Pick x (born_agents e) rest → IsIn y rest → y.0 ≡ x.0 → ⊥
    twice x y rest k i q =
        let sum = rw (same_name_self x.0) at (named-alike x.0 (picked_alike k)) in
        let other = named_in x.0 {x = y} (sym q) i.1 in
        let few = both x.0 in
        omega arith
