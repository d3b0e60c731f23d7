-- Events that all go, with their entries in the index and the agents that are their children.
use Rattle.std.proofs.Common.{◌≡◌, ◌↔◌, ℕ, Bool, true, false, cond, List, [], ◌∷◌, map, Option, Some, None, inl, inr, refl, sym, ap, subst, ◌∙◌}
use Rattle.std.specs.Prelude.{◌==◌}
use Rattle.std.proofs.lemmas.Bool.{eq-eqb}
use Rattle.slab.specs.Slab.{entries_from}
use Rattle.slab.proofs.SlabLemmas.{Contains-entries}
use Rattle.ic_slots.specs.Slots.{slot_of, Gives}
use Rattle.ic_path.specs.Orders.{IsIn}
use Rattle.ic_path.proofs.Picks.{none_in, in_first, in_more, in-cons_cases, contains-in}
use Rattle.ic_name.specs.Names.{Name}
use Rattle.ic_name.specs.declared.ids.AgentId.{AgentId}
use Rattle.ic_roster.specs.declared.agent_records.PlacedAgent.{PlacedAgent}
use Rattle.ic_roster.specs.KeptEvents.{KeptEvent}
use Rattle.ic_roster.specs.Rosters.{Member}
use Rattle.ic_roster.specs.Born.{IsBorn}
use Rattle.ic_name.specs.declared.ids.EventId.{EventId}
use Rattle.ic_roster.specs.Placed.{PlacedEvent, child_in, member_in, stander_in}
use Rattle.ic_roster.specs.EventSlots.{event_by}
use Rattle.ic_roster.specs.Slots.{IsIndexOf}
use Rattle.ic_roster.specs.Records.{AreLinked}
use Rattle.ic_roster.proofs.Images.{each_image}
use Rattle.ic_roster.proofs.Indexes.{holder}
use Rattle.ic_roster.proofs.LinkedEvents.{once_none}
use Rattle.ic_path.proofs.InLists.{in-map}

module _ {T : Type 0} (f : T → ℕ) where
  -- each number that has a slot in the index is that of an entry
  abbrev pub HasOnly : List (ℕ × T) → List (Option ℕ) → Type 0
  HasOnly es index = (n k : ℕ) → slot_of index n ≡ Some k → (e : ℕ × T) × IsIn e es × (f e.1 ≡ n)

  -- an index has only the numbers of all entries
  pub only_entries : (xs : List (Option T)) (index : List (Option ℕ)) → IsIndexOf f xs index → HasOnly (entries_from 0 xs) index
  only_entries xs index both n k found =
      let d = holder f xs index both n k found in
      ((k, d.0), contains-in (k, d.0) (entries_from 0 xs) ((Contains-entries (record { slots = xs; vacant_key = 0; capacity = 0 }) k d.0).1 d.1), d.2)

  -- where the number of an entry is taken out, only those of the others are left
  pub only_others : (e : ℕ × T) (es : List (ℕ × T)) (index index' : List (Option ℕ)) → HasOnly (e ∷ es) index → Gives (f e.1) None index index' → HasOnly es index'
  only_others e es index index' only takes n k found = by (n == f e.1) refl
    where
      by : (b : Bool) → n == f e.1 ≡ b → (d : ℕ × T) × IsIn d es × (f d.1 ≡ n)
      by true t = let m : None ≡ Some k = sym (ap (λ b. cond b None (slot_of index n)) t) ∙ sym (takes n) ∙ found in absurd cc
      by false t =
          let d = only n k (sym (ap (λ b. cond b None (slot_of index n)) t) ∙ sym (takes n) ∙ found) in
          elim (in-cons_cases d.1) [
            | inl s ↦ let m : n == f e.1 ≡ true = eq-eqb n (f e.1) (sym d.2 ∙ ap (λ (p : ℕ × T). f p.1) s) in absurd cc
            | inr i ↦ (d.0, i, d.2)
          ]

  -- an index that has only the numbers of no entries is that of no slots
  pub only_none : (xs : List (Option T)) (es : List (ℕ × T)) (index : List (Option ℕ)) → xs ≡ [] → es ≡ [] → HasOnly es index → IsIndexOf f xs index
  only_none xs es index none over only q k = rw none (
    λ found. (let d = only q k found in absurd (none_in (subst (λ ds. IsIn d.0 ds) over d.1))),
    λ e. absurd cc,
  )

-- no event is the cause of another where there is none
pub none_linked : (xs : List (Option KeptEvent)) → xs ≡ [] → AreLinked xs
none_linked xs none = rw none (record { linked = λ e f. refl; causes_once = λ e. once_none; dependents_once = λ e. once_none })

-- the ids of the children of an entry
abbrev pub children_of : ℕ × KeptEvent → List AgentId
children_of e = map (child_in e.1.line) e.1.born

-- the agent is in the list, and a child of none of these entries
abbrev pub IsSpared : List PlacedAgent → List (ℕ × KeptEvent) → PlacedAgent → Type 0
IsSpared xs es m = IsIn m xs × ((e : ℕ × KeptEvent) → IsIn e es → IsIn m.id (children_of e) → ⊥)

-- once the children of the first entry have gone, the same agents are left by the others
pub children_gone : (old new first : List PlacedAgent) (e : ℕ × KeptEvent) (rest all : List (ℕ × KeptEvent)) (born : List AgentId) → born ≡ children_of e → ((m : PlacedAgent) → IsIn m new ↔ (IsIn m old × (IsIn m.id born → ⊥)))
    → ((m : PlacedAgent) → IsSpared old (e ∷ rest) m ↔ IsSpared first all m) → (m : PlacedAgent) → IsSpared new rest m ↔ IsSpared first all m
children_gone old new first e rest all born is goes was m = (
  λ h. (let i = (goes m).0 h.0 in
      (was m).0 (i.0, λ x j child. elim (in-cons_cases j) [ inl s ↦ i.1 (subst (λ ds. IsIn m.id ds) (ap children_of s ∙ sym is) child) | inr k ↦ h.1 x k child ])),
  λ h. (let i = (was m).1 h in ((goes m).1 (i.0, λ child. i.1 e (in_first e rest) (subst (λ ds. IsIn m.id ds) is child)), λ x k child. i.1 x (in_more e k) child)),
)

-- once those of all entries have gone, the agents of the list are left
pub all_gone : (now first : List PlacedAgent) (none all : List (ℕ × KeptEvent)) → none ≡ [] → ((m : PlacedAgent) → IsSpared now none m ↔ IsSpared first all m) → (m : PlacedAgent) → IsIn m now ↔ IsSpared first all m
all_gone now first none all over was m = (λ i. (was m).0 (i, λ x j. absurd (none_in (subst (λ es. IsIn x es) over j))), λ h. ((was m).1 h).0)

-- the agent is in the list, and a child of none of these events
abbrev pub IsUnborn : List PlacedAgent → List PlacedEvent → PlacedAgent → Type 0
IsUnborn xs es m = IsIn m xs × ((x : PlacedEvent) → IsIn x es → IsIn m.id x.born → ⊥)

-- a child of none of the entries is one of none of their events
pub spared_unborn : (ids : ℕ → EventId) (xs : List PlacedAgent) (es : List (ℕ × KeptEvent)) (m : PlacedAgent) → IsSpared xs es m ↔ IsUnborn xs (map (event_by ids) es) m
spared_unborn ids xs es m = (
  λ h. (h.0, each_image (event_by ids) es (λ x. IsIn m.id x.born → ⊥) h.1),
  λ h. (h.0, λ e i. h.1 (event_by ids e) (in-map (event_by ids) i)),
)

-- what holds of the agents and events by their places holds of them with their names
pub left_named : (ns : List Name) (old new : List PlacedAgent) (es : List PlacedEvent) → ((m : PlacedAgent) → IsIn m new ↔ IsUnborn old es m)
    → (m : Member) → IsIn m (map (member_in ns) new) ↔ (IsIn m (map (member_in ns) old) × (IsBorn (map (stander_in ns) es) m.id → ⊥))
left_named ns old new es left m = (
  each_image (member_in ns) new (λ n. IsIn n (map (member_in ns) old) × (IsBorn (map (stander_in ns) es) n.id → ⊥))
      (λ x i. (let h = (left x).0 i in (in-map (member_in ns) h.0, λ b. each_image (stander_in ns) es (λ s. IsIn x.id s.born → ⊥) h.1 b.0 b.1 b.2))) m,
  λ h. each_image (member_in ns) old (λ n. (IsBorn (map (stander_in ns) es) n.id → ⊥) → IsIn n (map (member_in ns) new))
      (λ x i free. in-map (member_in ns) ((left x).1 (i, λ y j child. free (stander_in ns y, in-map (stander_in ns) j, child)))) m h.0 h.1,
)
