-- What is left of the agents as those under some ids go.
use Rattle.std.proofs.Common.{◌≡◌, ◌≢◌, ◌↔◌, List, [], ◌∷◌, map, ◌⊎◌, inl, inr, refl, sym, ap, subst, ◌∙◌}
use Rattle.ic_path.specs.Orders.{here, Alike, IsIn}
use Rattle.ic_path.proofs.Picks.{none_in, in_first, in_more, in-cons_cases}
use Rattle.ic_path.proofs.Alikes.{alike_pick, alike_back, alike-in}
use Rattle.ic_name.specs.declared.ids.AgentId.{AgentId}
use Rattle.ic_roster.specs.declared.agent_records.PlacedAgent.{PlacedAgent}
use Rattle.ic_roster.specs.Placed.{HaveOwnPlaces, member_in}
use Rattle.ic_roster.specs.Rosters.{Loses}
use Rattle.ic_roster.proofs.Images.{each_image}
use Rattle.ic_path.proofs.InLists.{in-map}
use Rattle.ic_name.specs.Names.{Name}
use Rattle.ic_name.proofs.SameFacts.{one_agent}

-- an agent of the list has the id, or none has
there_or_not : (id : AgentId) (xs : List PlacedAgent) → ((x : PlacedAgent) × IsIn x xs × (x.id ≡ id)) ⊎ ((x : PlacedAgent) → IsIn x xs → x.id ≢ id)
there_or_not id [] = inr (λ x i. absurd (none_in i))
there_or_not id (y ∷ ys) = by (one_agent y.id id) (there_or_not id ys)
  where
    by : (y.id ≡ id) ⊎ (y.id ≢ id) → ((x : PlacedAgent) × IsIn x ys × (x.id ≡ id)) ⊎ ((x : PlacedAgent) → IsIn x ys → x.id ≢ id)
        → ((x : PlacedAgent) × IsIn x (y ∷ ys) × (x.id ≡ id)) ⊎ ((x : PlacedAgent) → IsIn x (y ∷ ys) → x.id ≢ id)
    by (inl e) t = inl (y, in_first y ys, e)
    by (inr n) (inl t) = inl (t.0, in_more y t.1, t.2)
    by (inr n) (inr none) = inr (λ x i e. elim (in-cons_cases i) [ inl s ↦ n (ap (λ (z : PlacedAgent). z.id) (sym s) ∙ e) | inr j ↦ none x j e ])

-- where the agent under an id goes, those under other ids are left
pub one_goes : (old new : List PlacedAgent) (id : AgentId) → HaveOwnPlaces old → ((x : PlacedAgent) → IsIn x old → x.id ≡ id → Alike old (x ∷ new))
    → ((x : PlacedAgent) → IsIn x new → IsIn x old) → (((x : PlacedAgent) → IsIn x old → x.id ≢ id) → new ≡ old) → (m : PlacedAgent) → IsIn m new ↔ (IsIn m old × (m.id ≢ id))
one_goes old new id own gone left same m = (λ i. (left m i, λ e. twice (gone m (left m i) e) i), λ h. stays (there_or_not id old) h.0 h.1)
  where
    twice : Alike old (m ∷ new) → IsIn m new → ⊥
    twice a i = let p = alike_pick (alike_back a) here in own.slots m m p.0 p.1 (alike-in p.2 i) refl

    stays : ((x : PlacedAgent) × IsIn x old × (x.id ≡ id)) ⊎ ((x : PlacedAgent) → IsIn x old → x.id ≢ id) → IsIn m old → m.id ≢ id → IsIn m new
    stays (inl t) j n = elim (in-cons_cases (alike-in (gone t.0 t.1 t.2) j)) [ inl s ↦ absurd (n (ap (λ (z : PlacedAgent). z.id) s ∙ t.2)) | inr k ↦ k ]
    stays (inr none) j n = subst (λ xs. IsIn m xs) (sym (same none)) j

-- the agent is in the list, and its id is none of these
abbrev pub IsLeft : List PlacedAgent → List AgentId → PlacedAgent → Type 0
IsLeft xs ids m = IsIn m xs × (IsIn m.id ids → ⊥)

-- once the first of the ids has gone, the same agents are left by the others
pub next_goes : (old new first : List PlacedAgent) (id : AgentId) (rest ids : List AgentId) → ((m : PlacedAgent) → IsIn m new ↔ (IsIn m old × (m.id ≢ id)))
    → ((m : PlacedAgent) → IsLeft old (id ∷ rest) m ↔ IsLeft first ids m) → (m : PlacedAgent) → IsLeft new rest m ↔ IsLeft first ids m
next_goes old new first id rest ids goes was m = (
  λ h. (let i = (goes m).0 h.0 in (was m).0 (i.0, λ j. elim (in-cons_cases j) [ inl e ↦ i.1 e | inr k ↦ h.1 k ])),
  λ h. (let i = (was m).1 h in ((goes m).1 (i.0, λ e. i.1 (subst (λ d. IsIn d (id ∷ rest)) (sym e) (in_first id rest))), λ k. i.1 (in_more id k))),
)

-- once all have gone, those of the list are left
pub all_left : (now first : List PlacedAgent) (none ids : List AgentId) → none ≡ [] → ((m : PlacedAgent) → IsLeft now none m ↔ IsLeft first ids m) → (m : PlacedAgent) → IsIn m now ↔ IsLeft first ids m
all_left now first none ids e was m = (λ i. (was m).0 (i, λ j. none_in (subst (λ ds. IsIn m.id ds) e j)), λ h. ((was m).1 h).0)

-- what holds of the agents by their places holds of them with their names
pub lost_named : (ns : List Name) (old new : List PlacedAgent) (ids : List AgentId) → ((m : PlacedAgent) → IsIn m new ↔ IsLeft old ids m) → Loses ids (map (member_in ns) old) (map (member_in ns) new)
lost_named ns old new ids left m = (
  each_image (member_in ns) new (λ n. IsIn n (map (member_in ns) old) × (IsIn n.id ids → ⊥)) (λ x i. (let h = (left x).0 i in (in-map (member_in ns) h.0, h.1))) m,
  λ h. each_image (member_in ns) old (λ n. (IsIn n.id ids → ⊥) → IsIn n (map (member_in ns) new)) (λ x i free. in-map (member_in ns) ((left x).1 (i, free))) m h.0 h.1,
)
