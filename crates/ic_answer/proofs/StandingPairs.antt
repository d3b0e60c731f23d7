-- The active pairs of what stands, as the machine has them.
use Rattle.std.proofs.Common.{◌≡◌, ℕ, ◌≤◌, List, [], ◌∷◌, ◌++◌, map, length, inl, inr, Option, Some, None, refl, sym, ap, ap₂, subst, append_assoc, ◌∙◌}
use Rattle.std.specs.Prelude.{codes}
use Rattle.std.specs.Fmt.{decimal}
use Rattle.std.specs.List.{flat_map}
use Rattle.std.proofs.lemmas.List.Folds.{flat_map-map}
use Rattle.std.proofs.lemmas.List.{length-map}
use Rattle.ic_name.specs.Names.{Name}
use Rattle.ic_name.specs.Events.{Event, pair}
use Rattle.ic_name.specs.declared.ids.AgentId.{AgentId}
use Rattle.ic_name.specs.declared.kinds.Kind.{Kind}
use Rattle.ic_path.specs.Orders.{IsIn}
use Rattle.ic_path.proofs.Alikes.{alike_back, alike-in}
use Rattle.ic_roster.specs.Rosters.{Member}
use Rattle.ic_theory.specs.Active.{IsActive}
use Rattle.ic_theory.specs.Machine.{State, events}
use Rattle.ic_theory.specs.Sets.{agents}
use Rattle.ic_theory.proofs.Normal.{active-alike}
use Rattle.ic_set.specs.Views.{standing, agent_of}
use Rattle.ic_set.specs.Pairs.{IsPairOf, AreActivePairs}
use Rattle.ic_set.specs.declared.pairs.ActivePair.{ActivePair}
use Rattle.ic_set.proofs.Namings.{same_member}
use Rattle.ic_journal.specs.Views.{BenchView, set_of}
use Rattle.ic_journal.specs.Benches.{IsAt, IsBench}
use Rattle.ic_journal.specs.Reads.{IsNameOf}
use Rattle.ic_journal.proofs.MachineSteps.{events_at}
use Rattle.ic_answer.specs.Standing.{AreActive}
use Rattle.ic_answer.specs.CommandReplies.{RepliesToCommand, active}
use Rattle.ic_name.specs.NameTexts.{pair_text}
use Rattle.ic_answer.specs.Texts.{active_text, event_line}
use Rattle.ic_answer.specs.Turns.{Tells}
use Rattle.ic_command.specs.declared.command.Command.TheVariants.{Active}
use Rattle.ic_answer.proofs.Images.{each_image}
use Rattle.ic_path.proofs.InLists.{map_cases}
use Rattle.ic_answer.proofs.ListedLines.{HasLines, all_lines}

-- an agent of what stands has an id
agent_id : (v : BenchView) → IsBench v → (n : Name) (k : Kind) → IsIn (n, k) (agents v.start (standing (set_of v))) → (a : AgentId) × IsIn (record { id = a; name = n; kind = k }) v.agents
agent_id v b n k i =
    let m = map_cases agent_of v.agents (alike-in (alike_back b.set.agents) i) in
    (m.0.id, subst (λ (x : Name × Kind). IsIn (record { id = m.0.id; name = x.0; kind = x.1 }) v.agents) m.2 m.1)

-- an active event has a pair of ids
pair_of_event : (v : BenchView) → IsBench v → (e : Event) → IsActive v.start (standing (set_of v)) e → (p : ActivePair) × IsPairOf (set_of v) e p
pair_of_event v b e a =
    let l = agent_id v b e.lead e.lead_kind a.present.lead in
    let o = agent_id v b e.other e.other_kind a.present.other in
    (record { lead = l.0; other = o.0 }, record { active = a; lead = l.1; other = o.1 })

-- and no other one
one_pair : (v : BenchView) → IsBench v → (x y : Event × ActivePair) → IsPairOf (set_of v) x.0 x.1 → IsPairOf (set_of v) y.0 y.1 → x.0 ≡ y.0 → x ≡ y
one_pair v b x y i j e =
    let l = same_member v.agents _ _ b.set.own_names i.lead j.lead (inr (ap (λ (f : Event). f.lead) e)) in
    let o = same_member v.agents _ _ b.set.own_names i.other j.other (inr (ap (λ (f : Event). f.other) e)) in
    λ k. (e k, record { lead = (l k).id; other = (o k).id })

-- the events of the pairs are the active ones of the machine's state
active_at : (v : BenchView) {st : State} → IsBench v → IsAt v st → (pairs : List ActivePair) → (a : AreActivePairs (set_of v) pairs) → AreActive v.start (events st) (map (λ (x : Event × ActivePair). x.0) a.order)
active_at v {st} b at pairs a = record {
  each = each_image (λ (x : Event × ActivePair). x.0) (λ x. IsPairOf (set_of v) x.0 x.1) (λ e. IsActive v.start (events st) e) a.order a.each
      (λ e k. (let p = pair_of_event v b e (active-alike v.start (alike_back (events_at v at)) k) in ((e, p.0), p.1, refl)))
      (λ x i. active-alike v.start (events_at v at) i.active)
      (one_pair v b);
  by_lead = rw (leads a.order) a.by_lead;
}
  where
    leads : (xs : List (Event × ActivePair)) → map (λ (e : Event). e.lead) (map (λ (x : Event × ActivePair). x.0) xs) ≡ map (λ (x : Event × ActivePair). x.0.lead) xs
    leads [] = refl
    leads (x ∷ xs) = ap (λ ns. x.0.lead ∷ ns) (leads xs)

-- the text of the active pairs
pub tells_active : (v : BenchView) → IsBench v → (pairs : List ActivePair) → (a : AreActivePairs (set_of v) pairs)
    → Tells v Active ((codes "active " ++ decimal (length pairs) ++ codes "\n") ++ flat_map (λ (x : Event × ActivePair). event_line x.0) a.order)
tells_active v b pairs a st at = subst (λ t. RepliesToCommand v.start st Active t st) text (active (active_at v b at pairs a))
  where
    es : List Event
    es = map (λ (x : Event × ActivePair). x.0) a.order

    count : length es ≡ length pairs
    count = length-map a.order (λ (x : Event × ActivePair). x.0) ∙ sym (length-map a.order (λ (x : Event × ActivePair). x.1)) ∙ ap length a.named

    text : active_text es ≡ (codes "active " ++ decimal (length pairs) ++ codes "\n") ++ flat_map (λ (x : Event × ActivePair). event_line x.0) a.order
    text = ap (λ n. (codes "active " ++ decimal n ++ codes "\n") ++ flat_map event_line es) count
        ∙ ap (λ t. (codes "active " ++ decimal (length pairs) ++ codes "\n") ++ t) (flat_map-map event_line (λ (x : Event × ActivePair). x.0) a.order)

-- the name under the id of an agent is the agent's
known_name : (v : BenchView) → IsBench v → (a : AgentId) (n : Name) (k : Kind) → IsIn (record { id = a; name = n; kind = k }) v.agents → (o : Option Name) → IsNameOf v a o → o ≡ Some n
known_name v b a n k i None h = absurd (h (record { id = a; name = n; kind = k }) i refl)
known_name v b a n k i (Some m) h = ap Some (sym h.3 ∙ ap (λ (y : Member). y.name) (same_member v.agents h.0 (record { id = a; name = n; kind = k }) b.set.own_names h.1 i (inl h.2)))

-- there is one
pub name_there : (v : BenchView) → IsBench v → (a : AgentId) (n : Name) (k : Kind) → IsIn (record { id = a; name = n; kind = k }) v.agents → (o : Option Name) → IsNameOf v a o → o ≡ None → ⊥
name_there v b a n k i o h e = let q : None ≡ Some n = sym e ∙ known_name v b a n k i o h in cc

-- and it is no other
pub name_found : (v : BenchView) → IsBench v → (a : AgentId) (n : Name) (k : Kind) → IsIn (record { id = a; name = n; kind = k }) v.agents → (o : Option Name) (m : Name) → IsNameOf v a o → o ≡ Some m → m ≡ n
name_found v b a n k i o m h e = let q : Some m ≡ Some n = sym e ∙ known_name v b a n k i o h in cc

-- a text that has the lines of all active pairs
pub told_active : (v : BenchView) → IsBench v → (pairs items : List ActivePair) → items ≡ pairs → AreActivePairs (set_of v) pairs → (text : List ℕ) (i : ℕ) → length items ≤ i
    → HasLines (λ (x : Event × ActivePair). x.1) (λ x. event_line x.0) (λ x. IsPairOf (set_of v) x.0 x.1) items (codes "active " ++ decimal (length items) ++ codes "\n") i text → Tells v Active text
told_active v b pairs items e a text i h lines =
    let a' : AreActivePairs (set_of v) items = subst (λ ps. AreActivePairs (set_of v) ps) (sym e) a in
    let t = all_lines (λ (x : Event × ActivePair). x.1) (λ x. event_line x.0) (λ x. IsPairOf (set_of v) x.0 x.1) items (codes "active " ++ decimal (length items) ++ codes "\n") text i h lines a'.order a'.each.only a'.named in
    subst (λ u. Tells v Active u) (sym t) (tells_active v b items a')

-- a line with the names of the two agents
pub pair_put : (e : Event) (l o : Name) (old mid new : List ℕ) → l ≡ e.lead → o ≡ e.other → mid ≡ old ++ pair_text (record { lead = l; other = o }) → new ≡ mid ++ codes "\n" → new ≡ old ++ event_line e
pair_put e l o old mid new p q r t =
    t ∙ ap (λ us. us ++ codes "\n") r
    ∙ ap₂ (λ (a b : Name). (old ++ pair_text (record { lead = a; other = b })) ++ codes "\n") p q
    ∙ append_assoc old (pair_text (pair e)) (codes "\n")
