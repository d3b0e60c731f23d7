-- What a standing set keeps once an active event was put in with its children, its links and its causes.
use Rattle.std.proofs.Common.{◌≡◌, ◌≢◌, ℕ, ◌+◌, ◌<◌, ◌≤◌, true, List, ◌∷◌, ◌++◌, map, length, ◌⊎◌, inl, inr, refl, sym, ap, arith, ◌∙◌, subst}
use Rattle.std.specs.Prelude.{slice_index_or}
use Rattle.std.proofs.lemmas.List.{map-append}
use Rattle.ic_name.specs.Names.{child_name}
use Rattle.ic_name.specs.Events.{Event}
use Rattle.ic_name.specs.declared.ids.AgentId.{AgentId}
use Rattle.ic_name.specs.declared.ids.EventId.{EventId}
use Rattle.ic_name.specs.declared.ids.Link.{Link}
use Rattle.ic_path.specs.Orders.{IsIn, Alike}
use Rattle.ic_path.specs.Rings.{HasEachOnce}
use Rattle.ic_path.proofs.Picks.{pick_behind, pick_before, in_first, in_more, in-cons_cases}
use Rattle.ic_path.proofs.Alikes.{alike_self, alike_back, alike_then, alike_more, alike-map, alike-in}
use Rattle.ic_link.specs.Links.{IsLawful}
use Rattle.ic_link.specs.Made.{no_id, HaveDigits}
use Rattle.ic_theory.specs.Born.{born_agents, born_links}
use Rattle.ic_theory.specs.Causes.{IsRank, IsCause}
use Rattle.ic_theory.specs.Future.{Includes}
use Rattle.ic_theory.specs.Machine.{IsDeep}
use Rattle.ic_theory.specs.Rules.{born_ends}
use Rattle.ic_theory.specs.Sets.{agents}
use Rattle.ic_theory.specs.Sound.{IsSound}
use Rattle.ic_theory.proofs.Closed.{cause_stays}
use Rattle.ic_theory.proofs.Future.{includes_self, includes_more}
use Rattle.ic_theory.proofs.Ranks.{cause_in, cause_included}
use Rattle.ic_cause.specs.Naming.{Naming, TellsApart, Extends, IsHeld, link_of}
use Rattle.ic_cause.specs.Shown.{Shows}
use Rattle.ic_path.proofs.InLists.{in-map, map_cases}
use Rattle.ic_cause.proofs.MoreLinks.{shows_more}
use Rattle.ic_path.proofs.OnceLists.{each_once_so}
use Rattle.ic_roster.specs.Rosters.{Member, Stander, HaveOwnNames, HaveOwnLines}
use Rattle.ic_set.specs.declared.pairs.ActivePair.{ActivePair}
use Rattle.ic_set.specs.Views.{SetView, standing, agent_of, AreChildren}
use Rattle.ic_set.specs.Ids.{IsNaming}
use Rattle.ic_set.specs.Causes.{IsCauseId, HaveCauses}
use Rattle.ic_set.specs.Sets.{HasChildren, IsStandingSet, IsKept}
use Rattle.ic_set.specs.Pairs.{IsPairOf}
use Rattle.ic_set.specs.Joining.{made_links}
use Rattle.ic_set.specs.Admission.{AreCausesOf, IsRankOver}
use Rattle.ic_set.proofs.Namings.{naming_of, tells_apart, extends, same_stander}
use Rattle.ic_set.proofs.KeptRanks.{part_ranks}
use Rattle.ic_set.proofs.Children.{length-born, nth_child}
use Rattle.ic_set.proofs.RuleDigits.{rule_digits}
use Rattle.ic_set.proofs.MadeLinks.{made_held, made_named, lawful_made}
use Rattle.ic_set.proofs.SlimSets.{slim_shown}
use Rattle.ic_set.proofs.NewEvents.{sound_more, causes_nothing, own_causes, no_links}

module _ (v : SetView) (ls : List Link) (k : IsKept v ls) (e : Event) (p : ActivePair) (pair : IsPairOf v e p)
    (line : ℕ) (new_line : (x : Stander) → IsIn x v.events → x.id.line ≢ line)
    (children : List Member) (born : List AgentId) (are : AreChildren e born children) (ms : List Member) (entered : Alike (children ++ v.agents) ms) (own : HaveOwnNames ms) where
  -- the set with the event has the set
  inside : Includes (e ∷ standing v) (standing v)
  inside = includes_more e (includes_self (standing v))

  -- it is sound
  sound : IsSound v.start (e ∷ standing v)
  sound = sound_more v ls k e pair.active

  -- the agents of before are there
  agent_stays : (m : Member) → IsIn m v.agents → IsIn m ms
  agent_stays m i = alike-in entered (_, pick_behind children i.1)

  -- and the children are
  child_there : (m : Member) → IsIn m children → IsIn m ms
  child_there m i = alike-in entered (_, pick_before v.agents i.1)

  -- all of them are the agents of the set with the event
  agents_more : Alike (map agent_of ms) (agents v.start (e ∷ standing v))
  agents_more =
      let parts = map-append agent_of children v.agents ∙ ap (λ xs. xs ++ map agent_of v.agents) are.named in
      alike_then (alike-map agent_of (alike_back entered)) (subst (λ xs. Alike xs (agents v.start (e ∷ standing v))) (sym parts) (alike_more (born_agents e) k.set.agents))

  -- the ends of its links are those of the pair and of the children
  pub digits : HaveDigits born (born_ends v.start.profile e.lead_kind e.other_kind)
  digits = rule_digits born v.start.profile e.lead_kind e.other_kind (length-born e born children are)

  module _ (d : EventId) (in_line : d.line ≡ line) (rank : ℕ) (ids : List EventId) where
    -- the event under its id
    abbrev entry : Stander
    entry = record { id = d; event = e; rank = rank; born = born; causes = ids }

    -- the links that it makes
    abbrev made : List Link
    made = made_links d p born 0 (born_ends v.start.profile e.lead_kind e.other_kind)

    module _ (lines : HaveOwnLines (entry ∷ v.events)) where
      -- the ids as a naming
      named : (n : Naming) × IsNaming ms (entry ∷ v.events) n
      named = naming_of ms (entry ∷ v.events) own lines

      -- which tells them apart
      apart : TellsApart named.0
      apart = tells_apart ms (entry ∷ v.events) named.0 own lines named.1

      -- and extends the one of before
      extended : Extends k.naming named.0
      extended = extends v.agents ms v.events (entry ∷ v.events) k.naming named.0 k.named named.1 agent_stays (λ x i. in_more entry i)

      -- the child of a digit
      child : (i : ℕ) → i < length born → (named.0.has_agent (slice_index_or born i no_id) ≡ true) × (named.0.agent (slice_index_or born i no_id) ≡ child_name e.lead i)
      child i h =
          let m = nth_child e born children are i h in
          let a = named.1.agents m.0 (child_there m.0 m.1) in
          subst (λ id. (named.0.has_agent id ≡ true) × (named.0.agent id ≡ child_name e.lead i)) m.2 (a.0, a.1 ∙ m.3)

      -- the links are held
      its_held : (l : Link) → IsIn l made → IsHeld named.0 l
      its_held =
          let its = named.1.events entry (in_first entry v.events) in
          let lead = named.1.agents _ (agent_stays _ pair.lead) in
          let other = named.1.agents _ (agent_stays _ pair.other) in
          made_held d p born named.0 e its.0 its.1 lead.0 lead.1 other.0 other.1 child 0 (born_ends v.start.profile e.lead_kind e.other_kind) digits

      -- by names they are those of the event
      its_named : map (link_of named.0) made ≡ born_links v.start.profile e
      its_named =
          let its = named.1.events entry (in_first entry v.events) in
          let lead = named.1.agents _ (agent_stays _ pair.lead) in
          let other = named.1.agents _ (agent_stays _ pair.other) in
          made_named d p born named.0 e its.0 its.1 lead.0 lead.1 other.0 other.1 child 0 (born_ends v.start.profile e.lead_kind e.other_kind) digits

      -- with those of before they show the set with the event
      shows : Shows named.0 v.start (e ∷ standing v) (made ++ ls)
      shows = shows_more k.naming named.0 v.start (standing v) ls made (made ++ ls) e k.shows extended apart its_held its_named (alike_self (made ++ ls))

      -- so they can be put in
      pub lawful_more : IsLawful ls → IsLawful (made ++ ls)
      lawful_more h =
          lawful_made d p born ls h (no_links v ls k e pair.active line new_line d in_line) 0 (born_ends v.start.profile e.lead_kind e.other_kind)
          (slim_shown named.0 v.start (e ∷ standing v) (made ++ ls) k.set.proper sound shows)

      module _ (its_causes : AreCausesOf v e ids) (over : IsRankOver v.events ids rank) (shallow : ¬ (IsDeep e)) where
        -- an event that is its direct cause is below it
        below : (r : Event → ℕ) → IsRank v.start (e ∷ standing v) r → (x : Stander) → IsIn x v.events → x.rank ≡ r x.event
        below r h x i = k.set.ranks r (part_ranks v.start k.set.proper r sound k.set.sound inside h) x i

        -- the rank is not below that of a causal rank
        rank_high : (r : Event → ℕ) → IsRank v.start (e ∷ standing v) r → r e ≤ rank
        rank_high r h = by (h.least e (in_first e (standing v)))
          where
            by : (r e ≡ 0) ⊎ ((c : Event) × IsCause v.start (e ∷ standing v) e c × (r e ≡ r c + 1)) → r e ≤ rank
            by (inl z) = omega arith
            by (inr w) =
                let q = own_causes v ls k e pair.active w.0 w.1 in
                let x = map_cases (λ (x : Stander). x.event) v.events (cause_in v.start q) in
                let cause = subst (λ c. IsCause v.start (standing v) e c) (sym x.2) q in
                let up = over.above x.0 x.1 (its_causes.each x.0.id (x.0, x.1, refl, cause)) in
                let same = below r h x.0 x.1 ∙ ap r x.2 in
                let its = w.2 in
                omega arith

        -- nor above it
        rank_low : (r : Event → ℕ) → IsRank v.start (e ∷ standing v) r → rank ≤ r e
        rank_low r h = by over.least
          where
            by : (rank ≡ 0) ⊎ ((x : Stander) × IsIn x v.events × IsIn x.id ids × (rank ≡ x.rank + 1)) → rank ≤ r e
            by (inl z) = omega arith
            by (inr w) =
                let y = its_causes.only w.0.id w.2 in
                let one : y.0 ≡ w.0 = same_stander v.events y.0 w.0 k.set.own_lines y.1 w.1 (inl y.2) in
                let up = h.above e y.0.event (in_first e (standing v)) (cause_included v.start inside y.3) in
                let same = below r h y.0 y.1 in
                let its = ap (λ x. x.rank) one in
                let top = w.3 in
                omega arith

        -- a direct cause by its id is one in the set with the event
        cause_up : (x : Stander) (c : EventId) → IsCauseId v.start v.events x c → IsCauseId v.start (entry ∷ v.events) x c
        cause_up x c w = (w.0, in_more entry w.1, w.2, cause_included v.start inside w.3)

        -- and the other way round
        cause_down : (x : Stander) → ((c : Event) → IsCause v.start (e ∷ standing v) x.event c → IsCause v.start (standing v) x.event c) → (c : EventId)
            → IsCauseId v.start (entry ∷ v.events) x c → IsCauseId v.start v.events x c
        cause_down x down c w = by (in-cons_cases w.1)
          where
            by : (w.0 ≡ entry) ⊎ IsIn w.0 v.events → IsCauseId v.start v.events x c
            by (inl q) = absurd (causes_nothing v ls k e pair.active x.event (subst (λ y. IsCause v.start (standing v) x.event y) (ap (λ (y : Stander). y.event) q) (down w.0.event w.3)))
            by (inr i) = (w.0, i, w.2, down w.0.event w.3)

        -- the causes that are noted
        causes_more : HaveCauses v.start (entry ∷ v.events)
        causes_more x i = by (in-cons_cases i)
          where
            by : (x ≡ entry) ⊎ IsIn x v.events → HasEachOnce (IsCauseId v.start (entry ∷ v.events) x) x.causes
            by (inl q) =
                subst (λ (y : Stander). HasEachOnce (IsCauseId v.start (entry ∷ v.events) y) y.causes) (sym q)
                (each_once_so {P = IsCauseId v.start v.events entry} {Q = IsCauseId v.start (entry ∷ v.events) entry} (cause_up entry) (cause_down entry (own_causes v ls k e pair.active)) its_causes)
            by (inr j) =
                let there = in-map (λ (y : Stander). y.event) j in
                each_once_so {P = IsCauseId v.start v.events x} {Q = IsCauseId v.start (entry ∷ v.events) x} (cause_up x)
                (cause_down x (λ c q. cause_stays v.start k.set.proper sound.apart inside k.set.sound there q)) (k.set.causes x j)

        -- what is seen
        set_more : IsStandingSet (record { start = v.start; agents = ms; events = entry ∷ v.events })
        set_more = record {
          proper = k.set.proper;
          sound = sound;
          shallow = λ x i. is_shallow x (in-cons_cases i);
          agents = agents_more;
          own_names = own;
          own_lines = lines;
          children = λ x i. has_children x (in-cons_cases i);
          ranks = λ r h x i. has_rank r h x (in-cons_cases i);
          causes = causes_more;
        }
          where
            is_shallow : (x : Stander) → (x ≡ entry) ⊎ IsIn x v.events → ¬ (IsDeep x.event)
            is_shallow x (inl q) = subst (λ (y : Stander). ¬ (IsDeep y.event)) (sym q) shallow
            is_shallow x (inr i) = k.set.shallow x i

            has_children : (x : Stander) → (x ≡ entry) ⊎ IsIn x v.events → HasChildren ms x
            has_children x (inl q) = subst (HasChildren ms) (sym q) (record { children = children; are = are; there = child_there })
            has_children x (inr i) = let c = k.set.children x i in record { children = c.children; are = c.are; there = λ m j. agent_stays m (c.there m j) }

            has_rank : (r : Event → ℕ) → IsRank v.start (e ∷ standing v) r → (x : Stander) → (x ≡ entry) ⊎ IsIn x v.events → x.rank ≡ r x.event
            has_rank r h x (inl q) =
                let low = rank_low r h in
                let high = rank_high r h in
                let same : rank ≡ r e = omega arith in
                subst (λ (y : Stander). y.rank ≡ r y.event) (sym q) same
            has_rank r h x (inr i) = below r h x i

        -- all of it
        pub kept_more : IsKept (record { start = v.start; agents = ms; events = entry ∷ v.events }) (made ++ ls)
        kept_more = record { set = set_more; naming = named.0; named = named.1; shows = shows }
