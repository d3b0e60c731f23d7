-- A standing set from which all events go.
use Rattle.std.proofs.Common.{◌≡◌, true, not, List, [], ◌∷◌, ◌++◌, map, filter, Some, inl, inr, refl, sym, ap, subst, ◌∙◌}
use Rattle.std.proofs.lemmas.List.{map-append, append_assoc}
use Rattle.ic_name.specs.Events.{Event}
use Rattle.ic_name.specs.Spots.{same_maker}
use Rattle.ic_name.specs.declared.ids.EventId.{EventId}
use Rattle.ic_name.specs.declared.ids.Link.{Link}
use Rattle.ic_name.specs.declared.ids.MakerId.{MakerId}
use Rattle.ic_name.specs.declared.ids.MakerId.TheVariants as maker
use Rattle.ic_path.specs.Orders.{Alike, IsIn}
use Rattle.ic_path.proofs.Alikes.{alike_back, alike_then, alike-map, alike-in, append-alike-comm}
use Rattle.ic_path.proofs.Picks.{none_in}
use Rattle.ic_link.specs.Links.{AreMakers, KeepsStart, of_start}
use Rattle.ic_theory.specs.Born.{Link as NetLink, born_links}
use Rattle.ic_theory.specs.Sets.{links, with_made}
use Rattle.ic_theory.specs.Starts.{start_links}
use Rattle.ic_theory.proofs.Machines.{empty_sound}
use Rattle.ic_theory.proofs.Sound.{placed_maker}
use Rattle.ic_cause.specs.Naming.{Naming, maker_of, has_maker, link_of}
use Rattle.ic_cause.specs.Shown.{Shows}
use Rattle.ic_path.proofs.InLists.{map_cases, filter_cases, partition, other_parts}
use Rattle.ic_cause.proofs.Extended.{links_kept, fewer_apart}
use Rattle.ic_roster.specs.Rosters.{Member, Stander, HaveOwnNames}
use Rattle.ic_set.specs.Cleared.{Clears}
use Rattle.ic_set.specs.Ids.{IsNaming}
use Rattle.ic_set.specs.Sets.{IsKept}
use Rattle.ic_set.specs.Views.{SetView, standing}
use Rattle.ic_set.proofs.ClearedAgents.{AreLeft, made_cases, cleared_agents}
use Rattle.ic_set.proofs.EmptySets.{none_own}
use Rattle.ic_set.proofs.LinksLeft.{link_held}
use Rattle.ic_set.proofs.Namings.{naming_of, extends}

-- an event made the link
abbrev HasMaker : NetLink → Type 0
HasMaker l = (e : Event) × (l.maker ≡ Some e)

-- what was there first comes behind what events made
made_before : {X : Type 0} (made : Event → List X) (first : List X) (es : List Event) → with_made made first es ≡ with_made made [] es ++ first
made_before made first [] = refl
made_before made first (e ∷ es) = ap (λ xs. made e ++ xs) (made_before made first es) ∙ sym (append_assoc (made e) (with_made made [] es) first)

-- who is left was there before
pub clears : (v : SetView) (ms : List Member) → AreLeft v.agents v.events ms → Clears v (record { start = v.start; agents = ms; events = [] })
clears v ms rest = record { start = refl; events = refl; agents = λ m i. ((rest m).0 i).0 }

module _ (v : SetView) (ls : List Link) (is : IsKept v ls) (ids : List EventId) (each : (x : Stander) → IsIn x v.events → IsIn x.id ids) where
  -- the links of the events
  abbrev made : List Link
  made = filter (λ l. not (of_start l)) ls

  -- the other links
  abbrev others : List Link
  others = filter of_start ls

  -- the maker of each link is the start, or one of the events
  pub all_makers : AreMakers ids ls
  all_makers l c i e =
      let x = is.named.no_other_events c (subst (λ m. has_maker is.naming m ≡ true) e (is.shows.held l i).maker) in
      subst (λ d. IsIn d ids) x.2 (each x.0 x.1)

  -- a maker other than the start is an event by name
  made_maker : (m : MakerId) → not (same_maker m maker.Start) ≡ true → (e : Event) × (maker_of is.naming m ≡ Some e)
  made_maker maker.Start t = absurd cc
  made_maker (maker.Event c) t = (is.naming.event c, refl)

  -- and the start is none
  start_maker : (m : MakerId) → same_maker m maker.Start ≡ true → (e : Event) × (maker_of is.naming m ≡ Some e) → ⊥
  start_maker maker.Start t e = let q = e.1 in absurd cc
  start_maker (maker.Event c) t e = absurd cc

  -- so an event made each of the first
  all_made : (l : NetLink) → IsIn l (map (link_of is.naming) made) → HasMaker l
  all_made l i =
      let w = map_cases (link_of is.naming) made i in
      let t = filter_cases (λ m. not (of_start m)) ls w.1 in
      subst HasMaker w.2 (made_maker w.0.id.maker t.1)

  -- and none of the others
  none_made : (l : NetLink) → IsIn l (map (link_of is.naming) others) → HasMaker l → ⊥
  none_made l i h =
      let w = map_cases (link_of is.naming) others i in
      let t = filter_cases of_start ls w.1 in
      start_maker w.0.id.maker t.1 (subst HasMaker (sym w.2) h)

  -- the others are those of the start
  others_alike : Alike (map (link_of is.naming) others) (links v.start [])
  others_alike = other_parts HasMaker (map (link_of is.naming) made) (map (link_of is.naming) others) (with_made (born_links v.start.profile) [] (standing v)) (start_links v.start)
      all_made none_made of_events
      (λ l i h. (let none = placed_maker _ 0 _ i.1 in let some = h.1 in absurd cc))
      (alike_then whole (subst (λ xs. Alike (map (link_of is.naming) ls) xs) (made_before (born_links v.start.profile) (start_links v.start) (standing v)) is.shows.alike))
    where
      of_events : (l : NetLink) → IsIn l (with_made (born_links v.start.profile) [] (standing v)) → HasMaker l
      of_events l i = elim (made_cases (born_links v.start.profile) [] (standing v) i) [ inl j ↦ absurd (none_in j) | inr c ↦ (c.0, placed_maker (Some c.0) 0 _ c.2.1) ]

      whole : Alike (map (link_of is.naming) made ++ map (link_of is.naming) others) (map (link_of is.naming) ls)
      whole = rw (← map-append (link_of is.naming) made others) (alike-map (link_of is.naming) (alike_then (append-alike-comm made others) (partition of_start ls)))

  module _ (ms : List Member) (own : HaveOwnNames ms) (rest : AreLeft v.agents v.events ms) (left : List Link) (keeps : KeepsStart ls left) where
    -- by the ids of the whole set the links of the start are shown
    fewer : Shows is.naming v.start [] left
    fewer = record {
      apart = is.shows.apart;
      held = λ l i. is.shows.held l (filter_cases of_start ls (alike-in (alike_back keeps) i)).0;
      alike = alike_then (alike-map (link_of is.naming) (alike_back keeps)) others_alike;
    }

    -- and so they are by the ids of the agents that are left
    start_shown : (n : Naming) → IsNaming ms [] n → Shows n v.start [] left
    start_shown n named =
        let less = extends ms v.agents [] v.events n is.naming named is.named (λ m i. ((rest m).0 i).0) (λ x i. absurd (none_in i)) in
        let held = link_held v.start is.set.proper is.naming n less ms [] named (cleared_agents v is.set ms own rest) (empty_sound v.start) left fewer in
        record { apart = fewer_apart n is.naming less is.shows.apart; held = held; alike = rw (← links_kept n is.naming less left held) fewer.alike }

    -- the empty set is kept
    pub cleared_kept : IsKept (record { start = v.start; agents = ms; events = [] }) left
    cleared_kept =
        let n = naming_of ms [] own none_own in
        record {
          set = record {
            proper = is.set.proper;
            sound = empty_sound v.start;
            shallow = λ x i. absurd (none_in i);
            agents = cleared_agents v is.set ms own rest;
            own_names = own;
            own_lines = none_own;
            children = λ x i. absurd (none_in i);
            ranks = λ rank h x i. absurd (none_in i);
            causes = λ x i. absurd (none_in i);
          };
          naming = n.0;
          named = n.1;
          shows = start_shown n.0 n.1;
        }
