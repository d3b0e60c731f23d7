-- The links that an event makes, by ids and by names.
use Rattle.std.proofs.Common.{◌≡◌, ◌≢◌, ℕ, ◌+◌, ◌<◌, true, false, List, [], ◌∷◌, ◌++◌, map, length, ◌⊎◌, inl, inr, Some, refl, sym, ap, arith, subst}
use Rattle.std.specs.Prelude.{slice_index_or}
use Rattle.ic_name.specs.Names.{child_name}
use Rattle.ic_name.specs.Events.{Event}
use Rattle.ic_name.specs.Spots.{made_by}
use Rattle.ic_name.specs.declared.ids.AgentId.{AgentId}
use Rattle.ic_name.specs.declared.ids.EventId.{EventId}
use Rattle.ic_name.specs.declared.ids.Link.{Link}
use Rattle.ic_name.specs.declared.ids.MakerId.TheVariants as maker
use Rattle.ic_name.specs.declared.ports.Port.TheVariants as port
use Rattle.ic_name.specs.declared.rules.RuleEnd.{RuleEnd}
use Rattle.ic_name.specs.declared.rules.RuleEnd.TheVariants.{Child, Lead, Other}
use Rattle.ic_path.specs.Links.{IsSlim}
use Rattle.ic_path.specs.Orders.{here, IsIn}
use Rattle.ic_path.proofs.Degrees.{slim-pick}
use Rattle.ic_path.proofs.Picks.{none_in, in_first, in_more, in-cons_cases}
use Rattle.ic_link.specs.Links.{shape, IsLawful}
use Rattle.ic_link.specs.Made.{no_id, spot_of, spots_of, HasDigit, HaveDigits}
use Rattle.ic_link.proofs.Lawful.{lawful-alike, lawful-added}
use Rattle.ic_link.proofs.MadeLinks.{its_made}
use Rattle.ic_theory.specs.Born.{placed, port_of}
use Rattle.ic_theory.proofs.Future.{pick_part}
use Rattle.ic_cause.specs.Naming.{Naming, IsHeld, link_of, port_of as port_under}
use Rattle.ic_cause.proofs.OnePort.{HasSpot}
use Rattle.ic_path.proofs.ListEnds.{last_first}
use Rattle.ic_set.specs.declared.pairs.ActivePair.{ActivePair}
use Rattle.ic_set.specs.Joining.{made_links}
use Rattle.ic_name.proofs.SameFacts.{same_event_self}

module _ (d : EventId) (p : ActivePair) (born : List AgentId) where
  -- with links that others made they are lawful where they are slim
  pub lawful_made : (ls : List Link) → IsLawful ls → ((l : Link) → IsIn l ls → made_by d l ≡ false) → (k : ℕ) (ends : List (RuleEnd × RuleEnd))
      → IsSlim shape (made_links d p born k ends ++ ls) → IsLawful (made_links d p born k ends ++ ls)
  lawful_made ls h others k [] thin = h
  lawful_made ls h others k (x ∷ xs) thin =
      let rest = made_links d p born (k + 1) xs ++ ls in
      let l : Link = record { id = record { maker = maker.Event d; place = k }; a = spot_of p.lead p.other born x.0; b = spot_of p.lead p.other born x.1 } in
      let ih : IsLawful rest = lawful_made ls h others (k + 1) xs (slim-pick shape (here {x = l}) thin) in
      lawful-alike (last_first l rest) (lawful-added rest l ih (record { fresh = λ m i. fresh m (pick_part (made_links d p born (k + 1) xs) ls i.1); room = thin }))
    where
      fresh : (m : Link) → IsIn m (made_links d p born (k + 1) xs) ⊎ IsIn m ls → m.id ≢ record { maker = maker.Event d; place = k }
      fresh m (inl i) e = let low = (its_made d (k + 1) (map (spots_of p.lead p.other born) xs) m i).1 in let same : m.id.place ≡ k = ap (λ y. y.place) e in omega arith
      fresh m (inr i) e =
          let same : m.id.maker ≡ maker.Event d = ap (λ y. y.maker) e in
          let its : made_by d m ≡ true = rw same (same_event_self d) in
          let none = others m i in
          cc

  module _ (n : Naming) (e : Event)
      (maker_held : n.has_event d ≡ true) (maker_is : n.event d ≡ e)
      (lead_held : n.has_agent p.lead ≡ true) (lead_is : n.agent p.lead ≡ e.lead)
      (other_held : n.has_agent p.other ≡ true) (other_is : n.agent p.other ≡ e.other)
      (child : (i : ℕ) → i < length born → (n.has_agent (slice_index_or born i no_id) ≡ true) × (n.agent (slice_index_or born i no_id) ≡ child_name e.lead i)) where
    -- an end of theirs is held
    end_held : (x : RuleEnd) → HasDigit born x → HasSpot n (spot_of p.lead p.other born x)
    end_held (Child i j) h = (child i h).0
    end_held (Lead j) h = lead_held
    end_held (Other j) h = other_held

    -- and is the port that the rule names
    end_is : (x : RuleEnd) → HasDigit born x → port_under n (spot_of p.lead p.other born x) ≡ port_of e x
    end_is (Child i j) h = ap (λ m. port.Of m j) (child i h).1
    end_is (Lead j) h = ap (λ m. port.Of m j) lead_is
    end_is (Other j) h = ap (λ m. port.Of m j) other_is

    -- so they are held
    pub made_held : (k : ℕ) (ends : List (RuleEnd × RuleEnd)) → HaveDigits born ends → (l : Link) → IsIn l (made_links d p born k ends) → IsHeld n l
    made_held k [] h l i = absurd (none_in i)
    made_held k (x ∷ xs) h l i = elim (in-cons_cases i) [
      | inl q ↦ (
          let own = h x (in_first x xs) in
          subst (IsHeld n) (sym q) (record { left = end_held x.0 own.0; right = end_held x.1 own.1; maker = maker_held }))
      | inr j ↦ made_held (k + 1) xs (λ y r. h y (in_more x r)) l j
    ]

    -- and by names they are the links of the event
    pub made_named : (k : ℕ) (ends : List (RuleEnd × RuleEnd)) → HaveDigits born ends
        → map (link_of n) (made_links d p born k ends) ≡ placed (Some e) k (map (λ (x : RuleEnd × RuleEnd). (port_of e x.0, port_of e x.1)) ends)
    made_named k [] h = refl
    made_named k (x ∷ xs) h =
        let own = h x (in_first x xs) in
        let a = end_is x.0 own.0 in
        let b = end_is x.1 own.1 in
        let rest = made_named (k + 1) xs (λ y r. h y (in_more x r)) in
        λ u. record { maker = Some (maker_is u); place = k; a = a u; b = b u } ∷ rest u
