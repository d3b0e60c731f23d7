-- The path between the principal ports of an active pair, by ids, and the direct causes that it has.
use Rattle.std.proofs.Common.{◌≡◌, List, map, refl, sym, ap, arith, ◌∙◌, subst}
use Rattle.ic_name.specs.Events.{Event}
use Rattle.ic_name.specs.declared.ids.EventId.{EventId}
use Rattle.ic_name.specs.declared.ids.Link.{Link}
use Rattle.ic_name.specs.declared.ids.LinkId.{LinkId}
use Rattle.ic_name.specs.declared.ids.MakerId.TheVariants as maker
use Rattle.ic_name.specs.declared.ids.Spot.{Spot}
use Rattle.ic_name.specs.declared.ids.Spot.TheVariants as spot
use Rattle.ic_name.specs.declared.ports.Port.TheVariants.{Of}
use Rattle.ic_path.specs.Links.{degree, IsSlim}
use Rattle.ic_path.specs.Orders.{IsIn}
use Rattle.ic_path.specs.Trails.{Reaches}
use Rattle.ic_path.proofs.Ends.{degree-trail, starts, reaches_one}
use Rattle.ic_path.proofs.Walks.{Whole, whole}
use Rattle.ic_link.specs.Links.{shape, Joins}
use Rattle.ic_theory.specs.Starts.{net_shape}
use Rattle.ic_theory.specs.Sets.{links}
use Rattle.ic_theory.specs.Causes.{IsCause}
use Rattle.ic_theory.proofs.Counts.{slim, principal}
use Rattle.ic_theory.proofs.Future.{loose_end, port_agent, unequal}
use Rattle.ic_cause.specs.Naming.{port_of}
use Rattle.ic_cause.proofs.ByPorts.{reaches_named, trail_held}
use Rattle.ic_cause.proofs.OnePort.{one_port, HasSpot}
use Rattle.ic_cause.proofs.PathMakers.{maker_held, cause_maker, maker_cause}
use Rattle.ic_cause.proofs.SameEnds.{degree_is}
use Rattle.ic_cause.specs.Makers.{IsMaker, AreMakers}
use Rattle.ic_path.proofs.OnceLists.{each_once_so}
use Rattle.ic_roster.specs.Rosters.{Stander}
use Rattle.ic_set.specs.declared.pairs.ActivePair.{ActivePair}
use Rattle.ic_set.specs.Views.{SetView, standing}
use Rattle.ic_set.specs.Sets.{IsKept}
use Rattle.ic_set.specs.Pairs.{IsPairOf}
use Rattle.ic_set.specs.Admission.{AreCausesOf}

module _ (v : SetView) (ls : List Link) (k : IsKept v ls) (e : Event) (p : ActivePair) (pair : IsPairOf v e p) where
  -- the spots of the two principal ports
  abbrev lead_spot : Spot
  lead_spot = spot.Agent p.lead 0

  abbrev other_spot : Spot
  other_spot = spot.Agent p.other 0

  -- they are held
  lead_held : HasSpot k.naming lead_spot
  lead_held = (k.named.agents _ pair.lead).0

  other_held : HasSpot k.naming other_spot
  other_held = (k.named.agents _ pair.other).0

  -- and stand for the agents of the event
  pub lead_named : k.naming.agent p.lead ≡ e.lead
  lead_named = (k.named.agents _ pair.lead).1

  pub other_named : k.naming.agent p.other ≡ e.other
  other_named = (k.named.agents _ pair.other).1

  -- the lead's has one link end
  pub lead_degree : degree shape ls lead_spot ≡ 1
  lead_degree =
      let path = pair.active.wire.path in
      let d = degree_is k.naming v.start (standing v) ls k.shows lead_spot lead_held in
      let same : degree net_shape (links v.start (standing v)) (Of (k.naming.agent p.lead) 0) ≡ degree net_shape (links v.start (standing v)) (Of e.lead 0) = ap (λ m. degree net_shape (links v.start (standing v)) (Of m 0)) lead_named in
      let few = principal v.start k.set.proper (standing v) k.set.sound.apart e.lead in
      let first = starts net_shape path.first path.trail in
      let all = degree-trail net_shape path.trail (Of e.lead 0) in
      omega arith

  -- the wire reaches the other's
  wire_reaches : Reaches net_shape (links v.start (standing v)) (Of e.lead 0) (Of e.other 0)
  wire_reaches =
      loose_end net_shape (Of e.lead 0) (Of e.other 0) (slim v.start k.set.proper (standing v) k.set.sound.apart) (principal v.start k.set.proper (standing v) k.set.sound.apart e.other)
      (λ q. unequal pair.active.present.ordered (sym (port_agent q))) pair.active.wire.path.trail

  -- so does the path by ids
  pub pair_joined : IsSlim shape ls → (ids : List LinkId) × Joins ls lead_spot ids other_spot
  pair_joined thin = (map (λ l. l.id) w.links, subst (λ q. Joins ls lead_spot (map (λ l. l.id) w.links) q) ends found)
    where
      w : Whole shape ls lead_spot
      w = whole shape ls lead_spot thin (let d = lead_degree in omega arith)

      found : Joins ls lead_spot (map (λ l. l.id) w.links) w.end
      found = record { links = w.links; rest = w.rest; trail = w.trail; stops = w.stops; named = refl }

      reached : Reaches net_shape (links v.start (standing v)) (Of e.lead 0) (port_of k.naming w.end)
      reached = subst (λ m. Reaches net_shape (links v.start (standing v)) (Of m 0) (port_of k.naming w.end)) lead_named (reaches_named k.naming v.start (standing v) ls k.shows lead_held found)

      same : port_of k.naming w.end ≡ Of e.other 0
      same = reaches_one net_shape (slim v.start k.set.proper (standing v) k.set.sound.apart) (principal v.start k.set.proper (standing v) k.set.sound.apart e.lead) reached wire_reaches

      ends : w.end ≡ other_spot
      ends = one_port k.naming k.shows.apart w.end other_spot (trail_held k.naming k.shows.held lead_held w.trail).0 other_held (same ∙ sym (ap (λ m. Of m 0) other_named))

  -- the id of a direct cause
  abbrev ByEvent : EventId → Type 0
  ByEvent d = (y : Stander) × IsIn y v.events × (y.id ≡ d) × IsCause v.start (standing v) e y.event

  module _ (ids : List LinkId) (j : Joins ls lead_spot ids other_spot) where
    -- the maker of a link of that path is a direct cause
    pub maker_causes : (d : EventId) → IsMaker ids d → ByEvent d
    maker_causes d m =
        let held = maker_held k.naming v.start (standing v) ls k.shows ids j d m in
        let y = k.named.no_other_events d held in
        let is : k.naming.event d ≡ y.0.event = ap k.naming.event (sym y.2) ∙ (k.named.events y.0 y.1).1 in
        (y.0, y.1, y.2, maker_cause k.naming v.start (standing v) ls k.set.proper k.set.sound k.shows p.lead p.other ids e y.0.event lead_named other_named j (d, m.0, m.1, m.2, held, is))

    -- and a direct cause made a link of it
    pub cause_makes : (d : EventId) → ByEvent d → IsMaker ids d
    cause_makes d y =
        let m = cause_maker k.naming v.start (standing v) ls k.set.proper k.set.sound k.shows p.lead p.other ids e y.0.event lead_named other_named j y.3 in
        let its = k.named.events y.0 y.1 in
        let same : m.0 ≡ d = k.shows.apart.events m.0 y.0.id m.4 its.0 (m.5 ∙ sym its.1) ∙ y.2 in
        (m.1, m.2, m.3 ∙ ap (λ c. maker.Event c) same)

  -- so the makers of its links are the direct causes
  pub pair_causes : (ids : List LinkId) (causes : List EventId) → Joins ls lead_spot ids other_spot → AreMakers ids causes → AreCausesOf v e causes
  pair_causes ids causes j h = each_once_so {P = IsMaker ids} {Q = ByEvent} (maker_causes ids j) (cause_makes ids j) h
