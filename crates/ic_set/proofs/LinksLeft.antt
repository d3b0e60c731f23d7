-- The links that are left where an event goes are those of the smaller set, and their ends and makers are held.
use Rattle.std.proofs.Common.{◌≡◌, ◌≤◌, true, List, ◌∷◌, map, not, Some, refl, sym, ap, subst, arith, ◌∙◌}
use Rattle.ic_name.specs.Events.{Event}
use Rattle.ic_name.specs.Spots.{made_by}
use Rattle.ic_name.specs.declared.ids.EventId.{EventId}
use Rattle.ic_name.specs.declared.ids.Link.{Link}
use Rattle.ic_name.specs.declared.ids.MakerId.{MakerId}
use Rattle.ic_name.specs.declared.ids.MakerId.TheVariants as maker
use Rattle.ic_name.specs.declared.ids.Spot.{Spot}
use Rattle.ic_name.specs.declared.ids.Spot.TheVariants as spot
use Rattle.ic_path.specs.Links.{degree}
use Rattle.ic_path.specs.Orders.{here, Alike, IsIn}
use Rattle.ic_path.proofs.Alikes.{alike_back, alike_then, alike-in}
use Rattle.ic_path.proofs.Degrees.{hits_left, hits_right, degree-pick}
use Rattle.ic_link.specs.Links.{Drops}
use Rattle.ic_theory.specs.Born.{Link as NetLink, born_links}
use Rattle.ic_theory.specs.Sets.{agents, links}
use Rattle.ic_theory.specs.Sound.{IsSound}
use Rattle.ic_theory.specs.Starts.{Start, IsProper, start_links, net_shape}
use Rattle.ic_theory.proofs.Future.{made_alike}
use Rattle.ic_theory.proofs.Ranks.{sound-alike}
use Rattle.ic_theory.proofs.Sound.{maker_in}
use Rattle.ic_cause.specs.Naming.{Naming, Extends, IsHeld, port_of, maker_of, has_spot, has_maker, link_of}
use Rattle.ic_cause.specs.Shown.{Shows}
use Rattle.ic_path.proofs.InLists.{in-map, map_cases, filter_cases}
use Rattle.ic_cause.proofs.OtherLinks.{shows_less}
use Rattle.ic_roster.specs.Rosters.{Member, Stander}
use Rattle.ic_set.specs.Ids.{IsNaming}
use Rattle.ic_set.specs.Views.{agent_of, events_of}
use Rattle.ic_set.proofs.SmallerSets.{agent_at}

-- links have ends at both ports of a link of theirs
ends_there : (ls : List NetLink) (l : NetLink) → IsIn l ls → (1 ≤ degree net_shape ls l.a) × (1 ≤ degree net_shape ls l.b)
ends_there ls l i =
    let a = degree-pick net_shape i.1 l.a in
    let b = degree-pick net_shape i.1 l.b in
    let left = hits_left net_shape {l = l} {p = l.a} refl in
    let right = hits_right net_shape {l = l} {p = l.b} refl in
    (omega arith, omega arith)

module _ (s : Start) (ok : IsProper s) (n less : Naming) (x : Extends less n) (ms : List Member) (ss : List Stander) (named : IsNaming ms ss less)
    (agents_are : Alike (map agent_of ms) (agents s (events_of ss))) (sound : IsSound s (events_of ss)) (ls : List Link) (h : Shows n s (events_of ss) ls) where
  -- a spot at which a link of the set ends is held
  spot_held : (p : Spot) → has_spot n p ≡ true → 1 ≤ degree net_shape (links s (events_of ss)) (port_of n p) → has_spot less p ≡ true
  spot_held (spot.Name j) k d = refl
  spot_held (spot.Agent a i) k d =
      let there = agent_at s ok (events_of ss) sound (n.agent a) i d in
      let m = map_cases agent_of ms (alike-in (alike_back agents_are) there.1) in
      let held = named.agents m.0 m.1 in
      let more = x.agents m.0.id held.0 in
      let same : n.agent a ≡ n.agent m.0.id = there.2 ∙ sym (ap (λ y. y.0) m.2) ∙ sym held.1 ∙ sym more.1 in
      subst (λ b. less.has_agent b ≡ true) (sym (h.apart.agents a m.0.id k more.0 same)) held.0

  -- a maker that is in the set is held
  maker_held : (m : MakerId) → has_maker n m ≡ true → ((c : Event) → maker_of n m ≡ Some c → IsIn c (events_of ss)) → has_maker less m ≡ true
  maker_held maker.Start k f = refl
  maker_held (maker.Event d) k f =
      let y = map_cases (λ (z : Stander). z.event) ss (f (n.event d) refl) in
      let held = named.events y.0 y.1 in
      let more = x.events y.0.id held.0 in
      let same : n.event d ≡ n.event y.0.id = sym y.2 ∙ sym held.1 ∙ sym more.1 in
      subst (λ e. less.has_event e ≡ true) (sym (h.apart.events d y.0.id k more.0 same)) held.0

  -- so are the ends and the maker of a link
  pub link_held : (l : Link) → IsIn l ls → IsHeld less l
  link_held l i =
      let held = h.held l i in
      let j : IsIn (link_of n l) (links s (events_of ss)) = alike-in h.alike (in-map (link_of n) i) in
      let ends = ends_there (links s (events_of ss)) (link_of n l) j in
      record {
        left = spot_held l.a held.left ends.0;
        right = spot_held l.b held.right ends.1;
        maker = maker_held l.id.maker held.maker (λ c e. maker_in s (events_of ss) j e);
      }

-- without an event's links the set without the event is shown, by a naming of what is left
pub shows_left : (s : Start) → IsProper s → (n less : Naming) (es : List Event) (e : Event) (d : EventId) (ls left : List Link) (ms : List Member) (ss : List Stander)
    → IsSound s es → Alike es (e ∷ events_of ss) → IsSound s (events_of ss) → Shows n s es ls → n.has_event d ≡ true → n.event d ≡ e → Drops d ls left
    → Extends less n → IsNaming ms ss less → Alike (map agent_of ms) (agents s (events_of ss)) → Shows less s (events_of ss) left
shows_left s ok n less es e d ls left ms ss sound a sound' h has is drops x named agents_are =
    shows_less n less s (e ∷ events_of ss) (events_of ss) ls left d e whole all has is here drops x (link_held s ok n less x ms ss named agents_are sound' left fewer)
  where
    whole : IsSound s (e ∷ events_of ss)
    whole = sound-alike s a sound

    all : Shows n s (e ∷ events_of ss) ls
    all = record { apart = h.apart; held = h.held; alike = alike_then h.alike (made_alike (born_links s.profile) (start_links s) a) }

    fewer : Shows n s (events_of ss) left
    fewer = shows_less n n s (e ∷ events_of ss) (events_of ss) ls left d e whole all has is here drops
        (record { agents = λ b k. (k, refl); events = λ c k. (k, refl) })
        (λ l i. h.held l (filter_cases (λ m. not (made_by d m)) ls (alike-in (alike_back drops) i)).0)
