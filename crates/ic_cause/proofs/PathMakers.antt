-- The makers of the links of a path are causes.
use Rattle.std.proofs.Common.{◌≡◌, Bool, true, false, List, [], ◌∷◌, map, Some, refl, sym, ap, arith, ◌∙◌, subst}
use Rattle.ic_name.specs.Names.{Name}
use Rattle.ic_name.specs.Events.{Event}
use Rattle.ic_name.specs.Same.{same_name}
use Rattle.ic_name.specs.declared.ids.AgentId.{AgentId}
use Rattle.ic_name.specs.declared.ids.EventId.{EventId}
use Rattle.ic_name.specs.declared.ids.Link.{Link}
use Rattle.ic_name.specs.declared.ids.LinkId.{LinkId}
use Rattle.ic_name.specs.declared.ids.MakerId.{MakerId}
use Rattle.ic_name.specs.declared.ids.MakerId.TheVariants as maker
use Rattle.ic_name.specs.declared.ids.Spot.{Spot}
use Rattle.ic_name.specs.declared.ids.Spot.TheVariants as spot
use Rattle.ic_name.specs.declared.ports.Port.TheVariants.{Of}
use Rattle.ic_name.proofs.SameFacts.{same_name_true}
use Rattle.ic_path.specs.Orders.{IsIn}
use Rattle.ic_path.specs.Trails.{Trail}
use Rattle.ic_path.proofs.Ends.{even-trail, degree-trail, starts}
use Rattle.ic_path.proofs.Picks.{none_in}
use Rattle.ic_path.proofs.Rotated.{in-trail}
use Rattle.ic_link.specs.Links.{shape, Joins}
use Rattle.ic_theory.specs.Born.{Link as NetLink}
use Rattle.ic_theory.specs.Causes.{IsCause}
use Rattle.ic_theory.specs.Sets.{links}
use Rattle.ic_theory.specs.Sound.{IsSound}
use Rattle.ic_theory.specs.Starts.{Start, IsProper, net_shape}
use Rattle.ic_theory.specs.Wires.{Path}
use Rattle.ic_theory.proofs.Counts.{principal}
use Rattle.ic_theory.proofs.Future.{same_links, is_named}
use Rattle.ic_cause.specs.Makers.{IsMaker}
use Rattle.ic_cause.specs.Naming.{Naming, maker_of, has_maker, link_of}
use Rattle.ic_cause.specs.Shown.{Shows}
use Rattle.ic_cause.proofs.ByPorts.{trail_named}
use Rattle.ic_path.proofs.InLists.{in-map, map_cases}

-- the maker of one of these links, by id and by name
abbrev pub Maker : Naming → List LinkId → Event → Type 0
Maker n ids c = (d : EventId) × (id : LinkId) × IsIn id ids × (id.maker ≡ maker.Event d) × (n.has_event d ≡ true) × (n.event d ≡ c)

-- no path leads from a principal port back to it
pub no_round : (s : Start) (es : List Event) → IsProper s → IsSound s es → (m : Name) → Path (links s es) (Of m 0) (Of m 0) → ⊥
no_round s es ok sound m p =
    let one = principal s ok es sound.apart m in
    let all = degree-trail net_shape p.trail (Of m 0) in
    let even = even-trail net_shape p.trail (Of m 0) in
    let k = even.1 in
    let first = starts net_shape p.first p.trail in
    omega arith

module _ (n : Naming) (s : Start) (es : List Event) (ls : List Link) (h : Shows n s es ls) {p q : Spot} (ids : List LinkId) (j : Joins ls p ids q) where
  -- the maker of a link of a path, by its name, is one by its id
  pub maker_by_id : (c : Event) (l : NetLink) → IsIn l (map (link_of n) j.links) → l.maker ≡ Some c → Maker n ids c
  maker_by_id c l i made = by x.0.id.maker refl (h.held x.0 (in-trail shape j.trail x.1)).maker (ap (λ y. y.maker) x.2 ∙ made)
    where
      x : (y : Link) × IsIn y j.links × (link_of n y ≡ l)
      x = map_cases (link_of n) j.links i

      named : IsIn x.0.id ids
      named = subst (λ xs. IsIn x.0.id xs) j.named (in-map (λ y. y.id) x.1)

      by : (m : MakerId) → x.0.id.maker ≡ m → has_maker n m ≡ true → maker_of n m ≡ Some c → Maker n ids c
      by maker.Start e a b = cc
      by (maker.Event d) e a b = (d, x.0.id, named, e, a, cc)

  -- and the other way round
  pub maker_by_name : (c : Event) → Maker n ids c → (l : NetLink) × IsIn l (map (link_of n) j.links) × (l.maker ≡ Some c)
  maker_by_name c k =
      let x = map_cases (λ (y : Link). y.id) j.links (subst (λ xs. IsIn k.1 xs) (sym j.named) k.2) in
      (link_of n x.0, in-map (link_of n) x.1, ap (maker_of n) (ap (λ i. i.maker) x.2 ∙ k.3) ∙ ap Some k.5)

  -- the maker of a link of the path is held
  pub maker_held : (d : EventId) → IsMaker ids d → n.has_event d ≡ true
  maker_held d (id, i, q) =
      let x = map_cases (λ (y : Link). y.id) j.links (subst (λ xs. IsIn id xs) (sym j.named) i) in
      let made : x.0.id.maker ≡ maker.Event d = ap (λ y. y.maker) x.2 ∙ q in
      rw made at ((h.held x.0 (in-trail shape j.trail x.1)).maker)

module _ (n : Naming) (s : Start) (es : List Event) (ls : List Link) (ok : IsProper s) (sound : IsSound s es) (h : Shows n s es ls)
    (a b : AgentId) (ids : List LinkId) (e c : Event) (lead : n.agent a ≡ e.lead) (other : n.agent b ≡ e.other) (j : Joins ls (spot.Agent a 0) ids (spot.Agent b 0)) where
  -- the path by ports
  path_trail : (left : List NetLink) × Trail net_shape (links s es) (Of e.lead 0) (map (link_of n) j.links) (Of e.other 0) left
  path_trail = let t = trail_named n s es ls h j.trail in (t.0, rw (← lead, ← other) t.1)

  -- any other path between these ports has its links
  path_links : (p : Path (links s es) (Of e.lead 0) (Of e.other 0)) → p.first ∷ p.others ≡ map (link_of n) j.links
  path_links p = by (same_name e.other e.lead) refl
    where
      by : (t : Bool) → same_name e.other e.lead ≡ t → p.first ∷ p.others ≡ map (link_of n) j.links
      by true q = absurd (no_round s es ok sound e.lead (subst (λ x. Path (links s es) (Of e.lead 0) (Of x 0)) (same_name_true e.other e.lead q) p))
      by false q = same_links s ok es sound.apart e.lead e.other (λ i. (let r = is_named i in cc)) p.trail path_trail.1

  -- a cause made a link of the path
  pub cause_maker : IsCause s es e c → Maker n ids c
  cause_maker k = maker_by_id n s es ls h ids j c k.link (subst (λ xs. IsIn k.link xs) (path_links k.path) k.on_path) k.made

  -- and the maker of a link of the path is a cause
  pub maker_cause : Maker n ids c → IsCause s es e c
  maker_cause k = by j.links path_trail.1 l.1
    where
      l : (x : NetLink) × IsIn x (map (link_of n) j.links) × (x.maker ≡ Some c)
      l = maker_by_name n s es ls h ids j c k

      by : (xs : List Link) → Trail net_shape (links s es) (Of e.lead 0) (map (link_of n) xs) (Of e.other 0) path_trail.0 → IsIn l.0 (map (link_of n) xs) → IsCause s es e c
      by [] t i = absurd (none_in i)
      by (x ∷ xs) t i = record {
        path = record { first = link_of n x; others = map (link_of n) xs; left_over = path_trail.0; trail = t };
        link = l.0;
        on_path = i;
        made = l.2;
      }
