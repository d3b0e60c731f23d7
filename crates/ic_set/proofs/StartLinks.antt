-- The links of a start, between the agents under given ids.
use Rattle.std.proofs.Common.{◌≡◌, ℕ, ◌+◌, ◌<◌, ◌≤◌, true, List, [], ◌∷◌, map, length, slice_get, inl, inr, Some, None, refl, sym, ap, arith, subst, ◌∙◌}
use Rattle.std.specs.Prelude.{slice_index_or}
use Rattle.std.proofs.lemmas.List.{get_or-map}
use Rattle.std.proofs.lemmas.Option.{slice_get_within, get_or_from_slice_get}
use Rattle.ic_name.specs.Names.{start_name}
use Rattle.ic_name.specs.declared.ids.AgentId.{AgentId}
use Rattle.ic_name.specs.declared.ids.LinkId.{LinkId}
use Rattle.ic_name.specs.declared.ids.Link.{Link}
use Rattle.ic_name.specs.declared.ids.Spot.{Spot}
use Rattle.ic_name.specs.declared.ids.Spot.TheVariants as spot
use Rattle.ic_name.specs.declared.ports.Port.TheVariants as port
use Rattle.ic_path.specs.Orders.{here, IsIn}
use Rattle.ic_path.proofs.Picks.{none_in, two_picks, in_others, in-cons_cases}
use Rattle.ic_link.specs.Links.{HaveOwnIds}
use Rattle.ic_link.specs.Made.{no_id}
use Rattle.ic_theory.specs.Born.{placed}
use Rattle.ic_start.specs.Starts.{port_at, join_of, IsStartSpot, AreStartLinks}
use Rattle.ic_cause.specs.Naming.{Naming, IsHeld, has_maker, maker_of, link_of, port_of}
use Rattle.ic_cause.proofs.OnePort.{HasSpot, AreHeld}
use Rattle.ic_set.specs.Joining.{moved_spot, moved_link, HasNumber, HaveNumbers}
use Rattle.ic_path.proofs.ListPlaces.{found_in}

-- so the numbers of a link's spots have ids
pub numbered_at : (ids : List AgentId) (ls : List Link) (i : ℕ) (l : Link) → HaveNumbers ids ls → slice_get ls i ≡ Some l → HasNumber ids l.a × HasNumber ids l.b
numbered_at ids ls i l all e = all l (found_in ls i l e)

-- and the link stands there among the moved ones
pub moved_at : (ids : List AgentId) (ls : List Link) (i : ℕ) (l d : Link) → slice_get ls i ≡ Some l → slice_index_or (map (moved_link ids) ls) i d ≡ moved_link ids l
moved_at ids ls i l d e = get_or-map (moved_link ids) ls i l d (slice_get_within ls i l e) ∙ ap (moved_link ids) (get_or_from_slice_get ls i l l e)

module _ (ids : List AgentId) (agents names : ℕ) where
  -- with as many ids as agents the number of each spot has an id
  spot_number : (p : Spot) → length ids ≡ agents → IsStartSpot agents names p → HasNumber ids p
  spot_number (spot.Agent a i) e h = let low = h.0 in omega arith
  spot_number (spot.Name j) e h = tt

  pub have_numbers : (k : ℕ) (ls : List Link) → length ids ≡ agents → AreStartLinks agents names k ls → HaveNumbers ids ls
  have_numbers k [] e p l i = absurd (none_in i)
  have_numbers k (x ∷ ls) e p l i = elim (in-cons_cases i) [
    | inl q ↦ subst (λ m. HasNumber ids m.a × HasNumber ids m.b) (sym q) (spot_number x.a e p.1, spot_number x.b e p.2)
    | inr j ↦ have_numbers (k + 1) ls e p.3 l j
  ]

  -- their places go on from the first one
  later : (k : ℕ) (ls : List Link) → AreStartLinks agents names k ls → (l : Link) → IsIn l (map (moved_link ids) ls) → k ≤ l.id.place
  later k [] p l i = absurd (none_in i)
  later k (x ∷ ls) p l i = elim (in-cons_cases i) [
    | inl q ↦ (let same : l.id.place ≡ k = ap (λ (m : Link). m.id.place) q ∙ ap (λ (d : LinkId). d.place) p.0 in omega arith)
    | inr j ↦ (let ih = later (k + 1) ls p.3 l j in omega arith)
  ]

  -- so each has its own id
  pub own_moved : (k : ℕ) (ls : List Link) → AreStartLinks agents names k ls → HaveOwnIds (map (moved_link ids) ls)
  own_moved k [] p l m rest pick i e = none_in (rest, pick)
  own_moved k (x ∷ ls) p l m rest pick i e = elim (two_picks here pick) [
    | inl q ↦ (
        let low = later (k + 1) ls p.3 m (subst (IsIn m) (sym q.1) i) in
        let first : l.id.place ≡ k = ap (λ (y : Link). y.id.place) (sym q.0) ∙ ap (λ (d : LinkId). d.place) p.0 in
        let same : m.id.place ≡ l.id.place = ap (λ (d : LinkId). d.place) e in
        absurd (omega arith))
    | inr r ↦ elim (in_others r.2 i) [
      | inl q ↦ (
          let low = later (k + 1) ls p.3 l (r.0, r.1) in
          let first : m.id.place ≡ k = ap (λ (y : Link). y.id.place) q ∙ ap (λ (d : LinkId). d.place) p.0 in
          let same : m.id.place ≡ l.id.place = ap (λ (d : LinkId). d.place) e in
          absurd (omega arith))
      | inr j ↦ own_moved (k + 1) ls p.3 l m r.0 r.1 j e
    ]
  ]

  module _ (n : Naming) (nth : (i : ℕ) → i < agents → (n.has_agent (slice_index_or ids i no_id) ≡ true) × (n.agent (slice_index_or ids i no_id) ≡ start_name i)) where
    -- their spots are held
    spot_held : (p : Spot) → IsStartSpot agents names p → HasSpot n (moved_spot ids p)
    spot_held (spot.Agent a i) h = (nth a.slot h.0).0
    spot_held (spot.Name j) h = refl

    -- and stand for the ports of the start
    spot_is : (p : Spot) → IsStartSpot agents names p → port_of n (moved_spot ids p) ≡ port_at p
    spot_is (spot.Agent a i) h = ap (λ m. port.Of m i) (nth a.slot h.0).1
    spot_is (spot.Name j) h = refl

    -- so they are held
    pub moved_held : (k : ℕ) (ls : List Link) → AreStartLinks agents names k ls → AreHeld n (map (moved_link ids) ls)
    moved_held k [] p l i = absurd (none_in i)
    moved_held k (x ∷ ls) p l i = elim (in-cons_cases i) [
      | inl q ↦ subst (IsHeld n) (sym q) (record { left = spot_held x.a p.1; right = spot_held x.b p.2; maker = ap (λ (d : LinkId). has_maker n d.maker) p.0 })
      | inr j ↦ moved_held (k + 1) ls p.3 l j
    ]

    -- and by names they are the links of the start
    pub moved_named : (k : ℕ) (ls : List Link) → AreStartLinks agents names k ls → map (link_of n) (map (moved_link ids) ls) ≡ placed None k (map join_of ls)
    moved_named k [] p = refl
    moved_named k (x ∷ ls) p =
        let id = p.0 in
        let a = spot_is x.a p.1 in
        let b = spot_is x.b p.2 in
        let rest = moved_named (k + 1) ls p.3 in
        λ u. record { maker = maker_of n (id u).maker; place = (id u).place; a = a u; b = b u } ∷ rest u
