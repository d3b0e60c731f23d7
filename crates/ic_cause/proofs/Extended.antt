-- Where more ids are held, what was held stands for the same.
use Rattle.std.proofs.Common.{◌≡◌, true, List, [], ◌∷◌, map, Some, refl, sym, ap, ◌∙◌}
use Rattle.ic_name.specs.declared.ids.Link.{Link}
use Rattle.ic_name.specs.declared.ids.MakerId.{MakerId}
use Rattle.ic_name.specs.declared.ids.MakerId.TheVariants as maker
use Rattle.ic_name.specs.declared.ids.Spot.{Spot}
use Rattle.ic_name.specs.declared.ids.Spot.TheVariants as spot
use Rattle.ic_name.specs.declared.ports.Port.TheVariants as port
use Rattle.ic_path.proofs.Picks.{in_first, in_more}
use Rattle.ic_cause.specs.Naming.{Naming, TellsApart, IsHeld, Extends, port_of, maker_of, has_maker, link_of}
use Rattle.ic_cause.proofs.OnePort.{HasSpot, AreHeld}

module _ (n more : Naming) (x : Extends n more) where
  -- a spot's port
  port_kept : (p : Spot) → HasSpot n p → HasSpot more p × (port_of more p ≡ port_of n p)
  port_kept (spot.Agent a i) h = let k = x.agents a h in (k.0, ap (λ m. port.Of m i) k.1)
  port_kept (spot.Name j) h = (refl, refl)

  -- a maker
  maker_kept : (m : MakerId) → has_maker n m ≡ true → (has_maker more m ≡ true) × (maker_of more m ≡ maker_of n m)
  maker_kept maker.Start h = (refl, refl)
  maker_kept (maker.Event d) h = let k = x.events d h in (k.0, ap Some k.1)

  -- held links stay held
  pub held_kept : {l : Link} → IsHeld n l → IsHeld more l
  held_kept {l} h = record { left = (port_kept l.a h.left).0; right = (port_kept l.b h.right).0; maker = (maker_kept l.id.maker h.maker).0 }

  -- a held link's names
  link_kept : (l : Link) → IsHeld n l → link_of more l ≡ link_of n l
  link_kept l h =
      let a = (port_kept l.a h.left).1 in
      let b = (port_kept l.b h.right).1 in
      let m = (maker_kept l.id.maker h.maker).1 in
      λ u. record { maker = m u; place = l.id.place; a = a u; b = b u }

  -- those of all held links
  pub links_kept : (ls : List Link) → AreHeld n ls → map (link_of more) ls ≡ map (link_of n) ls
  links_kept [] h = refl
  links_kept (l ∷ ls) h =
      let first = link_kept l (h l (in_first l ls)) in
      let rest = links_kept ls (λ m i. h m (in_more l i)) in
      λ u. first u ∷ rest u

  -- ids told apart with more of them are told apart
  pub fewer_apart : TellsApart more → TellsApart n
  fewer_apart apart = record {
    agents = λ a b h k e. (let v = x.agents a h in let w = x.agents b k in apart.agents a b v.0 w.0 (v.1 ∙ e ∙ sym w.1));
    events = λ d c h k e. (let v = x.events d h in let w = x.events c k in apart.events d c v.0 w.0 (v.1 ∙ e ∙ sym w.1));
  }
