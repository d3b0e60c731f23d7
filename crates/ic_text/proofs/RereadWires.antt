-- The wires of the net of a printed text: those that were printed, with the numbers that they had.
use Rattle.std.proofs.Common.{◌≡◌, ℕ, ◌+◌, Bool, true, false, List, [], ◌∷◌, ◌++◌, map, refl, sym, ap, subst, ◌∙◌, Some}
use Rattle.std.specs.Prelude.{cond, if◌then◌else◌, ◌||◌, option_map, position}
use Rattle.std.specs.List.{AllByRecursion, fold, flat_map, list_any, position_from}
use Rattle.std.specs.Ordering.{is_lt}
use Rattle.std.proofs.lemmas.List.{map-append}
use Rattle.std.proofs.lemmas.List.Folds.{flat_map-map}
use Rattle.std.proofs.lemmas.Iterator.Adapters.{position_from-zero}
use Rattle.std.proofs.Math.ListN.{get_or-map}
use Rattle.ic_name.specs.Same.{same_port}
use Rattle.ic_name.specs.declared.ports.Port.{Port}
use Rattle.ic_name.specs.declared.ports.Port.TheVariants.{Of}
use Rattle.ic_name.specs.declared.ports.Port.TheVariants as port
use Rattle.ic_theory.specs.Orders.{IsIn}
use Rattle.ic_theory.specs.Listed.{NetAgent, ListedNet, port_cmp, shown}
use Rattle.ic_theory.specs.Starts.{Start}
use Rattle.ic_text.specs.NetText.{shown_ports, partner_of, wire_of, line_wires, add, numbered_wires}
use Rattle.ic_text.specs.Printable.{IsPrintable}
use Rattle.ic_text.specs.Reread.{reread_port}
use Rattle.ic_text.proofs.Elements.{each_in, filter_map_cases}
use Rattle.ic_text.proofs.Everywhere.{each_append, each_flat}
use Rattle.ic_text.proofs.Owners.{owner_of, found_agent, listed_port, shown_within}
use Rattle.ic_text.proofs.Pointwise.{filter_map_agrees, flat_map_mapped}
use Rattle.ic_text.proofs.RereadListing.{IsRereadListing}
use Rattle.ic_text.proofs.RereadAgents.{image, same_agents}
use Rattle.ic_text.proofs.RereadOrder.{IsFound, cmp_kept, same_kept}

-- a free name, or a port of an agent that is there
abbrev pub IsEnd : List NetAgent → Port → Type 0
IsEnd as' (Of n i) = IsFound as' (Of n i)
IsEnd as' (port.Name j) = Unit {0}

module _ (names : List (List ℕ)) (l : ListedNet) (s : Start) (ok : IsPrintable names l) where
  -- a port with a partner is one
  pub end_of : (p q : Port) → (shown l).partner p ≡ Some q → IsEnd l.agents p
  end_of (Of n i) q e = let o = owner_of l ok.listing n i q e in (o.agent, o.found)
  end_of (port.Name j) q e = tt

  -- and so is its partner
  pub partner_end : (p q : Port) → (shown l).partner p ≡ Some q → IsEnd l.agents q
  partner_end p q e = end_of q p (ok.wired p q e).1

  -- an agent of the list is there
  pub agent_found : (a : NetAgent) (i : ℕ) → IsIn a l.agents → IsFound l.agents (Of a.name i)
  agent_found a i k = (a, found_agent a ok.listing.in_order k.1)

  -- the wire of two ports is read as that of the two
  pub wire_kept : (p q : Port) → IsFound l.agents p → IsEnd l.agents q → wire_of (reread_port names l s p) (reread_port names l s q) ≡ option_map (reread_port names l s) (wire_of p q)
  wire_kept (port.Name j) q f g = absurd f
  wire_kept (Of n i) (port.Name j) f g = refl
  wire_kept (Of n i) (Of m j) f g =
      ap (λ o. if is_lt o then Some (reread_port names l s (Of n i)) else Some (reread_port names l s (Of m j))) (cmp_kept names l s ok.listing.in_order n m i j f g) ∙ go (is_lt (port_cmp (Of n i) (Of m j)))
    where
      go : (b : Bool) → (if b then Some (reread_port names l s (Of n i)) else Some (reread_port names l s (Of m j))) ≡ option_map (reread_port names l s) (if b then Some (Of n i) else Some (Of m j))
      go true = refl
      go false = refl

  -- it is one of them
  pub wire_found : (p q w : Port) → IsFound l.agents p → IsEnd l.agents q → wire_of p q ≡ Some w → IsFound l.agents w
  wire_found p (port.Name j) w f g e = cc
  wire_found p (Of m j) w f g e = go (is_lt (port_cmp p (Of m j))) e
    where
      go : (b : Bool) → (if b then Some p else Some (Of m j)) ≡ Some w → IsFound l.agents w
      go true h = let k : p ≡ w = cc in subst (IsFound l.agents) k f
      go false h = let k : Of m j ≡ w = cc in subst (IsFound l.agents) k g

  -- the partner of a port in an agent's line
  line_partner : (a : NetAgent) (i : ℕ) → IsIn a l.agents → IsIn i (shown_ports a.kind) → IsEnd l.agents (partner_of a i)
  line_partner a i k j = partner_end (Of a.name i) (partner_of a i) (listed_port l ok.listing a i k (shown_within a.kind i j))

  -- partners are read as partners
  pub partner_kept : (a : NetAgent) (i : ℕ) → partner_of (image names l s a) i ≡ reread_port names l s (partner_of a i)
  partner_kept a i = get_or-map (reread_port names l s) a.partners i (Of a.name i)

  -- the wires of a line
  line_kept : (a : NetAgent) → IsIn a l.agents → line_wires (image names l s a) ≡ map (reread_port names l s) (line_wires a)
  line_kept a k = filter_map_agrees _ (reread_port names l s) _ (shown_ports a.kind)
      (λ i j. ap (wire_of (Of (image names l s a).name i)) (partner_kept a i) ∙ wire_kept (Of a.name i) (partner_of a i) (agent_found a i k) (line_partner a i k j))

  -- the wires of all lines
  lines_kept : flat_map line_wires (map (image names l s) l.agents) ≡ map (reread_port names l s) (flat_map line_wires l.agents)
  lines_kept = flat_map-map line_wires (image names l s) l.agents ∙ flat_map_mapped _ (reread_port names l s) line_wires l.agents line_kept

  -- these are ports of agents that are there
  lines_found : AllByRecursion (IsFound l.agents) (flat_map line_wires l.agents)
  lines_found = each_flat (IsFound l.agents) line_wires l.agents (each_in _ l.agents (λ a k. each_in _ (line_wires a) (by_port a k)))
    where
      by_port : (a : NetAgent) → IsIn a l.agents → (w : Port) → IsIn w (line_wires a) → IsFound l.agents w
      by_port a k w j =
          let r = filter_map_cases (λ i. wire_of (Of a.name i) (partner_of a i)) (shown_ports a.kind) j in
          wire_found (Of a.name r.0) (partner_of a r.0) w (agent_found a r.0 k) (line_partner a r.0 k r.1) r.2

  -- a wire is one of some wires after reading where it was before
  any_kept : (w : Port) (ws : List Port) → IsFound l.agents w → AllByRecursion (IsFound l.agents) ws → list_any (same_port (reread_port names l s w)) (map (reread_port names l s) ws) ≡ list_any (same_port w) ws
  any_kept w [] f h = refl
  any_kept w (x ∷ xs) f h = λ u. same_kept names l s ok.listing.in_order w x f h.0 u || any_kept w xs f h.1 u

  -- one more wire
  add_kept : (ws : List Port) (w : Port) → AllByRecursion (IsFound l.agents) ws → IsFound l.agents w → add (map (reread_port names l s) ws) (reread_port names l s w) ≡ map (reread_port names l s) (add ws w)
  add_kept ws w h f = ap (λ b. if b then map (reread_port names l s) ws else map (reread_port names l s) ws ++ reread_port names l s w ∷ []) (any_kept w ws f h) ∙ go (list_any (same_port w) ws)
    where
      go : (b : Bool) → (if b then map (reread_port names l s) ws else map (reread_port names l s) ws ++ reread_port names l s w ∷ []) ≡ map (reread_port names l s) (if b then ws else ws ++ w ∷ [])
      go true = refl
      go false = sym (map-append (reread_port names l s) ws (w ∷ []))

  add_found : (ws : List Port) (w : Port) → AllByRecursion (IsFound l.agents) ws → IsFound l.agents w → AllByRecursion (IsFound l.agents) (add ws w)
  add_found ws w h f = go (list_any (same_port w) ws)
    where
      go : (b : Bool) → AllByRecursion (IsFound l.agents) (if b then ws else ws ++ w ∷ [])
      go true = h
      go false = each_append (IsFound l.agents) ws (w ∷ []) h (f, tt)

  -- more wires
  fold_kept : (xs ws : List Port) → AllByRecursion (IsFound l.agents) xs → AllByRecursion (IsFound l.agents) ws → fold add (map (reread_port names l s) ws) (map (reread_port names l s) xs) ≡ map (reread_port names l s) (fold add ws xs)
  fold_kept [] ws f h = refl
  fold_kept (x ∷ xs) ws f h = ap (λ z. fold add z (map (reread_port names l s) xs)) (add_kept ws x h f.0) ∙ fold_kept xs (add ws x) f.1 (add_found ws x h f.0)

  fold_found : (xs ws : List Port) → AllByRecursion (IsFound l.agents) xs → AllByRecursion (IsFound l.agents) ws → AllByRecursion (IsFound l.agents) (fold add ws xs)
  fold_found [] ws f h = h
  fold_found (x ∷ xs) ws f h = fold_found xs (add ws x) f.1 (add_found ws x h f.0)

  -- the numbered wires
  numbered_found : AllByRecursion (IsFound l.agents) (numbered_wires l.agents)
  numbered_found = fold_found (flat_map line_wires l.agents) [] lines_found tt

  pub image_wires : numbered_wires (map (image names l s) l.agents) ≡ map (reread_port names l s) (numbered_wires l.agents)
  image_wires = ap (fold add []) lines_kept ∙ fold_kept (flat_map line_wires l.agents) [] lines_found tt

  -- their places
  place_kept : (w : Port) (i : ℕ) (ws : List Port) → IsFound l.agents w → AllByRecursion (IsFound l.agents) ws → position_from (same_port (reread_port names l s w)) i (map (reread_port names l s) ws) ≡ position_from (same_port w) i ws
  place_kept w i [] f h = refl
  place_kept w i (x ∷ xs) f h = λ u. cond (same_kept names l s ok.listing.in_order w x f h.0 u) (Some i) (place_kept w (i + 1) xs f h.1 u)

  -- the place of a wire
  pub position_kept : (w : Port) → IsFound l.agents w → position (same_port (reread_port names l s w)) (map (reread_port names l s) (numbered_wires l.agents)) ≡ position (same_port w) (numbered_wires l.agents)
  position_kept w f =
      position_from-zero (same_port (reread_port names l s w)) (map (reread_port names l s) (numbered_wires l.agents)) ∙ place_kept w 0 (numbered_wires l.agents) f numbered_found ∙ sym (position_from-zero (same_port w) (numbered_wires l.agents))

-- the wires of the net read are those of the net printed
pub same_wires : (names : List (List ℕ)) (l m : ListedNet) (s : Start) → IsRereadListing names l s m → numbered_wires m.agents ≡ map (reread_port names l s) (numbered_wires l.agents)
same_wires names l m s is = ap numbered_wires (same_agents names l m s is) ∙ image_wires names l s is.printed
