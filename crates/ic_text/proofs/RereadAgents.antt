-- The agents of the net of a printed text: those that were printed, by their lines.
use Rattle.std.proofs.Common.{◌≡◌, ℕ, ◌+◌, List, map, refl, sym, ap, subst, ◌∙◌, arith, Option, Some, None}
use Rattle.std.specs.Prelude.{option_map, slice_get}
use Rattle.std.proofs.lemmas.Option.{slice_get-map}
use Rattle.ic_name.specs.Names.{Name, start_name}
use Rattle.ic_name.specs.declared.ports.Port.{Port}
use Rattle.ic_name.specs.declared.ports.Port.TheVariants.{Of}
use Rattle.ic_name.specs.declared.ports.Port.TheVariants as port
use Rattle.ic_theory.specs.Orders.{IsIn}
use Rattle.ic_theory.specs.Born.{named}
use Rattle.ic_theory.specs.Listed.{NetAgent, ListedNet, IsListing, agent_among, partner_at, shown}
use Rattle.ic_theory.specs.Nets.{IsSameNet, kind_among}
use Rattle.ic_theory.specs.Starts.{Start}
use Rattle.ic_net.proofs.OneListing.{one_listing}
use Rattle.ic_text.specs.Reread.{line_of, reread_port}
use Rattle.ic_text.proofs.Owners.{found_agent, owner_of}
use Rattle.ic_text.proofs.Everywhere.{each}
use Rattle.ic_text.proofs.NumberedAgents.{image_at, images, images_lines, images_kind, images_sorted, images_there, images_from, images_whole, by_index}
use Rattle.ic_text.proofs.RereadListing.{IsRereadListing}
use Rattle.ic_theory.proofs.InLists.{map_agrees}

-- an agent by its line
abbrev pub image : List (List ℕ) → ListedNet → Start → NetAgent → NetAgent
image names l s a = image_at (reread_port names l s) (line_of l.agents a.name) a

module _ (names : List (List ℕ)) (l m : ListedNet) (s : Start) (is : IsRereadListing names l s m) where
  -- a port of an agent that was printed has the partner that it had
  image_partner : (n : Name) (i : ℕ) (q : Port) → (shown l).partner (Of n i) ≡ Some q
      → partner_at i (agent_among (start_name (line_of l.agents n)) (images (reread_port names l s) 0 l.agents)) ≡ Some (reread_port names l s q)
  image_partner n i q e =
      let o = owner_of l is.printed.listing n i q e in
      let line : 0 + line_of l.agents n ≡ line_of l.agents n = omega arith in
      let found = rw line at (images_there (reread_port names l s) 0 l.agents n o.agent o.found) in
      let listed : slice_get o.agent.partners i ≡ Some q = sym (ap (partner_at i) o.found) ∙ e in
      ap (partner_at i) found ∙ slice_get-map (reread_port names l s) o.agent.partners i ∙ ap (option_map (reread_port names l s)) listed

  -- a port of an agent that was printed, by the port that it was
  record WasPort (n : Name) (i : ℕ) : Type 0 where
    name : Name
    partner : Port
    partners : (shown l).partner (Of name i) ≡ Some partner
    line : n ≡ start_name (line_of l.agents name)

  -- each with a partner was one
  port_of : (n : Name) (i : ℕ) (y : Port) → partner_at i (agent_among n (images (reread_port names l s) 0 l.agents)) ≡ Some y → WasPort n i
  port_of n i y e = go (agent_among n (images (reread_port names l s) 0 l.agents)) refl e
    where
      by_place : (a : NetAgent) → IsIn a l.agents → n ≡ start_name (0 + line_of l.agents a.name) → (o : Option Port) → slice_get a.partners i ≡ o → option_map (reread_port names l s) o ≡ Some y → WasPort n i
      by_place a k name None f g = cc
      by_place a k name (Some q) f g =
          let line : 0 + line_of l.agents a.name ≡ line_of l.agents a.name = omega arith in
          record { name = a.name; partner = q; partners = ap (partner_at i) (found_agent a is.printed.listing.in_order k.1) ∙ f; line = name ∙ ap start_name line }

      go : (o : Option NetAgent) → agent_among n (images (reread_port names l s) 0 l.agents) ≡ o → partner_at i o ≡ Some y → WasPort n i
      go None f g = cc
      go (Some c) f g =
          let w = images_from (reread_port names l s) 0 l.agents n c is.printed.listing.in_order f in
          let h : partner_at i (Some (image_at (reread_port names l s) (0 + line_of l.agents w.agent.name) w.agent)) ≡ Some y = ap (λ z. partner_at i (Some z)) (sym w.is) ∙ g in
          by_place w.agent w.listed w.name (slice_get w.agent.partners i) refl (sym (slice_get-map (reread_port names l s) w.agent.partners i) ∙ h)

  -- the partner of a port is that of the port that it was
  partner : (n : Name) (i : ℕ) → (shown m).partner (Of n i) ≡ partner_at i (agent_among n (images (reread_port names l s) 0 l.agents))
  partner n i = go (partner_at i (agent_among n (images (reread_port names l s) 0 l.agents))) ((shown m).partner (Of n i)) refl refl
    where
      same : (w : WasPort n i) → (shown m).partner (Of n i) ≡ partner_at i (agent_among n (images (reread_port names l s) 0 l.agents))
      same w =
          let a = is.partners (Of w.name i) w.partner w.partners in
          let b = image_partner w.name i w.partner w.partners in
          subst (λ z. (shown m).partner (Of z i) ≡ partner_at i (agent_among z (images (reread_port names l s) 0 l.agents))) (sym w.line) (a ∙ sym b)

      was : (z : Port) → (shown m).partner (Of n i) ≡ Some z → WasPort n i
      was z e = let r = is.no_others (Of n i) z e in by_port r.0 r.1 r.2 r.3
        where
          by_port : (p q : Port) → (shown l).partner p ≡ Some q → Of n i ≡ reread_port names l s p → WasPort n i
          by_port (port.Name j) q f g = cc
          by_port (Of x j) q f g = let h : i ≡ j = cc in record { name = x; partner = q; partners = subst (λ k. (shown l).partner (Of x k) ≡ Some q) (sym h) f; line = cc }

      go : (o z : Option Port) → partner_at i (agent_among n (images (reread_port names l s) 0 l.agents)) ≡ o → (shown m).partner (Of n i) ≡ z
          → (shown m).partner (Of n i) ≡ partner_at i (agent_among n (images (reread_port names l s) 0 l.agents))
      go None None e f = f ∙ sym e
      go (Some y) z e f = same (port_of n i y e)
      go None (Some z) e f = same (was z f)

  -- the lists with the agents that were printed
  abbrev with_printed : ListedNet
  with_printed = record { agents = images (reread_port names l s) 0 l.agents; frees = m.frees; rings = m.rings; profile = m.profile }

  -- they are a listing
  printed_listing : IsListing with_printed
  printed_listing = record {
    in_order = images_sorted (reread_port names l s) 0 l.agents;
    whole = by_index _ _ (images_whole (reread_port names l s) 0 l.agents (each _ l.agents is.printed.listing.whole));
    numbered = is.printable.listing.numbered;
  }

  -- of the net read
  printed_same : IsSameNet (shown m) (shown with_printed)
  printed_same = record {
    kinds = λ n. is.same.kinds n ∙ ap (λ ks. kind_among n (named start_name 0 ks)) is.reread.kinds ∙ sym (images_kind (reread_port names l s) 0 l.agents n);
    partners = both;
    rings = refl;
    profile = refl;
  }
    where
      both : (p : Port) → (shown m).partner p ≡ (shown with_printed).partner p
      both (Of n i) = partner n i
      both (port.Name j) = refl

  -- its agents are those that were printed, by their lines
  pub same_agents : m.agents ≡ map (image names l s) l.agents
  same_agents =
      let lists : m ≡ with_printed = one_listing m with_printed is.printable.listing printed_listing printed_same in
      ap (λ (z : ListedNet). z.agents) lists ∙ images_lines (reread_port names l s) 0 l.agents is.printed.listing.in_order
      ∙ map_agrees _ _ l.agents (λ a k. let line : 0 + line_of l.agents a.name ≡ line_of l.agents a.name = omega arith in ap (λ (i : ℕ). image_at (reread_port names l s) i a) line)
