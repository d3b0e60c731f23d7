-- The wires between the free names of the net of a printed text are those of the text.
use Rattle.std.proofs.Common.{◌≡◌, ℕ, List, sym, ap, subst, ◌∙◌, Some}
use Rattle.std.specs.List.{filter_map}
use Rattle.std.specs.Ordering.{nat_cmp, is_lt}
use Rattle.std.specs.Cmp.Lexicographic.{slice_cmp}
use Rattle.ic_name.specs.declared.ports.Port.{Port}
use Rattle.ic_name.specs.declared.ports.Port.TheVariants.{Of}
use Rattle.ic_name.specs.declared.ports.Port.TheVariants as port
use Rattle.ic_theory.specs.Orders.{IsIn}
use Rattle.ic_theory.specs.Listed.{ListedNet, shown}
use Rattle.ic_theory.specs.Starts.{Start}
use Rattle.ic_text.specs.NetText.{name_text, free_wire, free_wires}
use Rattle.ic_text.specs.Reread.{reread_port}
use Rattle.ic_text.proofs.PrintedEntries.{Texts}
use Rattle.ic_text.proofs.FreeNames.{FreeWire, free_wire_of, free_wire_there}
use Rattle.ic_text.proofs.SortedEntries.{entered_in_order, same_rising}
use Rattle.ic_text.proofs.PrintedStart.{number_in}
use Rattle.ic_text.proofs.RereadListing.{IsRereadListing}

module _ (names : List (List ℕ)) (l m : ListedNet) (s : Start) (is : IsRereadListing names l s m) where
  -- a free name's text
  near_text : (j k : ℕ) → (shown l).partner (port.Name j) ≡ Some (port.Name k) → name_text s.names (number_in s (name_text names j)) ≡ name_text names j
  near_text j k e = is.texts j (port.Name k) e

  -- its partner's
  far_text : (j k : ℕ) → (shown l).partner (port.Name j) ≡ Some (port.Name k) → name_text s.names (number_in s (name_text names k)) ≡ name_text names k
  far_text j k e = is.texts k (port.Name j) (is.printed.wired (port.Name j) (port.Name k) e).1

  -- both
  two_texts : (j k : ℕ) → (shown l).partner (port.Name j) ≡ Some (port.Name k)
      → ◌≡◌ {A = Texts} (name_text s.names (number_in s (name_text names j)), name_text s.names (number_in s (name_text names k))) (name_text names j, name_text names k)
  two_texts j k e = λ u. (near_text j k e u, far_text j k e u)

  -- a wire of the net printed is one of the net read
  wire_read : (x : Texts) → IsIn x (free_wires names l.frees) → IsIn x (free_wires s.names m.frees)
  wire_read x i =
      let w = free_wire_of names l is.printed i in
      let both = two_texts w.near w.other w.partners in
      let less = ap (λ (z : Texts). is_lt (slice_cmp nat_cmp z.0 z.1)) both ∙ w.ordered in
      let there_is = free_wire_there s.names m is.printable (number_in s (name_text names w.near)) (number_in s (name_text names w.other)) (is.partners (port.Name w.near) (port.Name w.other) w.partners) less in
      subst (λ z. IsIn z (free_wires s.names m.frees)) (both ∙ sym w.texts) there_is

  -- and the other way round
  wire_printed : (x : Texts) → IsIn x (free_wires s.names m.frees) → IsIn x (free_wires names l.frees)
  wire_printed x i = let w = free_wire_of s.names m is.printable i in let r = is.no_others (port.Name w.near) (port.Name w.other) w.partners in by_ports w r.0 r.1 r.2 r.3 r.4
    where
      by_ports : (w : FreeWire s.names m x) (p q : Port) → (shown l).partner p ≡ Some q → port.Name w.near ≡ reread_port names l s p → port.Name w.other ≡ reread_port names l s q → IsIn x (free_wires names l.frees)
      by_ports w (Of n i) q e f g = cc
      by_ports w (port.Name j) (Of n i) e f g = cc
      by_ports w (port.Name j) (port.Name k) e f g =
          let near : w.near ≡ number_in s (name_text names j) = cc in
          let other : w.other ≡ number_in s (name_text names k) = cc in
          let both : ◌≡◌ {A = Texts} (name_text s.names w.near, name_text s.names w.other) (name_text names j, name_text names k) = (λ u. (name_text s.names (near u), name_text s.names (other u))) ∙ two_texts j k e in
          let less = sym (ap (λ (z : Texts). is_lt (slice_cmp nat_cmp z.0 z.1)) both) ∙ w.ordered in
          subst (λ z. IsIn z (free_wires names l.frees)) (sym both ∙ sym w.texts) (free_wire_there names l is.printed j k e less)

  -- so they are the same, in the same order
  pub same_frees : free_wires s.names m.frees ≡ free_wires names l.frees
  same_frees = same_rising (free_wires s.names m.frees) (free_wires names l.frees) (entered_in_order (filter_map (free_wire s.names) m.frees)) (entered_in_order (filter_map (free_wire names) l.frees)) wire_printed wire_read
