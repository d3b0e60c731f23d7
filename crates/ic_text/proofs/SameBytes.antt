-- The net that the text printed for a net denotes is printed by the same bytes.
use Rattle.std.proofs.Common.{◌≡◌, ℕ, List, [], ◌++◌, length, flat_map, ap, ◌∙◌}
use Rattle.std.proofs.lemmas.List.{length-map}
use Rattle.ic_theory.specs.Listed.{ListedNet, IsListing, shown}
use Rattle.ic_theory.specs.Nets.{IsSameNet, net_of}
use Rattle.ic_theory.specs.Starts.{Start}
use Rattle.ic_text.specs.Grammar.{Denotes}
use Rattle.ic_text.specs.NetText.{numbered_wires, free_line, ring_lines, header, profile_line, net_text}
use Rattle.ic_text.specs.Printable.{IsPrintable}
use Rattle.ic_text.specs.Reread.{reread_port}
use Rattle.ic_text.proofs.RereadListing.{IsRereadListing, reread_listing}
use Rattle.ic_text.proofs.RereadAgents.{image, same_agents}
use Rattle.ic_text.proofs.RereadWires.{same_wires}
use Rattle.ic_text.proofs.RereadLines.{same_lines}
use Rattle.ic_text.proofs.RereadFrees.{same_frees}
use Rattle.ic_text.proofs.RereadCounts.{same_count}

-- the net read is printed by the same bytes, part by part
same_parts : (names : List (List ℕ)) (l m : ListedNet) (s : Start) → IsRereadListing names l s m → net_text s.names m ≡ net_text names l
same_parts names l m s is =
    let agents : length m.agents ≡ length l.agents = ap length (same_agents names l m s is) ∙ length-map l.agents (image names l s) in
    let numbers : length (numbered_wires m.agents) ≡ length (numbered_wires l.agents) = ap length (same_wires names l m s is) ∙ length-map (numbered_wires l.agents) (reread_port names l s) in
    let wires = same_count names l m s is in
    let rings = is.same.rings ∙ is.reread.rings in
    let profile = is.same.profile ∙ is.reread.profile in
    let lines = same_lines names l m s is in
    let frees = same_frees names l m s is in
    λ u. header (agents u) (wires u) (rings u) ++ profile_line (profile u) ++ lines u ++ flat_map free_line (frees u) ++ ring_lines (numbers u) (rings u)

-- the net that a printed text denotes is printed by the same bytes
pub same_bytes : (names : List (List ℕ)) (l m : ListedNet) (s : Start) → IsPrintable names l → Denotes (net_text names l) s → IsListing m → IsSameNet (shown m) (net_of s []) → net_text s.names m ≡ net_text names l
same_bytes names l m s ok d h same = same_parts names l m s (reread_listing names l m s ok d h same)
