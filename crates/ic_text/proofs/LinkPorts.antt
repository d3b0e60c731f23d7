-- The links of a text by the ports that they join.
use Rattle.std.proofs.Common.{◌≡◌, ℕ, List, [], ◌∷◌, ◌++◌, map, refl, ◌∙◌}
use Rattle.std.proofs.lemmas.List.{map-append}
use Rattle.ic_name.specs.declared.ids.Link.{Link}
use Rattle.ic_start.specs.declared.links.End.{End}
use Rattle.ic_start.specs.declared.links.End.TheVariants as the_ends
use Rattle.ic_start.specs.Links.{spot_of, link_of}
use Rattle.ic_start.specs.Starts.{port_at, join_of}
use Rattle.ic_text.specs.Ends.{port_of_end}

-- the spot of an end stands for the port that the end is
port_is : (e : End) → port_at (spot_of e) ≡ port_of_end e
port_is (the_ends.Agent port number) = refl
port_is (the_ends.Name number) = refl

-- one link more joins the ports of its ends
pub one_more : (ls : List Link) (number : ℕ) (a b : End) → map join_of (ls ++ link_of number a b ∷ []) ≡ map join_of ls ++ (port_of_end a, port_of_end b) ∷ []
one_more ls number a b =
    let left = port_is a in
    let right = port_is b in
    map-append join_of ls (link_of number a b ∷ []) ∙ (λ i. map join_of ls ++ (left i, right i) ∷ [])
