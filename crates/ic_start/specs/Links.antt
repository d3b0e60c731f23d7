-- The links of a start, each by its two ends.
use Rattle.std.specs.Prelude.{◌≡◌, ℕ, ◌+◌, List, [], ◌∷◌, Option, Some, None}
use Rattle.ic_name.specs.declared.ids.Spot.{Spot}
use Rattle.ic_name.specs.declared.ids.Spot.TheVariants as spots
use Rattle.ic_name.specs.declared.ids.MakerId.TheVariants as makers
use Rattle.ic_name.specs.declared.ids.Link.{Link}
use Rattle.ic_start.specs.declared.links.End.{End}
use Rattle.ic_start.specs.declared.links.End.TheVariants as the_ends
use Rattle.ic_start.specs.declared.links.Ends.{Ends}

-- the spot that an end is
abbrev pub spot_of : End → Spot
spot_of (the_ends.Agent port number) = spots.Agent (record { slot = number; serial = 0 }) port
spot_of (the_ends.Name number) = spots.Name number

-- the link of a start with this number and these ends
abbrev pub link_of : ℕ → End → End → Link
link_of number a b = record { id = record { maker = makers.Start; place = number }; a = spot_of a; b = spot_of b }

-- the end with this port and this number: an agent's, or without a port a name
abbrev pub end_of : Option ℕ → ℕ → End
end_of (Some port) number = the_ends.Agent port number
end_of None number = the_ends.Name number

-- the port of an end, and its number
abbrev pub port_of : End → Option ℕ
port_of (the_ends.Agent port number) = Some port
port_of (the_ends.Name number) = None

abbrev pub number_of : End → ℕ
number_of (the_ends.Agent port number) = number
number_of (the_ends.Name number) = number

-- the two ends that are kept
abbrev pub first_end : Ends → End
first_end e = end_of e.a_port e.a_number

abbrev pub second_end : Ends → End
second_end e = end_of e.b_port e.b_number

-- the links with these ends, numbered from k on
abbrev pub links_from : ℕ → List Ends → List Link
links_from k [] = []
links_from k (e ∷ es) = link_of k (first_end e) (second_end e) ∷ links_from (k + 1) es

-- a spot of a start: its agent, if it is one's, has the serial number 0
abbrev pub IsOfStart : Spot → Type 0
IsOfStart (spots.Agent a i) = a.serial ≡ 0
IsOfStart (spots.Name j) = Unit {0}

-- links that the start made, numbered by place from k on
abbrev pub AreNumbered : ℕ → List Link → Type 0
AreNumbered k [] = Unit {0}
AreNumbered k (l ∷ ls) = (l.id ≡ record { maker = makers.Start; place = k }) × IsOfStart l.a × IsOfStart l.b × AreNumbered (k + 1) ls
