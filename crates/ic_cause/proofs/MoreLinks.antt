-- Where an event's links come, the set with the event is shown.
use Rattle.std.proofs.Common.{◌≡◌, List, ◌∷◌, ◌++◌, map, ◌⊎◌, inl, inr}
use Rattle.std.proofs.lemmas.List.{map-append}
use Rattle.ic_name.specs.Events.{Event}
use Rattle.ic_name.specs.declared.ids.Link.{Link}
use Rattle.ic_path.specs.Orders.{Alike, IsIn}
use Rattle.ic_path.proofs.Alikes.{alike_back, alike_then, alike_more, alike-map, alike-in}
use Rattle.ic_theory.specs.Born.{born_links}
use Rattle.ic_theory.specs.Sets.{links}
use Rattle.ic_theory.specs.Starts.{Start}
use Rattle.ic_theory.proofs.Future.{pick_part}
use Rattle.ic_cause.specs.Naming.{Naming, TellsApart, IsHeld, Extends, link_of}
use Rattle.ic_cause.specs.Shown.{Shows}
use Rattle.ic_cause.proofs.OnePort.{AreHeld}
use Rattle.ic_cause.proofs.Extended.{held_kept, links_kept}

-- the links with the new ones show the set with the event
pub shows_more : (n more : Naming) (s : Start) (es : List Event) (ls new all : List Link) (e : Event) → Shows n s es ls → Extends n more → TellsApart more
    → AreHeld more new → map (link_of more) new ≡ born_links s.profile e → Alike (new ++ ls) all → Shows more s (e ∷ es) all
shows_more n more s es ls new all e h x apart held made a = record {
  apart = apart;
  held = λ l i. by l (pick_part new ls (alike-in (alike_back a) i).1);
  alike = alike_then (alike-map (link_of more) (alike_back a)) named;
}
  where
    by : (l : Link) → IsIn l new ⊎ IsIn l ls → IsHeld more l
    by l (inl i) = held l i
    by l (inr i) = held_kept n more x (h.held l i)

    named : Alike (map (link_of more) (new ++ ls)) (links s (e ∷ es))
    named = rw (map-append (link_of more) new ls, made, links_kept n more x ls h.held) (alike_more (born_links s.profile e) h.alike)
