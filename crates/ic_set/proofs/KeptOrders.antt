-- What a standing set keeps doesn't depend on the order of its agents, events and links.
use Rattle.std.proofs.Common.{List}
use Rattle.ic_name.specs.declared.ids.Link.{Link}
use Rattle.ic_path.specs.Orders.{Alike}
use Rattle.ic_path.proofs.Alikes.{alike_back, alike_then, alike-map, alike-in}
use Rattle.ic_theory.specs.Starts.{Start, start_agents, start_links}
use Rattle.ic_theory.specs.Born.{born_agents, born_links}
use Rattle.ic_theory.specs.Sound.{IsSound}
use Rattle.ic_theory.proofs.Future.{made_alike}
use Rattle.ic_theory.proofs.Ranks.{sound-alike, same_set, cause_included}
use Rattle.ic_cause.specs.Naming.{Naming, link_of}
use Rattle.ic_cause.specs.Shown.{Shows}
use Rattle.ic_path.proofs.OnceLists.{each_once_so}
use Rattle.ic_roster.specs.Rosters.{Member, Stander}
use Rattle.ic_set.specs.Views.{events_of, agent_of}
use Rattle.ic_set.specs.Ids.{IsNaming}
use Rattle.ic_set.specs.Causes.{IsCauseId, HaveCauses}
use Rattle.ic_set.specs.Sets.{IsStandingSet, IsKept}
use Rattle.ic_set.proofs.Namings.{own_names_alike, own_lines_alike}
use Rattle.ic_set.proofs.KeptRanks.{part_ranks}

module _ (s : Start) {ms ms' : List Member} {ss ss' : List Stander} (agents_alike : Alike ms ms') (events_alike : Alike ss ss') where
  -- the events without their ids
  standing_alike : Alike (events_of ss) (events_of ss')
  standing_alike = alike-map (λ x. x.event) events_alike

  -- the causes
  causes_alike : HaveCauses s ss → HaveCauses s ss'
  causes_alike h x i =
      each_once_so {P = IsCauseId s ss x} {Q = IsCauseId s ss' x}
      (λ d w. (w.0, alike-in events_alike w.1, w.2, cause_included s (same_set standing_alike) w.3))
      (λ d w. (w.0, alike-in (alike_back events_alike) w.1, w.2, cause_included s (same_set (alike_back standing_alike)) w.3))
      (h x (alike-in (alike_back events_alike) i))

  -- what is seen
  set_alike : IsStandingSet (record { start = s; agents = ms; events = ss }) → IsStandingSet (record { start = s; agents = ms'; events = ss' })
  set_alike k = record {
    proper = k.proper;
    sound = sound;
    shallow = λ x i. k.shallow x (alike-in (alike_back events_alike) i);
    agents = alike_then (alike-map agent_of (alike_back agents_alike)) (alike_then k.agents (made_alike born_agents (start_agents s) standing_alike));
    own_names = own_names_alike agents_alike k.own_names;
    own_lines = own_lines_alike events_alike k.own_lines;
    children = λ x i. (let c = k.children x (alike-in (alike_back events_alike) i) in record { children = c.children; are = c.are; there = λ m j. alike-in agents_alike (c.there m j) });
    ranks = λ rank r x i. k.ranks rank (part_ranks s k.proper rank sound k.sound (same_set standing_alike) r) x (alike-in (alike_back events_alike) i);
    causes = causes_alike k.causes;
  }
    where
      sound : IsSound s (events_of ss')
      sound = sound-alike s standing_alike k.sound

  -- the naming
  naming_alike : {n : Naming} → IsNaming ms ss n → IsNaming ms' ss' n
  naming_alike h = record {
    agents = λ m i. h.agents m (alike-in (alike_back agents_alike) i);
    no_other_agents = λ a t. (let m = h.no_other_agents a t in (m.0, alike-in agents_alike m.1, m.2));
    events = λ x i. h.events x (alike-in (alike_back events_alike) i);
    no_other_events = λ d t. (let x = h.no_other_events d t in (x.0, alike-in events_alike x.1, x.2));
  }

  -- the links
  shows_alike : {n : Naming} {ls ls' : List Link} → Alike ls ls' → Shows n s (events_of ss) ls → Shows n s (events_of ss') ls'
  shows_alike {n} a h = record {
    apart = h.apart;
    held = λ l i. h.held l (alike-in (alike_back a) i);
    alike = alike_then (alike-map (link_of n) (alike_back a)) (alike_then h.alike (made_alike (born_links s.profile) (start_links s) standing_alike));
  }

  -- all of it
  pub kept_alike : {ls ls' : List Link} → Alike ls ls' → IsKept (record { start = s; agents = ms; events = ss }) ls → IsKept (record { start = s; agents = ms'; events = ss' }) ls'
  kept_alike a k = record { set = set_alike k.set; naming = k.naming; named = naming_alike k.named; shows = shows_alike a k.shows }
