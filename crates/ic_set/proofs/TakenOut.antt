-- A standing set from which an event is taken out that nothing depends on.
use Rattle.std.proofs.Common.{◌≡◌, ℕ, List, ◌∷◌, ◌++◌, map, refl, ◌∙◌}
use Rattle.ic_name.specs.Events.{Event}
use Rattle.ic_name.specs.declared.ids.Link.{Link}
use Rattle.ic_path.specs.Orders.{Alike, IsIn}
use Rattle.ic_path.proofs.Alikes.{alike_back, alike_then, alike_more, alike-in}
use Rattle.ic_path.proofs.Picks.{in_more}
use Rattle.ic_link.specs.Links.{Drops}
use Rattle.ic_theory.specs.Causes.{IsCause, IsRank}
use Rattle.ic_theory.specs.Sound.{IsSound}
use Rattle.ic_theory.proofs.Ranks.{rank_one}
use Rattle.ic_path.proofs.InLists.{in-map}
use Rattle.ic_roster.specs.Rosters.{Member, Stander}
use Rattle.ic_set.specs.Changes.{TakesOut}
use Rattle.ic_set.specs.Removal.{IsFree}
use Rattle.ic_set.specs.Sets.{HasChildren, IsStandingSet, IsKept}
use Rattle.ic_set.specs.Views.{SetView, standing, events_of}
use Rattle.ic_set.proofs.CauseIds.{depends_to}
use Rattle.ic_set.proofs.CausesLeft.{causes_left}
use Rattle.ic_set.proofs.LinksLeft.{shows_left}
use Rattle.ic_set.proofs.Namings.{naming_of, extends}
use Rattle.ic_set.proofs.Parts.{taken_all}
use Rattle.ic_set.proofs.SmallerRosters.{in_back, fewer_names, fewer_lines, events_alike, children_once, agents_left, children_left}
use Rattle.ic_set.proofs.SmallerSets.{sound_left, rank_left}

module _ (v : SetView) (ls : List Link) (is : IsKept v ls) (entry : Stander) (there : IsIn entry v.events) (free : IsFree v entry.id) where
  -- no event has it among its direct causes
  no_cause : (f : Event) → IsIn f (standing v) → IsCause v.start (standing v) f entry.event → ⊥
  no_cause f i c = free entry there refl f (i, c)

  -- by ids neither
  pub nothing_depends : (x : Stander) → IsIn x v.events → IsIn entry.id x.causes → ⊥
  nothing_depends x i k =
      let c = depends_to v.start v.events is.set.own_lines is.set.causes entry x.id there (x, i, refl, k) in
      no_cause c.0.event (in-map (λ (y : Stander). y.event) c.1) c.3

  module _ (ms : List Member) (ss : List Stander) (left : List Link) (fewer : Alike v.events (entry ∷ ss))
      (gone : (children others : List Member) → map (λ m. m.id) children ≡ entry.born → Alike v.agents (children ++ others) → Alike others ms)
      (drops : Drops entry.id ls left) where
    -- its children
    held : HasChildren v.agents entry
    held = is.set.children entry there

    -- they go, and no other agents
    split : Alike v.agents (held.children ++ ms)
    split =
        let once = children_once v.start is.set.proper entry ss v.events is.set.sound fewer no_cause entry.born held.children held.are in
        let r = taken_all held.children v.agents once held.there in
        alike_then r.1 (alike_more held.children (gone held.children r.0 held.are.under r.1))

    -- the other events stood before
    up : {x : Stander} → IsIn x ss → IsIn x v.events
    up i = alike-in (alike_back fewer) (in_more entry i)

    -- what is left is sound
    smaller : IsSound v.start (events_of ss)
    smaller = sound_left v.start is.set.proper (standing v) entry.event (events_of ss) is.set.sound (events_alike fewer) no_cause

    -- the ranks are the same
    same_rank : (rank : Event → ℕ) → IsRank v.start (events_of ss) rank → (x : Stander) → IsIn x ss → x.rank ≡ rank x.event
    same_rank rank h x i =
        let all = is.set.sound in
        let r = rank_left v.start is.set.proper (standing v) entry.event (events_of ss) all (events_alike fewer) no_cause all.rank all.ranked in
        is.set.ranks all.rank all.ranked x (up i) ∙ rank_one v.start (events_of ss) all.rank rank r h x.event (in-map (λ (y : Stander). y.event) i)

    -- what is left is a standing set
    abbrev set_left : IsStandingSet (record { start = v.start; agents = ms; events = ss })
    set_left = record {
      proper = is.set.proper;
      sound = smaller;
      shallow = λ x i. is.set.shallow x (up i);
      agents = agents_left v.start is.set.proper entry ss v.events is.set.sound fewer no_cause entry.born held.children held.are v.agents ms split is.set.agents;
      own_names = fewer_names held.children ms split is.set.own_names;
      own_lines = fewer_lines entry ss fewer is.set.own_lines;
      children = λ x i. children_left v.start is.set.proper entry ss v.events is.set.sound fewer no_cause entry.born held.children held.are v.agents ms split x i (is.set.children x (up i));
      ranks = same_rank;
      causes = causes_left v.start is.set.proper entry ss v.events is.set.sound fewer no_cause is.set.causes;
    }

    -- and its links are kept
    pub kept_left : IsKept (record { start = v.start; agents = ms; events = ss }) left
    kept_left =
        let n = naming_of ms ss set_left.own_names set_left.own_lines in
        let less = extends ms v.agents ss v.events n.0 is.naming n.1 is.named (λ m i. alike-in (alike_back split) (in_back held.children i)) (λ x i. up i) in
        let e = is.named.events entry there in
        record {
          set = set_left;
          naming = n.0;
          named = n.1;
          shows = shows_left v.start is.set.proper is.naming n.0 (standing v) entry.event entry.id ls left ms ss is.set.sound (events_alike fewer) smaller
              is.shows e.0 e.1 drops less n.1 set_left.agents;
        }

    -- the event and its children are there no more
    pub takes_out : TakesOut v entry.id (record { start = v.start; agents = ms; events = ss })
    takes_out = record { entry = entry; children = held.children; under = refl; born = held.are; start = refl; agents = split; events = fewer }
