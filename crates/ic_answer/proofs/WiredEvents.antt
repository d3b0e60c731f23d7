-- A wire and the events that made it, as the machine has them.
use Rattle.std.proofs.Common.{◌≡◌, ℕ, List, inr, sym, subst, ◌∙◌}
use Rattle.ic_name.specs.Events.{Event}
use Rattle.ic_name.specs.declared.ids.EventId.{EventId}
use Rattle.ic_name.specs.declared.ports.Port.{Port}
use Rattle.ic_name.specs.declared.ports.Port.TheVariants.{Of}
use Rattle.ic_name.specs.declared.ports.Port.TheVariants as port
use Rattle.ic_path.specs.Orders.{Alike, IsIn}
use Rattle.ic_path.proofs.Alikes.{alike_back}
use Rattle.ic_path.proofs.InLists.{map_cases}
use Rattle.ic_path.proofs.Orders.{degree-alike}
use Rattle.ic_theory.specs.Born.{born_agents, born_links}
use Rattle.ic_theory.specs.Starts.{Start, start_agents, start_links, net_shape}
use Rattle.ic_theory.specs.Machine.{State, events}
use Rattle.ic_theory.specs.Wires.{IsLoose, IsWire}
use Rattle.ic_theory.proofs.Future.{in_included, made_alike, path_included, trail_included}
use Rattle.ic_theory.proofs.Ranks.{consumed-alike, same_set}
use Rattle.ic_theory.proofs.Restored.{rank-alike}
use Rattle.ic_theory.proofs.Sound.{maker_in, trail_link}
use Rattle.ic_roster.specs.Rosters.{Stander}
use Rattle.ic_set.specs.Views.{events_of, standing}
use Rattle.ic_set.specs.Wires.{IsWireMaker, IsWireAt}
use Rattle.ic_set.proofs.Namings.{same_stander}
use Rattle.ic_journal.specs.Views.{BenchView, set_of}
use Rattle.ic_journal.specs.Benches.{IsAt, IsBench}
use Rattle.ic_journal.proofs.MachineSteps.{events_at}
use Rattle.ic_answer.specs.Texts.{refusal_text}
use Rattle.ic_answer.specs.declared.refused.Refused.TheVariants.{NoPort}
use Rattle.ic_answer.specs.Wired.{IsWiredBy, TellsWire, wire_text, wire, no_wire}
use Rattle.ic_answer.proofs.Images.{each_image}

module _ (s : Start) {es fs : List Event} (a : Alike es fs) where
  -- a loose port is loose in any order of the set
  loose-alike : (p : Port) → IsLoose s es p → IsLoose s fs p
  loose-alike (Of n i) l = (l.0, in_included born_agents (start_agents s) (same_set a) l.1, l.2, sym (consumed-alike n a) ∙ l.3)
  loose-alike (port.Name j) l = sym (degree-alike net_shape (made_alike (born_links s.profile) (start_links s) a) (port.Name j)) ∙ l

  -- and a wire is a wire
  pub wire-alike : {p q : Port} → IsWire s es p q → IsWire s fs p q
  wire-alike {p} {q} w = record { path = path_included s (same_set a) w.path; from_loose = loose-alike p w.from_loose; to_loose = loose-alike q w.to_loose }

  -- with the same makers
  pub maker-alike : {p : Port} {c : Event} → IsWireMaker s es p c → IsWireMaker s fs p c
  maker-alike {p} m =
      let t = trail_included s (same_set a) m.wire.path.trail in
      record {
        far = m.far;
        wire = record {
          path = record { first = m.wire.path.first; others = m.wire.path.others; left_over = t.0; trail = t.1 };
          from_loose = loose-alike p m.wire.from_loose;
          to_loose = loose-alike m.far m.wire.to_loose;
        };
        link = m.link;
        on_path = m.on_path;
        made = m.made;
      }

-- a maker of a wire stands
maker_there : (v : BenchView) (p : Port) (c : Event) → IsWireMaker v.start (standing (set_of v)) p c
    → (y : Stander) × (IsIn y v.events × IsWireMaker v.start (standing (set_of v)) p y.event) × (y.event ≡ c)
maker_there v p c m =
    let k = map_cases (λ (y : Stander). y.event) v.events (maker_in v.start (standing (set_of v)) (trail_link m.wire.path.trail m.on_path.1) m.made) in
    (k.0, (k.1, subst (λ e. IsWireMaker v.start (standing (set_of v)) p e) (sym k.2) m), k.2)

-- the wire at a port of a bench
wired_at : (v : BenchView) {st : State} (p q : Port) (ids : List EventId) → IsBench v → IsAt v st → (w : IsWireAt (set_of v) p q ids) → IsWiredBy v.start (events st) p q (events_of w.made_by.order)
wired_at v {st} p q ids b at w = record {
  wire = wire-alike v.start (events_at v at) w.joins;
  each = each_image (λ (y : Stander). y.event) (λ y. IsIn y v.events × IsWireMaker v.start (standing (set_of v)) p y.event) (λ c. IsWireMaker v.start (events st) p c) w.made_by.order w.made_by.each
      (λ c m. maker_there v p c (maker-alike v.start (alike_back (events_at v at)) m))
      (λ y k. maker-alike v.start (events_at v at) k.1)
      (λ y z k l e. same_stander v.events y z b.set.own_lines k.0 l.0 (inr e));
  canonical = λ rank is. w.made_by.canonical rank (rank-alike v.start rank (alike_back (events_at v at)) is);
}

-- what is told of a port where a wire ends
pub tells_wire : (v : BenchView) → IsBench v → (p q : Port) (ids : List EventId) (w : IsWireAt (set_of v) p q ids) (text : List ℕ) → text ≡ wire_text v.start.names p q (events_of w.made_by.order)
    → (st : State) → IsAt v st → TellsWire v.start (events st) p text
tells_wire v b p q ids w text is st at = subst (λ t. TellsWire v.start (events st) p t) (sym is) (wire (wired_at v p q ids b at w))

-- and of one where none does
pub tells_no_wire : (v : BenchView) (p : Port) → ((q : Port) → IsWire v.start (standing (set_of v)) p q → ⊥) → (st : State) → IsAt v st → TellsWire v.start (events st) p (refusal_text NoPort)
tells_no_wire v p none st at = no_wire (λ q w. none q (wire-alike v.start (alike_back (events_at v at)) w))
