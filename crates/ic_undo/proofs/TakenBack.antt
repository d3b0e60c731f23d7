-- Events that came to stand and were undone again, the last first.
use Rattle.std.proofs.Common.{◌≡◌, ◌+◌, ◌≤◌, List, ◌++◌, map, length, reverse, refl, sym, ap, subst, arith, ◌∙◌}
use Rattle.std.proofs.lemmas.List.{length-map}
use Rattle.ic_name.specs.Events.{Pair}
use Rattle.ic_name.specs.declared.ids.EventId.{EventId}
use Rattle.ic_name.specs.declared.lines.Line.{Line}
use Rattle.ic_path.specs.Orders.{IsIn, Alike, IsOnce}
use Rattle.ic_path.proofs.Alikes.{alike_back, alike_then, alike-append, alike_self, alike-in, alike-map, alike-length, cancel_front}
use Rattle.ic_path.proofs.EachOnce.{once_alike}
use Rattle.ic_theory.specs.Born.{born_agents}
use Rattle.ic_theory.specs.Sets.{agents}
use Rattle.ic_theory.specs.Starts.{start_agents}
use Rattle.ic_theory.proofs.Future.{made_alike}
use Rattle.ic_roster.specs.Rosters.{Member, Stander}
use Rattle.ic_set.specs.Changes.{IsSame}
use Rattle.ic_set.specs.Sets.{IsStandingSet}
use Rattle.ic_set.specs.Views.{SetView, standing, agent_of}
use Rattle.ic_set.proofs.ActivePairs.{one_name, member_of}
use Rattle.ic_journal.specs.Benches.{IsBench}
use Rattle.ic_journal.specs.Views.{BenchView, set_of}
use Rattle.ic_undo.specs.Absorbing.{Fits, TakesBack}
use Rattle.ic_undo.specs.Coming.{Comes}
use Rattle.ic_undo.specs.GoingBack.{firing}
use Rattle.ic_journal.specs.Undone.{AreUndone, undoing}
use Rattle.ic_path.proofs.InLists.{in-map}
use Rattle.ic_undo.proofs.Backs.{alike_reverse}

-- agents are listed once
agents_once : (v : SetView) → IsStandingSet v → IsOnce v.agents
agents_once v set x rest k i = set.own_names.names x x rest k i refl

-- an agent of a set is one of another in which the same events stand, where both are parts of a third
agent_there : (v w all : SetView) → IsStandingSet v → IsStandingSet w → IsStandingSet all → w.start ≡ v.start → Alike (standing v) (standing w)
    → ((m : Member) → IsIn m v.agents → IsIn m all.agents) → ((m : Member) → IsIn m w.agents → IsIn m all.agents) → (m : Member) → IsIn m v.agents → IsIn m w.agents
agent_there v w all set set' whole start same up up' m i = subst (λ x. IsIn x w.agents) (one_name all whole found.0 m (up' found.0 found.1) (up m i) found.2) found.1
  where
    made : IsIn (m.name, m.kind) (agents v.start (standing w))
    made = alike-in (made_alike born_agents (start_agents v.start) same) (alike-in set.agents (in-map agent_of i))

    found : (n : Member) × IsIn n w.agents × (n.name ≡ m.name)
    found = let n = member_of w set' m.name m.kind (subst (λ s. IsIn (m.name, m.kind) (agents s (standing w))) (sym start) made) in (n.0, n.1, n.2)

module _ (old mid back new : BenchView) (names : List Pair) (ids : List EventId) (said : List Line) (before : IsBench old) (between : IsBench mid) (after : IsBench new) (c : Comes old names ids mid)
    (still : IsSame (set_of mid) (set_of back)) (lines : back.lines ≡ mid.lines ++ said) (room : mid.room ≤ back.room + length said) (u : AreUndone back (reverse c.fired.came) new) where
  -- the start is the same
  start : new.start ≡ old.start
  start = u.start ∙ still.start ∙ c.fired.start

  -- the same events stand under the same ids
  events : Alike old.events new.events
  events = cancel_front c.fired.came (alike_then c.fired.events (alike_then still.events (alike_then u.events (alike-append (alike_back (alike_reverse c.fired.came)) (alike_self new.events)))))

  -- so the same agents are there
  same_agents : Alike old.agents new.agents
  same_agents = once_alike old.agents new.agents (agents_once (set_of old) before.set) (agents_once (set_of new) after.set)
      (agent_there (set_of old) (set_of new) (set_of mid) before.set after.set between.set start stand up down)
      (agent_there (set_of new) (set_of old) (set_of mid) after.set before.set between.set (sym start) (alike_back stand) down up)
    where
      stand : Alike (standing (set_of old)) (standing (set_of new))
      stand = alike-map (λ (x : Stander). x.event) events

      up : (m : Member) → IsIn m old.agents → IsIn m mid.agents
      up = c.agents

      down : (m : Member) → IsIn m new.agents → IsIn m mid.agents
      down m i = alike-in (alike_back still.agents) (u.agents m i)

  -- the history
  all_lines : new.lines ≡ old.lines ++ map firing c.came ++ said ++ map undoing (reverse c.fired.came)
  all_lines = u.lines ∙ ap (λ ls. ls ++ map undoing (reverse c.fired.came)) (lines ∙ ap (λ ls. ls ++ said) c.fired.lines)

  -- all is as it was
  pub taken_back : Fits old names → TakesBack old names c.came said new
  taken_back fits = record {
    fits = fits;
    between = mid;
    lawful = between;
    in_turn = c.in_turn;
    fired = c.fired;
    standers = c.fired.came;
    named = c.fired.fired;
    there = c.free.there;
    lines = all_lines;
    same = record { start = start; agents = same_agents; events = events };
    room = (
        let one = c.fired.room in
        let two = u.room in
        let three = alike-length (alike_reverse c.fired.came) in
        let four = ap length c.fired.fired in
        let five = length-map c.fired.came (λ (x : Stander). x.event) in
        omega (arith, one, two, room, three, four, five));
  }
