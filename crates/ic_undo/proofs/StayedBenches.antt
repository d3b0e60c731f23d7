-- Benches on which nothing has happened.
use Rattle.std.proofs.Common.{List, [], refl, sym, subst, arith, ◌∙◌}
use Rattle.std.proofs.lemmas.List.{append-nil}
use Rattle.ic_name.specs.Events.{Event}
use Rattle.ic_path.specs.Orders.{Alike}
use Rattle.ic_path.proofs.Alikes.{alike_back, alike_then, alike-in, alike-map}
use Rattle.ic_theory.specs.Causes.{IsCause}
use Rattle.ic_theory.proofs.Ranks.{same_set as same_events, cause_included}
use Rattle.ic_roster.specs.Rosters.{Stander}
use Rattle.ic_set.specs.Changes.{IsSame}
use Rattle.ic_set.specs.Views.{standing}
use Rattle.ic_journal.specs.Views.{BenchView, set_of}
use Rattle.ic_journal.specs.Calls.{Stays}
use Rattle.ic_journal.specs.Undone.{AreUndone, AreFree}
use Rattle.ic_set.proofs.Admissions.{same_self}

-- a bench stays as it is
pub unchanged : (v : BenchView) → Stays v v
unchanged v = record { same = same_self (set_of v); lines = refl; room = omega arith }

-- where only the room changes no event is undone
pub none_undone : (old new : BenchView) → Stays old new → AreUndone old [] new
none_undone old new s = record {
  start = s.same.start;
  events = s.same.events;
  agents = λ m i. alike-in (alike_back s.same.agents) i;
  lines = s.lines ∙ sym (append-nil old.lines);
  room = (let r = s.room in omega (arith, r));
}

-- events that could be undone from the last one on still can where the same stands
pub free_same : (old new : BenchView) (order : List Stander) → IsSame (set_of old) (set_of new) → AreFree old order → AreFree new order
free_same old new order same f = record {
  there = λ x i. alike-in same.events (f.there x i);
  once = f.once;
  behind = λ front rest x y parts i cause. f.behind front rest x y parts (alike-in (alike_back same.events) i) (cause_before y.event x.event cause);
}
  where
    stood : Alike (standing (set_of new)) (standing (set_of old))
    stood = alike-map (λ (x : Stander). x.event) (alike_back same.events)

    cause_before : (e c : Event) → IsCause new.start (standing (set_of new)) e c → IsCause old.start (standing (set_of old)) e c
    cause_before e c k = cause_included old.start (same_events stood) (subst (λ z. IsCause z (standing (set_of new)) e c) same.start k)

-- and where nothing but the room has changed
pub free_still : (old new : BenchView) (order : List Stander) → Stays old new → AreFree old order → AreFree new order
free_still old new order s f = free_same old new order s.same f

-- what is undone then is undone
pub undone_still : (old mid new : BenchView) (xs : List Stander) → Stays old mid → AreUndone mid xs new → AreUndone old xs new
undone_still old mid new xs s u = record {
  start = u.start ∙ s.same.start;
  events = alike_then s.same.events u.events;
  agents = λ m i. alike-in (alike_back s.same.agents) (u.agents m i);
  lines = rw (← s.lines) u.lines;
  room = (let r = s.room in let q = u.room in omega (arith, r, q));
}
