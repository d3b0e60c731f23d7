-- Listed events that come to stand, each in its turn, and can be undone from the last one on.
use Rattle.std.proofs.Common.{◌≡◌, List, [], ◌∷◌, ◌++◌, map, length, reverse, ◌⊎◌, inl, inr, Ok, refl, ap, subst, arith, ◌∙◌}
use Rattle.std.proofs.lemmas.List.{map-append, length-map}
use Rattle.ic_name.specs.Events.{Event, Pair, pair}
use Rattle.ic_name.specs.declared.ids.EventId.{EventId}
use Rattle.ic_path.specs.Orders.{IsIn, Alike}
use Rattle.ic_path.proofs.Alikes.{alike_self, alike_back, alike_then, alike_more, alike-append, alike-in, alike-map}
use Rattle.ic_path.proofs.Picks.{none_in}
use Rattle.ic_roster.specs.Rosters.{Stander}
use Rattle.ic_set.specs.Views.{standing, events_of}
use Rattle.ic_journal.specs.Benches.{IsBench}
use Rattle.ic_journal.specs.Calls.{Stays, Fires}
use Rattle.ic_journal.specs.Views.{BenchView, set_of}
use Rattle.ic_undo.specs.Absorbing.{IsLeastListed, AreLeastInTurn}
use Rattle.ic_undo.specs.Coming.{Comes}
use Rattle.ic_undo.specs.GoingBack.{firing}
use Rattle.ic_path.proofs.InLists.{in_behind, in-append_cases}
use Rattle.ic_undo.proofs.Backs.{alike_reverse}
use Rattle.ic_undo.proofs.FiredInTurn.{none_fired, fired_more}
use Rattle.ic_undo.proofs.FreeToUndo.{free_more}
use Rattle.ic_undo.proofs.LeastInTurn.{least-alike, in_turn-alike, in_turn_more, came_listed}

-- no event came at first
unfoldable pub none_came : (v : BenchView) (names : List Pair) → Comes v names [] v
unfolding none_fired
none_came v names = record {
  came = [];
  in_turn = tt;
  fired = none_fired v;
  under = refl;
  free = record { there = λ x i. absurd (none_in i); once = λ x rest k i. elim k [ ]; behind = λ front rest x y parts i k. nowhere front x rest parts };
  agents = λ m i. i;
}
  where
    nowhere : (front : List Stander) (x : Stander) (rest : List Stander) {y : Stander} → [] ≡ front ++ x ∷ rest → IsIn y rest
    nowhere [] x rest h = absurd cc
    nowhere (z ∷ front) x rest h = absurd cc

-- what stands is what stood with the events that came
pub stands_now : (old mid : BenchView) (names : List Pair) (ids : List EventId) → (c : Comes old names ids mid) → Alike (reverse c.came ++ standing (set_of old)) (standing (set_of mid))
stands_now old mid names ids c =
    let all = alike-map (λ (x : Stander). x.event) c.fired.events in
    let parts : events_of (c.fired.came ++ old.events) ≡ c.came ++ standing (set_of old) = map-append (λ (x : Stander). x.event) c.fired.came old.events ∙ ap (λ es. es ++ standing (set_of old)) c.fired.fired in
    alike_then (alike-append (alike_back (alike_reverse c.came)) (alike_self (standing (set_of old)))) (subst (λ es. Alike es (standing (set_of mid))) parts all)

-- each of them stood or is listed
pub stood_or_listed : (old mid : BenchView) (names : List Pair) (ids : List EventId) → Comes old names ids mid → (e : Event) → IsIn e (standing (set_of mid)) → IsIn e (standing (set_of old)) ⊎ IsIn (pair e) names
stood_or_listed old mid names ids c e i = elim (in-append_cases (reverse c.came) (alike-in (alike_back (stands_now old mid names ids c)) i)) [
  | inl j ↦ inr (came_listed old.start (standing (set_of old)) names c.came c.in_turn e (alike-in (alike_back (alike_reverse c.came)) j))
  | inr j ↦ inl j
]

-- what stood stands
pub stands_still : (old mid : BenchView) (names : List Pair) (ids : List EventId) → Comes old names ids mid → (e : Event) → IsIn e (standing (set_of old)) → IsIn e (standing (set_of mid))
stands_still old mid names ids c e i = alike-in (stands_now old mid names ids c) (in_behind (reverse c.came) i)

-- there are as many ids as events
pub came_length : (old mid : BenchView) (names : List Pair) (ids : List EventId) → (c : Comes old names ids mid) → length c.came ≡ length ids
came_length old mid names ids c =
    let one = ap length c.fired.fired in
    let two = ap length c.under in
    let three = length-map c.fired.came (λ (x : Stander). x.event) in
    let four = length-map c.fired.came (λ (x : Stander). x.id) in
    omega (arith, one, two, three, four)

-- the one whose turn it is, over what stood with those that came
pub next_listed : (old mid : BenchView) (names : List Pair) (ids : List EventId) (e : Event) → (c : Comes old names ids mid) → IsLeastListed mid.start (standing (set_of mid)) names e → IsLeastListed old.start (reverse c.came ++ standing (set_of old)) names e
next_listed old mid names ids e c l = least-alike old.start names e (alike_back (stands_now old mid names ids c)) (subst (λ s. IsLeastListed s (standing (set_of mid)) names e) c.fired.start l)

-- one event more comes
pub one_more : (old mid new : BenchView) (names : List Pair) (ids : List EventId) (e : Event) (id : EventId) → IsBench mid → IsBench new → Comes old names ids mid → IsLeastListed mid.start (standing (set_of mid)) names e → Fires mid e (Ok id) new
    → Comes old names (ids ++ id ∷ []) new
unfolding fired_more
one_more old mid new names ids e id lawful lawful' c l h = record {
  came = c.came ++ e ∷ [];
  in_turn = in_turn_more old.start (standing (set_of old)) names c.came e c.in_turn (next_listed old mid names ids e c l);
  fired = fired_more mid new e id h old c.came c.fired;
  under = map-append (λ (x : Stander). x.id) c.fired.came (h.1.entry ∷ []) ∙ (λ u. c.under u ++ h.1.under u ∷ []);
  free = free_more mid new lawful lawful' e id l.active h c.fired.came c.free;
  agents = λ m i. alike-in h.1.agents (in_behind h.1.children (c.agents m i));
}

-- from a bench on which nothing has happened yet
pub comes_from : (old start new : BenchView) (names : List Pair) (ids : List EventId) → Stays old start → Comes start names ids new → Comes old names ids new
comes_from old start new names ids s c = record {
  came = c.came;
  in_turn = in_turn-alike old.start names c.came (alike_back (alike-map (λ (x : Stander). x.event) s.same.events)) (subst (λ z. AreLeastInTurn z (standing (set_of start)) names c.came) s.same.start c.in_turn);
  fired = record {
    came = c.fired.came;
    start = c.fired.start ∙ s.same.start;
    fired = c.fired.fired;
    events = alike_then (alike_more c.fired.came s.same.events) c.fired.events;
    lines = c.fired.lines ∙ ap (λ ls. ls ++ map firing c.came) s.lines;
    room = (let r = c.fired.room in let q = s.room in omega (arith, r, q));
  };
  under = c.under;
  free = c.free;
  agents = λ m i. c.agents m (alike-in s.same.agents i);
}
