-- Active pairs that a bench fires in turn, fired in turn by the machine.
use Rattle.std.proofs.Common.{◌≡◌, List, [], ◌∷◌, ◌++◌, Err, refl, sym, ap, subst, append_assoc, append-nil, ◌∙◌}
use Rattle.ic_name.specs.Events.{Event}
use Rattle.ic_name.specs.declared.lines.Call.{Call}
use Rattle.ic_name.specs.declared.lines.Call.TheVariants.{Fire}
use Rattle.ic_name.specs.declared.lines.Reply.{Reply}
use Rattle.ic_name.specs.declared.lines.Reply.TheVariants as reply
use Rattle.ic_theory.specs.Starts.{Start}
use Rattle.ic_theory.specs.Machine.{State}
use Rattle.ic_theory.proofs.Machines.{history_length}
use Rattle.ic_set.specs.Pairs.{IsLeastPair}
use Rattle.ic_set.specs.declared.pairs.ActivePair.{ActivePair}
use Rattle.ic_journal.specs.Views.{BenchView, set_of}
use Rattle.ic_journal.specs.Benches.{IsBench}
use Rattle.ic_journal.specs.Calls.{Steps, FiresPair}
use Rattle.ic_journal.specs.declared.faults.PairFault.{PairFault}
use Rattle.ic_journal.specs.declared.faults.PairFault.TheVariants as fault
use Rattle.ic_journal.proofs.BenchSteps.{still_at, line_left}
use Rattle.ic_journal.proofs.LeastFired.{IsLeastAt, least_at}
use Rattle.ic_answer.specs.declared.refused.Refused.TheVariants as refused
use Rattle.ic_answer.specs.Longer.{IsLonger}
use Rattle.ic_answer.specs.Stepped.{AreStepped, none, more, history_full, deep, full, no_memory}
use Rattle.ic_answer.specs.Stepping.{HasStepped, HasRefused, refusal_of}

-- some events are fired, and then others
stepped_then : {s : Start} {st mid next : State} {es fs : List Event} → AreStepped s st es mid → AreStepped s mid fs next → AreStepped s st (es ++ fs) next
stepped_then none k = k
stepped_then (more l f a h) k = more l f a (stepped_then h k)

-- the history grows, and then again
pub longer_then : (old mid new : BenchView) → IsLonger old mid → IsLonger mid new → IsLonger old new
longer_then old mid new h k = record { more = h.more ++ k.more; lines = k.lines ∙ ap (λ ls. ls ++ k.more) h.lines ∙ append_assoc old.lines h.more k.more }

-- a history that is the same
still_longer : (old new : BenchView) → new.lines ≡ old.lines → IsLonger old new
still_longer old new same = record { more = []; lines = same ∙ sym (append-nil old.lines) }

-- no event is fired yet
pub none_stepped : (v : BenchView) → HasStepped v [] v
none_stepped v = record { start = refl; longer = still_longer v v refl; stepped = λ st at. (st, none, at) }

-- one more is fired
pub stepped_more : (old mid new : BenchView) (es : List Event) (e : Event) → HasStepped old es mid → HasStepped mid (e ∷ []) new → HasStepped old (es ++ e ∷ []) new
stepped_more old mid new es e h k = record {
  start = k.start ∙ h.start;
  longer = longer_then old mid new h.longer k.longer;
  stepped = λ st at. (
      let one = h.stepped st at in
      let two = k.stepped one.0 one.2 in
      (two.0, stepped_then one.1 (subst (λ s. AreStepped s one.0 (e ∷ []) two.0) h.start two.1), two.2)
      );
}

-- a call adds its line
one_longer : (old new : BenchView) (call : Call) (answer : Reply) → Steps old call answer new → IsLonger old new
one_longer old new call answer steps = record { more = record { call = call; reply = answer } ∷ []; lines = steps.lines }

-- the active pair with the least lead is fired
pub fires_one : (old new : BenchView) (e : Event) → IsLeastAt old e → IsBench new → Steps old (Fire e) reply.Fired new → HasStepped old (e ∷ []) new
fires_one old new e least bench steps = record {
  start = steps.start;
  longer = one_longer old new (Fire e) reply.Fired steps;
  stepped = λ st at. (let step = steps.step st at in (step.0, more (least st at) (line_left old new (Fire e) reply.Fired bench steps st at) step.1 none, step.2));
}

-- or it is refused
pub refuses_one : (old new : BenchView) (e : Event) → IsLeastAt old e → IsBench new → (f : PairFault) → FiresPair old e (Err f) new → HasRefused old (refusal_of f) new
refuses_one old new e least bench fault.Deep fires = record {
  start = fires.0.start;
  longer = one_longer old new (Fire e) reply.Deep fires.0;
  refuses = λ st at. (let step = fires.0.step st at in (step.0, deep (least st at) (line_left old new (Fire e) reply.Deep bench fires.0 st at) step.1, step.2));
}
refuses_one old new e least bench fault.Full fires = record {
  start = fires.0.start;
  longer = one_longer old new (Fire e) reply.Full fires.0;
  refuses = λ st at. (let step = fires.0.step st at in (step.0, full (least st at) (line_left old new (Fire e) reply.Full bench fires.0 st at) step.1, step.2));
}
refuses_one old new e least bench fault.HistoryFull fires = subst (λ (v : BenchView). HasRefused old refused.HistoryFull v) (sym fires.1) (record {
  start = refl;
  longer = still_longer old old refl;
  refuses = λ st at. (st, history_full (least st at) (history_length at.history ∙ fires.0), at);
})
refuses_one old new e least bench fault.Memory fires = record {
  start = fires.1.same.start;
  longer = still_longer old new fires.1.lines;
  refuses = λ st at. (st, no_memory (least st at), still_at old new fires.1 st at);
}

-- there is no memory to list it
pub not_ready : (v : BenchView) (p : ActivePair) → IsLeastPair (set_of v) p → HasRefused v refused.Memory v
not_ready v p l = record { start = refl; longer = still_longer v v refl; refuses = λ st at. (st, no_memory (least_at v p l st at), at) }
