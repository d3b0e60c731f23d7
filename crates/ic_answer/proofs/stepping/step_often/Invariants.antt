use Rattle.std.proofs.Common.{◌≡◌, List, length}
use Rattle.ic_name.specs.Events.{Event}
use Rattle.ic_answer.specs.Stepping.{Lists, HasStepped}
use Rattle.ic_answer.proofs.stepping.step_often.Given as goal

abbrev pub invariant-loop-fired : goal.invariant-loop-fired
invariant-loop-fired g l = record {
  events : List Event;
  lists : Lists l.list events;
  many : length events ≡ l.fired;
  did : HasStepped l.fn.bench events l.bench;
}
