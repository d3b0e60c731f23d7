use Rattle.std.proofs.Common.{◌≢◌, take}
use Rattle.ic_name.specs.Events.{pair}
use Rattle.ic_path.specs.Orders.{IsIn}
use Rattle.ic_trace.specs.declared.past.deep.DeepEvent.{DeepEvent}
use Rattle.ic_trace.proofs.past.deep.place_of.Given as goal

-- none of the events so far is of these agents
abbrev pub invariant-loop-place : goal.invariant-loop-place
invariant-loop-place l = (d : DeepEvent) → IsIn d (take l.place l.deep) → pair d.event ≢ record { lead = l.lead; other = l.other }
