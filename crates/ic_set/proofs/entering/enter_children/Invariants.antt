use Rattle.std.proofs.Common.{◌≡◌, ◌+◌, ◌≤◌, length, take}
use Rattle.ic_name.specs.Names.{child_name}
use Rattle.ic_names.specs.Tables.{name_at, StandsAt}
use Rattle.ic_theory.specs.Born.{named}
use Rattle.ic_set.specs.Entering.{GrowsBy, Enters}
use Rattle.ic_set.proofs.entering.enter_children.Given as goal

abbrev pub invariant-loop-digit : goal.invariant-loop-digit
invariant-loop-digit l = record {
  lead : StandsAt l.roster.names (name_at l.initial.roster.names l.lead.place) l.lead.place;
  entered : Enters l.initial.roster.agents (named (child_name (name_at l.initial.roster.names l.lead.place)) 0 (take l.digit l.kinds)) l.serial l.ids.items l.roster.agents;
  grown : GrowsBy l.digit l.initial.roster.names l.roster.names;
  events : l.roster.events ≡ l.initial.roster.events;
  room : length l.ids.items + length l.kinds ≤ l.ids.capacity + l.digit;
}
