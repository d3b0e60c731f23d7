use Rattle.std.proofs.Common.{◌∙◌, sym}
use Rattle.ic_roster.specs.Rosters.{IsNamed}
use Rattle.ic_roster.proofs.ReadEvents.{names_apart, event_read}
use Rattle.ic_roster.proofs.roster.Roster.read.Goals as goal

pub unreachable-requires-in-None : goal.unreachable-requires-in-None
unreachable-requires-in-None c =
    let named : IsNamed c.self.inside.names c.args.interaction = rw (← c.self.view_is) at c.requires in
    let lead = sym c.in_ok-lead.ensures ∙ c.in-Some.is in
    let other = sym c.in_ok-other.ensures ∙ c.in-Some-2.is in
    let some = c.in-None.ensures.some.1 (names_apart c.self.inside.names c.args.interaction c.in-Some.lead c.in-Some-2.other named lead other) in
    cc

pub returns : goal.returns
returns c =
    let named : IsNamed c.self.inside.names c.args.interaction = rw (← c.self.view_is) at c.requires in
    let lead = sym c.in_ok-lead.ensures ∙ c.in-Some.is in
    let other = sym c.in_ok-other.ensures ∙ c.in-Some-2.is in
    rw (← c.self.view_is) (c.in-Some-of.ensures.event ∙ event_read c.self.inside.names c.args.interaction c.in-Some.lead c.in-Some-2.other named lead other)
