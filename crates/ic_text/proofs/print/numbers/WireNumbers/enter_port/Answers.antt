use Rattle.std.proofs.Common.{◌≡◌, ◌+◌, sym, subst, ap, ◌∙◌, arith}
use Rattle.std.specs.Prelude.{is_some}
use Rattle.std.proofs.lemmas.List.{length-map}
use Rattle.std.proofs.lemmas.Option.{slice_get_within}
use Rattle.ic_names.specs.Tables.{name_at}
use Rattle.ic_net.specs.Placed.{port_at, listed_at, IsPortInside}
use Rattle.ic_text.specs.Lists.{agents_of, agent_on}
use Rattle.ic_text.specs.Numbers.{GivesNumber}
use Rattle.ic_text.proofs.NameLines.{listed_there, inside_there, port_within}
use Rattle.ic_text.proofs.Numbering.{enters_again, enters_new}
use Rattle.ic_text.proofs.Wired.{far_end, short}
use Rattle.ic_text.proofs.print.numbers.WireNumbers.enter_port.Goals as goal

pub returns-then-is_some-clause-entered : goal.returns-then-is_some-clause-entered
returns-then-is_some-clause-entered c =
    let lists = c.args.lists.now in
    let table = lists.names.now in
    let agent = c.args.agent.now in
    let placed = listed_there lists agent.line agent.agent.now c.requires.placed in
    let port = port_within lists agent c.args.port c.requires.port in
    let partner = sym (c.partner.ensures.port table) ∙ ap (port_at table) c.in-Of.is in
    enters_again (agents_of lists) c.requires.net.wired agent.line c.args.port (agent_on lists agent) placed port (name_at table c.in-Of.name.place) c.in-Of.number partner
    c.args.self.now (ap is_some (sym c.number_at.ensures) ∙ sym c.is_some.ensures ∙ c.if-is_some.true)

pub give_next-requires-clause-place : goal.give_next-requires-clause-place
give_next-requires-clause-place c =
    let within = slice_get_within c.args.lists.now.agents.now c.args.agent.now.line c.args.agent.now.agent.now c.requires.placed in
    omega (arith, within, c.requires.places)

pub give_next-requires-clause-port : goal.give_next-requires-clause-port
give_next-requires-clause-port c =
    let lists = c.args.lists.now in
    let agent = c.args.agent.now in
    let few = short (agents_of lists) c.requires.net.wired agent.line (agent_on lists agent) (listed_there lists agent.line agent.agent.now c.requires.placed) in
    omega (arith, few, port_within lists agent c.args.port c.requires.port)

pub line_of-requires-clause-inside : goal.line_of-requires-clause-inside
line_of-requires-clause-inside c =
    let lists = c.args.lists.now in
    let own = inside_there lists c.requires.net c.args.agent.now.line c.args.agent.now.agent.now c.requires.placed in
    subst (IsPortInside lists.names.now) c.in-Of.is (c.partner.ensures.inside lists.names.now own.partners)

pub line_of-requires-clause-there : goal.line_of-requires-clause-there
line_of-requires-clause-there c =
    let lists = c.args.lists.now in
    let table = lists.names.now in
    let agent = c.args.agent.now in
    let placed = listed_there lists agent.line agent.agent.now c.requires.placed in
    let port = port_within lists agent c.args.port c.requires.port in
    let partner = sym (c.partner.ensures.port table) ∙ ap (port_at table) c.in-Of.is in
    let far = far_end (agents_of lists) c.requires.net.wired agent.line c.args.port (agent_on lists agent) placed port (name_at table c.in-Of.name.place) c.in-Of.number partner in
    ap is_some far.found

pub give_next-requires-2-clause-place : goal.give_next-requires-2-clause-place
give_next-requires-2-clause-place c =
    let lists = c.args.lists.now in
    let table = lists.names.now in
    let agent = c.args.agent.now in
    let placed = listed_there lists agent.line agent.agent.now c.requires.placed in
    let port = port_within lists agent c.args.port c.requires.port in
    let partner = sym (c.partner.ensures.port table) ∙ ap (port_at table) c.in-Of.is in
    let far = far_end (agents_of lists) c.requires.net.wired agent.line c.args.port (agent_on lists agent) placed port (name_at table c.in-Of.name.place) c.in-Of.number partner in
    let within = slice_get_within (agents_of lists) c.line_of.result far.agent (c.line_of.ensures ∙ far.found) in
    let many = length-map lists.agents.now (listed_at table) in
    omega (arith, within, many, c.requires.places, c.give_next.ensures.places)

pub give_next-requires-2-clause-port : goal.give_next-requires-2-clause-port
give_next-requires-2-clause-port c =
    let lists = c.args.lists.now in
    let table = lists.names.now in
    let agent = c.args.agent.now in
    let placed = listed_there lists agent.line agent.agent.now c.requires.placed in
    let port = port_within lists agent c.args.port c.requires.port in
    let partner = sym (c.partner.ensures.port table) ∙ ap (port_at table) c.in-Of.is in
    let far = far_end (agents_of lists) c.requires.net.wired agent.line c.args.port (agent_on lists agent) placed port (name_at table c.in-Of.name.place) c.in-Of.number partner in
    omega (arith, far.within, far.few)

pub returns-clause-entered : goal.returns-clause-entered
returns-clause-entered c =
    let lists = c.args.lists.now in
    let table = lists.names.now in
    let agent = c.args.agent.now in
    let placed = listed_there lists agent.line agent.agent.now c.requires.placed in
    let port = port_within lists agent c.args.port c.requires.port in
    let partner = sym (c.partner.ensures.port table) ∙ ap (port_at table) c.in-Of.is in
    let old = c.args.self.now in
    let halfway = c.give_next.new.self in
    let there = subst (λ n. GivesNumber c.line_of.result c.in-Of.number n halfway c.give_next-2.new.self) c.give_next.ensures.count c.give_next-2.ensures.given in
    let one_more : c.give_next-2.new.self.count + 1 ≡ old.count + 1 = ap (λ k. k + 1) (c.give_next-2.ensures.count ∙ c.give_next.ensures.count) in
    enters_new (agents_of lists) c.requires.net.wired agent.line c.args.port (agent_on lists agent) placed port (name_at table c.in-Of.name.place) c.in-Of.number partner
    c.line_of.result c.line_of.ensures old halfway (record { ports = c.give_next-2.new.self.ports; count = c.give_next-2.new.self.count + 1 })
    (ap is_some (sym c.number_at.ensures) ∙ sym c.is_some.ensures ∙ c.if-is_some.false) c.give_next.ensures.given there one_more
