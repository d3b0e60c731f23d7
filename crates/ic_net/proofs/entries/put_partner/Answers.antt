use Rattle.std.proofs.Common.{◌≡◌, Some, None, ap, sym, ◌∙◌, rules}
use Rattle.std.specs.Option.{option_copied_mut}
use Rattle.ic_net.specs.Tables.{agent_in, found_at}
use Rattle.ic_net.proofs.Writes.{agent_write, agent_write_kind, agent_no_write}
use Rattle.ic_net.proofs.entries.put_partner.Goals as goal

pub returns-in-Some-clause-kinds : goal.returns-in-Some-clause-kinds
returns-in-Some-clause-kinds c =
    let there : agent_in c.args.agents.now.entries c.in-Of.name ≡ Some c.in-Some.agent.now = sym c.in-Some.ensures.value in
    agent_write_kind c.args.agents.now.entries c.args.frees.now.entries c.in-Of.name c.in-Of.number c.args.partner _ c.in-Some.agent.now c.put_at.new.agent there ((c.get_mut.follows.holds c.put_at.new.agent).3 (search rules)).0 c.put_at.ensures.kind

pub returns-in-Some-clause-partners : goal.returns-in-Some-clause-partners
returns-in-Some-clause-partners c =
    let there : agent_in c.args.agents.now.entries c.in-Of.name ≡ Some c.in-Some.agent.now = sym c.in-Some.ensures.value in
    rw c.in-Of.is (agent_write c.args.agents.now.entries c.args.frees.now.entries c.in-Of.name c.in-Of.number c.args.partner _ c.in-Some.agent.now c.put_at.new.agent there ((c.get_mut.follows.holds c.put_at.new.agent).3 (search rules)).0 c.put_at.ensures.partners)

pub returns-in_default-clause-partners : goal.returns-in_default-clause-partners
returns-in_default-clause-partners c =
    let none : agent_in c.args.agents.now.entries c.in-Of.name ≡ None = sym c.get_mut.ensures.value ∙ ap option_copied_mut c.in_default.is in
    let same = c.get_mut.follows.holds-at-none in
    rw c.in-Of.is (λ x. ap (λ m. found_at m.entries c.args.frees.now.entries x) same ∙ agent_no_write c.args.agents.now.entries c.args.frees.now.entries c.in-Of.name c.in-Of.number c.args.partner none x)
