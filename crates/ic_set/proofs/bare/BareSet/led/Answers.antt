use Rattle.std.proofs.Common.{◌≡◌, false, inl, sym, rules}
use borrow.Author.Tests.{tests}
use Rattle.ic_roster.proofs.Options.{if_none}
use Rattle.ic_set.proofs.LookedUp.{one_at}
use Rattle.ic_set.proofs.QueuedLeads.{leads_own}
use Rattle.ic_set.proofs.bare.BareSet.led.Goals as goal

pub returns-in_err-pair-clause-absent : goal.returns-in_err-pair-clause-absent
returns-in_err-pair-clause-absent g c = if_none c.from_residual-in_err-pair.result _ (λ e p same h. c.in_err-pair.ensures.absent e p (inl (one_at (sym same) c.in_ok-agent.was)) h)

pub returns-then-ne-clause-absent : goal.returns-then-ne-clause-absent
returns-then-ne-clause-absent g c =
    let pair = c.in_ok-pair.ensures.found in
    λ e p same h. (
    let own : c.in_ok-pair.pair.lead ≡ c.in_ok-agent.agent = leads_own c.args.self.now c.lawful.ensures.set pair.1 e c.in_ok-pair.pair p pair.2 h c.in_ok-agent.agent pair.0 (one_at (sym same) c.in_ok-agent.was) in
    let off : c.ne.result ≡ false = search (rules, tests) in
    absurd cc)
