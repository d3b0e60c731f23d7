use Rattle.std.proofs.Common.{length, sym, subst, ap, ◌∙◌, arith}
use Rattle.ic_names.specs.Queues.{place_of, lead_at, leads_of, IsLeast}
use Rattle.ic_names.proofs.Queued.{first_least}
use Rattle.ic_names.proofs.queue.LeadQueue.least.Goals as goal

pub returns-clause-least : goal.returns-clause-least
returns-clause-least c ns queue =
    let seen = ap (λ v. v.run) c.self.view_is in
    let is = ap place_of (c.lead.ensures ∙ ap (λ ls. lead_at ls 0) seen) in
    subst (IsLeast ns (leads_of c.args.self.now)) (sym is) (first_least queue (omega (arith, c.len.ensures.count, c.if-len-eq0.false, ap length seen)))
