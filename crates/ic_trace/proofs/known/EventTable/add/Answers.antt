use Rattle.std.proofs.Common.{rules, ◌≡◌, ℕ, Some, subst, ◌∙◌}
use Rattle.std.specs.BTreeMap.{Updates}
use Rattle.ic_name.specs.Names.{Name, name_cmp}
use Rattle.ic_trace.proofs.Renumbered.{renumbered}
use Rattle.ic_trace.proofs.known.EventTable.add.Goals as goal

pub returns-clause-renumbered : goal.returns-clause-renumbered
returns-clause-renumbered c =
    let ks = c.args.self.now.known.items in
    let lead : c.in_ok-lead.lead ≡ c.args.known.event.lead = c.in_ok-lead.ensures ∙ c.lead.ensures in
    let old = c.args.self.now.numbers in
    let up : Updates name_cmp old c.insert.new.self c.args.known.event.lead (Some c.len-number.result) = subst (λ (n : Name). Updates name_cmp old c.insert.new.self n (Some c.len-number.result)) lead c.in_ok-insert.ensures.updates in
    λ n. rw c.in_ok-push.ensures.items (renumbered ks c.args.known old c.insert.new.self c.requires.numbered (subst (λ (i : ℕ). Updates name_cmp old c.insert.new.self c.args.known.event.lead (Some i)) (search rules) up) n)
