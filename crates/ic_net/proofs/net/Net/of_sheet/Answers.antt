use Rattle.std.proofs.Common.{sym, subst, ◌∙◌}
use Rattle.std.proofs.IntoIterSteps.{All-taken}
use Rattle.std.specs.BTreeMap.{IsFromIterResult}
use Rattle.std.specs.Ordering.{nat_cmp}
use Rattle.ic_name.specs.Names.{name_cmp}
use Rattle.ic_net.specs.Sheets.{IsNet}
use Rattle.ic_net.proofs.Collected.{collected_agents, collected_frees}
use Rattle.ic_net.proofs.net.Net.of_sheet.Goals as goal

-- the tables list what the sheet lists
pub returns : goal.returns
returns c =
    let sheet = c.args.sheet.now in
    let h = c.in_ok-from_iter.ensures.ran in
    let k = c.in_ok-from_iter-2.ensures.ran in
    let agents = subst (λ es. IsFromIterResult name_cmp es c.in_ok-from_iter.field-0) (All-taken h.0 h.1 ((h.3.2 tt).0, (h.3.0, h.3.1, (h.3.2 tt).1)) ∙ h.2.0) h.4 in
    let frees = subst (λ es. IsFromIterResult nat_cmp es c.in_ok-from_iter-2.field-0) (All-taken k.0 k.1 ((k.3.2 tt).0, (k.3.0, k.3.1, (k.3.2 tt).1)) ∙ k.2.0) k.4 in
    let first = collected_agents sheet _ c.in_ok-from_iter.field-0 c.lists.ensures.net.listing (c.in_ok-agents.ensures ∙ c.lists.ensures.agents) agents in
    let second = collected_frees sheet _ c.in_ok-from_iter-2.field-0 c.lists.ensures.net.listing (c.in_ok-frees.ensures ∙ c.lists.ensures.frees) frees in
    λ i. record { agents = first i; frees = second i; rings = c.rings.ensures i; profile = c.profile.ensures i }

-- so they are those of a net
pub invariant_of-result : goal.invariant_of-result
invariant_of-result c = subst IsNet (sym (returns c)) c.lists.ensures.net
