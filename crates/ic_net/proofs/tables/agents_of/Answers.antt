use Rattle.std.proofs.Common.{◌≡◌, ◌∙◌, ap, refl, length}
use Rattle.std.specs.BTreeMap.{insert_entry}
use Rattle.ic_name.specs.Names.{name_cmp, start_name}
use Rattle.ic_net.specs.FarTables.{agent_partner}
use Rattle.ic_net.specs.declared.agents.NetAgent.{NetAgent}
use Rattle.ic_net.proofs.Listings.{agents_more}
use Rattle.ic_net.proofs.tables.agents_of.Goals as goal

pub loop-number-preserved : goal.loop-number-preserved
loop-number-preserved c =
    let name : c.unwrap-name.result ≡ start_name c.loop-number.number = rw c.unwrap-name.ensures at c.start.ensures.name in
    let i = c.loop-number.invariant in
    let agent : NetAgent = record { kind = _; partners = c.partners_of-partners.result } in
    let put = c.in_ok-insert.ensures.entries ∙ ap (λ k. insert_entry name_cmp c.loop-number.agents.entries k agent) name in
    record {
      listed = agents_more (agent_partner (length c.args.kinds.now) c.args.ends.now) c.args.kinds.now c.loop-number.number _ _ _ _ agent c.loop-number-test.true refl i.listed refl c.partners_of-partners.ensures put;
      ordered = c.in_ok-insert.ensures.ordered;
    }
