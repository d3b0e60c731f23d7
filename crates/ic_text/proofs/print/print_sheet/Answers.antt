use Rattle.std.proofs.Common.{◌∙◌, sym, subst, ap, length, arith}
use Rattle.std.proofs.lemmas.List.{length-map}
use Rattle.ic_net.specs.Placed.{listed_at}
use Rattle.ic_text.specs.Numbers.{AreWired}
use Rattle.ic_text.proofs.Wired.{net_wired}
use Rattle.ic_text.proofs.print.print_sheet.Goals as goal

pub new-requires : goal.new-requires
new-requires c =
    let lists = c.lists-lists.result in
    let net = c.lists-lists.ensures.net in
    let many = sym (length-map lists.agents.now (listed_at lists.names.now)) ∙ ap length c.lists-lists.ensures.agents in
    record {
      wired = subst AreWired (sym c.lists-lists.ensures.agents) (net_wired c.args.net.now net.listing net.reached);
      inside = c.lists-lists.ensures.inside.agents;
      few = omega (arith, many, net.few_agents);
    }
