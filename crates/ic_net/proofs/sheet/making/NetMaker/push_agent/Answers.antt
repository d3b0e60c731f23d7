use Rattle.std.proofs.Common.{◌∷◌, [], map, sym, subst}
use Rattle.std.proofs.lemmas.List.{map-append}
use Rattle.std.proofs.lemmas.List.Elements.{All-push}
use Rattle.ic_name.specs.Names.{name_cmp}
use Rattle.ic_names.specs.Tables.{name_at}
use Rattle.ic_theory.specs.Listed.{NetAgent as Listed}
use Rattle.ic_net.specs.declared.sheet.placed.PlacedAgent.{PlacedAgent}
use Rattle.ic_net.specs.Makings.{NetParts, IsLastName}
use Rattle.ic_net.specs.Placed.{IsAgentInside, listed_at}
use Rattle.ic_net.proofs.InOrder.{last_in_order}
use Rattle.ic_net.proofs.sheet.making.NetMaker.push_agent.Goals as goal

pub invariant_of-self-2 : goal.invariant_of-self-2
invariant_of-self-2 c =
    let names = c.self.inside.names.now in
    let agents = c.self.inside.agents.items in
    let agent : PlacedAgent = record { name = c.args.name; kind = c.args.kind; partners = c.args.partners } in
    let last = subst (λ (p : NetParts). IsLastName (name_at p.names c.args.name.place) p.agents) (sym c.self.view_is) c.requires.last in
    let inside = subst (λ (p : NetParts). IsAgentInside p.names agent) (sym c.self.view_is) c.requires.inside in
    let listed = map-append (listed_at names) agents (agent ∷ []) in
    let sorted = last_in_order name_cmp (λ (a : Listed). a.name) (map (listed_at names) agents) (listed_at names agent) c.self.invariant.0 last in (
      rw (c.in_ok-push.ensures.items, listed) sorted,
      c.self.invariant.1,
      record { agents = rw c.in_ok-push.ensures.items (All-push (IsAgentInside names) agents agent c.self.invariant.2.agents inside); frees = c.self.invariant.2.frees },
    )
