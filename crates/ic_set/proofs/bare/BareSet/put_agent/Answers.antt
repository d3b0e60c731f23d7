use Rattle.std.proofs.Common.{inl, refl, sym, ap, ◌∙◌}
use Rattle.std.proofs.lemmas.Result.{on_ok_weaker}
use Rattle.ic_names.specs.Tables.{name_at}
use Rattle.ic_roster.specs.Placed.{member_in}
use Rattle.ic_roster.specs.Rosters.{Member}
use Rattle.ic_theory.specs.Sets.{consumed_times}
use Rattle.ic_set.specs.Views.{standing}
use Rattle.ic_set.proofs.Namings.{same_member}
use Rattle.ic_set.proofs.PlacedAgents.{placed_comes, placed_last, placed_inside}
use Rattle.ic_set.proofs.bare.BareSet.put_agent.Goals as goal

pub push_agent-requires : goal.push_agent-requires
push_agent-requires g c =
    let a = c.args.agent in
    record {
      inside = placed_inside (record { name = a.name; kind = a.kind; partners = c.partners-partners.result }) c.args.self.now.names c.args.maker.now.names c.requires.names (record { name = c.requires.inside; partners = c.partners-partners.ensures.inside });
      last = placed_last (record { name = a.name; kind = a.kind; partners = c.partners-partners.result }) c.args.maker.now.agents c.args.self.now.names c.args.maker.now.names c.requires.names
          (c.requires.last (name_at c.args.self.now.names a.name.place) a.kind (c.requires.there, c.in-Some.ensures.living));
    }

pub returns-clause-agents : goal.returns-clause-agents
returns-clause-agents g c =
    let a = c.args.agent in
    on_ok_weaker c.push_agent.result
    (placed_comes c.args.self.now.set a.id (record { name = a.name; kind = a.kind; partners = c.partners-partners.result }) c.args.maker.now.agents _ c.args.self.now.names c.args.maker.now.names c.requires.names
    (c.requires.there, c.in-Some.ensures.living) c.partners-partners.ensures.partners)
    c.push_agent.ensures.agents

pub returns-in_default-clause-agents : goal.returns-in_default-clause-agents
returns-in_default-clause-agents g c = inl (
  λ n k living. (
      let v = c.args.self.now.set in
      let a = c.args.agent in
      let same = same_member v.agents (record { id = a.id; name = n; kind = k }) (member_in c.args.self.now.names a) c.lawful.ensures.set.own_names living.0 c.requires.there (inl refl) in
      c.in_default.ensures.consumed (ap (λ (m : Member). consumed_times m.name (standing v)) (sym same) ∙ living.1)),
  refl,
)
