use Rattle.std.proofs.Common.{◌<◌, length, refl, ◌∙◌}
use Rattle.std.proofs.lemmas.List.Elements.{All-push}
use Rattle.ic_name.specs.Names.{start_name}
use Rattle.ic_name.specs.declared.kinds.Kind.TheVariants.{Gamma}
use Rattle.ic_names.proofs.Growing.{grown_keeps}
use Rattle.ic_set.proofs.GrownNames.{kept_agents}
use Rattle.ic_set.proofs.NamedInTurn.{agents_behind, named_more}
use Rattle.ic_set.proofs.entering.agents_of_kinds.Goals as goal

pub loop-number-preserved : goal.loop-number-preserved
loop-number-preserved c =
    let i = c.loop-number.invariant in
    let old = c.loop-number.roster.names in
    let new = c.enter_name.new.self.names in
    let so_far = c.loop-number.agents.items in
    let entered = c.in_ok-name.ensures in
    let kept = kept_agents old new (λ m k. grown_keeps old new _ m k entered.grown) so_far i.inside in
    let more = named_more start_name c.args.kinds.now c.loop-number.number Gamma c.loop-number-test.true in
    let pushed = c.in_ok-push.ensures.items in
    record {
      listed = agents_behind new so_far _ _ pushed ∙ (rw (more, kept.0, i.listed, entered.entered.named, c.in-Some.ensures.name) refl);
      inside = rw pushed (All-push (λ y. y.name.place < length new) so_far _ kept.1 entered.entered.within);
      agents = entered.agents ∙ i.agents;
      events = entered.events ∙ i.events;
    }
