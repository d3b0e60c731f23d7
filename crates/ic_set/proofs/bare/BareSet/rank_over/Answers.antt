use Rattle.std.proofs.Common.{◌≤◌, ◌+◌, max, List, [], ◌∷◌, ◌++◌, take, ap, subst}
use Rattle.std.proofs.lemmas.List.{take_more, take_all}
use Rattle.ic_name.specs.declared.ids.EventId.{EventId}
use Rattle.ic_path.specs.Orders.{IsIn}
use Rattle.ic_roster.specs.Rosters.{Stander, HaveOwnLines}
use Rattle.ic_name.specs.declared.limits.TheConstants.{MAX_LINES}
use Rattle.ic_set.specs.Admission.{IsRankOver}
use Rattle.ic_set.specs.Views.{NamedView}
use Rattle.ic_set.proofs.CauseRanks.{rank_over_none, rank_more}
use Rattle.ic_link.proofs.InPlace.{in_at}
use Rattle.ic_set.proofs.bare.BareSet.rank_over.Goals as goal

pub loop-cause-init : goal.loop-cause-init
loop-cause-init g c = rank_over_none c.args.self.now.set.events

pub loop-cause-preserved : goal.loop-cause-preserved
loop-cause-preserved g c =
    let ids = c.args.causes.now in
    let i = c.loop-cause.cause-index in
    let none : EventId = record { slot = 0; line = 0 } in
    let ss = c.args.self.now.set.events in
    let rank = c.loop-cause.rank in
    let x = c.in-Some.ensures.found in
    let there = subst (λ (ss : List Stander). IsIn x.0 ss) (ap (λ (w : NamedView). w.set.events) c.self.view_is) x.1 in
    let own = subst (λ (w : NamedView). HaveOwnLines w.set.events) c.self.view_is c.self.invariant.set.own_lines in
    let more : IsRankOver ss (take i ids ++ x.0.id ∷ []) (max rank (x.0.rank + 1)) = rank_more ss (take i ids) rank x.0 own c.loop-cause.invariant there in
    rw (take_more ids i none c.loop-cause-test.true, c.rank_with-rank.ensures)
    (subst (λ d. IsRankOver ss (take i ids ++ d ∷ []) (max rank (c.in-Some.entry.rank + 1))) x.2 (subst (λ n. IsRankOver ss (take i ids ++ x.0.id ∷ []) (max rank (n + 1))) x.4 more))

pub rank_with-rank-requires : goal.rank_with-rank-requires
rank_with-rank-requires g c =
    let x = c.in-Some.ensures.found in
    let there = subst (λ (ss : List Stander). IsIn x.0 ss) (ap (λ (w : NamedView). w.set.events) c.self.view_is) x.1 in
    subst (λ n. n ≤ MAX_LINES) x.4 (c.requires.low x.0 there)

pub unreachable-requires : goal.unreachable-requires
unreachable-requires g c =
    let none : EventId = record { slot = 0; line = 0 } in
    let stands = rw (← c.self.view_is) at (c.requires.standing _ (in_at c.args.causes.now c.loop-cause.cause-index none c.loop-cause-test.true)) in
    c.in_default.ensures.absent stands.0 stands.1 stands.2

pub returns : goal.returns
returns g c = rw (take_all c.loop-cause.cause-index c.args.causes.now c.loop-cause-test.false) at c.loop-cause.invariant
