use Rattle.std.proofs.Common.{◌≡◌, ◌-◌, length, sym, ap, ◌∙◌, subst, arith}
use Rattle.ic_claim.specs.declared.claims.Claims.{Claims}
use Rattle.ic_work.proofs.FiredByWorkers.{FiredByWorkers}
use Rattle.ic_work.specs.Sweeps.{Sweeps}
use Rattle.ic_work.proofs.Extending.{extends_count}
use Rattle.ic_work.proofs.WholeSweeps.{sweeps}
use Rattle.ic_work.proofs.WorkersFired.{all_home}
use Rattle.ic_work.proofs.sweeping.sweep_as.Given as given
use Rattle.ic_work.proofs.sweeping.sweep_as.Goals as goal

-- what the workers fired
by_workers : (g : given.Over) (c : goal.After-standing_count g) → FiredByWorkers c.args.bench c.args.plan.now.size.budget (length c.in-Ok-settle.settled.bench.events - length c.args.bench.events) c.in-Ok-settle.settled.bench
by_workers g c =
    all_home c.args.bench c.in-Ok-settle.settled.bench c.args.plan.now.size.budget c.lawful.ensures c.lawful-in-Ok-settle.ensures c.in-Ok-share.ensures.opening c.in-Ok-settle.ensures.ok
    (ap (λ (claims : Claims). claims.budget) c.split_off_others-hints.ensures.rest.0 ∙ c.in-Ok.ensures.seat.1) c.run_crew-first.ensures.first c.is_stopped.ensures.few c.push_reserved.ensures.items

pub overflow_sub-by_workers : goal.overflow_sub-by_workers
overflow_sub-by_workers g c =
    let fired = by_workers g c in
    let count = extends_count c.args.bench c.in-Ok-settle.settled.bench _ fired.extends in
    let old = c.standing_count-stood.ensures in
    let new = c.standing_count.ensures in
    omega (arith, count, old, new)

pub overflow_cast-by_workers : goal.overflow_cast-by_workers
overflow_cast-by_workers g c =
    let fired = by_workers g c in
    let few = fired.within in
    let budget = c.args.plan.now.size.few in
    let old = c.standing_count-stood.ensures in
    let new = c.standing_count.ensures in
    omega (arith, few, budget, old, new)

pub fire_rest-swept-requires-after_bounds : goal.fire_rest-swept-requires-after_bounds
fire_rest-swept-requires-after_bounds g c κs within =
    let fired = by_workers g c in
    let few = fired.within in
    let old = c.standing_count-stood.ensures in
    let new = c.standing_count.ensures in
    (omega (arith, few, old, new), c.args.plan.now.size.few)

pub returns-in-Ok-settle-clause-swept : goal.returns-in-Ok-settle-clause-swept
returns-in-Ok-settle-clause-swept g c =
    let fired = all_home c.args.bench c.in-Ok-settle.settled.bench c.args.plan.now.size.budget c.lawful.ensures c.lawful-in-Ok-settle.ensures c.in-Ok-share.ensures.opening c.in-Ok-settle.ensures.ok
    (ap (λ (claims : Claims). claims.budget) c.split_off_others-hints.ensures.rest.0 ∙ c.in-Ok.ensures.seat.1) c.run_crew-first.ensures.first c.is_stopped.ensures.few c.push_reserved.ensures.items in
    let rest = c.fire_rest-swept.ensures.fired in
    let old = c.standing_count-stood.ensures in
    let new = c.standing_count.ensures in
    let workers : length c.in-Ok-settle.settled.bench.events - length c.args.bench.events ≡ c.standing_count.result - c.standing_count-stood.result = λ i. sym new i - sym old i in
    let swept = sweeps c.args.bench c.in-Ok-settle.settled.bench c.fire_rest-swept.result.bench c.args.plan.now.size.budget _ rest.0 rest.1 c.fire_rest-swept.result.end
    c.lawful-in-Ok-settle.ensures c.lawful-in-Ok-settle-2.ensures (subst (λ n. FiredByWorkers c.args.bench c.args.plan.now.size.budget n c.in-Ok-settle.settled.bench) workers fired) rest.2 rest.4 in
    subst (λ n. Sweeps c.args.bench c.args.plan.now.size.budget n c.fire_rest-swept.result.end c.fire_rest-swept.result.bench) (sym rest.3) swept
