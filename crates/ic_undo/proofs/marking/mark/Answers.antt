use Rattle.std.proofs.Common.{◌≡◌, length, ap, arith, ◌∙◌}
use Rattle.ic_undo.proofs.MarkedBenches.{bench_mark}
use Rattle.ic_undo.proofs.marking.mark.Goals as goal

pub of-requires : goal.of-requires
of-requires g c =
    let few = rw (c.in_ok-start.ensures ∙ c.start.ensures) at c.lawful-2.ensures.few_agents in
    let short = (bench_mark c.args.bench.now c.lawful.ensures few c.in_ok-events.events.items c.in_ok-events.ensures).few_events in
    let same = ap length c.deref.ensures.value in
    omega (arith, short, same)

pub invariant_of-result : goal.invariant_of-result
invariant_of-result g c =
    let same : c.in_ok-start.start ≡ c.args.bench.now.start = c.in_ok-start.ensures ∙ c.start.ensures in
    let few = rw same at c.lawful-2.ensures.few_agents in
    rw (same, c.in_ok-events-2.ensures, c.deref.ensures.value) (bench_mark c.args.bench.now c.lawful.ensures few c.in_ok-events.events.items c.in_ok-events.ensures)
