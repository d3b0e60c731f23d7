use Rattle.ic_journal.specs.Calls.{awoken_answer, FiresPair}
use Rattle.ic_journal.specs.declared.faults.PairFault.TheVariants as fault
use Rattle.ic_journal.proofs.BenchSteps.{fault_known}
use Rattle.ic_journal.proofs.LeastFired.{least_at, stays_normal, still_wanting, fires_least, meets_limit}
use Rattle.ic_journal.proofs.reducing.least.fire_next.Goals as goal

pub returns-in_default : goal.returns-in_default
returns-in_default g c = stays_normal c.args.bench.now c.in_default.ensures.absent

pub fire_pair_into-fired-requires : goal.fire_pair_into-fired-requires
fire_pair_into-fired-requires g c = (c.in-Some.ensures.found.event, c.in-Some.ensures.found.pair)

pub returns-in-Ok : goal.returns-in-Ok
returns-in-Ok g c =
    let found = c.in-Some.ensures.found in
    let fires = c.in-Ok.ensures found.event found.pair in
    fires_least c.args.bench.now c.fire_pair_into-fired.new.self found.event (least_at c.args.bench.now c.in-Some.pair found) c.lawful-2.ensures fires.0.0

pub returns-in-Err-Deep : goal.returns-in-Err-Deep
returns-in-Err-Deep g c =
    let found = c.in-Some.ensures.found in
    let fires = fault_known (λ r. FiresPair c.args.bench.now found.event (awoken_answer r c.fire_pair_into-fired.new.awoken) c.fire_pair_into-fired.new.self) c.fire_pair_into-fired.result c.in-Err-Deep.field-0 fault.Deep c.in-Err-Deep.is (rw c.in-Err-Deep.is at c.in-Err-Deep.field-0-is) (c.fire_pair_into-fired.ensures found.event found.pair) in
    meets_limit c.args.bench.now c.fire_pair_into-fired.new.self found.event (least_at c.args.bench.now c.in-Some.pair found) c.lawful-2.ensures fault.Deep (λ e. cc) fires

pub returns-in-Err-Full : goal.returns-in-Err-Full
returns-in-Err-Full g c =
    let found = c.in-Some.ensures.found in
    let fires = fault_known (λ r. FiresPair c.args.bench.now found.event (awoken_answer r c.fire_pair_into-fired.new.awoken) c.fire_pair_into-fired.new.self) c.fire_pair_into-fired.result c.in-Err-Full.field-0 fault.Full c.in-Err-Full.is (rw c.in-Err-Full.is at c.in-Err-Full.field-0-is) (c.fire_pair_into-fired.ensures found.event found.pair) in
    meets_limit c.args.bench.now c.fire_pair_into-fired.new.self found.event (least_at c.args.bench.now c.in-Some.pair found) c.lawful-2.ensures fault.Full (λ e. cc) fires

pub returns-in-Err-HistoryFull : goal.returns-in-Err-HistoryFull
returns-in-Err-HistoryFull g c =
    let found = c.in-Some.ensures.found in
    let fires = fault_known (λ r. FiresPair c.args.bench.now found.event (awoken_answer r c.fire_pair_into-fired.new.awoken) c.fire_pair_into-fired.new.self) c.fire_pair_into-fired.result c.in-Err-HistoryFull.field-0 fault.HistoryFull c.in-Err-HistoryFull.is (rw c.in-Err-HistoryFull.is at c.in-Err-HistoryFull.field-0-is) (c.fire_pair_into-fired.ensures found.event found.pair) in
    meets_limit c.args.bench.now c.fire_pair_into-fired.new.self found.event (least_at c.args.bench.now c.in-Some.pair found) c.lawful-2.ensures fault.HistoryFull (λ e. cc) fires

pub returns-in-Err-Memory : goal.returns-in-Err-Memory
returns-in-Err-Memory g c =
    let found = c.in-Some.ensures.found in
    let fires = fault_known (λ r. FiresPair c.args.bench.now found.event (awoken_answer r c.fire_pair_into-fired.new.awoken) c.fire_pair_into-fired.new.self) c.fire_pair_into-fired.result c.in-Err-Memory.field-0 fault.Memory c.in-Err-Memory.is (rw c.in-Err-Memory.is at c.in-Err-Memory.field-0-is) (c.fire_pair_into-fired.ensures found.event found.pair) in
    still_wanting c.args.bench.now c.fire_pair_into-fired.new.self found.event (least_at c.args.bench.now c.in-Some.pair found) fires.1
