use Rattle.ic_shared.specs.Passes.{told_by, told_in}
use Rattle.ic_shared.proofs.Columns.{found_at, none_at, told_at, call_confirmed, run_confirmed, none_confirmed, other_number}
use Rattle.ic_shared.proofs.passes.Pass.confirms.Goals as goal

pub returns-then-receipt-number : goal.returns-then-receipt-number
returns-then-receipt-number g c =
    let at = c.in-Some.ensures.lookup in
    let found = found_at c.self.inside.receipts.items c.deref.result.now c.args.place c.in-Some.receipt.now c.deref.ensures.value at.0 at.1 in
    rw (← c.self.view_is, c.in-Calls.is) (call_confirmed c.args.bench.now.lines c.self.inside.receipts.items c.args.place c.args.number c.in-Some.receipt.now _ found c.if-receipt-number.true c.line_is.ensures)

pub returns-else-receipt-number : goal.returns-else-receipt-number
returns-else-receipt-number g c =
    let at = c.in-Some.ensures.lookup in
    let found = found_at c.self.inside.receipts.items c.deref.result.now c.args.place c.in-Some.receipt.now c.deref.ensures.value at.0 at.1 in
    let told = told_at told_by c.self.inside.receipts.items c.args.place c.in-Some.receipt.now found in
    let other = other_number c.args.bench.now.lines _ c.args.place c.args.number (told_by c.in-Some.receipt.now) told c.if-receipt-number.false in
    rw (← c.self.view_is, c.in-Calls.is) other

pub returns-in-None : goal.returns-in-None
returns-in-None g c =
    let none = none_confirmed told_by c.args.bench.now.lines c.self.inside.receipts.items c.args.place c.args.number (none_at c.self.inside.receipts.items c.deref.result.now c.args.place c.deref.ensures.value c.in-None.ensures.lookup.0) in
    rw (← c.self.view_is, c.in-Calls.is) none

pub returns-then-receipt-number-2 : goal.returns-then-receipt-number-2
returns-then-receipt-number-2 g c =
    let at = c.in-Some-get.ensures.lookup in
    let found = found_at c.self.inside.ran.items c.deref-in-Runs.result.now c.args.place c.in-Some-get.receipt.now c.deref-in-Runs.ensures.value at.0 at.1 in
    rw (← c.self.view_is, c.in-Runs.is) (run_confirmed c.args.bench.now.names c.args.bench.now.lines c.self.inside.ran.items c.args.place c.args.number c.in-Some-get.receipt.now _ found c.if-receipt-number-2.true c.line_is_noted.ensures)

pub returns-else-receipt-number-2 : goal.returns-else-receipt-number-2
returns-else-receipt-number-2 g c =
    let at = c.in-Some-get.ensures.lookup in
    let found = found_at c.self.inside.ran.items c.deref-in-Runs.result.now c.args.place c.in-Some-get.receipt.now c.deref-in-Runs.ensures.value at.0 at.1 in
    let told = told_at (told_in c.args.bench.now.names) c.self.inside.ran.items c.args.place c.in-Some-get.receipt.now found in
    let other = other_number c.args.bench.now.lines _ c.args.place c.args.number (told_in c.args.bench.now.names c.in-Some-get.receipt.now) told c.if-receipt-number-2.false in
    rw (← c.self.view_is, c.in-Runs.is) other

pub returns-in-None-get : goal.returns-in-None-get
returns-in-None-get g c =
    let none = none_confirmed (told_in c.args.bench.now.names) c.args.bench.now.lines c.self.inside.ran.items c.args.place c.args.number (none_at c.self.inside.ran.items c.deref-in-Runs.result.now c.args.place c.deref-in-Runs.ensures.value c.in-None-get.ensures.lookup.0) in
    rw (← c.self.view_is, c.in-Runs.is) none
