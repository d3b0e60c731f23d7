use Rattle.std.proofs.Common.{refl}
use Rattle.ic_shared.specs.Passes.{told_by, told_in}
use Rattle.ic_shared.proofs.Columns.{found_at, told_at}
use Rattle.ic_shared.proofs.passes.Pass.number_at.Goals as goal

pub returns-in-Some : goal.returns-in-Some
returns-in-Some g c =
    let at = c.in-Some.ensures.lookup in
    let found = found_at c.self.inside.receipts.items c.deref.result.now c.args.place c.in-Some.receipt.now c.deref.ensures.value at.0 at.1 in
    rw (← c.self.view_is, c.in-Calls.is) (λ ns. (told_by c.in-Some.receipt.now, told_at told_by c.self.inside.receipts.items c.args.place c.in-Some.receipt.now found, refl))

pub returns-in-Some-get : goal.returns-in-Some-get
returns-in-Some-get g c =
    let at = c.in-Some-get.ensures.lookup in
    let found = found_at c.self.inside.ran.items c.deref-in-Runs.result.now c.args.place c.in-Some-get.receipt.now c.deref-in-Runs.ensures.value at.0 at.1 in
    rw (← c.self.view_is, c.in-Runs.is) (λ ns. (told_in ns c.in-Some-get.receipt.now, told_at (told_in ns) c.self.inside.ran.items c.args.place c.in-Some-get.receipt.now found, refl))
