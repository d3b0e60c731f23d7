use Rattle.std.proofs.Common.{◌≡◌, ◌++◌, List, length, ap, ◌∙◌, subst}
use Rattle.ic_shared.specs.declared.receipts.Receipt.{Receipt}
use Rattle.ic_shared.specs.Passes.{PassView}
use Rattle.ic_shared.specs.Receipts.{receipts_of}
use Rattle.ic_shared.specs.CallLines.{undo_lines}
use Rattle.ic_shared.specs.CallsForPass.{undone}
use Rattle.ic_shared.proofs.shared.Shared.undo.Goals as goal

pub returns : goal.returns
returns g c =
    let bench = c.deref_mut.result.now.bench in
    undone bench c.undo.new.self.bench c.undo.ensures.bench c.undo.ensures.undoes
    (subst (λ (had : List Receipt). c.undo.new.receipts.items ≡ had ++ receipts_of (length bench.lines) (undo_lines c.args.id c.undo.result))
    (◌∙◌ {A = List Receipt} c.in-Ok.ensures.items (ap (λ (p : PassView). p.receipts) c.pass.view_is)) c.undo.ensures.receipts)
    (ap (λ (p : PassView). p.ran) c.pass.view_is)
