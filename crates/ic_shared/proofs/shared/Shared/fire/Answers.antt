use Rattle.std.proofs.Common.{◌≡◌, ◌++◌, List, length, ap, ◌∙◌, subst}
use Rattle.ic_shared.specs.declared.receipts.Receipt.{Receipt}
use Rattle.ic_shared.specs.Passes.{PassView}
use Rattle.ic_shared.specs.Receipts.{receipts_of}
use Rattle.ic_shared.specs.CallLines.{fire_lines}
use Rattle.ic_shared.specs.CallsForPass.{fired}
use Rattle.ic_shared.proofs.shared.Shared.fire.Goals as goal

pub returns : goal.returns
returns g c =
    let bench = c.deref_mut.result.now.bench in
    fired bench c.fire.new.self.bench c.fire.ensures.bench c.fire.ensures.fires
    (subst (λ (had : List Receipt). c.fire.new.receipts.items ≡ had ++ receipts_of (length bench.lines) (fire_lines c.args.proposal c.fire.result))
    (◌∙◌ {A = List Receipt} c.in-Some.ensures.same (ap (λ (p : PassView). p.receipts) c.pass.view_is)) c.fire.ensures.receipts)
    (ap (λ (p : PassView). p.ran) c.pass.view_is)
