use Rattle.std.proofs.Common.{List, ap, ◌∙◌, subst}
use Rattle.ic_shared.specs.declared.receipts.RunReceipt.{RunReceipt}
use Rattle.ic_shared.specs.Passes.{PassView}
use Rattle.ic_shared.specs.Runs.{Runs, ran}
use Rattle.ic_shared.proofs.shared.Shared.fire_run.Goals as goal

pub returns-clause-run : goal.returns-clause-run
returns-clause-run g c =
    let bench = c.deref_mut.result.now.bench in
    let after = c.run.new.self.bench in
    ran bench after
    (subst (λ (had : List RunReceipt). Runs g.C.Chooser.chooses g.C.Chooser.hears bench c.args.chooser.now had after c.run.new.chooser c.run.new.ran.items c.run.result.calls c.run.result.refused)
    (◌∙◌ {A = List RunReceipt} c.in-Ok.ensures.items (ap (λ (p : PassView). p.ran) c.pass.view_is)) c.run.ensures.run)
    (ap (λ (p : PassView). p.receipts) c.pass.view_is)
