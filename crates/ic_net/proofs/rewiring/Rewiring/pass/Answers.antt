use Rattle.std.proofs.Common.{sym, ◌∙◌}
use Rattle.ic_theory.specs.Listed.{shown}
use Rattle.ic_net.proofs.Rewirings.{on_ok, pass_wires}
use Rattle.ic_net.proofs.rewiring.Rewiring.pass.Goals as goal

pub returns : goal.returns
returns c = record {
  passed = on_ok c.wire.result
      (λ w.
      pass_wires (shown c.args.net.now).partner c.args.self.now c.write.new.self c.wire.new.self c.args.child c.args.port c.in-Some.from_port (sym c.in_ok-from_port.ensures ∙ c.in-Some.is)
      c.in_ok-write.ensures.written c.write.ensures.rings (w (shown c.args.net.now).partner))
      c.wire.ensures.wired;
  rings = c.wire.ensures.rings ∙ c.write.ensures.rings;
}
