use Rattle.std.proofs.Common.{arith}
use Rattle.ic_theory.specs.Listed.{shown}
use Rattle.ic_net.specs.Rewirings.{wiring}
use Rattle.ic_net.proofs.Rewirings.{on_ok, take_children, take_pass, take_pass_back, take_join}
use Rattle.ic_net.proofs.rewiring.Rewiring.take.Goals as goal

pub returns-in-Child-b-clause-taken : goal.returns-in-Child-b-clause-taken
returns-in-Child-b-clause-taken c =
    on_ok c.wire.result
    (λ w.
    take_children c.args.a c.args.b _ _ _ _ c.in_ok-left.left c.in_ok-right.right _ _ (wiring (shown c.args.net.now).partner c.args.self.now) _ c.in-Child.is c.in-Child-b.is c.in_ok-left.ensures c.in_ok-right.ensures (w (shown c.args.net.now).partner))
    c.wire.ensures.wired

pub returns-in_default-b : goal.returns-in_default-b
returns-in_default-b c = record {
  taken = on_ok c.pass.result
      (λ w.
      take_pass c.args.a c.args.b _ _ c.in_ok-left.left c.in_ok-right.right _ _ (wiring (shown c.args.net.now).partner c.args.self.now) _ c.in-Child.is c.in_default-b.not-Child c.in_ok-left.ensures c.in_ok-right.ensures w)
      c.pass.ensures.passed;
  few = search arith;
}

pub returns-in-Child-b-2 : goal.returns-in-Child-b-2
returns-in-Child-b-2 c = record {
  taken = on_ok c.pass-in-Child-b-2.result
      (λ w.
      take_pass_back c.args.a c.args.b _ _ c.in_ok-left.left c.in_ok-right.right _ _ (wiring (shown c.args.net.now).partner c.args.self.now) _ c.in_default.not-Child c.in-Child-b-2.is c.in_ok-left.ensures c.in_ok-right.ensures w)
      c.pass-in-Child-b-2.ensures.passed;
  few = search arith;
}

pub returns-in_default-b-2 : goal.returns-in_default-b-2
returns-in_default-b-2 c = record {
  taken = on_ok c.join.result
      (λ w.
      take_join c.args.a c.args.b c.in_ok-left.left c.in_ok-right.right _ _ (wiring (shown c.args.net.now).partner c.args.self.now) _ c.in_default.not-Child c.in_default-b-2.not-Child c.in_ok-left.ensures c.in_ok-right.ensures w)
      c.join.ensures.joined;
  few = c.join.ensures.few;
}
