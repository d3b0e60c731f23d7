use Rattle.std.proofs.Common.{◌≡◌, ◌∷◌, [], ℕ, rules}
use Rattle.std.proofs.lemmas.List.Elements.{All-nil}
use Rattle.ic_name.specs.declared.ports.Port.{Port}
use Rattle.ic_net.specs.Placed.{HasPortName}
use Rattle.ic_net.proofs.PlacedNames.{free_entered}
use Rattle.ic_net.proofs.placing.enter_frees.Goals as goal

pub loop-partner-preserved : goal.loop-partner-preserved
loop-partner-preserved c =
    let is : c.loop-partner.partner-iterator ≡ (c.in-Some.field-0-0.now, c.in-Some.partner.now) ∷ c.next.new.self = search rules in
    record {
      entered = free_entered c.loop-partner.names c.enter_port.new.names c.enter_port.ensures.kept c.args.frees.now.entries c.loop-partner.partner-iterator c.next.new.self (c.in-Some.field-0-0.now, c.in-Some.partner.now) is c.in_ok-enter_port.ensures.entered c.loop-partner.invariant.entered;
      kept = λ n s. c.enter_port.ensures.kept n (c.loop-partner.invariant.kept n s);
    }

pub returns-clause-entered : goal.returns-clause-entered
returns-clause-entered c =
    let none : c.loop-partner.partner-iterator ≡ [] = search rules in
    c.loop-partner.invariant.entered c.loop-partner.names (λ n s. s) (rw none (All-nil (λ (f : ℕ × Port). HasPortName c.loop-partner.names f.1)))
