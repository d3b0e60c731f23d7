use Rattle.std.proofs.Common.{ℕ}
use Rattle.std.proofs.lemmas.List.Elements.{All-nil}
use Rattle.std.specs.Ordering.{nat_cmp}
use Rattle.ic_name.specs.Names.{name_cmp}
use Rattle.ic_name.specs.declared.ports.Port.{Port}
use Rattle.ic_theory.specs.Listed.{NetAgent as Listed}
use Rattle.ic_net.specs.declared.sheet.placed.PlacedPort.{PlacedPort}
use Rattle.ic_net.specs.Placed.{IsAgentInside, IsPortInside}
use Rattle.ic_net.proofs.InOrder.{none_in_order}
use Rattle.ic_net.proofs.sheet.making.NetMaker.new.Goals as goal

pub invariant_of-result : goal.invariant_of-result
invariant_of-result c =
    rw (c.new.ensures.items, c.new-2.ensures.items)
    (none_in_order name_cmp (λ (a : Listed). a.name), none_in_order nat_cmp (λ (f : ℕ × Port). f.0), record { agents = All-nil (IsAgentInside c.args.names.now); frees = All-nil (λ (f : ℕ × PlacedPort). IsPortInside c.args.names.now f.1) })
