use Rattle.std.proofs.Common.{refl, arith}
use Rattle.ic_net.proofs.rewiring.Rewiring.close.Goals as goal

pub overflow_add-self : goal.overflow_add-self
overflow_add-self c = let few = c.requires in omega (arith, few)

pub returns-then-self-ge-TOO_MANY_RINGS-clause-writes : goal.returns-then-self-ge-TOO_MANY_RINGS-clause-writes
returns-then-self-ge-TOO_MANY_RINGS-clause-writes c = refl

pub returns-then-self-ge-TOO_MANY_RINGS-clause-rings : goal.returns-then-self-ge-TOO_MANY_RINGS-clause-rings
returns-then-self-ge-TOO_MANY_RINGS-clause-rings c = tt

pub returns-then-self-ge-TOO_MANY_RINGS-clause-few : goal.returns-then-self-ge-TOO_MANY_RINGS-clause-few
returns-then-self-ge-TOO_MANY_RINGS-clause-few c = tt

pub overflow_add-self-2 : goal.overflow_add-self-2
overflow_add-self-2 c = let few = c.requires in omega (arith, few)

pub returns-clause-writes : goal.returns-clause-writes
returns-clause-writes c = refl

pub returns-clause-rings : goal.returns-clause-rings
returns-clause-rings c = refl

pub returns-clause-few : goal.returns-clause-few
returns-clause-few c = c.if-self-ge-TOO_MANY_RINGS.false
