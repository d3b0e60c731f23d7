use Rattle.std.proofs.Common.{Option, Vec, Global, option_map, subst}
use Rattle.ic_name.specs.Events.{Pair}
use Rattle.ic_trace.specs.Pasts.{AreCausesNamed}
use Rattle.ic_trace.proofs.ReadFirings.{numbers_after}
use Rattle.ic_trace.proofs.reading.numbers_of_causes.Goals as goal

pub unreachable-requires : goal.unreachable-requires
unreachable-requires c =
    let nothing = subst (λ (x : Option (Vec Pair Global)). AreCausesNamed c.args.past.now c.args.name.now (option_map (λ (v : Vec Pair Global). v.items) x)) c.in_default.is c.in_ok-causes.ensures in
    nothing c.requires.stands.0 c.requires.stands.1 c.requires.stands.2

pub numbers_of-requires-clause-known : goal.numbers_of-requires-clause-known
numbers_of-requires-clause-known c =
    let named = subst (λ (x : Option (Vec Pair Global)). AreCausesNamed c.args.past.now c.args.name.now (option_map (λ (v : Vec Pair Global). v.items) x)) c.in-Some.is c.in_ok-causes.ensures in
    rw c.deref.ensures.value (c.requires.causes c.in-Some.causes.items named)

pub returns : goal.returns
returns c =
    let named = subst (λ (x : Option (Vec Pair Global)). AreCausesNamed c.args.past.now c.args.name.now (option_map (λ (v : Vec Pair Global). v.items) x)) c.in-Some.is c.in_ok-causes.ensures in
    numbers_after c.args.past.now c.args.name.now c.args.table.now.known.items c.in-Some.causes.items named c.numbers_of.result (rw c.deref.ensures.value at c.numbers_of.ensures)
