use Rattle.std.proofs.Common.{List, length, ap, subst, arith}
use Rattle.ic_path.specs.Orders.{IsIn}
use Rattle.ic_command.specs.declared.request.Request.TheVariants.{Absorb}
use Rattle.ic_desk.specs.Views.{NamedView}
use Rattle.ic_desk.proofs.DeskTurns.{bench_answer, command_start, same_start, desk_still}
use Rattle.ic_desk.proofs.Marks.{written_back}
use Rattle.ic_desk.proofs.desk.Desk.carry_out.Goals as goal

pub returns-in-Bench-clause-turns : goal.returns-in-Bench-clause-turns
returns-in-Bench-clause-turns g c =
    bench_answer c.args.self.now c.args.request c.self.inside.bench c.carry_out.new.bench c.self.inside.marks.items c.in-Bench.command c.carry_out.result c.self.view_is c.in-Bench.is c.carry_out.ensures.turns

pub invariant_of-self : goal.invariant_of-self
invariant_of-self g c =
    desk_still c.self.inside.bench c.carry_out.new.bench c.self.inside.marks.items c.self.invariant
    (command_start c.self.inside.bench c.carry_out.new.bench c.in-Bench.command c.carry_out.result c.carry_out.ensures.turns) c.carry_out.ensures.lines

pub go_back-requires : goal.go_back-requires
go_back-requires g c = λ x i. c.self.invariant x (subst (λ (xs : List NamedView). IsIn x xs) c.deref_mut.ensures.value i)

pub invariant_of-self-in-Back : goal.invariant_of-self-in-Back
invariant_of-self-in-Back g c = λ x i.
    let one = c.go_back.auto.marks in
    let two = ap length c.deref_mut.ensures.value in
    let three = c.self.inside.marks.ok.0 in
    c.go_back.ensures.desk x (subst (λ (xs : List NamedView). IsIn x xs)
    (written_back c.self.inside.marks.len c.go_back.new.marks c.self.inside.marks.items (omega (arith, one, two, three)) (omega (arith, three))) i)

pub invariant_of-self-in-Absorb : goal.invariant_of-self-in-Absorb
invariant_of-self-in-Absorb g c =
    desk_still c.self.inside.bench c.absorb_events.new.bench c.self.inside.marks.items c.self.invariant
    (same_start c.self.inside.bench c.absorb_events.new.bench c.deref.result.now (Absorb c.in-Absorb.names) c.absorb_events.result c.absorb_events.ensures.turns) c.absorb_events.ensures.lines
