use Rattle.std.proofs.Common.{◌+◌, ap, arith, length, subst, refl}
use Rattle.ic_name.specs.Names.{Name, start_name}
use Rattle.ic_names.specs.Tables.{StandsAt, IsAbsent}
use Rattle.ic_names.proofs.Fronted.{front-all, front_next, absent_behind}
use Rattle.ic_names.proofs.rows.Rows.place_of.Goals as goal

pub returns-in_err-place : goal.returns-in_err-place
returns-in_err-place c = rw c.from_residual.ensures (absent_behind c.lawful.ensures (record { start = c.args.start; digits = c.args.digits.now }) 0 (omega arith) c.in_err-place.ensures)

pub loop-digit-init : goal.loop-digit-init
loop-digit-init c = c.in_ok-place.ensures

pub child-requires-clause-inside : goal.child-requires-clause-inside
child-requires-clause-inside c = c.loop-digit.invariant.within

pub returns-in_err-place-2 : goal.returns-in_err-place-2
returns-in_err-place-2 c =
    let n : Name = record { start = c.args.start; digits = c.args.digits.now } in
    let next = front_next n _ c.args.digits.now c.loop-digit.digit-index c.loop-digit.invariant.named refl c.loop-digit-test.true in
    let absent = subst (λ m. IsAbsent c.args.self.now.names m) next c.in_err-place-2.ensures in
    rw c.from_residual-in_err-place-2.ensures (absent_behind c.lawful.ensures n (c.loop-digit.digit-index + 1) (omega (arith, c.loop-digit-test.true)) absent)

pub loop-digit-preserved : goal.loop-digit-preserved
loop-digit-preserved c =
    let n : Name = record { start = c.args.start; digits = c.args.digits.now } in
    let next = front_next n _ c.args.digits.now c.loop-digit.digit-index c.loop-digit.invariant.named refl c.loop-digit-test.true in
    subst (λ m. StandsAt c.args.self.now.names m c.in_ok-place-2.place) next c.in_ok-place-2.ensures

pub returns : goal.returns
returns c =
    let n : Name = record { start = c.args.start; digits = c.args.digits.now } in
    subst (λ m. StandsAt c.args.self.now.names m c.loop-digit.place) (front-all n c.loop-digit.digit-index (omega (arith, c.loop-digit-test.false))) c.loop-digit.invariant
