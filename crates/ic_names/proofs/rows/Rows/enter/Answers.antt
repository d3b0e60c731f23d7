use Rattle.std.proofs.Common.{◌+◌, arith, subst}
use Rattle.ic_name.specs.Names.{start_name}
use Rattle.ic_names.specs.Tables.{StandsAt, Enters}
use Rattle.ic_names.proofs.Fronted.{front_name, front_next}
use Rattle.ic_names.proofs.Growing.{front_up_to, grows_none, grows_more, enters_length}
use Rattle.ic_names.proofs.rows.Rows.enter.Goals as goal

pub loop-digit-init : goal.loop-digit-init
loop-digit-init c =
    let n = c.args.name.now in
    let old = c.args.self.now.names in
    let new = c.enter_start-place.new.self.names in
    let entered = subst (λ s. StandsAt new (start_name s) c.enter_start-place.result) c.start_number.ensures c.enter_start-place.ensures.entered in
    let grown = subst (λ s. Enters old (start_name s) new) c.start_number.ensures c.enter_start-place.ensures.grown in
    let longer = enters_length old _ new c.enter_start-place.ensures.grown in
    let room = c.enter_start-place.ensures.room in
    let before = c.requires.room in
    let few = c.requires.few in
    record {
      stands = entered;
      grown = grows_more old old new n (front_name n 0) (grows_none old n) (front_up_to n 0) grown;
      room = omega arith;
      few = omega arith;
    }

pub loop-digit-preserved : goal.loop-digit-preserved
loop-digit-preserved c =
    let n = c.args.name.now in
    let i = c.loop-digit.digit-index in
    let mid = c.loop-digit.self.names in
    let new = c.enter_child-place.new.self.names in
    let next = front_next n _ c.digits-digits.result.now i c.loop-digit.invariant.stands.named c.digits-digits.ensures c.loop-digit-test.true in
    let entered = subst (λ m. StandsAt new m c.enter_child-place.result) next c.enter_child-place.ensures.entered in
    let grown = subst (λ m. Enters mid m new) next c.enter_child-place.ensures.grown in
    let longer = enters_length mid _ new c.enter_child-place.ensures.grown in
    let room = c.enter_child-place.ensures.room in
    let before = c.loop-digit.invariant.room in
    let few = c.loop-digit.invariant.few in
    record {
      stands = entered;
      grown = grows_more c.args.self.now.names mid new n (front_name n (i + 1)) c.loop-digit.invariant.grown (front_up_to n (i + 1)) grown;
      room = omega arith;
      few = omega arith;
    }
