use Rattle.std.proofs.Common.{◌<◌, ◌+◌, ◌^◌, length, arith, Ok, Err}
use Rattle.std.specs.Prelude.{OnOk}
use Rattle.ic_names.proofs.RowNames.{names_of-length}
use Rattle.ic_names.proofs.rows.Rows.reserve_names.Goals as goal

pub overflow_sub-len : goal.overflow_sub-len
overflow_sub-len c =
    let few = c.self.invariant.table.few in
    let all = names_of-length c.self.inside.entries.items in
    omega (arith, c.len.ensures, c.self.inside.entries.ok.0)

pub returns-clause-few : goal.returns-clause-few
returns-clause-few c =
    let few = c.self.invariant.table.few in
    let all = names_of-length c.self.inside.entries.items in
    let fact : length c.args.self.now.names + c.args.names < 2 ^ 32 = rw (← c.self.view_is) (omega (arith, c.len.ensures, c.self.inside.entries.ok.0, c.if-names-len.false)) in
    elim c.reserve.result as (λ r. OnOk r (length c.args.self.now.names + c.args.names < 2 ^ 32)) [ Ok x ↦ fact | Err e ↦ tt ]
