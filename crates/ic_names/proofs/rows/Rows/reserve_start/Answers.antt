use Rattle.std.proofs.Common.{arith}
use Rattle.ic_names.proofs.PutRows.{start_at-after, rows_resized}
use Rattle.ic_names.proofs.rows.Rows.reserve_start.Goals as goal

pub invariant_of-self : goal.invariant_of-self
invariant_of-self c =
    let ss = c.self.inside.starts.items in
    let enough = c.max-room.ensures in
    rows_resized c.self.inside.entries.items ss c.resize.new.self.items c.self.invariant
    (start_at-after _ ss c.resize.new.self.items c.max-room.result _ _ c.resize.ensures.items c.self.inside.starts.ok.0 c.none.ensures (omega (arith, c.len.ensures, enough, c.if-starts-len.false)))
