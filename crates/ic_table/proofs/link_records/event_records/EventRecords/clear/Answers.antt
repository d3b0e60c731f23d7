use Rattle.std.proofs.Common.{refl, arith}
use Rattle.ic_table.proofs.ClearedEvents.{cleared-more, cleared-rows, cleared-counted}
use Rattle.ic_table.proofs.link_records.event_records.EventRecords.clear.Goals as goal

pub loop-number-init : goal.loop-number-init
loop-number-init c = record { all = refl; vacant = λ k low. absurd (omega (arith, low)); short = c.self.invariant.short }

pub loop-number-preserved : goal.loop-number-preserved
loop-number-preserved c =
    let more = c.loop-number-test.true in
    let all = c.len-number-end.ensures in
    let ok = c.self.inside.records.ok in
    cleared-more _ _ _ _ refl (omega (arith, more, all, ok)) c.loop-number.invariant

pub invariant_of-self : goal.invariant_of-self
invariant_of-self c =
    let past = c.loop-number-test.false in
    let all = c.len-number-end.ensures in
    let ok = c.self.inside.records.ok in
    cleared-counted _ _ _ c.loop-number.invariant (omega (arith, past, all, ok)) _ c.self.invariant

pub returns-clause-rows : goal.returns-clause-rows
returns-clause-rows c =
    let past = c.loop-number-test.false in
    let all = c.len-number-end.ensures in
    let ok = c.self.inside.records.ok in
    cleared-rows _ _ _ c.loop-number.invariant (omega (arith, past, all, ok))
