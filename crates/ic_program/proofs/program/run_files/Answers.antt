use Rattle.std.proofs.Common.{◌≡◌, ◌<◌, ℕ, List, length, map, subst, rules, arith}
use Rattle.std.specs.Borrow.{Bor}
use Rattle.std.specs.Prelude.{Contains, slice_index_or}
use Rattle.ic_program.specs.Runs.RunsFiles.{over, unread}
use Rattle.ic_program.specs.Runs.RunsSession.{ended, broken}
use Rattle.ic_program.proofs.RunInputs.{named_at}
use Rattle.ic_program.proofs.program.run_files.Goals as goal

pub returns-in-Ok : goal.returns-in-Ok
returns-in-Ok g c = over (rw c.session_status.ensures (ended c.in-Ok.status tt (rw c.setting-setting.ensures at c.session.ensures.silent)))

pub returns-then-at-len : goal.returns-then-at-len
returns-then-at-len g c =
    let files = c.args.asked.now.files.items in
    let lt : c.in-Some.at < length files = search (rules, arith) in
    let is : slice_index_or files c.in-Some.at c.index.result.now ≡ c.index.result.now = search rules in
    let named = subst (λ (b : Bor (List ℕ)). Contains (map (λ v. v.now) files) b.now) is (named_at files c.in-Some.at c.index.result.now lt) in
    rw c.refuse_file.ensures.status (unread named (λ off. rw ((rw c.setting-setting.ensures at c.session.ensures.silent) off) at c.refuse_file.ensures.said))

pub returns : goal.returns
returns g c = over (rw c.fail.ensures.status (broken c.in-Err.fault tt (λ off. rw ((rw c.setting-setting.ensures at c.session.ensures.silent) off) at c.fail.ensures.said)))
