use Rattle.ic_program.specs.Runs.RunsSession.{ended, broken}
use Rattle.ic_program.proofs.program.run.Goals as goal

pub returns-in-Ok : goal.returns-in-Ok
returns-in-Ok g c = rw c.session_status.ensures (ended c.in-Ok.status (rw (c.in-Ok.is, c.setting-setting.ensures) at c.session.ensures.wrote) (rw c.setting-setting.ensures at c.session.ensures.silent))

pub returns-in-Err : goal.returns-in-Err
returns-in-Err g c =
    rw c.fail.ensures.status (broken c.in-Err.fault (rw (c.in-Err.is, c.setting-setting.ensures) at c.session.ensures.began) (λ off. rw ((rw c.setting-setting.ensures at c.session.ensures.silent) off) at c.fail.ensures.said))
