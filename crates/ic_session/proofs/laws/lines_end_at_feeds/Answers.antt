use Rattle.std.proofs.Common.{refl}
use Rattle.ic_session.proofs.LineCuts.{line_ended, line_last, lines_whole}
use Rattle.ic_session.proofs.laws.lines_end_at_feeds.Goals as goal

pub returns : goal.returns
returns c = record { ended = line_ended; last = line_last; none = refl; whole = lines_whole }
