-- Answers to demands, and to others behind them.
use Rattle.std.proofs.Common.{◌≡◌, ℕ, false, List, ◌++◌, sym, ap, ◌∙◌, append_assoc, append-nil, subst}
use Rattle.ic_theory.specs.Starts.{Start}
use Rattle.ic_desk.specs.Desks.{State}
use Rattle.ic_session.specs.Echoes.{echoed}
use Rattle.ic_session.specs.InputLines.{TextLine}
use Rattle.ic_session.specs.Modes.{TakesDemand, Gives, stops_at}
use Rattle.ic_session.specs.declared.demand.Demand.{Demand}
use Rattle.ic_session.specs.declared.mode.Mode.{Mode}
use Rattle.ic_session.specs.Sessions.{AreAnswered, none, more}

-- one demand more was answered
pub answered_step : {s : Start} {m : Mode} {st mid next : State} {ls between left : List TextLine} {d : Demand} {text reply : List ℕ}
    → AreAnswered s m st ls text mid between → TakesDemand m between d left → Gives m s mid d reply next → stops_at m reply ≡ false
    → AreAnswered s m st ls (text ++ echoed m between ++ reply) next left
answered_step {s = s} {m = m} {st = st} {next = next} {ls = ls} {left = left} {reply = reply} none t a on =
    subst (λ text. AreAnswered s m st ls text next left) (append-nil (echoed m ls ++ reply)) (more t a on none)
answered_step {s = s} {m = m} {st = st} {next = next} {ls = ls} {between = between} {left = left} {reply = reply} (more {reply = first} {behind = behind} u b goes later) t a on =
    let begun = echoed m ls ++ first in
    let moved = ap (λ text. text ++ reply) (append_assoc begun behind (echoed m between)) ∙ append_assoc begun (behind ++ echoed m between) reply in
    subst (λ text. AreAnswered s m st ls text next left) (sym moved) (more u b goes (answered_step later t a on))
