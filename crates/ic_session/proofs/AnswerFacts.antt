-- Commands answered one by one.
use Rattle.std.proofs.Common.{◌≡◌, ℕ, Bool, true, false, List, [], ◌++◌, append-nil, refl, sym, ◌∙◌, subst, map}
use Rattle.std.proofs.KnownBytes.{Appends-nil, Appends-trans}
use Rattle.std.specs.Prelude.{Option, Some, None, IfSome}
use Rattle.std.specs.Io.KnownBytes.{Appends}
use Rattle.ic_command.specs.Faults.{AppendsFront}
use Rattle.ic_theory.specs.Starts.{Start}
use Rattle.ic_path.specs.Orders.{Alike}
use Rattle.ic_path.specs.Orders as Orders
use Rattle.ic_theory.specs.Machine as machine
use Rattle.ic_theory.specs.Machine.{IsHistory, begins}
use Rattle.ic_journal.specs.Views.{BenchView}
use Rattle.ic_journal.specs.Benches.{IsAt, Opens, fired_in}
use Rattle.ic_session.specs.Echoes.{WritesEcho, echoed}
use Rattle.ic_session.specs.InputLines.{lines}
use Rattle.ic_desk.specs.Desks.{State, initial}
use Rattle.ic_desk.specs.Views.{DeskView, IsDeskAt, IsOver, note_of}
use Rattle.ic_session.specs.Modes.{TakesNext, Gives, TurnsIn, stops_at}
use Rattle.ic_session.specs.declared.demand.Demand.{Demand}
use Rattle.ic_session.specs.declared.next_demand.NextDemand.{NextDemand}
use Rattle.ic_session.specs.declared.next_demand.NextDemand.TheVariants as next_demand
use Rattle.ic_session.specs.declared.net_session.NetEnd.{NetEnd}
use Rattle.ic_session.specs.declared.net_session.NetEnd.TheVariants.{Another}
use Rattle.ic_session.specs.declared.mode.Mode.{Mode}
use Rattle.ic_session.specs.Sessions.{AreAnswered, none, AnswersNet, AnswersNext, AreAnswers, AreBegun, echoing, replying}
use Rattle.ic_session.specs.declared.session.Status.TheVariants.{Ended, Stopped}
use Rattle.ic_session.proofs.AnswerSteps.{answered_step}

-- what was answered so far leaves the desk in some state, and the lines of what is left unanswered; where the input is
-- known
abbrev pub HasAnswered : Start → Mode → State → DeskView → Option (List ℕ) → Option (List ℕ) → Option (List ℕ) → Option (List ℕ) → Type 0
HasAnswered s m st v None now before after = Unit {0}
HasAnswered s m st v (Some xs) None before after = ⊥
HasAnswered s m st v (Some xs) (Some ys) before after =
    (cur : State) × IsDeskAt v cur × (text : List ℕ) × Appends before after text × AreAnswered s m st (lines xs) text cur (lines ys)

-- nothing was answered
pub answered_none : (s : Start) (m : Mode) (st : State) (v : DeskView) (old before : Option (List ℕ)) → IsDeskAt v st
    → HasAnswered s m st v old old before before
answered_none s m st v None before a = tt
answered_none s m st v (Some xs) before a = (st, a, [], Appends-nil before, none)

-- the reply to the command after those that were answered, and the state after it
next_answered : (s : Start) (m : Mode) (st : State) (v w : DeskView) (xs ys zs : List ℕ) (before then : Option (List ℕ)) (o : NextDemand) (c : Demand) (reply : List ℕ)
    → v.bench.start ≡ s → (h : HasAnswered s m st v (Some xs) (Some ys) before then) → o ≡ next_demand.Demand c → TakesNext m o ys (Some zs) → TurnsIn m v c reply w
    → (n : AnswersNext s m st (lines xs) (h.2 ++ echoed m (lines ys)) reply) × IsDeskAt w n.next × (n.left ≡ lines zs)
next_answered s m st v w xs ys zs before then o c reply i h e t r =
    let turn = r.gives h.0 h.1 in (
      record {
        answers = h.2;
        now = h.0;
        next = turn.0;
        between = lines ys;
        left = lines zs;
        demand = c;
        answered = h.4;
        said = refl;
        taken = subst (λ p. TakesNext m p ys (Some zs)) e t;
        gives = subst (λ z. Gives m z h.0 c reply turn.0) i turn.1;
      },
      turn.2,
      refl,
    )

-- what was written before, the echo of a line and the reply to it
echo_appended : (m : Mode) (o : NextDemand) (c : Demand) (ys text reply : List ℕ) (before then said after : Option (List ℕ)) → o ≡ next_demand.Demand c
    → Appends before then text → WritesEcho m o ys then said → Appends said after reply → Appends before after (text ++ echoed m (lines ys) ++ reply)
echo_appended m o c ys text reply before then said after e first echo last =
    let echo' : Appends then said (echoed m (lines ys)) = subst (λ p. WritesEcho m p ys then said) e echo in
    Appends-trans before said after (text ++ echoed m (lines ys)) reply (Appends-trans before then said text (echoed m (lines ys)) first echo') last

-- one command more was answered, and the session goes on
pub answered_more : (s : Start) (m : Mode) (st : State) (v w : DeskView) (old now next before then said after : Option (List ℕ)) (o : NextDemand) (c : Demand) (reply : List ℕ)
    → v.bench.start ≡ s → HasAnswered s m st v old now before then → o ≡ next_demand.Demand c → IfSome now (λ ys. TakesNext m o ys next) → IfSome now (λ ys. WritesEcho m o ys then said)
    → TurnsIn m v c reply w → Appends said after reply → stops_at m reply ≡ false
    → HasAnswered s m st w old next before after
answered_more s m st v w None now next before then said after o c reply i h e t k r added off = tt
answered_more s m st v w (Some xs) None next before then said after o c reply i h e t k r added off = absurd h
answered_more s m st v w (Some xs) (Some ys) None before then said after o c reply i h e t k r added off = absurd (subst (λ p. TakesNext m p ys None) e t)
answered_more s m st v w (Some xs) (Some ys) (Some zs) before then said after o c reply i h e t k r added off =
    let a = next_answered s m st v w xs ys zs before then o c reply i h e t r in
    let step = answered_step a.0.answered a.0.taken a.0.gives off in
    let text = h.2 ++ echoed m (lines ys) ++ reply in
    let whole = subst (λ t. AreAnswered s m st (lines xs) (t ++ reply) a.0.next a.0.left) (sym a.0.said) step in
    (a.0.next, a.1, text, echo_appended m o c ys h.2 reply before then said after e h.3 k added, subst (AreAnswered s m st (lines xs) text a.0.next) a.2 whole)

-- all were answered
pub answered_all : (s : Start) (m : Mode) (st : State) (v : DeskView) (old now next before then after : Option (List ℕ)) (o : NextDemand)
    → HasAnswered s m st v old now before then → o ≡ next_demand.Done → IfSome now (λ ys. TakesNext m o ys next) → IfSome now (λ ys. WritesEcho m o ys then after)
    → IfSome old (λ xs. (text : List ℕ) × AreAnswers Ended s m st (lines xs) text × Appends before after text)
answered_all s m st v None now next before then after o h e t k = tt
answered_all s m st v (Some xs) None next before then after o h e t k = absurd h
answered_all s m st v (Some xs) (Some ys) next before then after o h e t k =
    let same : after ≡ then = subst (λ p. WritesEcho m p ys then after) e k in
    (h.2, (h.0, lines ys, h.4, subst (λ p. TakesNext m p ys next) e t), subst (λ z. Appends before z h.2) (sym same) h.3)

-- all were answered before the line by which another net comes
pub answered_renewal : (s : Start) (m : Mode) (st : State) (v : DeskView) (old now next before then after : Option (List ℕ)) (o : NextDemand)
    → HasAnswered s m st v old now before then → o ≡ next_demand.Renewal → IfSome now (λ ys. TakesNext m o ys next) → IfSome now (λ ys. WritesEcho m o ys then after)
    → IfSome old (λ xs. (text : List ℕ) × AnswersNet Another s m st (lines xs) next text × Appends before after text)
answered_renewal s m st v None now next before then after o h e t k = tt
answered_renewal s m st v (Some xs) None next before then after o h e t k = absurd h
answered_renewal s m st v (Some xs) (Some ys) None before then after o h e t k = absurd (subst (λ p. TakesNext m p ys None) e t)
answered_renewal s m st v (Some xs) (Some ys) (Some zs) before then after o h e t k =
    let same : after ≡ then = subst (λ p. WritesEcho m p ys then after) e k in
    (h.2, record { last = h.0; left = lines ys; answered = h.4; renewal = subst (λ p. TakesNext m p ys (Some zs)) e t }, subst (λ z. Appends before z h.2) (sym same) h.3)

-- one command more was answered, and the session ends with that
pub answered_last : (s : Start) (m : Mode) (st : State) (v w : DeskView) (old now next before then said after : Option (List ℕ)) (o : NextDemand) (c : Demand) (reply : List ℕ)
    → v.bench.start ≡ s → HasAnswered s m st v old now before then → o ≡ next_demand.Demand c → IfSome now (λ ys. TakesNext m o ys next) → IfSome now (λ ys. WritesEcho m o ys then said)
    → TurnsIn m v c reply w → Appends said after reply → stops_at m reply ≡ true
    → IfSome old (λ xs. (text : List ℕ) × AreAnswers Stopped s m st (lines xs) text × Appends before after text)
answered_last s m st v w None now next before then said after o c reply i h e t k r added on = tt
answered_last s m st v w (Some xs) None next before then said after o c reply i h e t k r added on = absurd h
answered_last s m st v w (Some xs) (Some ys) None before then said after o c reply i h e t k r added on = absurd (subst (λ p. TakesNext m p ys None) e t)
answered_last s m st v w (Some xs) (Some ys) (Some zs) before then said after o c reply i h e t k r added on =
    let a = next_answered s m st v w xs ys zs before then o c reply i h e t r in
    let text = h.2 ++ echoed m (lines ys) in
    (text ++ reply, (text, reply, a.0, on, refl), echo_appended m o c ys h.2 reply before then said after e h.3 k added)

-- of the echo of the next line, a front was written
pub answered_begun : (s : Start) (m : Mode) (st : State) (v : DeskView) (old now before then after : Option (List ℕ))
    → HasAnswered s m st v old now before then → IfSome now (λ ys. AppendsFront then after (echoed m (lines ys)))
    → IfSome old (λ xs. (text : List ℕ) × AreBegun s m st (lines xs) text × Appends before after text)
answered_begun s m st v None now before then after h a = tt
answered_begun s m st v (Some xs) None before then after h a = absurd h
answered_begun s m st v (Some xs) (Some ys) before then after h a = (h.2 ++ a.front, echoing a.front a.behind h.4 a.parts, Appends-trans before then after h.2 a.front h.3 a.appended)

-- its whole echo was written, and no more
pub answered_silent : (s : Start) (m : Mode) (st : State) (v : DeskView) (old now before then after : Option (List ℕ)) (o : NextDemand) (c : Demand)
    → HasAnswered s m st v old now before then → o ≡ next_demand.Demand c → IfSome now (λ ys. WritesEcho m o ys then after)
    → IfSome old (λ xs. (text : List ℕ) × AreBegun s m st (lines xs) text × Appends before after text)
answered_silent s m st v None now before then after o c h e k = tt
answered_silent s m st v (Some xs) None before then after o c h e k = absurd h
answered_silent s m st v (Some xs) (Some ys) before then after o c h e k =
    let echo : Appends then after (echoed m (lines ys)) = subst (λ p. WritesEcho m p ys then after) e k in
    (h.2 ++ echoed m (lines ys), echoing (echoed m (lines ys)) [] h.4 (sym (append-nil (echoed m (lines ys)))), Appends-trans before then after h.2 (echoed m (lines ys)) h.3 echo)

-- of the answer to one command more, a front was written
pub answered_front : (s : Start) (m : Mode) (st : State) (v w : DeskView) (old now next before then said after : Option (List ℕ)) (o : NextDemand) (c : Demand) (text : List ℕ)
    → v.bench.start ≡ s → HasAnswered s m st v old now before then → o ≡ next_demand.Demand c → IfSome now (λ ys. TakesNext m o ys next) → IfSome now (λ ys. WritesEcho m o ys then said)
    → TurnsIn m v c text w → AppendsFront said after text
    → IfSome old (λ xs. (text : List ℕ) × AreBegun s m st (lines xs) text × Appends before after text)
answered_front s m st v w None now next before then said after o c text i h e t k r a = tt
answered_front s m st v w (Some xs) None next before then said after o c text i h e t k r a = absurd h
answered_front s m st v w (Some xs) (Some ys) None before then said after o c text i h e t k r a = absurd (subst (λ p. TakesNext m p ys None) e t)
answered_front s m st v w (Some xs) (Some ys) (Some zs) before then said after o c text i h e t k r a =
    let n = next_answered s m st v w xs ys zs before then o c text i h e t r in
    let first = h.2 ++ echoed m (lines ys) in
    (first ++ a.front, replying a.front a.behind (subst (AnswersNext s m st (lines xs) first) a.parts n.0), echo_appended m o c ys h.2 a.front before then said after e h.3 k a.appended)

-- whatever state the desk was in
pub all_begun : (m : Mode) (old : Option (List ℕ)) (v : DeskView) (before after : Option (List ℕ))
    → ((st : State) → IsDeskAt v st → IfSome old (λ xs. (text : List ℕ) × AreBegun v.bench.start m st (lines xs) text × Appends before after text))
    → IfSome old (λ xs. (st : State) → IsDeskAt v st → (text : List ℕ) × AreBegun v.bench.start m st (lines xs) text × Appends before after text)
all_begun m None v before after h = tt
all_begun m (Some xs) v before after h = h

-- whatever state the desk was in
pub all_answered : (end : NetEnd) (m : Mode) (old left : Option (List ℕ)) (v : DeskView) (before after : Option (List ℕ))
    → ((st : State) → IsDeskAt v st → IfSome old (λ xs. (text : List ℕ) × AnswersNet end v.bench.start m st (lines xs) left text × Appends before after text))
    → IfSome old (λ xs. (st : State) → IsDeskAt v st → (text : List ℕ) × AnswersNet end v.bench.start m st (lines xs) left text × Appends before after text)
all_answered end m None left v before after h = tt
all_answered end m (Some xs) left v before after h = h

-- a bench on which no call has been made
opened_at : (s : Start) (v : BenchView) → Opens s v → IsAt v machine.initial
opened_at s v o = record {
  history = subst (λ l. IsHistory v.start l machine.initial) (sym o.lines) begins;
  standing = subst (λ l. Alike (map fired_in l) []) (sym o.events) Orders.none;
}

-- and of which nothing is marked
over_at : (s : Start) (v : DeskView) → IsOver s v → IsDeskAt v initial
over_at s v o = record { bench = opened_at s v.bench o.bench; marks = subst (λ l. Alike (map note_of l) []) (sym o.marks) Orders.none }

-- the answers of a desk of which nothing was asked
pub opened_answers : (end : NetEnd) (now left : Option (List ℕ)) (s : Start) (m : Mode) (v : DeskView) (before after : Option (List ℕ))
    → IsOver s v
    → IfSome now (λ ys. (st : State) → IsDeskAt v st → (text : List ℕ) × AnswersNet end v.bench.start m st (lines ys) left text × Appends before after text)
    → IfSome now (λ ys. (text : List ℕ) × AnswersNet end s m initial (lines ys) left text × Appends before after text)
opened_answers end None left s m v before after o h = tt
opened_answers end (Some ys) left s m v before after o h =
    let a = h initial (over_at s v o) in
    (a.0, subst (λ z. AnswersNet end z m initial (lines ys) left a.0) o.bench.start a.1, a.2)

-- what a desk began of which nothing was asked
pub opened_begun : (now : Option (List ℕ)) (s : Start) (m : Mode) (v : DeskView) (before after : Option (List ℕ))
    → IsOver s v
    → IfSome now (λ ys. (st : State) → IsDeskAt v st → (text : List ℕ) × AreBegun v.bench.start m st (lines ys) text × Appends before after text)
    → IfSome now (λ ys. (text : List ℕ) × AreBegun s m initial (lines ys) text × Appends before after text)
opened_begun None s m v before after o h = tt
opened_begun (Some ys) s m v before after o h = let a = h initial (over_at s v o) in (a.0, subst (λ z. AreBegun z m initial (lines ys) a.0) o.bench.start a.1, a.2)
