-- A session has one text, where memory isn't wanting.
use Rattle.std.proofs.Common.{◌≡◌, ℕ, true, false, List, [], ◌++◌, refl, sym, ap, ap₂, subst, arith, ◌∙◌}
use Rattle.ic_theory.specs.Starts.{Start, IsProper}
use Rattle.ic_text.proofs.Proper.{proper}
use Rattle.ic_text.proofs.Spelling.{one_start}
use Rattle.ic_command.specs.Requests.{within}
use Rattle.ic_command.specs.declared.request.Request.{Request}
use Rattle.ic_desk.specs.Desks.{State, initial}
use Rattle.ic_desk.specs.ManyWorkers.{RepliesWith, as_one, swept}
use Rattle.ic_desk.specs.Replies.{RepliesToRequest}
use Rattle.ic_session.specs.InputLines.{TextLine, lines, net_part, command_lines}
use Rattle.ic_session.specs.Modes.{IsDone, TakesDemand, Gives, asks, no_line, quits, requests, replied, told, plain}
use Rattle.ic_session.specs.declared.demand.Demand.{Demand}
use Rattle.ic_session.specs.declared.demand.Demand.TheVariants.{Requests}
use Rattle.ic_session.specs.Refusals.{refusal_line}
use Rattle.ic_session.specs.Sessions.{AreAnswers, AreAnswered, none, more, AnswersCommands, IsLastText, IsSessionText, NamesFirst}
use Rattle.ic_session.specs.declared.session.Status.{Status}
use Rattle.ic_session.specs.declared.session.Status.TheVariants.{Ended, Stopped, NetRefused}
use Rattle.ic_session.specs.Wants.{Wants}
use Rattle.ic_session.specs.NextRequest.{Takes, alone, listed, unlisted, wanting}
use Rattle.ic_session.proofs.DeskReplies.{in_use_on, AreOneAnswer, one_absorbing, one_reply}
use Rattle.ic_session.proofs.DeskStates.{IsInUse, AreSameDesks, first_in_use, first_same}
use Rattle.ic_session.proofs.FirstFaults.{one_first_fault}
use Rattle.ic_session.proofs.NetsInTurn.{only_net}
use Rattle.ic_session.proofs.OneTaking.{AskTheSame, one, lists, takes_once}
use Rattle.ic_session.proofs.WantingParts.{front_wants, behind_wants}

-- one worker makes no sweep
by_one : {s : Start} {st next : State} {r : Request} {text : List ℕ} → RepliesWith 1 s st r text next → RepliesToRequest s st r text next
by_one (as_one a) = a
by_one (swept many sweep) = absurd (omega (arith, many))

-- of no lines nothing is taken
nothing_taken : {ls left : List TextLine} {r : Request} → ls ≡ [] → Takes ls r left → ⊥
nothing_taken same (alone h) = cc
nothing_taken same (listed h a) = cc
nothing_taken same (unlisted h a) = cc
nothing_taken same (wanting h few) = cc

-- a session that only answers takes requests alone
plain_taken : {budget : ℕ} {ls left : List TextLine} {d : Demand} → TakesDemand (plain 1 budget) ls d left → (r : Request) × (d ≡ Requests r) × Takes ls r left
plain_taken (asks on a) = absurd cc
plain_taken (requests {r = r} unasked on stays t) = (r, refl, t)

-- and ends with its lines
plain_done : {budget : ℕ} {ls : List TextLine} → IsDone (plain 1 budget) ls → ls ≡ []
plain_done no_line = refl
plain_done (quits on) = absurd cc

-- and gives the answers of one worker
plain_reply : {s : Start} {budget : ℕ} {st next : State} {d : Demand} {r : Request} {text : List ℕ} → d ≡ Requests r → Gives (plain 1 budget) s st d text next → RepliesToRequest s st (within budget r) text next
plain_reply {s} {budget} {st} {next} {r = r} {text} same (replied {r = q} a) = let e : q ≡ r = cc in subst (λ z. RepliesToRequest s st (within budget z) text next) e (by_one a)
plain_reply same (told t) = absurd cc

-- requests that ask for the same have one answer
one_asking : {s : Start} (ok : IsProper s) (budget : ℕ) {st tt next after : State} {q r : Request} {x y : List ℕ} → IsInUse s st → IsInUse s tt → AreSameDesks st tt → AskTheSame q r
    → RepliesToRequest s st (within budget q) x next → RepliesToRequest s tt (within budget r) y after → ¬ (Wants x) → ¬ (Wants y) → AreOneAnswer x y next after
one_asking ok budget {q = q} used other same one a b n m = one_reply ok used other same (within budget q) a b n m
one_asking ok budget used other same (lists {xs = xs} {ys = ys} e) a b n m = one_absorbing ok used other same xs ys e a b n m

-- the answers to the same lines over the same desks are equal
one_answers : {s : Start} → IsProper s → (budget : ℕ) {st tt last end : State} {ls ks left others : List TextLine} {a b : List ℕ} → ls ≡ ks → left ≡ [] → others ≡ []
    → IsInUse s st → IsInUse s tt → AreSameDesks st tt
    → AreAnswered s (plain 1 budget) st ls a last left → AreAnswered s (plain 1 budget) tt ks b end others → ¬ (Wants a) → ¬ (Wants b) → a ≡ b
one_answers ok budget lines all whole used other same none none n m = refl
one_answers ok budget lines all whole used other same none (more asked b on bs) n m = absurd (nothing_taken (sym lines ∙ all) (plain_taken asked).2)
one_answers ok budget lines all whole used other same (more asked a on as') none n m = absurd (nothing_taken (lines ∙ whole) (plain_taken asked).2)
one_answers ok budget lines all whole used other same (more {reply = x} {behind = xs} first a on as') (more {reply = y} {behind = ys} second b goes bs) n m =
    let q = plain_taken first in
    let r = plain_taken second in
    let took = takes_once lines q.2 r.2 in
    let a' = plain_reply q.1 a in
    let b' = plain_reply r.1 b in
    let one = one_asking ok budget used other same took.0 a' b' (λ w. n (front_wants xs w)) (λ w. m (front_wants ys w)) in
    let others = one_answers ok budget took.1 all whole (in_use_on ok used a') (in_use_on ok other b') one.left as' bs (λ w. n (behind_wants x w)) (λ w. m (behind_wants y w)) in
    ap₂ (λ us vs. us ++ vs) one.texts others

-- a session that answers commands
one_ended : (budget : ℕ) (ls : List TextLine) (a b : List ℕ) → AnswersCommands (plain 1 budget) Ended ls a → AnswersCommands (plain 1 budget) Ended ls b
    → ¬ (Wants a) → ¬ (Wants b) → a ≡ b
one_ended budget ls a b h k n m =
    let ok = proper (net_part ls) h.start h.begins.denoted in
    let one = one_start (net_part ls) k.start h.start k.begins.denoted h.begins.denoted in
    let answers = subst (λ (s : Start). AreAnswers Ended s (plain 1 budget) initial (command_lines ls) b) one k.answers in
    let used = first_in_use h.start in
    one_answers ok budget refl (plain_done h.answers.3) (plain_done answers.3) used used first_same h.answers.2 answers.2 n m

-- a session that only answers stops at no refusal
not_stopped : {budget : ℕ} {ls : List TextLine} {a : List ℕ} → AnswersCommands (plain 1 budget) Stopped ls a → ⊥
not_stopped h = let no : false ≡ true = h.answers.3 in cc

-- a session that names a fault
one_named : (ls : List TextLine) (a b : List ℕ) → NamesFirst ls a → NamesFirst ls b → a ≡ b
one_named ls a b h k =
    let one = one_first_fault (net_part ls) h.fault k.fault h.first k.first in
    h.named ∙ ap refusal_line one ∙ sym k.named

-- what is written last ends in one way, with one text
one_last : (budget : ℕ) (ls : List TextLine) (a b : List ℕ) (i j : Status)
    → IsLastText (plain 1 budget) ls i a → IsLastText (plain 1 budget) ls j b → ¬ (Wants a) → ¬ (Wants b) → (i ≡ j) × (a ≡ b)
one_last budget ls a b Ended Ended h k n m = (refl, one_ended budget ls a b h k n m)
one_last budget ls a b NetRefused NetRefused h k n m = (refl, one_named ls a b h.names k.names)
one_last budget ls a b Stopped j h k n m = absurd (not_stopped h)
one_last budget ls a b i Stopped h k n m = absurd (not_stopped k)
one_last budget ls a b Ended NetRefused h k n m = absurd (h.begins.faultless k.names.fault k.names.first.stands)
one_last budget ls a b NetRefused Ended h k n m = absurd (k.begins.faultless h.names.fault h.names.first.stands)

-- so does a session
pub one_text : (budget : ℕ) (input a b : List ℕ) (i j : Status)
    → IsSessionText (plain 1 budget) input i a → IsSessionText (plain 1 budget) input j b → ¬ (Wants a) → ¬ (Wants b) → (i ≡ j) × (a ≡ b)
one_text budget input a b i j h k n m = one_last budget (lines input) a b i j (only_net refl refl h) (only_net refl refl k) n m
