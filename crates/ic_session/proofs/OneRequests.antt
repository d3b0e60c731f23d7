-- A line asks for one thing.
use Rattle.std.proofs.Common.{◌≡◌, ℕ, Bool, true, false, List, [], ◌∷◌, ◌++◌, refl, sym, ap, ◌∙◌, arith}
use Rattle.std.proofs.lemmas.Fmt.{decimal_injective}
use Rattle.std.specs.Prelude.{codes, if◌then◌else◌, Some}
use Rattle.std.specs.Str.{bytes_eq}
use Rattle.ic_name.specs.Events.{Pair, pair_of}
use Rattle.ic_name.specs.NameTexts.{name_text}
use Rattle.ic_name.proofs.NameAnswers.{same_text}
use Rattle.ic_command.specs.declared.command.Command.{Command}
use Rattle.ic_command.specs.declared.command.Command.TheVariants.{Nothing, Net, Active, Journal, Fire, Undo, Why, Unwind, UndoAll, Reduce, Malformed}
use Rattle.ic_command.specs.declared.request.Request.{Request}
use Rattle.ic_command.specs.declared.request.Request.TheVariants.{Bench, Mark, Back}
use Rattle.ic_command.specs.Commands.{AreAgents, IsNumber, AreNumber, Asks, no_words, comment, net, active, journal, undo_all, fire, undo, why, unwind, reduce, is_comment, AreWordsOf, asked, malformed, IsCommand, said, unsaid}
use Rattle.ic_command.specs.declared.asked.Asked.{Asked}
use Rattle.ic_command.specs.declared.asked.Asked.TheVariants.{Alone, Absorb}
use Rattle.ic_command.specs.Asked.{AsksAbsorb, absorb, IsAsked, of_absorb, of_request}
use Rattle.ic_command.specs.Listed.{Lists, bare, ranked, IsListed}
use Rattle.ic_command.specs.Requests.{AsksMark, mark, back, IsRequest, of_mark, of_bench}

-- two words name one event
one_event : {us vs : List (List ℕ)} {e f : Pair} → us ≡ vs → AreAgents us e → AreAgents vs f → e ≡ f
one_event same a b =
    let one = a.written in
    let two = b.written in
    let first : name_text a.first ≡ name_text b.first = cc in
    let second : name_text a.second ≡ name_text b.second = cc in
    let m = same_text a.first b.first a.first_is b.first_is first in
    let n = same_text a.second b.second a.second_is b.second_is second in
    a.named ∙ (λ i. pair_of (m i) (n i)) ∙ sym b.named

-- a word writes one number
one_number : {v w : List ℕ} {m n : ℕ} → v ≡ w → IsNumber v m → IsNumber w n → m ≡ n
one_number {m = m} {n = n} same a b =
    let j = a.small in
    let k = b.small in
    decimal_injective m n (omega (arith, j)) (omega (arith, k)) (sym a.written ∙ same ∙ b.written)

-- ---- commands

-- the number of a command, without what it is said with
abbrev number_of : Command → ℕ
number_of Nothing = 0
number_of Net = 1
number_of Active = 2
number_of Journal = 3
number_of (Fire e) = 4
number_of (Undo e) = 5
number_of (Why e) = 6
number_of (Unwind e) = 7
number_of UndoAll = 8
number_of (Reduce n) = 9
number_of Malformed = 10

-- the number of the command that words can only ask for, told by the first of them
abbrev number_in : List (List ℕ) → ℕ
number_in [] = 0
number_in (w ∷ ws) =
    if is_comment w then 0
    else if bytes_eq w (codes "net") then 1
    else if bytes_eq w (codes "active") then 2
    else if bytes_eq w (codes "journal") then 3
    else if bytes_eq w (codes "fire") then 4
    else if bytes_eq w (codes "undo") then 5
    else if bytes_eq w (codes "why") then 6
    else if bytes_eq w (codes "unwind") then 7
    else if bytes_eq w (codes "undo-all") then 8
    else 9

asked_number : {ws : List (List ℕ)} {c : Command} → Asks ws c → number_in ws ≡ number_of c
asked_number no_words = refl
asked_number (comment h) = rw h refl
asked_number net = refl
asked_number active = refl
asked_number journal = refl
asked_number undo_all = refl
asked_number (fire a) = refl
asked_number (undo a) = refl
asked_number (why a) = refl
asked_number (unwind a) = refl
asked_number (reduce n) = refl

-- the words behind the first one
abbrev behind_first : List (List ℕ) → List (List ℕ)
behind_first [] = []
behind_first (w ∷ ws) = ws

-- what a command is said with
abbrev IsSaidWith : List (List ℕ) → Command → Type 0
IsSaidWith ws (Fire e) = AreAgents ws e
IsSaidWith ws (Undo e) = AreAgents ws e
IsSaidWith ws (Why e) = AreAgents ws e
IsSaidWith ws (Unwind e) = AreAgents ws e
IsSaidWith ws (Reduce n) = AreNumber ws (Some n)
IsSaidWith ws c = Unit {0}

asked_with : {ws : List (List ℕ)} {c : Command} → Asks ws c → IsSaidWith (behind_first ws) c
asked_with no_words = tt
asked_with (comment h) = tt
asked_with net = tt
asked_with active = tt
asked_with journal = tt
asked_with undo_all = tt
asked_with (fire a) = a
asked_with (undo a) = a
asked_with (why a) = a
asked_with (unwind a) = a
asked_with (reduce {w = w} n) = (w, refl, n)

-- commands of one number that are said with the same words are one
same_command : (ws : List (List ℕ)) (c d : Command) → number_of c ≡ number_of d → IsSaidWith ws c → IsSaidWith ws d
    → c ≡ d
same_command ws Nothing Nothing e a b = refl
same_command ws Net Net e a b = refl
same_command ws Active Active e a b = refl
same_command ws Journal Journal e a b = refl
same_command ws (Fire p) (Fire q) e a b = ap Fire (one_event refl a b)
same_command ws (Undo p) (Undo q) e a b = ap Undo (one_event refl a b)
same_command ws (Why p) (Why q) e a b = ap Why (one_event refl a b)
same_command ws (Unwind p) (Unwind q) e a b = ap Unwind (one_event refl a b)
same_command ws UndoAll UndoAll e a b = refl
same_command ws (Reduce m) (Reduce n) e a b =
    let one = a.1 in
    let two = b.1 in
    let same : a.0 ≡ b.0 = cc in
    ap Reduce (one_number same a.2 b.2)
same_command ws Malformed Malformed e a b = refl
same_command ws c d e a b = absurd (omega (arith, e))

-- words ask for one command
asks_one : {ws : List (List ℕ)} (c d : Command) → Asks ws c → Asks ws d → c ≡ d
asks_one {ws} c d a b =
    let number = sym (asked_number a) ∙ asked_number b in
    same_command (behind_first ws) c d number (asked_with a) (asked_with b)

words_one : {ws : List (List ℕ)} (c d : Command) → AreWordsOf ws c → AreWordsOf ws d → c ≡ d
words_one c d (asked a) (asked b) = asks_one c d a b
words_one c d (asked a) (malformed n) = absurd (n c a)
words_one c d (malformed n) (asked b) = absurd (n d b)
words_one c d (malformed n) (malformed m) = refl

-- a line says one command
pub one_command : {line : List ℕ} (c d : Command) → IsCommand line c → IsCommand line d → c ≡ d
one_command c d (said f a) (said g b) = words_one c d a b
one_command c d (said f a) (unsaid g) = absurd cc
one_command c d (unsaid f) (said g b) = absurd cc
one_command c d (unsaid f) (unsaid g) = refl

-- ---- what a line asks for

-- words that go back to a mark
abbrev is_back : List (List ℕ) → Bool
is_back [] = false
is_back (w ∷ ws) = bytes_eq w (codes "back")

-- words ask for one thing with a mark
marks_one : {us vs : List (List ℕ)} (q r : Request) → us ≡ vs → AsksMark us q → AsksMark vs r → q ≡ r
marks_one q r e (mark {name = x} a) (mark {name = y} b) = let same : x ≡ y = cc in ap Mark same
marks_one q r e (mark a) (back b) = let other : false ≡ true = ap is_back e in absurd cc
marks_one q r e (back a) (mark b) = let other : true ≡ false = ap is_back e in absurd cc
marks_one q r e (back {name = x} a) (back {name = y} b) = let same : x ≡ y = cc in ap Back same

-- a line asks for one thing
pub one_request : {line : List ℕ} (q r : Request) → IsRequest line q → IsRequest line r → q ≡ r
one_request q r (of_mark f a) (of_mark g b) = marks_one q r refl a b
one_request q r (of_mark f a) (of_bench n b) = absurd (n q f a)
one_request q r (of_bench n a) (of_mark g b) = absurd (n r g b)
one_request q r (of_bench {c = c} n a) (of_bench {c = d} m b) = ap Bench (one_command c d a b)

-- ---- what the lines of an `absorb` ask for

-- the words ask to absorb so many
absorbs_once : {us vs : List (List ℕ)} {m n : ℕ} → us ≡ vs → AsksAbsorb us m → AsksAbsorb vs n → m ≡ n
absorbs_once {m = m} {n = n} same (absorb {w = v} a j) (absorb {w = w} b k) =
    let words : v ≡ w = cc in
    decimal_injective m n (omega (arith, j)) (omega (arith, k)) (sym a ∙ words ∙ b)

-- a line asks for one thing, alone or with those behind it
pub one_asked : {line : List ℕ} (a b : Asked) → IsAsked line a → IsAsked line b → a ≡ b
one_asked a b (of_absorb h) (of_absorb k) = ap Absorb (absorbs_once refl h.1 k.1)
one_asked a b (of_absorb {n = n} h) (of_request none k) = absurd (none n h)
one_asked a b (of_request none h) (of_absorb {n = n} k) = absurd (none n k)
one_asked a b (of_request {r = q} n h) (of_request {r = r} m k) = ap Alone (one_request q r h k)

-- two words in front of others are told by these
first_two : (xs ys : List (List ℕ)) {a b c d : List ℕ} {us vs : List (List ℕ)} → us ≡ a ∷ b ∷ [] → vs ≡ c ∷ d ∷ [] → us ++ xs ≡ vs ++ ys → us ≡ vs
first_two xs ys {a} {b} {c} {d} k l same =
    let words : a ∷ b ∷ xs ≡ c ∷ d ∷ ys = sym (ap (λ ws. ws ++ xs) k) ∙ same ∙ ap (λ ws. ws ++ ys) l in
    let first : a ≡ c = cc in
    let second : b ≡ d = cc in
    k ∙ (λ i. first i ∷ second i ∷ []) ∙ sym l

-- words list one event
lists_once : {us vs : List (List ℕ)} {e f : Pair} → us ≡ vs → Lists us e → Lists vs f → e ≡ f
lists_once same (bare a) (bare b) = one_event same a b
lists_once same (bare a) (ranked b r) = let k = a.written in let l = b.written in cc
lists_once same (ranked a r) (bare b) = let k = a.written in let l = b.written in cc
lists_once same (ranked {w = v} a r) (ranked {w = w} b q) = one_event (first_two (codes "rank" ∷ v ∷ []) (codes "rank" ∷ w ∷ []) a.written b.written same) a b

-- a line lists one event
pub one_listed : (line : List ℕ) {e f : Pair} → IsListed line e → IsListed line f → e ≡ f
one_listed line h k = lists_once refl h.1 k.1
