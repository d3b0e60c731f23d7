-- What the words of a line ask for, told by the first of them.
use Rattle.std.proofs.Common.{◌≡◌, ℕ, true, false, List, ◌∷◌, refl, sym, subst}
use Rattle.std.specs.Prelude.{codes, Option, Some, None}
use Rattle.std.specs.Io.BufRead.{strip_last}
use Rattle.std.specs.Str.{bytes_eq}
use Rattle.ic_name.specs.Events.{Pair}
use Rattle.ic_name.specs.declared.limits.TheConstants.{MAX_ABSORBED}
use Rattle.ic_command.specs.Asked.{AreAskedWords, AsksAbsorb, IsAsked, of_absorb, of_request, to_absorb, to_request}
use Rattle.ic_command.specs.Commands.{AreNumber, AreNumberUpTo, AreWordsOf, IsEventIn, deed_command, deed_word, is_well_formed}
use Rattle.ic_command.specs.MarkNames.{IsOnlyName}
use Rattle.ic_command.specs.Requests.{for_bench, for_mark}
use Rattle.ic_command.specs.Words.{words}
use Rattle.ic_command.specs.declared.asked.Asked.{Asked}
use Rattle.ic_command.specs.declared.asked.Asked.TheVariants.{Alone, Absorb}
use Rattle.ic_command.specs.declared.command.Command.{Command}
use Rattle.ic_command.specs.declared.command.Command.TheVariants.{Malformed, Reduce}
use Rattle.ic_command.specs.declared.command.Deed.{Deed}
use Rattle.ic_command.specs.declared.command.Deed.TheVariants.{Fire, Undo, Why, Unwind}
use Rattle.ic_command.specs.declared.request.Request.TheVariants.{Bench, Mark, Back}
use Rattle.ic_command.proofs.MarksAsked.{asks_mark, asks_back, is_marking, marks_none, marks_not}
use Rattle.ic_command.proofs.RequestWords.{words_request}
use Rattle.ic_command.proofs.WordsAbsorbing.{absorbs_no_number, absorbs_not, absorbs_number}
use Rattle.ic_command.proofs.WordsAsked.{asks_deed, asks_no_deed, asks_number, asks_no_number, no_command}

-- what the words of a body that is well formed ask for, the line does
pub words_asked : (line body : List ℕ) → body ≡ strip_last 13 line → is_well_formed (strip_last 13 line) ≡ true → (a : Asked) → AreAskedWords (words body) a → IsAsked line a
words_asked line body e formed a (to_absorb {n = n} h) = of_absorb (formed, subst (λ bytes. AsksAbsorb (words bytes) n) e h)
words_asked line body e formed a (to_request {r = r} none h) =
    of_request (λ n x. none n (subst (λ bytes. AsksAbsorb (words bytes) n) (sym e) x.1)) (words_request line body r e formed h)

-- a command of the bench
pub asked_bench : (w : List ℕ) (rest : List (List ℕ)) (c : Command) → bytes_eq w (codes "absorb") ≡ false → is_marking w ≡ false → AreWordsOf (w ∷ rest) c → AreAskedWords (w ∷ rest) (Alone (Bench c))
asked_bench w rest c not_absorb not_marking a = to_request (absorbs_not w rest not_absorb) (for_bench (marks_not w rest not_marking) a)

deed_bench : (d : Deed) (rest : List (List ℕ)) (c : Command) → AreWordsOf (deed_word d ∷ rest) c → AreAskedWords (deed_word d ∷ rest) (Alone (Bench c))
deed_bench Fire rest c a = asked_bench (codes "fire") rest c refl refl a
deed_bench Undo rest c a = asked_bench (codes "undo") rest c refl refl a
deed_bench Why rest c a = asked_bench (codes "why") rest c refl refl a
deed_bench Unwind rest c a = asked_bench (codes "unwind") rest c refl refl a

-- a deed, by the event that the words behind it name, if they do
pub asked_deed : (d : Deed) (rest : List (List ℕ)) (e : Pair) (o : Option Pair) → IsEventIn rest o → o ≡ Some e → AreAskedWords (deed_word d ∷ rest) (Alone (Bench (deed_command d e)))
asked_deed d rest e o named some = deed_bench d rest (deed_command d e) (asks_deed d rest e (subst (IsEventIn rest) some named))

pub asked_no_deed : (d : Deed) (rest : List (List ℕ)) (o : Option Pair) → IsEventIn rest o → o ≡ None → AreAskedWords (deed_word d ∷ rest) (Alone (Bench Malformed))
asked_no_deed d rest o named none = deed_bench d rest Malformed (asks_no_deed d rest (subst (IsEventIn rest) none named))

-- a number of firings
pub asked_reduce : (w : List ℕ) (rest : List (List ℕ)) (n : ℕ) (o : Option ℕ) → w ≡ codes "reduce" → AreNumber rest o → o ≡ Some n → AreAskedWords (w ∷ rest) (Alone (Bench (Reduce n)))
asked_reduce w rest n o is number some =
    subst (λ v. AreAskedWords (v ∷ rest) (Alone (Bench (Reduce n)))) (sym is) (asked_bench (codes "reduce") rest (Reduce n) refl refl (asks_number (codes "reduce") rest (codes "reduce" ∷ rest) o n (Reduce n) refl refl number some refl))

pub asked_no_reduce : (w : List ℕ) (rest : List (List ℕ)) (o : Option ℕ) → w ≡ codes "reduce" → AreNumber rest o → o ≡ None → AreAskedWords (w ∷ rest) (Alone (Bench Malformed))
asked_no_reduce w rest o is number none =
    subst (λ v. AreAskedWords (v ∷ rest) (Alone (Bench Malformed))) (sym is) (asked_bench (codes "reduce") rest Malformed refl refl (asks_no_number (codes "reduce") rest (codes "reduce" ∷ rest) o Malformed refl refl number none refl))

-- a number of lines
pub asked_absorb : (w : List ℕ) (rest : List (List ℕ)) (n : ℕ) (o : Option ℕ) → w ≡ codes "absorb" → AreNumberUpTo MAX_ABSORBED rest o → o ≡ Some n → AreAskedWords (w ∷ rest) (Absorb n)
asked_absorb w rest n o is number some =
    subst (λ v. AreAskedWords (v ∷ rest) (Absorb n)) (sym is) (to_absorb (absorbs_number rest n (subst (AreNumberUpTo MAX_ABSORBED rest) some number)))

pub asked_no_absorb : (w : List ℕ) (rest : List (List ℕ)) (o : Option ℕ) → w ≡ codes "absorb" → AreNumberUpTo MAX_ABSORBED rest o → o ≡ None → AreAskedWords (w ∷ rest) (Alone (Bench Malformed))
asked_no_absorb w rest o is number none =
    subst (λ v. AreAskedWords (v ∷ rest) (Alone (Bench Malformed))) (sym is)
    (to_request (absorbs_no_number rest (subst (AreNumberUpTo MAX_ABSORBED rest) none number)) (for_bench (marks_not (codes "absorb") rest refl) (no_command (codes "absorb") rest (codes "absorb" ∷ rest) refl refl refl refl refl)))

-- the name of a mark
pub asked_mark : (w : List ℕ) (rest : List (List ℕ)) (name : List ℕ) (o : Option (List ℕ)) → w ≡ codes "mark" → IsOnlyName rest o → o ≡ Some name → AreAskedWords (w ∷ rest) (Alone (Mark name))
asked_mark w rest name o is only some =
    subst (λ v. AreAskedWords (v ∷ rest) (Alone (Mark name))) (sym is) (to_request (absorbs_not (codes "mark") rest refl) (for_mark (asks_mark rest name (subst (IsOnlyName rest) some only))))

pub asked_back : (w : List ℕ) (rest : List (List ℕ)) (name : List ℕ) (o : Option (List ℕ)) → w ≡ codes "back" → IsOnlyName rest o → o ≡ Some name → AreAskedWords (w ∷ rest) (Alone (Back name))
asked_back w rest name o is only some =
    subst (λ v. AreAskedWords (v ∷ rest) (Alone (Back name))) (sym is) (to_request (absorbs_not (codes "back") rest refl) (for_mark (asks_back rest name (subst (IsOnlyName rest) some only))))

pub asked_no_mark : (w t : List ℕ) (rest : List (List ℕ)) (o : Option (List ℕ)) → w ≡ t → bytes_eq t (codes "absorb") ≡ false → AreWordsOf (t ∷ rest) Malformed → IsOnlyName rest o → o ≡ None → AreAskedWords (w ∷ rest) (Alone (Bench Malformed))
asked_no_mark w t rest o is not_absorb a only none =
    subst (λ v. AreAskedWords (v ∷ rest) (Alone (Bench Malformed))) (sym is) (to_request (absorbs_not t rest not_absorb) (for_bench (marks_none t rest (subst (IsOnlyName rest) none only)) a))
