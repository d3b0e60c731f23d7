-- What a line asks for, by the length and the bytes of its body.
use Rattle.std.proofs.Common.{◌≡◌, ℕ, ◌<◌, ◌≤◌, Bool, true, false, ◌&&◌, List, ◌∷◌, length, ◌⊎◌, inl, inr, refl, sym, ap, ◌∙◌, subst}
use Rattle.std.proofs.lemmas.Bool.{and_from, le-leb, lt-leb}
use Rattle.std.specs.Prelude.{Result, Ok, Err, IfOk}
use Rattle.std.specs.Io.BufRead.{strip_last}
use Rattle.std.specs.List.{list_all}
use Rattle.ic_command.specs.Asked.{AreAskedWords, IsAsked, of_request}
use Rattle.ic_command.specs.Commands.{are_plain_words, deed_word, is_plain, is_well_formed}
use Rattle.ic_command.specs.Words.{words}
use Rattle.ic_command.specs.declared.asked.Asked.{Asked}
use Rattle.ic_command.specs.declared.asked.Asked.TheVariants.{Alone}
use Rattle.ic_command.specs.declared.command.Command.TheVariants.{Malformed}
use Rattle.ic_command.specs.declared.command.Deed.{Deed}
use Rattle.ic_command.specs.declared.command.Deed.TheVariants.{Fire, Undo, Why, Unwind}
use Rattle.ic_command.specs.declared.command.TheConstants.{MAX_COMMAND}
use Rattle.ic_command.specs.declared.request.Request.TheVariants.{Bench}
use Rattle.ic_command.proofs.AskedWords.{words_asked}
use Rattle.ic_command.proofs.Bodies.{apart}
use Rattle.ic_command.proofs.PlainWords.{plain_line}
use Rattle.ic_command.proofs.RequestWords.{unformed_request}

-- a body that isn't too long and has plain bytes alone
pub formed_body : (line body : List ℕ) → body ≡ strip_last 13 line → length body ≤ MAX_COMMAND → list_all is_plain body ≡ true → is_well_formed (strip_last 13 line) ≡ true
formed_body line body e short plain = ap is_well_formed (sym e) ∙ and_from _ _ (le-leb _ _ short) plain

unformed_asked : (line : List ℕ) → is_well_formed (strip_last 13 line) ≡ false → IsAsked line (Alone (Bench Malformed))
unformed_asked line broken = of_request (λ n a. apart (sym a.0 ∙ broken)) (unformed_request line broken)

-- one that is too long
pub long_asked : (line body : List ℕ) → body ≡ strip_last 13 line → MAX_COMMAND < length body → IsAsked line (Alone (Bench Malformed))
long_asked line body e long = unformed_asked line (ap is_well_formed (sym e) ∙ ap (λ b. b && list_all is_plain body) (lt-leb _ _ long))

-- one with another byte
pub odd_asked : (line body : List ℕ) → body ≡ strip_last 13 line → list_all is_plain body ≡ false → IsAsked line (Alone (Bench Malformed))
odd_asked line body e odd = unformed_asked line (ap is_well_formed (sym e) ∙ second _ _ odd)
  where
    second : (x y : Bool) → y ≡ false → (x && y) ≡ false
    second true y h = h
    second false y h = refl

-- one whose first word asks for something with an event
pub deed_asked : {E : Type 0} (line body word : List ℕ) (d : Deed) (rest : List (List ℕ)) (r : Result Asked E) → body ≡ strip_last 13 line → length body ≤ MAX_COMMAND → words body ≡ word ∷ rest → word ≡ deed_word d
    → IfOk r (AreAskedWords (deed_word d ∷ rest)) → IfOk r (λ a. (a ≡ Alone (Bench Malformed)) ⊎ (are_plain_words rest ≡ true)) → IfOk r (IsAsked line)
deed_asked line body word d rest (Err f) e short whole is asked formed = tt
deed_asked line body word d rest (Ok a) e short whole is asked formed = go formed
  where
    all : words body ≡ deed_word d ∷ rest
    all = whole ∙ ap (λ w. w ∷ rest) is

    said : AreAskedWords (words body) a
    said = subst (λ ws. AreAskedWords ws a) (sym all) asked

    plain_deed : (k : Deed) → list_all is_plain (deed_word k) ≡ true
    plain_deed Fire = refl
    plain_deed Undo = refl
    plain_deed Why = refl
    plain_deed Unwind = refl

    by_test : a ≡ Alone (Bench Malformed) → (b : Bool) → is_well_formed (strip_last 13 line) ≡ b → IsAsked line a
    by_test malformed true test = words_asked line body e test a said
    by_test malformed false test = subst (IsAsked line) (sym malformed) (unformed_asked line test)

    go : (a ≡ Alone (Bench Malformed)) ⊎ (are_plain_words rest ≡ true) → IsAsked line a
    go (inl malformed) = by_test malformed (is_well_formed (strip_last 13 line)) refl
    go (inr plain) =
        let bytes = plain_line body (ap are_plain_words all ∙ and_from _ _ (plain_deed d) plain) in
        words_asked line body e (formed_body line body e short bytes) a said
