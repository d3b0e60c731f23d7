-- What the words of a line ask for, told by the first of them.
use Rattle.std.proofs.Common.{◌≡◌, ◌≢◌, ℕ, Bool, true, false, List, [], ◌∷◌, ◌||◌, refl, sym, ap, ◌∙◌, subst}
use Rattle.std.specs.Prelude.{codes, Option, Some, None}
use Rattle.std.specs.Str.{bytes_eq}
use Rattle.std.proofs.lemmas.Slice.Eq.{bytes_eq-Decides}
use Rattle.ic_name.specs.Events.{Pair}
use Rattle.ic_command.specs.declared.command.Command.{Command}
use Rattle.ic_command.specs.declared.command.Command.TheVariants.{Malformed, Reduce}
use Rattle.ic_command.specs.declared.command.Deed.{Deed}
use Rattle.ic_command.specs.declared.command.Deed.TheVariants.{Fire, Undo, Why, Unwind}
use Rattle.ic_command.specs.Commands.{AreAgents, IsNumber, AreNumber, AreWordsOf, Asks, deed_word, deed_command, is_comment, is_counted, is_paired, asked, malformed, no_words, comment, net, active, journal, undo_all, fire, undo, why, unwind, reduce}

-- a word that asks for something by itself
abbrev pub is_lone : List ℕ → Bool
is_lone w = (bytes_eq w (codes "net") || bytes_eq w (codes "active")) || (bytes_eq w (codes "journal") || bytes_eq w (codes "undo-all"))

-- a word that begins a command, with what may stand behind it
data Says (w : List ℕ) (rest : List (List ℕ)) : Type 0 where
  lone : is_lone w ≡ true → rest ≡ [] → Says w rest
  paired : {e : Pair} → is_paired w ≡ true → AreAgents rest e → Says w rest
  counted : {v : List ℕ} {n : ℕ} → is_counted w ≡ true → rest ≡ v ∷ [] → IsNumber v n → Says w rest

-- words that ask for anything begin with such a word, if not with a comment
asks_says : (w : List ℕ) (rest ws : List (List ℕ)) (c : Command) → Asks ws c → ws ≡ w ∷ rest → is_comment w ≡ false
    → Says w rest
asks_says w rest ws c no_words e plain = absurd cc
asks_says w rest ws c (comment {w = v} h) e plain = let same : v ≡ w = cc in let both = ap is_comment same in absurd cc
asks_says w rest ws c net e plain = let same : codes "net" ≡ w = cc in lone (sym (ap is_lone same)) cc
asks_says w rest ws c active e plain = let same : codes "active" ≡ w = cc in lone (sym (ap is_lone same)) cc
asks_says w rest ws c journal e plain = let same : codes "journal" ≡ w = cc in lone (sym (ap is_lone same)) cc
asks_says w rest ws c (fire {ws = vs} {e = p} a) e plain =
    let same : codes "fire" ≡ w = cc in
    let behind : vs ≡ rest = cc in
    paired (sym (ap is_paired same)) (subst (λ us. AreAgents us p) behind a)
asks_says w rest ws c (undo {ws = vs} {e = p} a) e plain =
    let same : codes "undo" ≡ w = cc in
    let behind : vs ≡ rest = cc in
    paired (sym (ap is_paired same)) (subst (λ us. AreAgents us p) behind a)
asks_says w rest ws c (why {ws = vs} {e = p} a) e plain =
    let same : codes "why" ≡ w = cc in
    let behind : vs ≡ rest = cc in
    paired (sym (ap is_paired same)) (subst (λ us. AreAgents us p) behind a)
asks_says w rest ws c (unwind {ws = vs} {e = p} a) e plain =
    let same : codes "unwind" ≡ w = cc in
    let behind : vs ≡ rest = cc in
    paired (sym (ap is_paired same)) (subst (λ us. AreAgents us p) behind a)
asks_says w rest ws c undo_all e plain = let same : codes "undo-all" ≡ w = cc in lone (sym (ap is_lone same)) cc
asks_says w rest ws c (reduce {w = v} a) e plain =
    let same : codes "reduce" ≡ w = cc in
    let behind : rest ≡ v ∷ [] = cc in
    counted (sym (ap is_counted same)) behind a

-- what a test against some text says of the word
pub tested : (w s t : List ℕ) (r b : Bool) → r ≡ bytes_eq w s → s ≡ t → r ≡ b → bytes_eq w t ≡ b
tested w s t r b e same is = ap (bytes_eq w) (sym same) ∙ sym e ∙ is

-- the word is that text
pub is_text : (w s t : List ℕ) (r : Bool) → r ≡ bytes_eq w s → s ≡ t → r ≡ true → w ≡ t
is_text w s t r e same is = (bytes_eq-Decides w t).0 (tested w s t r true e same is)

-- the line asks for what the word and the rest ask for
pub asks_this : (w t : List ℕ) (rest ws : List (List ℕ)) (c d : Command) → ws ≡ w ∷ rest → w ≡ t → c ≡ d
    → Asks (t ∷ rest) d → AreWordsOf ws c
asks_this w t rest ws c d e same is a =
    let whole : t ∷ rest ≡ ws = cc in
    subst (λ x. AreWordsOf ws x) (sym is) (subst (λ us. AreWordsOf us d) whole (asked a))

-- a word with which no command begins
pub no_command : (w : List ℕ) (rest ws : List (List ℕ)) → ws ≡ w ∷ rest → is_comment w ≡ false → is_lone w ≡ false
    → is_paired w ≡ false → is_counted w ≡ false
    → AreWordsOf ws Malformed
no_command w rest ws e plain not_lone not_paired not_counted =
    malformed (λ c a. elim (asks_says w rest ws c a e plain) [ lone h _ ↦ absurd cc | paired h _ ↦ absurd cc | counted h _ _ ↦ absurd cc ])

-- words behind a word that takes none
pub too_many : (w : List ℕ) (rest ws : List (List ℕ)) → ws ≡ w ∷ rest → is_comment w ≡ false → is_paired w ≡ false
    → is_counted w ≡ false → rest ≢ []
    → AreWordsOf ws Malformed
too_many w rest ws e plain not_paired not_counted more =
    malformed (λ c a. elim (asks_says w rest ws c a e plain) [ lone _ none ↦ more none | paired h _ ↦ absurd cc | counted h _ _ ↦ absurd cc ])

-- a word that takes none, alone
pub asks_alone : (w t : List ℕ) (rest : List (List ℕ)) (c : Command) → w ≡ t → rest ≡ [] → Asks (t ∷ []) c → AreWordsOf (w ∷ rest) c
asks_alone w t rest c same none a = asks_this w t rest (w ∷ rest) c c refl same refl (subst (λ us. Asks (t ∷ us) c) (sym none) a)

-- a deed and an event
pub asks_deed : (d : Deed) (rest : List (List ℕ)) (e : Pair) → AreAgents rest e → AreWordsOf (deed_word d ∷ rest) (deed_command d e)
asks_deed Fire rest e a = asked (fire a)
asks_deed Undo rest e a = asked (undo a)
asks_deed Why rest e a = asked (why a)
asks_deed Unwind rest e a = asked (unwind a)

-- and where the words behind name no event
asks_no_event : (t : List ℕ) (rest : List (List ℕ)) → is_comment t ≡ false → is_lone t ≡ false → is_counted t ≡ false
    → ((p : Pair) → AreAgents rest p → ⊥) → AreWordsOf (t ∷ rest) Malformed
asks_no_event t rest plain not_lone not_counted none =
    malformed (λ d a. elim (asks_says t rest (t ∷ rest) d a refl plain) [ lone h _ ↦ absurd cc | paired {e = p} h agents ↦ none p agents | counted h _ _ ↦ absurd cc ])

pub asks_no_deed : (d : Deed) (rest : List (List ℕ)) → ((p : Pair) → AreAgents rest p → ⊥) → AreWordsOf (deed_word d ∷ rest) Malformed
asks_no_deed Fire rest none = asks_no_event (codes "fire") rest refl refl refl none
asks_no_deed Undo rest none = asks_no_event (codes "undo") rest refl refl refl none
asks_no_deed Why rest none = asks_no_event (codes "why") rest refl refl refl none
asks_no_deed Unwind rest none = asks_no_event (codes "unwind") rest refl refl refl none

-- the word that takes a number, and what stands behind it
pub asks_number : (w : List ℕ) (rest ws : List (List ℕ)) (o : Option ℕ) (n : ℕ) (c : Command) → ws ≡ w ∷ rest
    → w ≡ codes "reduce" → AreNumber rest o → o ≡ Some n → c ≡ Reduce n
    → AreWordsOf ws c
asks_number w rest ws o n c whole same is some here =
    let number = subst (AreNumber rest) some is in
    asks_this w (codes "reduce") rest ws c (Reduce n) whole same here (subst (λ us. Asks (codes "reduce" ∷ us) (Reduce n)) (sym number.1) (reduce number.2))

-- and where it is none
pub asks_no_number : (w : List ℕ) (rest ws : List (List ℕ)) (o : Option ℕ) (c : Command) → ws ≡ w ∷ rest
    → w ≡ codes "reduce" → AreNumber rest o → o ≡ None → c ≡ Malformed
    → AreWordsOf ws c
asks_no_number w rest ws o c e same is none here =
    let whole : ws ≡ codes "reduce" ∷ rest = cc in
    let no_number : (v : List ℕ) (n : ℕ) → rest ≡ v ∷ [] → IsNumber v n → ⊥ = subst (AreNumber rest) none is in
    subst (λ x. AreWordsOf ws x) (sym here) (malformed (λ d a. elim (asks_says (codes "reduce") rest ws d a whole refl) [
      | lone h _ ↦ absurd cc
      | paired h _ ↦ absurd cc
      | counted {v = v} {n = n} h one number ↦ no_number v n one number
    ]))
