-- The question that words ask, told by the first of them.
use Rattle.std.proofs.Common.{◌≡◌, ℕ, Bool, true, false, List, [], ◌∷◌, ◌||◌, sym, ap, subst}
use Rattle.std.specs.Prelude.{codes, Option, Some, None}
use Rattle.std.specs.Str.{bytes_eq}
use Rattle.ic_name.specs.Events.{Pair}
use Rattle.ic_command.specs.declared.question.Question.{Question}
use Rattle.ic_command.specs.declared.question.Question.TheVariants.{Dependents, Steps, Unstep, Wire}
use Rattle.ic_command.specs.Commands.{AreAgents, AreNumber, IsEventIn, IsNumber}
use Rattle.ic_command.specs.Places.{NamesPlace, IsPlaceIn}
use Rattle.ic_command.specs.declared.place.Place.{Place}
use Rattle.ic_command.specs.Questions.{AreQuestionWords, AsksQuestion, agents, causes, history, marks, rules, help, step, step_often, unstep, unstep_often, dependents, wire}

-- a word that asks a question by itself
abbrev pub is_plain_question : List ℕ → Bool
is_plain_question w = (bytes_eq w (codes "agents") || bytes_eq w (codes "history")) || ((bytes_eq w (codes "marks") || bytes_eq w (codes "rules")) || (bytes_eq w (codes "help") || (bytes_eq w (codes "step") || (bytes_eq w (codes "causes") || bytes_eq w (codes "unstep")))))

-- a word that has a number behind it where it asks a question
abbrev pub is_counted_question : List ℕ → Bool
is_counted_question w = bytes_eq w (codes "step") || bytes_eq w (codes "unstep")

-- a word that begins a question, with what may stand behind it
data Begins (w : List ℕ) (rest : List (List ℕ)) (q : Question) : Type 0 where
  plain : is_plain_question w ≡ true → rest ≡ [] → Begins w rest q
  counted : {v : List ℕ} {n : ℕ} → is_counted_question w ≡ true → rest ≡ v ∷ [] → IsNumber v n → Begins w rest q
  paired : {e : Pair} → bytes_eq w (codes "dependents") ≡ true → AreAgents rest e → Begins w rest q
  placed : {p : Place} → bytes_eq w (codes "wire") ≡ true → NamesPlace rest p → Begins w rest q

-- words that ask a question begin with such a word
begins : (w : List ℕ) (rest ws : List (List ℕ)) (q : Question) → AsksQuestion ws q → ws ≡ w ∷ rest → Begins w rest q
begins w rest ws q agents e = let same : codes "agents" ≡ w = cc in plain (sym (ap is_plain_question same)) cc
begins w rest ws q causes e = let same : codes "causes" ≡ w = cc in plain (sym (ap is_plain_question same)) cc
begins w rest ws q history e = let same : codes "history" ≡ w = cc in plain (sym (ap is_plain_question same)) cc
begins w rest ws q marks e = let same : codes "marks" ≡ w = cc in plain (sym (ap is_plain_question same)) cc
begins w rest ws q rules e = let same : codes "rules" ≡ w = cc in plain (sym (ap is_plain_question same)) cc
begins w rest ws q help e = let same : codes "help" ≡ w = cc in plain (sym (ap is_plain_question same)) cc
begins w rest ws q step e = let same : codes "step" ≡ w = cc in plain (sym (ap is_plain_question same)) cc
begins w rest ws q unstep e = let same : codes "unstep" ≡ w = cc in plain (sym (ap is_plain_question same)) cc
begins w rest ws q (step_often {w = v} {n = n} h) e =
    let same : codes "step" ≡ w = cc in
    let behind : rest ≡ v ∷ [] = cc in
    counted (sym (ap is_counted_question same)) behind h
begins w rest ws q (unstep_often {w = v} {n = n} h) e =
    let same : codes "unstep" ≡ w = cc in
    let behind : rest ≡ v ∷ [] = cc in
    counted (sym (ap is_counted_question same)) behind h
begins w rest ws q (dependents {ws = vs} {e = p} a) e =
    let same : codes "dependents" ≡ w = cc in
    let behind : vs ≡ rest = cc in
    paired (sym (ap (λ v. bytes_eq v (codes "dependents")) same)) (subst (λ us. AreAgents us p) behind a)
begins w rest ws q (wire {ws = vs} {p = p} a) e =
    let same : codes "wire" ≡ w = cc in
    let behind : vs ≡ rest = cc in
    placed (sym (ap (λ v. bytes_eq v (codes "wire")) same)) (subst (λ us. NamesPlace us p) behind a)

-- an event's dependents are asked for
pub asks_dependents : (w : List ℕ) (rest ws : List (List ℕ)) (o : Option Pair) (p : Pair) → ws ≡ w ∷ rest → w ≡ codes "dependents" → IsEventIn rest o → o ≡ Some p → AreQuestionWords ws (Some (Dependents p))
asks_dependents w rest ws o p e same is some =
    let whole : codes "dependents" ∷ rest ≡ ws = cc in
    subst (λ us. AsksQuestion us (Dependents p)) whole (dependents (subst (IsEventIn rest) some is))

-- and where the words name no event, nothing is
pub asks_no_dependents : (w : List ℕ) (rest ws : List (List ℕ)) (o : Option Pair) → ws ≡ w ∷ rest → w ≡ codes "dependents" → IsEventIn rest o → o ≡ None → AreQuestionWords ws None
asks_no_dependents w rest ws o e same is none q a =
    let not_plain : is_plain_question w ≡ false = ap is_plain_question same in
    let names_none : (p : Pair) → AreAgents rest p → ⊥ = subst (IsEventIn rest) none is in
    let not_counted : is_counted_question w ≡ false = ap is_counted_question same in
    let not_placed : bytes_eq w (codes "wire") ≡ false = ap (λ v. bytes_eq v (codes "wire")) same in
    elim (begins w rest ws q a e) [ plain h _ ↦ absurd cc | counted h _ _ ↦ absurd cc | paired {e = p} _ named ↦ names_none p named | placed h _ ↦ absurd cc ]

-- a wire is asked for
pub asks_wire : (w : List ℕ) (rest ws : List (List ℕ)) (o : Option Place) (p : Place) → ws ≡ w ∷ rest → w ≡ codes "wire" → IsPlaceIn rest o → o ≡ Some p → AreQuestionWords ws (Some (Wire p))
asks_wire w rest ws o p e same is some =
    let whole : codes "wire" ∷ rest ≡ ws = cc in
    subst (λ us. AsksQuestion us (Wire p)) whole (wire (subst (IsPlaceIn rest) some is))

-- and where the words name no place, nothing is
pub asks_no_wire : (w : List ℕ) (rest ws : List (List ℕ)) (o : Option Place) → ws ≡ w ∷ rest → w ≡ codes "wire" → IsPlaceIn rest o → o ≡ None → AreQuestionWords ws None
asks_no_wire w rest ws o e same is none q a =
    let not_plain : is_plain_question w ≡ false = ap is_plain_question same in
    let names_none : (p : Place) → NamesPlace rest p → ⊥ = subst (IsPlaceIn rest) none is in
    let not_counted : is_counted_question w ≡ false = ap is_counted_question same in
    let not_paired : bytes_eq w (codes "dependents") ≡ false = ap (λ v. bytes_eq v (codes "dependents")) same in
    elim (begins w rest ws q a e) [ plain h _ ↦ absurd cc | counted h _ _ ↦ absurd cc | paired h _ ↦ absurd cc | placed {p = p} _ named ↦ names_none p named ]

-- so many firings are asked for
pub asks_steps : (w : List ℕ) (rest ws : List (List ℕ)) (o : Option ℕ) (n : ℕ) → ws ≡ w ∷ rest → w ≡ codes "step" → AreNumber rest o → o ≡ Some n → AreQuestionWords ws (Some (Steps n))
asks_steps w rest ws o n e same is some =
    let number = subst (AreNumber rest) some is in
    let whole : codes "step" ∷ number.0 ∷ [] ≡ ws = (let behind = number.1 in cc) in
    subst (λ us. AsksQuestion us (Steps n)) whole (step_often number.2)

-- so many undos are asked for
pub asks_unstep : (w : List ℕ) (rest ws : List (List ℕ)) (o : Option ℕ) (n : ℕ) → ws ≡ w ∷ rest → w ≡ codes "unstep" → AreNumber rest o → o ≡ Some n → AreQuestionWords ws (Some (Unstep n))
asks_unstep w rest ws o n e same is some =
    let number = subst (AreNumber rest) some is in
    let whole : codes "unstep" ∷ number.0 ∷ [] ≡ ws = (let behind = number.1 in cc) in
    subst (λ us. AsksQuestion us (Unstep n)) whole (unstep_often number.2)
