-- What is written on one net, from what its parts did.
use Rattle.std.proofs.Common.{◌≡◌, ℕ, ◌<◌, Bool, true, false, List, [], length, refl, sym, arith, ◌∙◌, subst, inl, inr, Vec, Global}
use Rattle.std.proofs.KnownBytes.{Appends-nil}
use Rattle.std.specs.Prelude.{Option, Some, None, IfSome}
use Rattle.ic_command.specs.Faults.{AppendsFront}
use Rattle.std.specs.Io.KnownBytes.{Appends}
use Rattle.ic_theory.specs.Starts.{Start}
use Rattle.ic_desk.specs.Desks.{initial}
use Rattle.ic_text.specs.Grammar.{Denotes}
use Rattle.ic_text.specs.Faults.{Stands, IsFirstFault, Precedes}
use Rattle.ic_text.specs.declared.grammar.limits.TheConstants.{MAX_TEXT}
use Rattle.ic_text.specs.declared.grammar.refusal.Refusal.{Refusal}
use Rattle.ic_text.specs.declared.grammar.refusal.Refusal.TheVariants.{TooLong, BadByte, Syntax, NameTooLong, Thrice, TooManyAgents, TooNested, ReservedFree, TooManyFree}
use Rattle.ic_session.specs.declared.net_input.NetInput.{NetInput}
use Rattle.ic_session.specs.declared.net_input.NetInput.TheVariants as inputs
use Rattle.ic_session.specs.declared.net_session.NetEnd.{NetEnd}
use Rattle.ic_session.specs.declared.net_session.NetEnd.TheVariants.{Another, Over}
use Rattle.ic_session.specs.declared.session.Status.{Status}
use Rattle.ic_session.specs.declared.session.Status.TheVariants.{Ended, Stopped, NetRefused}
use Rattle.ic_session.specs.InputLines.{TextLine, lines, net_part, has_bar, command_lines}
use Rattle.ic_session.specs.NetInput.{ReadsNet}
use Rattle.ic_session.specs.declared.mode.Mode.{Mode}
use Rattle.ic_session.specs.Refusals.{refusal_line}
use Rattle.ic_session.specs.Sessions.{AnswersCommands, AnswersNet, AreBegun, Begins, IsBegun, IsLastText, IsNetText, LeadsOn, NamesFirst, WritesNet, answering, end_refused, naming, nothing, renewed, retried}

-- a net text that is too long has no fault that goes before that
long_first : (f : Refusal) → Precedes TooLong f
long_first TooLong = inr (refl, inr (refl, omega arith))
long_first (BadByte o) = inl (omega arith)
long_first (Syntax o) = inl (omega arith)
long_first (NameTooLong o) = inl (omega arith)
long_first (Thrice o) = inl (omega arith)
long_first (TooManyAgents o) = inl (omega arith)
long_first (TooNested o) = inl (omega arith)
long_first (ReservedFree o) = inl (omega arith)
long_first TooManyFree = inl (omega arith)

-- so it is the first
too_long_first : (xs : List ℕ) → MAX_TEXT < length (net_part (lines xs)) → IsFirstFault (net_part (lines xs)) TooLong
too_long_first xs many = record { stands = many; first = λ f _. long_first f }

-- the net text was too long
pub wrote_too_long : (m : Mode) (known now left before after : Option (List ℕ)) (input : NetInput) → input ≡ inputs.TooLong
    → IfSome known (λ xs. ReadsNet input xs now) → (end : NetEnd) → end ≡ end_refused m.retries false → Appends before after (refusal_line TooLong)
    → IfSome known (λ xs. WritesNet m xs end left before after)
wrote_too_long m None now left before after input e h end is a = tt
wrote_too_long m (Some xs) now left before after input e h end is a = (refusal_line TooLong, subst (λ z. IsNetText m (lines xs) z left (refusal_line TooLong)) (sym (is ∙ over m.retries)) refused, a)
  where
    over : (r : Bool) → end_refused r false ≡ Over NetRefused
    over true = refl
    over false = refl

    refused : IsNetText m (lines xs) (Over NetRefused) left (refusal_line TooLong)
    refused = record { names = record { fault = TooLong; first = too_long_first xs (subst (λ i. ReadsNet i xs now) e h); named = refl }; last = λ on. inr refl }

-- the net text had a fault
pub wrote_fault : (m : Mode) (known now before after : Option (List ℕ)) (input : NetInput) (text : Vec ℕ Global) (barred : Bool) (f : Refusal)
    → input ≡ inputs.Whole text barred → IfSome known (λ xs. ReadsNet input xs now)
    → IsFirstFault text.items f → (end : NetEnd) → end ≡ end_refused m.retries barred → Appends before after (refusal_line f)
    → IfSome known (λ xs. WritesNet m xs end now before after)
wrote_fault m None now before after input text barred f e h first end is a = tt
wrote_fault m (Some xs) None before after input text barred f e h first end is a = let read = subst (λ i. ReadsNet i xs None) e h in absurd read.1
wrote_fault m (Some xs) (Some ys) before after input text barred f e h first end is a = (refusal_line f, subst (λ z. IsNetText m (lines xs) z (Some ys) (refusal_line f)) (sym is) (go m.retries refl barred read.2), a)
  where
    read : ReadsNet (inputs.Whole text barred) xs (Some ys)
    read = subst (λ i. ReadsNet i xs (Some ys)) e h

    names : NamesFirst (lines xs) (refusal_line f)
    names = record { fault = f; first = subst (λ t. IsFirstFault t f) read.0 first; named = refl }

    go : (r : Bool) → m.retries ≡ r → (b : Bool) → b ≡ has_bar (lines xs) → IsNetText m (lines xs) (end_refused r b) (Some ys) (refusal_line f)
    go true on true bar = subst (LeadsOn m (lines xs) (refusal_line f)) (sym read.1) (retried on (sym bar) names)
    go true on false bar = record { names = names; last = λ _. inl (sym bar) }
    go false off b bar = record { names = names; last = λ on. (let no : false ≡ true = sym off ∙ on in cc) }

-- answers to commands are what is written last
answers_last : (m : Mode) (status : Status) (ls : List TextLine) (text : List ℕ) → AnswersCommands m status ls text → IsLastText m ls status text
answers_last m Ended ls text a = a
answers_last m Stopped ls text a = a
answers_last m NetRefused ls text a = absurd a.answers

-- or lead on to another net
answers_net : (m : Mode) (ls : List TextLine) (s : Start) (end : NetEnd) (left : Option (List ℕ)) (text : List ℕ) → Begins ls s → AnswersNet end s m initial (command_lines ls) left text → IsNetText m ls end left text
answers_net m ls s (Over status) left text b a = answers_last m status ls text (record { start = s; begins = b; answers = a })
answers_net m ls s Another None text b a = absurd a
answers_net m ls s Another (Some zs) text b a = renewed b a

-- the net that was read is the one of the first lines
begins_at : (xs ys : List ℕ) (text : Vec ℕ Global) (barred : Bool) (start : Start) → ReadsNet (inputs.Whole text barred) xs (Some ys) → Denotes text.items start → ((f : Refusal) → Stands text.items f → ⊥)
    → Begins (lines xs) start
begins_at xs ys text barred start read d n = record { denoted = subst (λ t. Denotes t start) read.0 d; faultless = subst (λ t. (f : Refusal) → Stands t f → ⊥) read.0 n }

-- the net was read, and the commands were answered
pub wrote_answers : (m : Mode) (known now left before after : Option (List ℕ)) (input : NetInput) (text : Vec ℕ Global) (barred : Bool) (start : Start) (end : NetEnd)
    → input ≡ inputs.Whole text barred
    → IfSome known (λ xs. ReadsNet input xs now) → Denotes text.items start → ((f : Refusal) → Stands text.items f → ⊥)
    → IfSome now (λ ys. (reply : List ℕ) × AnswersNet end start m initial (lines ys) left reply × Appends before after reply) → IfSome known (λ xs. WritesNet m xs end left before after)
wrote_answers m None now left before after input text barred start end e h d n a = tt
wrote_answers m (Some xs) None left before after input text barred start end e h d n a = let read = subst (λ i. ReadsNet i xs None) e h in absurd read.1
wrote_answers m (Some xs) (Some ys) left before after input text barred start end e h d n a =
    let read = subst (λ i. ReadsNet i xs (Some ys)) e h in
    (a.0, answers_net m (lines xs) start end left a.0 (begins_at xs ys text barred start read d n) (subst (λ ls. AnswersNet end start m initial ls left a.0) read.1 a.1), a.2)

-- nothing was written
pub begun_nothing : (m : Mode) (known before : Option (List ℕ))
    → IfSome known (λ xs. (text : List ℕ) × IsBegun m xs text × Appends before before text)
begun_nothing m None before = tt
begun_nothing m (Some xs) before = ([], nothing, Appends-nil before)

-- of the line that names the fault, a front was written
begun_naming : (m : Mode) (xs : List ℕ) (before after : Option (List ℕ)) (f : Refusal)
    → IsFirstFault (net_part (lines xs)) f → AppendsFront before after (refusal_line f)
    → (text : List ℕ) × IsBegun m xs text × Appends before after text
begun_naming m xs before after f first a = (a.front, naming a.behind (record { fault = f; first = first; named = sym a.parts }), a.appended)

-- the net text was too long
pub begun_too_long : (m : Mode) (known now before after : Option (List ℕ)) (input : NetInput) → input ≡ inputs.TooLong
    → IfSome known (λ xs. ReadsNet input xs now) → AppendsFront before after (refusal_line TooLong)
    → IfSome known (λ xs. (text : List ℕ) × IsBegun m xs text × Appends before after text)
begun_too_long m None now before after input e h a = tt
begun_too_long m (Some xs) now before after input e h a = begun_naming m xs before after TooLong (too_long_first xs (subst (λ i. ReadsNet i xs now) e h)) a

-- the net text had a fault
pub begun_fault : (m : Mode) (known now before after : Option (List ℕ)) (input : NetInput) (text : Vec ℕ Global) (barred : Bool) (f : Refusal)
    → input ≡ inputs.Whole text barred → IfSome known (λ xs. ReadsNet input xs now)
    → IsFirstFault text.items f → AppendsFront before after (refusal_line f) → IfSome known (λ xs. (text : List ℕ) × IsBegun m xs text × Appends before after text)
begun_fault m None now before after input text barred f e h first a = tt
begun_fault m (Some xs) now before after input text barred f e h first a =
    let read = subst (λ i. ReadsNet i xs now) e h in
    begun_naming m xs before after f (subst (λ t. IsFirstFault t f) read.0 first) a

-- the net was read, and a front of the answers was written
pub begun_answers : (m : Mode) (known now before after : Option (List ℕ)) (input : NetInput) (text : Vec ℕ Global) (barred : Bool) (start : Start)
    → input ≡ inputs.Whole text barred
    → IfSome known (λ xs. ReadsNet input xs now) → Denotes text.items start → ((f : Refusal) → Stands text.items f → ⊥)
    → IfSome now (λ ys. (reply : List ℕ) × AreBegun start m initial (lines ys) reply × Appends before after reply) → IfSome known (λ xs. (text : List ℕ) × IsBegun m xs text × Appends before after text)
begun_answers m None now before after input text barred start e h d n a = tt
begun_answers m (Some xs) None before after input text barred start e h d n a = let read = subst (λ i. ReadsNet i xs None) e h in absurd read.1
begun_answers m (Some xs) (Some ys) before after input text barred start e h d n a =
    let read = subst (λ i. ReadsNet i xs (Some ys)) e h in
    (a.0, answering (begins_at xs ys text barred start read d n) (subst (λ ls. AreBegun start m initial ls a.0) read.1 a.1), a.2)
