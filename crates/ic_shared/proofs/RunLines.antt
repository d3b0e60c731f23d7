-- The receipts of runs.
use Rattle.std.proofs.Common.{◌≡◌, ℕ, ◌+◌, List, [], ◌∷◌, true, false, Option, Some, None, Result, Ok, Err, length, map, refl, ap, ◌∙◌, length-append}
use Rattle.std.specs.Prelude.{is_some, slice_get}
use Rattle.ic_name.specs.Names.{Name}
use Rattle.ic_name.specs.Events.{Event}
use Rattle.ic_name.specs.declared.lines.Call.{Call}
use Rattle.ic_name.specs.declared.lines.Call.TheVariants.{Fire}
use Rattle.ic_name.specs.declared.lines.Reply.{Reply}
use Rattle.ic_name.specs.declared.lines.Reply.TheVariants as reply
use Rattle.ic_set.specs.declared.pairs.Fired.{Fired}
use Rattle.ic_journal.specs.Calls.{FiresPair}
use Rattle.ic_journal.specs.Views.{BenchView}
use Rattle.ic_journal.specs.declared.faults.PairFault.{PairFault}
use Rattle.ic_journal.specs.declared.faults.PairFault.TheVariants as pair
use Rattle.ic_history.specs.Notes.{line_read}
use Rattle.ic_journal.proofs.FiredLines.{first_behind}
use Rattle.ic_shared.specs.declared.receipts.RunReceipt.{RunReceipt}
use Rattle.ic_shared.specs.CallLines.{lines_of, pair_reply}
use Rattle.ic_shared.specs.Passes.{told_in}
use Rattle.ic_shared.specs.Receipts.{told_of}

-- where a call has a reply a receipt with the number and the note of its line tells it
pub line_told : (ns : List Name) (call : Call) (reply : Option Reply) (r : RunReceipt) (at : ℕ) → r.number ≡ at
    → ((answer : Reply) → reply ≡ Some answer → line_read ns r.note ≡ Some (record { call = call; reply = answer })) → true ≡ is_some reply
    → map (told_in ns) (r ∷ []) ≡ told_of at (lines_of call reply)
line_told ns call None r at same reads replied = absurd (cc (replied))
line_told ns call (Some answer) r at same reads replied = λ u. record { number = same u; line = reads answer refl u } ∷ []

-- where it has none nothing is to be told
pub none_told : (ns : List Name) (call : Call) (reply : Option Reply) (at : ℕ) → false ≡ is_some reply → map (told_in ns) [] ≡ told_of at (lines_of call reply)
none_told ns call None at silent = refl
none_told ns call (Some answer) at silent = absurd (cc (silent))

-- one value is held
replied : {a b : Reply} → Some a ≡ Some b → a ≡ b
replied q = cc

-- the line that firing an active pair adds, where it has a reply
pub pair_line : (old new : BenchView) (e : Event) (r : Result Fired PairFault) (answer : Reply) → FiresPair old e r new → pair_reply r ≡ Some answer → slice_get new.lines (length old.lines) ≡ Some (record { call = Fire e; reply = answer })
pair_line old new e (Ok fired) answer f is = ap (λ ls. slice_get ls (length old.lines)) f.0.0.lines ∙ first_behind old.lines _ [] ∙ (λ u. Some (record { call = Fire e; reply = replied is u }))
pair_line old new e (Err pair.Deep) answer f is = ap (λ ls. slice_get ls (length old.lines)) f.0.lines ∙ first_behind old.lines _ [] ∙ (λ u. Some (record { call = Fire e; reply = replied is u }))
pair_line old new e (Err pair.Full) answer f is = ap (λ ls. slice_get ls (length old.lines)) f.0.lines ∙ first_behind old.lines _ [] ∙ (λ u. Some (record { call = Fire e; reply = replied is u }))
pair_line old new e (Err pair.HistoryFull) answer f is = absurd (cc (is))
pair_line old new e (Err pair.Memory) answer f is = absurd (cc (is))

-- where it has a reply the history is longer by that line
pub one_more : (old new : BenchView) (e : Event) (r : Result Fired PairFault) → FiresPair old e r new → true ≡ is_some (pair_reply r) → length new.lines ≡ length old.lines + 1
one_more old new e (Ok fired) f replied = ap length f.0.0.lines ∙ length-append old.lines _
one_more old new e (Err pair.Deep) f replied = ap length f.0.lines ∙ length-append old.lines _
one_more old new e (Err pair.Full) f replied = ap length f.0.lines ∙ length-append old.lines _
one_more old new e (Err pair.HistoryFull) f replied = absurd (cc (replied))
one_more old new e (Err pair.Memory) f replied = absurd (cc (replied))

-- and that line isn't one of an event that wasn't active
pub no_refusal : (old new : BenchView) (e : Event) (r : Result Fired PairFault) → FiresPair old e r new → true ≡ is_some (pair_reply r)
    → ((answer : Reply) → slice_get new.lines (length old.lines) ≡ Some (record { call = Fire e; reply = answer }) → answer ≡ reply.NotActive) → ⊥
no_refusal old new e (Ok fired) f replied none = absurd (let n = none reply.Fired (pair_line old new e (Ok fired) reply.Fired f refl) in cc)
no_refusal old new e (Err pair.Deep) f replied none = absurd (let n = none reply.Deep (pair_line old new e (Err pair.Deep) reply.Deep f refl) in cc)
no_refusal old new e (Err pair.Full) f replied none = absurd (let n = none reply.Full (pair_line old new e (Err pair.Full) reply.Full f refl) in cc)
no_refusal old new e (Err pair.HistoryFull) f replied none = absurd (cc (replied))
no_refusal old new e (Err pair.Memory) f replied none = absurd (cc (replied))

-- where it has none the history is as long as it was
pub none_more : (old new : BenchView) (e : Event) (r : Result Fired PairFault) → FiresPair old e r new → false ≡ is_some (pair_reply r) → length new.lines ≡ length old.lines
none_more old new e (Ok fired) f silent = absurd (cc (silent))
none_more old new e (Err pair.Deep) f silent = absurd (cc (silent))
none_more old new e (Err pair.Full) f silent = absurd (cc (silent))
none_more old new e (Err pair.HistoryFull) f silent = ap (λ (v : BenchView). length v.lines) f.1
none_more old new e (Err pair.Memory) f silent = ap length f.1.lines
