-- What a desk answers, and what state it leaves.
use Rattle.std.specs.Prelude.{◌≤◌, ℕ, List, ◌++◌, codes, length}
use Rattle.std.specs.Fmt.{decimal}
use Rattle.std.specs.Global.{Vec}
use Rattle.ic_name.specs.Events.{Event, Pair}
use Rattle.ic_name.specs.declared.lines.Reply.TheVariants as reply
use Rattle.ic_path.specs.Orders.{Alike}
use Rattle.ic_theory.specs.Starts.{Start}
use Rattle.ic_theory.specs.Machine as machine
use Rattle.ic_command.specs.declared.command.Command.{Command}
use Rattle.ic_command.specs.declared.request.Request.{Request}
use Rattle.ic_command.specs.declared.request.Request.TheVariants.{Bench, Mark, Back, Absorb}
use Rattle.ic_answer.specs.CommandReplies as bench
use Rattle.ic_answer.specs.Texts.{pair_line, refusal_text}
use Rattle.ic_answer.specs.declared.refused.Refused.TheVariants.{Deep, Full, HistoryFull, Memory, NoMark, TooManyMarks}
use Rattle.ic_desk.specs.declared.desk.TheConstants.{MAX_MARKS}
use Rattle.ic_undo.specs.Absorbing.{IsLeastNever}
use Rattle.ic_desk.specs.Absorbs.{Fits, Absorbs, AllStand, NoneIsActive, IsRefused, TakesBack}
use Rattle.ic_desk.specs.Desks.{Noted, State, NoneNoted, IsNoted, Puts}
use Rattle.ic_desk.specs.Backs.{AreOutside, AreMissing, DontFit, GoesBack, GoesPartWay}

-- how many events are marked under the name
abbrev pub marked_text : List ℕ → ℕ → List ℕ
marked_text name n = codes "marked " ++ name ++ codes " " ++ decimal n ++ codes "\n"

-- how many events were undone and fired to go back to the mark of this name
abbrev pub back_text : List ℕ → ℕ → ℕ → List ℕ
back_text name undone fired = codes "back " ++ name ++ codes " undone " ++ decimal undone ++ codes " fired " ++ decimal fired ++ codes "\n"

-- memory was wanting after so many
abbrev pub wanting_text : ℕ → ℕ → List ℕ
wanting_text undone fired = codes "refused 25 memory after " ++ decimal undone ++ codes " undone " ++ decimal fired ++ codes " fired\n"

-- how many events were absorbed
abbrev pub absorbed_text : ℕ → List ℕ
absorbed_text n = codes "absorbed " ++ decimal n ++ codes "\n"

-- the event that can't come to stand
abbrev pub never_text : Pair → List ℕ
never_text p = pair_line (codes "refused 51 ") p

-- the answer to what a line asks for, and the state after it
pub data RepliesToRequest (s : Start) (st : State) : Request → List ℕ → State → Type 0 where
  of_bench : {c : Command} {text : List ℕ} {next : machine.State} → bench.RepliesToCommand s st.bench c text next → RepliesToRequest s st (Bench c) text (record st { bench = next })
  marked : {name : List ℕ} {es : List Event} {marks : List Noted} → Alike (machine.events st.bench) es → Puts st.marks (record { name = name; events = es }) marks
      → RepliesToRequest s st (Mark name) (marked_text name (length es)) (record st { marks = marks })
  too_many : {name : List ℕ} → NoneNoted st.marks name → MAX_MARKS ≤ length st.marks → RepliesToRequest s st (Mark name) (refusal_text TooManyMarks) st
  mark_memory : {name : List ℕ} → RepliesToRequest s st (Mark name) (refusal_text Memory) st
  no_mark : {name : List ℕ} → NoneNoted st.marks name → RepliesToRequest s st (Back name) (refusal_text NoMark) st
  back_history_full : {name : List ℕ} {x : Noted} {gone came : List Event} → IsNoted st.marks name x → AreOutside s st.bench x.events gone → AreMissing s st.bench x.events came
      → DontFit st.bench gone came → RepliesToRequest s st (Back name) (refusal_text HistoryFull) st
  back : {name : List ℕ} {x : Noted} {undone fired : ℕ} {next : machine.State} → IsNoted st.marks name x → GoesBack s st.bench x.events undone fired next
      → RepliesToRequest s st (Back name) (back_text name undone fired) (record st { bench = next })
  back_memory : {name : List ℕ} {x : Noted} {undone fired : ℕ} {next : machine.State} → IsNoted st.marks name x → GoesPartWay s st.bench x.events undone fired next
      → RepliesToRequest s st (Back name) (wanting_text undone fired) (record st { bench = next })
  absorbed : {names : Vec Pair} {came : List Event} {next : machine.State} → Absorbs s names.items st.bench came next → AllStand next names.items
      → RepliesToRequest s st (Absorb names) (absorbed_text (length came)) (record st { bench = next })
  never_active : {names : Vec Pair} {p : Pair} {came : List Event} {mid next : machine.State} → Absorbs s names.items st.bench came mid → NoneIsActive s mid names.items
      → IsLeastNever s (machine.events st.bench) names.items p → TakesBack s mid came next → RepliesToRequest s st (Absorb names) (never_text p) (record st { bench = next })
  absorb_deep : {names : Vec Pair} {came : List Event} {mid after next : machine.State} → Absorbs s names.items st.bench came mid → IsRefused s names.items mid reply.Deep after
      → TakesBack s after came next → RepliesToRequest s st (Absorb names) (refusal_text Deep) (record st { bench = next })
  absorb_full : {names : Vec Pair} {came : List Event} {mid after next : machine.State} → Absorbs s names.items st.bench came mid → IsRefused s names.items mid reply.Full after
      → TakesBack s after came next → RepliesToRequest s st (Absorb names) (refusal_text Full) (record st { bench = next })
  absorb_history_full : {names : Vec Pair} → ¬ (Fits st.bench names.items) → RepliesToRequest s st (Absorb names) (refusal_text HistoryFull) st
  absorb_memory : {names : Vec Pair} {came : List Event} {mid next : machine.State} → Absorbs s names.items st.bench came mid → TakesBack s mid came next
      → RepliesToRequest s st (Absorb names) (refusal_text Memory) (record st { bench = next })
