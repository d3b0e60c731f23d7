-- What a bench tells that is asked a question.
use Rattle.std.specs.Prelude.{ℕ, List, ◌++◌, length, codes}
use Rattle.std.specs.Fmt.{decimal}
use Rattle.std.specs.List.{flat_map}
use Rattle.ic_name.specs.Events.{Event, Pair}
use Rattle.ic_name.specs.declared.lines.Line.{Line}
use Rattle.ic_path.specs.Orders.{IsIn}
use Rattle.ic_path.specs.Rings.{HasEachOnce}
use Rattle.ic_theory.specs.Starts.{Start}
use Rattle.ic_theory.specs.Nets.{net_of, IsSameNet}
use Rattle.ic_theory.specs.Listed.{ListedNet, IsListing, shown}
use Rattle.ic_theory.specs.Machine.{Standing, State, events, IsHistory}
use Rattle.ic_cause.specs.Journals.{AreCanonical}
use Rattle.ic_text.specs.AgentsText.{agents_text}
use Rattle.ic_journal.specs.Views.{BenchView}
use Rattle.ic_journal.specs.Benches.{IsAt}
use Rattle.ic_command.specs.declared.place.Place.{Place}
use Rattle.ic_command.specs.declared.question.Question.{Question}
use Rattle.ic_command.specs.declared.question.Question.TheVariants.{Agents, Causes, Dependents, History, Rules, Wire}
use Rattle.ic_name.specs.declared.ports.Port.{Port}
use Rattle.ic_answer.specs.declared.refused.Refused.TheVariants.{NoPort, NotStanding}
use Rattle.ic_answer.specs.declared.rules.TheConstants.{RULES}
use Rattle.ic_answer.specs.Caused.{Caused, AreCaused, causes_text}
use Rattle.ic_answer.specs.Histories.{history_text}
use Rattle.ic_answer.specs.CommandReplies.{IsNamed, NoneIsNamed}
use Rattle.ic_name.specs.NameTexts.{pair_text}
use Rattle.ic_answer.specs.Texts.{event_line, refusal_text}
use Rattle.ic_answer.specs.Unwinding.{RestsOn}
use Rattle.ic_answer.specs.Wired.{IsPlaceOf, TellsWire}

-- the events of the set that rest on an event, each once, in canonical order
pub record AreResting (s : Start) (es : List Event) (e : Event) (fs : List Event) : Type 0 where
  pub each : HasEachOnce (λ f. IsIn f es × RestsOn s es e f) fs
  pub canonical : AreCanonical s es fs

-- how many events rest on an event, and which
abbrev pub dependents_text : Pair → List Event → List ℕ
dependents_text p es = codes "dependents " ++ pair_text p ++ codes " events " ++ decimal (length es) ++ codes "\n" ++ flat_map event_line es

-- what is told in answer to a question
pub data Informs (s : Start) (st : State) : Question → List ℕ → Type 0 where
  agents : {l : ListedNet} → IsListing l → IsSameNet (shown l) (net_of s (events st)) → Informs s st Agents (agents_text s.names l)
  causes : {xs : List Caused} → AreCaused s (events st) xs → Informs s st Causes (causes_text xs)
  dependents : {p : Pair} {x : Standing} {es : List Event} → IsNamed st p x → AreResting s (events st) x.event es → Informs s st (Dependents p) (dependents_text p es)
  not_standing : {p : Pair} → NoneIsNamed st p → Informs s st (Dependents p) (refusal_text NotStanding)
  wire : {x : Place} {p : Port} {text : List ℕ} → IsPlaceOf s x p → TellsWire s (events st) p text → Informs s st (Wire x) text
  no_place : {x : Place} → ((p : Port) → ¬ (IsPlaceOf s x p)) → Informs s st (Wire x) (refusal_text NoPort)
  history : {xs : List Line} → IsHistory s xs st → Informs s st History (history_text xs)
  rules : Informs s st Rules RULES.now

-- a bench tells it
abbrev pub InformsOf : BenchView → Question → List ℕ → Type 0
InformsOf v q text = (st : State) → IsAt v st → Informs v.start st q text
