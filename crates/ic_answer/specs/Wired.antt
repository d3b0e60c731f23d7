-- The answer to `wire`: the other end of a wire, and the events that made it.
use Rattle.std.specs.Prelude.{◌≡◌, ◌≢◌, ◌<◌, ℕ, List, [], ◌++◌, length, codes, Some, slice_get, slice_index_or}
use Rattle.std.specs.Fmt.{decimal}
use Rattle.std.specs.List.{flat_map}
use Rattle.ic_name.specs.Events.{Event}
use Rattle.ic_name.specs.NameTexts.{name_text}
use Rattle.ic_name.specs.declared.ports.Port.{Port}
use Rattle.ic_name.specs.declared.ports.Port.TheVariants.{Of, Name}
use Rattle.ic_path.specs.Rings.{HasEachOnce}
use Rattle.ic_theory.specs.Starts.{Start}
use Rattle.ic_theory.specs.Wires.{IsWire}
use Rattle.ic_cause.specs.Journals.{AreCanonical}
use Rattle.ic_set.specs.Wires.{IsWireMaker}
use Rattle.ic_command.specs.declared.place.Place.{Place}
use Rattle.ic_command.specs.declared.place.Place.TheVariants as place
use Rattle.ic_answer.specs.declared.refused.Refused.TheVariants.{NoPort}
use Rattle.ic_answer.specs.Texts.{event_line, refusal_text}

-- the number of the first name that is called so
pub record IsFirstCalled (names : List (List ℕ)) (called : List ℕ) (j : ℕ) : Type 0 where
  pub here : slice_get names j ≡ Some called
  pub first : (i : ℕ) → i < j → slice_get names i ≢ Some called

-- the port that a place names: that of the agent, or the name of the text that is called so
abbrev pub IsPlaceOf : Start → Place → Port → Type 0
IsPlaceOf s (place.Port a i) p = p ≡ Of a i
IsPlaceOf s (place.Free called) p = (j : ℕ) × IsFirstCalled s.names called j × (p ≡ Name j)

-- a wire of the net with its two ends, and the events that made it, each once, in canonical order
pub record IsWiredBy (s : Start) (es : List Event) (p q : Port) (fs : List Event) : Type 0 where
  pub wire : IsWire s es p q
  pub each : HasEachOnce (IsWireMaker s es p) fs
  pub canonical : AreCanonical s es fs

-- a port as it is told: an agent and the number of its port, or the text of a name
abbrev pub port_text : List (List ℕ) → Port → List ℕ
port_text names (Of a i) = name_text a ++ codes " " ++ decimal i
port_text names (Name j) = slice_index_or names j []

-- the two ends of a wire, and how many events made it
abbrev pub wire_head : List (List ℕ) → Port → Port → ℕ → List ℕ
wire_head names p q k = codes "wire " ++ port_text names p ++ codes " to " ++ port_text names q ++ codes " events " ++ decimal k ++ codes "\n"

-- these, and then the events
abbrev pub wire_text : List (List ℕ) → Port → Port → List Event → List ℕ
wire_text names p q fs = wire_head names p q (length fs) ++ flat_map event_line fs

-- what is told of a port: its wire; or a refusal, if no wire of the net ends there
pub data TellsWire (s : Start) (es : List Event) (p : Port) : List ℕ → Type 0 where
  wire : {q : Port} {fs : List Event} → IsWiredBy s es p q fs → TellsWire s es p (wire_text s.names p q fs)
  no_wire : ((q : Port) → ¬ (IsWire s es p q)) → TellsWire s es p (refusal_text NoPort)
