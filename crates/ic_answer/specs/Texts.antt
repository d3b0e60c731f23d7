-- The lines of answers.
use Rattle.std.specs.Prelude.{ℕ, List, [], ◌++◌, length, codes, option_map, Option, None}
use Rattle.std.specs.Fmt.{decimal}
use Rattle.std.specs.List.{flat_map}
use Rattle.ic_name.specs.NameTexts.{pair_text}
use Rattle.ic_name.specs.declared.numbers.TheConstants.{COMMAND, DEEP, FULL, HISTORY_FULL, MEMORY, NOT_ACTIVE, NOT_STANDING, NO_MARK, TOO_MANY_MARKS}
use Rattle.ic_name.specs.Events.{Pair, Event, pair}
use Rattle.ic_journal.specs.declared.reducing.end.End.{End}
use Rattle.ic_journal.specs.declared.reducing.end.End.TheVariants as ends
use Rattle.ic_answer.specs.declared.answer.Answer.{Answer}
use Rattle.ic_answer.specs.declared.answer.Answer.TheVariants as answers
use Rattle.ic_answer.specs.declared.refused.TheConstants.{NO_PORT}
use Rattle.ic_answer.specs.declared.refused.Refused.{Refused}
use Rattle.ic_answer.specs.declared.refused.Refused.TheVariants.{NotActive, Deep, Full, HistoryFull, Memory, MemoryBeforeReduce, MemoryBeforeBack, NoPort, NotStanding, Command, NoMark, TooManyMarks}

-- a line with the names of an event behind a word
abbrev pub pair_line : List ℕ → Pair → List ℕ
pair_line word p = word ++ pair_text p ++ codes "\n"

-- a line with the names of an event
abbrev pub event_line : Event → List ℕ
event_line e = pair_line [] (pair e)

-- how many active pairs there are, and which
abbrev pub active_text : List Event → List ℕ
active_text es = codes "active " ++ decimal (length es) ++ codes "\n" ++ flat_map event_line es

-- the rank of an event, and its direct causes
abbrev pub why_text : Pair → ℕ → List Event → List ℕ
why_text p rank causes = codes "why " ++ pair_text p ++ codes " rank " ++ decimal rank ++ codes " causes " ++ decimal (length causes) ++ codes "\n" ++ flat_map event_line causes

-- the events that were undone, in the order in which they were
abbrev pub unwound_text : List Event → List ℕ
unwound_text es = codes "unwound " ++ decimal (length es) ++ codes "\n" ++ flat_map event_line es

-- how many events were undone
abbrev pub undone_all_text : ℕ → List ℕ
undone_all_text n = codes "undone-all " ++ decimal n ++ codes "\n"

-- how many events were fired, and what ended it
abbrev pub reduced_text : ℕ → List ℕ → List ℕ
reduced_text n end = codes "reduced " ++ decimal n ++ codes " " ++ end ++ codes "\n"

-- memory was wanting after so many firings
abbrev pub wanting_after : ℕ → List ℕ
wanting_after n = codes "refused 25 memory after " ++ decimal n ++ codes "\n"

-- the line of a refusal
abbrev pub refusal_text : Refused → List ℕ
refusal_text NotActive = codes "refused 21 not active\n"
refusal_text Deep = codes "refused 22 deep\n"
refusal_text Full = codes "refused 23 full\n"
refusal_text HistoryFull = codes "refused 24 history full\n"
refusal_text Memory = codes "refused 25 memory\n"
refusal_text MemoryBeforeReduce = codes "refused 25 memory after 0\n"
refusal_text MemoryBeforeBack = codes "refused 25 memory after 0 undone 0 fired\n"
refusal_text NoPort = codes "refused 26 port\n"
refusal_text NotStanding = codes "refused 31 not standing\n"
refusal_text Command = codes "refused 40 command\n"
refusal_text NoMark = codes "refused 41 no mark\n"
refusal_text TooManyMarks = codes "refused 42 too many marks\n"

-- the number of a refusal
abbrev pub refusal_number : Refused → ℕ
refusal_number NotActive = NOT_ACTIVE
refusal_number Deep = DEEP
refusal_number Full = FULL
refusal_number HistoryFull = HISTORY_FULL
refusal_number Memory = MEMORY
refusal_number MemoryBeforeReduce = MEMORY
refusal_number MemoryBeforeBack = MEMORY
refusal_number NoPort = NO_PORT
refusal_number NotStanding = NOT_STANDING
refusal_number Command = COMMAND
refusal_number NoMark = NO_MARK
refusal_number TooManyMarks = TOO_MANY_MARKS

-- what a refusal is, in words
abbrev pub refusal_words : Refused → List ℕ
refusal_words NotActive = codes "not active"
refusal_words Deep = codes "deep"
refusal_words Full = codes "full"
refusal_words HistoryFull = codes "history full"
refusal_words Memory = codes "memory"
refusal_words MemoryBeforeReduce = codes "memory after 0"
refusal_words MemoryBeforeBack = codes "memory after 0 undone 0 fired"
refusal_words NoPort = codes "port"
refusal_words NotStanding = codes "not standing"
refusal_words Command = codes "command"
refusal_words NoMark = codes "no mark"
refusal_words TooManyMarks = codes "too many marks"

-- what is told of a reduction that fired nothing
abbrev pub unfired_text : End → List ℕ
unfired_text ends.Normal = codes "reduced 0 normal\n"
unfired_text ends.Budget = codes "reduced 0 budget\n"
unfired_text ends.Limit = codes "reduced 0 limit\n"
unfired_text ends.Memory = codes "refused 25 memory after 0\n"

-- what is written in answer
abbrev pub answer_text : Answer → List ℕ
answer_text (answers.Text t) = t.items
answer_text (answers.Refused r) = refusal_text r
answer_text (answers.Unfired end) = unfired_text end
answer_text (answers.Hindered t reason) = t.items

-- what a session that explains itself adds to it
abbrev pub reason_text : Answer → Option (List ℕ)
reason_text (answers.Text t) = None
reason_text (answers.Refused r) = None
reason_text (answers.Unfired end) = None
reason_text (answers.Hindered t reason) = option_map (λ r. r.items) reason
