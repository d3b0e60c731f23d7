-- Lines that list events, taken one by one.
use Rattle.std.proofs.Common.{◌≡◌, ℕ, ◌+◌, ◌<◌, Bool, true, false, List, [], ◌∷◌, ◌++◌, length, refl, sym, ap, arith, ◌∙◌, subst, append_assoc, append-nil, length-append, inl, inr, Vec, Global}
use Rattle.std.specs.Prelude.{Option, Some, None, IfSome, IsSomeAnd, MatchBool}
use Rattle.ic_path.proofs.Picks.{pick_behind, pick_before, in_first}
use Rattle.ic_name.specs.Events.{Pair}
use Rattle.ic_command.specs.declared.lines.piece.Piece.{Piece}
use Rattle.ic_command.specs.declared.lines.piece.Piece.TheVariants.{Line, TooLong}
use Rattle.ic_command.specs.Listed.{IsListed}
use Rattle.ic_session.specs.InputLines.{TextLine, lines}
use Rattle.ic_session.specs.NextRequest.{AreListed, none, more, OneListsNone}
use Rattle.ic_session.specs.TakenLines.{TakesLine, TakesNextListed, TakesListed}
use Rattle.ic_session.specs.declared.listed_events.NextListed.{NextListed}
use Rattle.ic_session.specs.declared.listed_events.NextListed.TheVariants.{Event, Unlisted, Ended}
use Rattle.ic_session.proofs.LongLines.{long_unlisted}

-- the line that was taken lists an event
pub event_taken : (old now : Option (List ℕ)) (line : List ℕ) (ended : Bool) (p : Piece) (e : Pair) → p ≡ Line ended → IfSome old (λ xs. TakesLine p line xs now)
    → IsListed line e → IfSome old (λ xs. TakesNextListed (Event e) xs now)
event_taken None now line ended p e is t l = tt
event_taken (Some xs) None line ended p e is t l = absurd (subst (λ q. TakesLine q line xs None) is t)
event_taken (Some xs) (Some ys) line ended p e is t l = (record { bytes = line; ended = ended }, subst (λ q. TakesLine q line xs (Some ys)) is t, l)

-- it lists none
pub unlisted_taken : (old now : Option (List ℕ)) (line : List ℕ) (ended : Bool) (p : Piece) → p ≡ Line ended → IfSome old (λ xs. TakesLine p line xs now)
    → ((e : Pair) → IsListed line e → ⊥) → IfSome old (λ xs. TakesNextListed Unlisted xs now)
unlisted_taken None now line ended p is t l = tt
unlisted_taken (Some xs) None line ended p is t l = absurd (subst (λ q. TakesLine q line xs None) is t)
unlisted_taken (Some xs) (Some ys) line ended p is t l = (record { bytes = line; ended = ended }, subst (λ q. TakesLine q line xs (Some ys)) is t, l)

-- it is too long to list one
pub long_line_taken : (old now : Option (List ℕ)) (line : List ℕ) (p : Piece) → p ≡ TooLong → IfSome old (λ xs. TakesLine p line xs now)
    → IfSome old (λ xs. TakesNextListed Unlisted xs now)
long_line_taken None now line p is t = tt
long_line_taken (Some xs) None line p is t = absurd (subst (λ q. TakesLine q line xs None) is t)
long_line_taken (Some xs) (Some ys) line p is t =
    let long = subst (λ q. TakesLine q line xs (Some ys)) is t in
    (long.0, long.1, long_unlisted long.0.bytes long.2)

-- of the lines of an input so many were taken, which list these events, or one of which lists none; where it is known
abbrev pub HasListed : Option (List ℕ) → Option (List ℕ) → ℕ → Bool → List Pair → Type 0
HasListed None now count all events = Unit {0}
HasListed (Some xs) None count all events = ⊥
HasListed (Some xs) (Some ys) count all events =
    (first : List TextLine) × (lines xs ≡ first ++ lines ys) × (length first ≡ count) × MatchBool all (AreListed first events) (OneListsNone first)

-- none were taken
pub listed_none : (old : Option (List ℕ)) → HasListed old old 0 true []
listed_none None = tt
listed_none (Some xs) = ([], refl, refl, none)

-- another line behind them
lists_more : {first : List TextLine} {events : List Pair} (line : TextLine) {e : Pair} → AreListed first events → IsListed line.bytes e → AreListed (first ++ line ∷ []) (events ++ e ∷ [])
lists_more line none l = more l none
lists_more line (more h further) l = more h (lists_more line further l)

still_unlisted : (first behind : List TextLine) → OneListsNone first → OneListsNone (first ++ behind)
still_unlisted first behind u = (u.0, (u.1.0 ++ behind, pick_before behind u.1.1), u.2)

still_listed : (first : List TextLine) (line : TextLine) (all : Bool) (events : List Pair) (e : Pair) → MatchBool all (AreListed first events) (OneListsNone first)
    → IsListed line.bytes e → MatchBool all (AreListed (first ++ line ∷ []) (events ++ e ∷ [])) (OneListsNone (first ++ line ∷ []))
still_listed first line true events e h l = lists_more line h l
still_listed first line false events e h l = still_unlisted first (line ∷ []) h

now_unlisted : (first : List TextLine) (line : TextLine) → ((e : Pair) → IsListed line.bytes e → ⊥) → OneListsNone (first ++ line ∷ [])
now_unlisted first line l = let here = in_first line [] in (line, (first ++ here.0, pick_behind first here.1), l)

-- where the lines are cut behind the next one
next_cut : (first : List TextLine) (line : TextLine) (ls rest behind : List TextLine) → ls ≡ first ++ rest → rest ≡ line ∷ behind → ls ≡ (first ++ line ∷ []) ++ behind
next_cut first line ls rest behind whole next = whole ∙ ap (λ zs. first ++ zs) next ∙ sym (append_assoc first (line ∷ []) behind)

next_count : (first : List TextLine) (line : TextLine) (count : ℕ) → length first ≡ count → length (first ++ line ∷ []) ≡ count + 1
next_count first line count h = length-append first (line ∷ []) ∙ ap (λ n. n + 1) h

-- one line more was taken that lists an event
pub listed_more : (old now new : Option (List ℕ)) (count : ℕ) (all : Bool) (events : List Pair) (next : NextListed) (e : Pair) → HasListed old now count all events
    → next ≡ Event e → IfSome now (λ ys. TakesNextListed next ys new) → HasListed old new (count + 1) all (events ++ e ∷ [])
listed_more None now new count all events next e h is t = tt
listed_more (Some xs) None new count all events next e h is t = absurd h
listed_more (Some xs) (Some ys) None count all events next e h is t = absurd (subst (λ n. TakesNextListed n ys None) is t)
listed_more (Some xs) (Some ys) (Some zs) count all events next e h is t =
    let taken = subst (λ n. TakesNextListed n ys (Some zs)) is t in
    (h.0 ++ taken.0 ∷ [], next_cut h.0 taken.0 (lines xs) (lines ys) (lines zs) h.1 taken.1, next_count h.0 taken.0 count h.2, still_listed h.0 taken.0 all events e h.3 taken.2)

-- one line more was taken that lists none
pub listed_fails : (old now new : Option (List ℕ)) (count : ℕ) (all : Bool) (events : List Pair) (next : NextListed) → HasListed old now count all events
    → next ≡ Unlisted → IfSome now (λ ys. TakesNextListed next ys new) → HasListed old new (count + 1) false events
listed_fails None now new count all events next h is t = tt
listed_fails (Some xs) None new count all events next h is t = absurd h
listed_fails (Some xs) (Some ys) None count all events next h is t = absurd (subst (λ n. TakesNextListed n ys None) is t)
listed_fails (Some xs) (Some ys) (Some zs) count all events next h is t =
    let taken = subst (λ n. TakesNextListed n ys (Some zs)) is t in
    (h.0 ++ taken.0 ∷ [], next_cut h.0 taken.0 (lines xs) (lines ys) (lines zs) h.1 taken.1, next_count h.0 taken.0 count h.2, now_unlisted h.0 taken.0 taken.2)

-- the input ended in front of the last of them
pub listed_wanting : (old now new : Option (List ℕ)) (count most : ℕ) (all : Bool) (events : List Pair) (next : NextListed) → HasListed old now count all events → count < most
    → next ≡ Ended → IfSome now (λ ys. TakesNextListed next ys new) → IfSome old (λ xs. IsSomeAnd new (TakesListed most None xs))
listed_wanting None now new count most all events next h few is t = tt
listed_wanting (Some xs) None new count most all events next h few is t = absurd h
listed_wanting (Some xs) (Some ys) new count most all events next h few is t =
    let taken = subst (λ n. TakesNextListed n ys new) is t in
    let whole : lines xs ≡ h.0 = h.1 ∙ ap (λ zs. h.0 ++ lines zs) taken.0 ∙ append-nil h.0 in
    let many : length (lines xs) ≡ count = ap length whole ∙ h.2 in
    subst (λ left. IsSomeAnd left (TakesListed most None xs)) (sym taken.1) (inr (omega arith, refl))

-- all of them were taken
pub listed_all : (old now : Option (List ℕ)) (count : ℕ) (all : Bool) (events : Vec Pair Global) → HasListed old now count all events.items → all ≡ true
    → IfSome old (λ xs. IsSomeAnd now (TakesListed count (Some events) xs))
listed_all None now count all events h is = tt
listed_all (Some xs) None count all events h is = absurd h
listed_all (Some xs) (Some ys) count all events h is = (h.0, h.1, h.2, subst (λ b. MatchBool b (AreListed h.0 events.items) (OneListsNone h.0)) is h.3)

pub listed_none_all : (old now : Option (List ℕ)) (count : ℕ) (all : Bool) (events : List Pair) → HasListed old now count all events → all ≡ false
    → IfSome old (λ xs. IsSomeAnd now (TakesListed count None xs))
listed_none_all None now count all events h is = tt
listed_none_all (Some xs) None count all events h is = absurd h
listed_none_all (Some xs) (Some ys) count all events h is = inl (h.0, h.1, h.2, subst (λ b. MatchBool b (AreListed h.0 events) (OneListsNone h.0)) is h.3)
