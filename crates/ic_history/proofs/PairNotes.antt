-- What notes tell of the lines that they are of.
use Rattle.std.proofs.Common.{◌≡◌, ◌<◌, ◌↔◌, ℕ, List, length, map, option_map, slice_get, Option, Some, None, IfSome, IfNone, Bool, true, false, if◌then◌else◌, refl, sym, ap, subst, ◌∙◌}
use Rattle.std.proofs.lemmas.Bool.{lt-ltb, ltb-true}
use Rattle.std.proofs.lemmas.Option.{same_Some, slice_get-map}
use Rattle.ic_name.specs.Names.{Name}
use Rattle.ic_name.specs.Events.{Event}
use Rattle.ic_name.specs.declared.lines.Call.TheVariants.{Fire}
use Rattle.ic_name.specs.declared.lines.Line.{Line}
use Rattle.ic_name.specs.declared.lines.Reply.{Reply}
use Rattle.ic_name.specs.declared.lines.Reply.TheVariants as reply
use Rattle.ic_names.specs.Tables.{EachOnce}
use Rattle.ic_roster.specs.Rosters.{event_in}
use Rattle.ic_roster.specs.declared.interaction.Interaction.{Interaction}
use Rattle.ic_history.specs.declared.kept.Kinds.{Kinds}
use Rattle.ic_history.specs.declared.kept.Places.{Places}
use Rattle.ic_history.specs.declared.notes.PairNote.{PairNote}
use Rattle.ic_history.specs.declared.limit.Limit.{Limit}
use Rattle.ic_history.specs.declared.limit.Limit.TheVariants.{Deep, Full}
use Rattle.ic_history.specs.Kept.{event_kept}
use Rattle.ic_history.specs.Noted.{NotedLine, Fired, Limited, NotActive, Undone, NotStanding, Held, line_in, IsLineNamed, AreLinesNamed}
use Rattle.ic_history.specs.Notes.{firing_of, noted_of, line_read, IsOfAPair}
use Rattle.ic_history.specs.Limits.{reply_of}
use Rattle.ic_history.proofs.NotedLines.{image_at, noted_named}

-- a line that calls to fire an event, but none of an active pair, tells that it wasn't active
other_reply : (names : List Name) (l : NotedLine) → ¬ (IsOfAPair l) → (e : Event) (r : Reply) → line_in names l ≡ record { call = Fire e; reply = r } → r ≡ reply.NotActive
other_reply names (Fired i) not e r same = absurd (not tt)
other_reply names (Limited limit i) not e r same = absurd (not tt)
other_reply names (NotActive f) not e r same = ap (λ (x : Line). x.reply) (sym same)
other_reply names (Undone line) not e r same = (let call = ap (λ (x : Line). x.call) same in absurd cc)
other_reply names (NotStanding line) not e r same = (let call = ap (λ (x : Line). x.call) same in absurd cc)
other_reply names (Held line by) not e r same = (let call = ap (λ (x : Line). x.call) same in absurd cc)

-- and where no note is found so does the line at the place
pub none_of_a_pair : (names : List Name) (ls : List NotedLine) (k : ℕ) (note : Option PairNote) → IfNone note ((l : NotedLine) → slice_get ls k ≡ Some l → ¬ (IsOfAPair l))
    → IfNone note ((e : Event) (r : Reply) → slice_get (map (line_in names) ls) k ≡ Some (record { call = Fire e; reply = r }) → r ≡ reply.NotActive)
none_of_a_pair names ls k None not = λ e r at. let l = image_at (line_in names) ls k _ at in other_reply names l.0 (not l.0 l.1) e r l.2
none_of_a_pair names ls k (Some note) not = tt

-- the reply to a firing that met this limit, or none
abbrev reply_met : Option Limit → Reply
reply_met None = reply.Fired
reply_met (Some limit) = reply_of limit

-- the line of such a firing
line_met : (names : List Name) (p : Option Limit) (i : Interaction) → line_in names (firing_of p i) ≡ record { call = Fire (event_in names i); reply = reply_met p }
line_met names None i = refl
line_met names (Some limit) i = refl

-- the reply tells which limit was met
one_limit : (p q : Option Limit) → reply_met p ≡ reply_met q → p ≡ q
one_limit None None same = refl
one_limit None (Some Deep) same = cc
one_limit None (Some Full) same = cc
one_limit (Some Deep) None same = cc
one_limit (Some Deep) (Some Deep) same = refl
one_limit (Some Deep) (Some Full) same = cc
one_limit (Some Full) None same = cc
one_limit (Some Full) (Some Deep) same = cc
one_limit (Some Full) (Some Full) same = refl

-- and that the event was active
never_inactive : (p : Option Limit) → reply_met p ≡ reply.NotActive → ⊥
never_inactive None same = cc
never_inactive (Some Deep) same = cc
never_inactive (Some Full) same = cc

-- the places are among the names
record AreWithin (names : List Name) (places : Places) : Type 0 where
  lead : places.lead.place < length names
  other : places.other.place < length names

-- so are those of the firing in a line that is named
named_within : (names : List Name) (p : Option Limit) (kinds : Kinds) (places : Places) → IsLineNamed names (firing_of p (event_kept kinds places)) → AreWithin names places
named_within names None kinds places named = record { lead = named.lead; other = named.other }
named_within names (Some limit) kinds places named = record { lead = named.lead; other = named.other }

-- a note whose places are among the names tells its line
within_read : (names : List Name) (note : PairNote) → AreWithin names note.places → line_read names note ≡ Some (line_in names (noted_of note))
within_read names note within = rw (lt-ltb _ _ within.lead, lt-ltb _ _ within.other) refl

-- a value that two tests let through
both_tests : {X : Type 0} (a b : Bool) (x y : X) → (if a then (if b then Some x else None) else None) ≡ Some y → (a ≡ true) × (b ≡ true) × (x ≡ y)
both_tests true true x y same = (refl, refl, same_Some x y same)
both_tests true false x y same = absurd cc
both_tests false b x y same = absurd cc

-- where a note tells a line its places are among the names, and the line is its own
read_within : (names : List Name) (note : PairNote) (l : Line) → line_read names note ≡ Some l → AreWithin names note.places × (line_in names (noted_of note) ≡ l)
read_within names note l read =
    let both = both_tests _ _ _ _ read in
    (record { lead = ltb-true _ _ both.0; other = ltb-true _ _ both.1 }, both.2)

-- where each name stands once, two notes that tell the same line are the same
one_note : (names : List Name) → EachOnce names → (m n : PairNote) → AreWithin names m.places → AreWithin names n.places → line_in names (noted_of m) ≡ line_in names (noted_of n) → m ≡ n
one_note names once m n first second same =
    let i = event_kept m.kinds m.places in
    let j = event_kept n.kinds n.places in
    let lines = sym (line_met names m.limit i) ∙ same ∙ line_met names n.limit j in
    let calls : Fire (event_in names i) ≡ Fire (event_in names j) = ap (λ (l : Line). l.call) lines in
    let events : event_in names i ≡ event_in names j = cc (calls) in
    let lead = once _ _ first.lead second.lead (ap (λ (e : Event). e.lead) events) in
    let other = once _ _ first.other second.other (ap (λ (e : Event). e.other) events) in
    let limit = one_limit m.limit n.limit (ap (λ (l : Line). l.reply) lines) in
    λ u. record {
      limit = limit u;
      kinds = record { lead = (events u).lead_kind; other = (events u).other_kind };
      places = record { lead = record { place = lead u }; other = record { place = other u } };
    }

module _ (names : List Name) (ls : List NotedLine) (all : AreLinesNamed names ls) (k : ℕ) where
  -- the note of a line has its places among the names
  found_within : (note : PairNote) → slice_get ls k ≡ Some (noted_of note) → AreWithin names note.places
  found_within note at = named_within names note.limit note.kinds note.places (noted_named names ls k (noted_of note) at all)

  -- and tells that line
  pub found_read : (note : PairNote) → slice_get ls k ≡ Some (noted_of note) → line_read names note ≡ slice_get (map (line_in names) ls) k
  found_read note at = within_read names note (found_within note at) ∙ sym (slice_get-map (line_in names) ls k ∙ ap (option_map (line_in names)) at)

  -- a note is the one that was found exactly where it tells the line
  pub found_note : EachOnce names → (found : Option PairNote) → IfSome found (λ m. slice_get ls k ≡ Some (noted_of m)) → IfNone found ((l : NotedLine) → slice_get ls k ≡ Some l → ¬ (IsOfAPair l))
      → (note : PairNote) → (found ≡ Some note) ↔ ((l : Line) × (slice_get (map (line_in names) ls) k ≡ Some l) × (line_read names note ≡ Some l))
  found_note once None at not note = (
    λ same. absurd cc,
    λ h.
        let l = image_at (line_in names) ls k h.0 h.1 in
        let told = (read_within names note h.0 h.2).1 in
        absurd (never_inactive note.limit (other_reply names l.0 (not l.0 l.1) _ _ (l.2 ∙ sym told ∙ line_met names note.limit _))),
  )
  found_note once (Some m) at not note = (
    λ same.
        let its : slice_get ls k ≡ Some (noted_of note) = subst (λ n. slice_get ls k ≡ Some (noted_of n)) (same_Some m note same) at in
        (line_in names (noted_of note), slice_get-map (line_in names) ls k ∙ ap (option_map (line_in names)) its, within_read names note (found_within note its)),
    λ h.
        let told = read_within names note h.0 h.2 in
        let its : Some (line_in names (noted_of m)) ≡ Some h.0 = sym (slice_get-map (line_in names) ls k ∙ ap (option_map (line_in names)) at) ∙ h.1 in
        ap Some (one_note names once m note (found_within m at) told.0 (same_Some _ _ its ∙ sym told.1)),
  )
