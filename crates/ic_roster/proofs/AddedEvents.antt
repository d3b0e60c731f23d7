-- What holds of an event that comes with causes that stand.
use Rattle.std.proofs.Common.{◌≡◌, ◌≢◌, ℕ, ◌+◌, ◌==◌, Bool, true, false, List, [], ◌∷◌, map, Option, None, refl, sym, ap, ◌∙◌, subst}
use Rattle.std.specs.Prelude.{All, IsSome, is_some}
use Rattle.std.proofs.lemmas.Bool.{eqb-true}
use Rattle.std.proofs.lemmas.List.Elements.{All-contains}
use Rattle.ic_path.specs.Orders.{IsOnce, Alike}
use Rattle.ic_path.proofs.InLists.{map_agrees}
use Rattle.ic_path.proofs.Picks.{in-contains}
use Rattle.ic_name.specs.declared.ids.AgentId.{AgentId}
use Rattle.ic_name.specs.declared.ids.EventId.{EventId}
use Rattle.ic_roster.specs.declared.interaction.Interaction.{Interaction}
use Rattle.ic_roster.specs.KeptEvents.{KeptEvent}
use Rattle.ic_roster.specs.Slots.{slot_at, shown, HoldsOneMore}
use Rattle.ic_roster.specs.Placed.{AreKept, child_in}
use Rattle.ic_roster.specs.EventSlots.{id_in, event_by, events_in}
use Rattle.ic_roster.specs.Records.{has, AreLinked}
use Rattle.ic_roster.specs.RecordChanges.{HasRoom, Changes, Puts}
use Rattle.ic_roster.proofs.Slots.{shown_filled}
use Rattle.ic_roster.proofs.RecordLoops.{room_still}
use Rattle.ic_roster.proofs.LinkedEvents.{not_filled, noted_cause, cause_filled, same_shown, id_beside, children_ids, kept_ids}
use Rattle.ic_roster.proofs.AddedLinks.{record_elsewhere, added_linked}

-- `m` is what was, and `mid` has the event's record, too
module _ (m mid : List (Option KeptEvent)) (event : ℕ) (causes : List ℕ) (r : KeptEvent) (holds : HoldsOneMore m mid event r) (filled : All (λ k. IsSome (slot_at m k)) causes) where
  -- it is none of its causes
  apart : has event causes ≡ false
  apart = not_filled m event causes holds.vacant filled

  -- its causes still have room
  pub rooms_with_event : ((k : ℕ) → has k causes ≡ true → HasRoom m k) → (k : ℕ) → has k causes ≡ true → HasRoom mid k
  rooms_with_event rooms k h = by (k == event) refl
    where
      by : (b : Bool) → (k == event) ≡ b → HasRoom mid k
      by false e = room_still m mid k (record_elsewhere m mid event r holds k e) (rooms k h)
      by true e =
          let s : has k causes ≡ has event causes = ap (λ q. has q causes) (eqb-true k event e) in
          let no = apart in
          absurd cc

  -- the links are kept both ways
  pub event_linked : (n : List (Option KeptEvent)) → AreLinked m → r.causes ≡ causes → r.dependents ≡ [] → IsOnce causes → Changes (Puts event) causes mid n → AreLinked n
  event_linked n is its empty once changes =
      added_linked m mid n event r is holds empty (subst IsOnce (sym its) once) (ap (has event) its ∙ apart) (subst (λ ks. Changes (Puts event) ks mid n) (sym its) changes)

-- a slot that holds a record is none that is vacant
filled_apart : (m : List (Option KeptEvent)) (k event : ℕ) → slot_at m event ≡ None → IsSome (slot_at m k) → k ≢ event
filled_apart m k event vacant filled s =
    let none : is_some (slot_at m k) ≡ false = ap is_some (ap (slot_at m) s ∙ vacant) in
    absurd cc

-- the events that stand are those of before and that of a record that comes, by the ids of its causes
pub event_entered : (m mid : List (Option KeptEvent)) (event : ℕ) (r : KeptEvent) → AreLinked m → HoldsOneMore m mid event r → All (λ k. IsSome (slot_at m k)) r.causes
    → Alike (event_by (id_in m) (event, r) ∷ events_in m) (events_in mid)
event_entered m mid event r is holds filled =
    subst (λ ys. Alike (event_by (id_in m) (event, r) ∷ ys) (events_in mid)) others
    (subst (λ ds. Alike (record { id = record { slot = event; line = r.line }; interaction = r.interaction; rank = r.rank; born = map (child_in r.line) r.born; causes = ds } ∷ shown (event_by (id_in mid)) m) (events_in mid)) its_ids
    (shown_filled (event_by (id_in mid)) m mid event r holds))
  where
    its_ids : map (id_in mid) r.causes ≡ map (id_in m) r.causes
    its_ids = map_agrees (id_in mid) (id_in m) r.causes (λ c i. id_beside m mid event r holds c
        (filled_apart m c event holds.vacant (All-contains (λ k. IsSome (slot_at m k)) r.causes c filled (in-contains i))))

    others : shown (event_by (id_in mid)) m ≡ events_in m
    others = same_shown (id_in mid) (id_in m) m (λ k s h c i. id_beside m mid event r holds c (filled_apart m c event holds.vacant (cause_filled m is c k (noted_cause m k s h c i))))

-- the event of a record that was made of an event that comes
pub event_made : (slots : List (Option KeptEvent)) (k line : ℕ) (r : KeptEvent) (interaction : Interaction) (rank : ℕ) (born : List AgentId) (causes : List EventId)
    → r.line ≡ line → r.interaction ≡ interaction → r.rank ≡ rank → r.born ≡ map (λ a. a.slot) born → r.causes ≡ map (λ d. d.slot) causes
    → All (λ a. a.serial ≡ line + 1) born → AreKept (events_in slots) causes
    → event_by (id_in slots) (k, r) ≡ record { id = record { slot = k; line = line }; interaction = interaction; rank = rank; born = born; causes = causes }
event_made slots k line r interaction rank born causes in_line of_agents in_rank of_born of_causes children kept =
    let ids : map (child_in r.line) r.born ≡ born = (λ u. map (child_in (in_line u)) (of_born u)) ∙ children_ids line born children in
    let cause_ids : map (id_in slots) r.causes ≡ causes = ap (map (id_in slots)) of_causes ∙ kept_ids slots causes kept in
    λ u. record { id = record { slot = k; line = in_line u }; interaction = of_agents u; rank = in_rank u; born = ids u; causes = cause_ids u }
