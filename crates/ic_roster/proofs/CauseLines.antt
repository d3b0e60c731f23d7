-- The lines of the causes of a new event.
use Rattle.std.proofs.Common.{◌≡◌, ℕ, List, ◌∷◌, map, Option, sym, ap, ◌∙◌}
use Rattle.std.proofs.lemmas.List.Elements.{All-contains}
use Rattle.ic_path.specs.Orders.{IsIn, IsOnce}
use Rattle.ic_path.proofs.EachOnce.{once_cons}
use Rattle.ic_path.proofs.InLists.{map_cases}
use Rattle.ic_path.proofs.OnceLists.{once_map}
use Rattle.ic_path.proofs.Picks.{in-contains}
use Rattle.ic_name.specs.declared.ids.EventId.{EventId}
use Rattle.ic_roster.specs.KeptEvents.{KeptEvent}
use Rattle.ic_roster.specs.Placed.{PlacedEvent, IsNewKey, AreKept}
use Rattle.ic_roster.specs.EventSlots.{events_in, event_line, AreIndexed}
use Rattle.ic_roster.proofs.EventFacts.{record_of}
use Rattle.ic_roster.proofs.OwnNumbers.{one_owner}

-- no two causes are of one line, and none is of the line of the new event
pub lines_once : (slots : List (Option KeptEvent)) (leads : List (Option ℕ)) (line lead : ℕ) (ds : List EventId) → AreIndexed slots leads
    → IsNewKey (events_in slots) line lead → AreKept (events_in slots) ds → IsOnce ds → IsOnce (line ∷ map (λ (d : EventId). d.line) ds)
lines_once slots leads line lead ds indexed fresh kept once = once_cons (λ i. new (map_cases (λ (d : EventId). d.line) ds i)) (once_map (λ (d : EventId). d.line) ds apart once)
  where
    stands : (d : EventId) → IsIn d ds → (x : PlacedEvent) × IsIn x (events_in slots) × (x.id ≡ d)
    stands d i = All-contains (λ e. (x : PlacedEvent) × IsIn x (events_in slots) × (x.id ≡ e)) ds d kept (in-contains i)

    new : (d : EventId) × IsIn d ds × (d.line ≡ line) → ⊥
    new (d, i, e) = let x = stands d i in (fresh x.0 x.1).0 (ap (λ (q : EventId). q.line) x.2 ∙ e)

    apart : (d e : EventId) → IsIn d ds → IsIn e ds → d.line ≡ e.line → d ≡ e
    apart d e i j same =
        let x = stands d i in
        let y = stands e j in
        let r = record_of slots d x.0 x.1 x.2 in
        let s = record_of slots e y.0 y.1 y.2 in
        let one : d.slot ≡ e.slot = one_owner event_line slots indexed.lined d.slot e.slot r.kept s.kept r.holds s.holds (r.line ∙ same ∙ sym s.line) in
        λ u. record { slot = one u; line = same u }
