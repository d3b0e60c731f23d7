-- Slots that show the same events are indexed the same, and those with the same dependents are linked the same.
use Rattle.std.proofs.Common.{◌≡◌, ℕ, List, Option, refl, sym, ap, ◌∙◌, subst}
use Rattle.ic_slots.specs.Slots.{Keeps}
use Rattle.ic_roster.specs.KeptEvents.{KeptEvent, lone}
use Rattle.ic_roster.specs.Placed.{PlacedEvent}
use Rattle.ic_roster.specs.Slots.{IsIndexOf}
use Rattle.ic_roster.specs.EventSlots.{events_in, event_line, event_lead, AreIndexed}
use Rattle.ic_roster.specs.Records.{has, AreLinked}
use Rattle.ic_roster.specs.RecordChanges.{ShowsSame, SameRecords}
use Rattle.ic_roster.proofs.RecordFacts.{same_causes, same_events, same_told}
use Rattle.ic_roster.proofs.Indexes.{index_kept}
use Rattle.ic_roster.proofs.OwnNumbers.{own_same}
use Rattle.ic_path.specs.Orders.{IsOnce}

-- lists that are the same are linked the same
pub same_linked : (m n : List (Option KeptEvent)) → SameRecords m n → AreLinked m → AreLinked n
same_linked m n same is = record {
  linked = λ j k. ap (has k) (same.dependents j) ∙ is.linked j k ∙ ap (has j) (sym (same_causes m n same.shows k));
  causes_once = λ k. subst IsOnce (sym (same_causes m n same.shows k)) (is.causes_once k);
  dependents_once = λ k. subst IsOnce (sym (same.dependents k)) (is.dependents_once k);
}

-- numbers that are told without dependents are indexed the same
index_shown : (f : KeptEvent → ℕ) → ((r : KeptEvent) → f (lone r) ≡ f r) → (m n : List (Option KeptEvent)) (index : List (Option ℕ)) → ShowsSame m n → IsIndexOf f m index → IsIndexOf f n index
index_shown f tells m n index shows both q k =
    let same = same_told f tells m n shows k in
    (λ h. same ∙ (both q k).0 h, λ h. (both q k).1 (sym same ∙ h))

-- events that are the same are indexed the same
pub same_indexed : (m n : List (Option KeptEvent)) (leads : List (Option ℕ)) → ShowsSame m n → AreIndexed m leads → AreIndexed n leads
same_indexed m n leads shows t = record {
  lined = own_same event_line m n (same_told event_line (λ r. refl) m n shows) t.lined;
  led = index_shown event_lead (λ r. refl) m n leads shows t.led;
}

-- more room, for records and in the index, makes no difference
pub still_kept : (m more slots : List (Option KeptEvent)) (leads leads' : List (Option ℕ)) → SameRecords m more → slots ≡ more → Keeps leads leads' → AreIndexed m leads × AreLinked m → AreIndexed slots leads' × AreLinked slots
still_kept m more slots leads leads' same is keep (t, linked) =
    let u = same_indexed m more leads same.shows t in
    rw is (record { lined = u.lined; led = index_kept event_lead more leads leads' u.led keep }, same_linked m more same linked)

-- the same events are seen with more room
pub still_seen : (m more slots : List (Option KeptEvent)) (xs : List PlacedEvent) → SameRecords m more → slots ≡ more → events_in m ≡ xs → events_in slots ≡ xs
still_seen m more slots xs same is view = ap events_in is ∙ same_events m more same.shows ∙ view
