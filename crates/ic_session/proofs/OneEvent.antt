-- Events that are told by less than all of them.
use Rattle.std.proofs.Common.{◌≡◌, List, inl, refl, ap}
use Rattle.ic_name.specs.Events.{Event, pair, Pair}
use Rattle.ic_name.proofs.NameOrder.{name_cmp_total, name_tied}
use Rattle.ic_path.specs.Orders.{Alike, IsIn}
use Rattle.ic_path.proofs.Alikes.{alike_back, alike-in}
use Rattle.ic_path.proofs.Picks.{in_first}
use Rattle.ic_theory.specs.Starts.{Start, IsProper}
use Rattle.ic_theory.specs.Active.{ArePresent}
use Rattle.ic_theory.specs.Sound.{IsSound}
use Rattle.ic_theory.specs.Machine.{Standing, State}
use Rattle.ic_theory.proofs.Counts.{names_once}
use Rattle.ic_theory.proofs.Future.{kind_once, present_included}
use Rattle.ic_theory.proofs.Machines.{IsKept, fire_sound}
use Rattle.ic_theory.proofs.Normal.{active-alike}
use Rattle.ic_theory.proofs.Ranks.{same_set}
use Rattle.ic_theory.proofs.Replies.{one_lead}
use Rattle.ic_cause.proofs.OneFuture.{one_event}
use Rattle.ic_journal.specs.Reducing.{IsLeastActive}
use Rattle.ic_theory.specs.Machine.{AreSame}
use Rattle.ic_name.proofs.Orderings.{neither_greater}

-- of present agents the names tell the kinds, so an event's name tells it
pub present_once : (s : Start) {es : List Event} (e f : Event) → IsSound s es → ArePresent s es e → ArePresent s es f → pair e ≡ pair f → e ≡ f
present_once s {es} e f sound h k same =
    let lead : e.lead ≡ f.lead = ap (λ (p : Pair). p.lead) same in
    let other : e.other ≡ f.other = ap (λ (p : Pair). p.other) same in
    let lead_kind : e.lead_kind ≡ f.lead_kind = kind_once e.lead refl lead (names_once s es sound.apart e.lead) h.lead.1 k.lead.1 in
    let other_kind : e.other_kind ≡ f.other_kind = kind_once e.other refl other (names_once s es sound.apart e.other) h.other.1 k.other.1 in
    λ i. record { lead = lead i; lead_kind = lead_kind i; other = other i; other_kind = other_kind i }

-- agents that are there are there in any order of the set
pub present-alike : (s : Start) {es fs : List Event} {e : Event} → Alike es fs → ArePresent s es e → ArePresent s fs e
present-alike s a h = present_included s (same_set a) h

-- the active pair with the least lead is so in any order of the set
pub least_active-alike : (s : Start) {es fs : List Event} {e : Event} → Alike es fs → IsLeastActive s es e → IsLeastActive s fs e
least_active-alike s a h = record { active = active-alike s a h.active; least = λ f i. h.least f (active-alike s (alike_back a) i) }

-- it is one
pub least_active_once : (s : Start) → IsProper s → {es : List Event} (e f : Event) → IsSound s es → IsLeastActive s es e → IsLeastActive s es f → e ≡ f
least_active_once s ok {es} e f sound h k =
    let tied = neither_greater _ _ (name_cmp_total.antisymm e.lead f.lead) (h.least f k.active) (k.least e h.active) in
    one_event s ok (fire_sound s ok sound h.active) (fire_sound s ok sound k.active) (in_first e es) (in_first f es) (inl refl) (inl (name_tied e.lead f.lead tied))

-- of events that stand the lead tells the event and its line
pub standing_once : {s : Start} {st tt : State} {x y : Standing} → IsKept s st → AreSame st tt → IsIn x st.standing → IsIn y tt.standing → x.event.lead ≡ y.event.lead → x ≡ y
standing_once k same i j e = one_lead k i (alike-in (alike_back same.standing) j) e
