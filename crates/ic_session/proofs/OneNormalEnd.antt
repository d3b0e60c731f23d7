-- Sweeps from one start that end normal leave the same events, and so one text of the net and one journal.
use Rattle.std.proofs.Common.{◌≡◌, ℕ, List, sym, ap, subst, arith, length-append, ◌∙◌}
use Rattle.ic_name.specs.Events.{Event}
use Rattle.ic_path.specs.Orders.{Alike}
use Rattle.ic_path.proofs.Alikes.{alike-length}
use Rattle.ic_theory.specs.Starts.{Start}
use Rattle.ic_theory.specs.Nets.{net_of, IsSameNet}
use Rattle.ic_theory.specs.Listed.{shown}
use Rattle.ic_theory.specs.Sound.{IsSound}
use Rattle.ic_theory.proofs.NormalEnds.{normal_one}
use Rattle.ic_set.specs.Views.{standing}
use Rattle.ic_journal.specs.Views.{BenchView, set_of}
use Rattle.ic_text.specs.NetText.{net_text}
use Rattle.ic_cause.specs.Journals.{IsJournal, journal_text}
use Rattle.ic_cause.proofs.OneJournal.{one_journal}
use Rattle.ic_journal.specs.Reducing.{IsNormal}
use Rattle.ic_session.specs.NormalEnds.{EndsNormal, IsNetOf, IsJournalOf}
use Rattle.ic_session.proofs.OneTelling.{one_listed}

-- the events that stand on a bench
abbrev events_on : BenchView → List Event
events_on v = standing (set_of v)

-- sweeps keep the start
one_start : {old new other after : BenchView} {fired count : ℕ} → old.start ≡ other.start → EndsNormal old fired new → EndsNormal other count after → after.start ≡ new.start
one_start e h k = k.sweep.start ∙ sym e ∙ sym h.sweep.start

-- the same events stand in the end
one_set : {old new other after : BenchView} {fired count : ℕ} → old.start ≡ other.start → EndsNormal old fired new → EndsNormal other count after → Alike (events_on new) (events_on after)
one_set {new = new} {after = after} e h k =
    let one = one_start e h k in
    let sound = subst (λ (s : Start). IsSound s (events_on after)) one k.bench.set.sound in
    let normal = subst (λ (s : Start). IsNormal s (events_on after)) one k.sweep.ends in
    normal_one new.start h.bench.set.proper h.bench.set.sound sound h.sweep.ends normal

-- and print one net
pub one_net_text : (old new other after : BenchView) (fired count : ℕ) (x y : List ℕ) → old.start ≡ other.start → EndsNormal old fired new → EndsNormal other count after
    → IsNetOf new x → IsNetOf after y → x ≡ y
one_net_text old new other after fired count x y e h k m n =
    let one = one_start e h k in
    let shows = subst (λ (s : Start). IsSameNet (shown n.net) (net_of s (events_on after))) one n.shows in
    let listed = one_listed new.start (one_set e h k) h.bench.set.sound h.bench.set.proper m.net n.net m.listing n.listing m.shows shows in
    m.printed ∙ ap (net_text new.start.names) listed ∙ sym (ap (λ (s : Start). net_text s.names n.net) one) ∙ sym n.printed

-- and one journal
pub one_journal_text : (old new other after : BenchView) (fired count : ℕ) (x y : List ℕ) → old.start ≡ other.start → EndsNormal old fired new → EndsNormal other count after
    → IsJournalOf new x → IsJournalOf after y → x ≡ y
one_journal_text old new other after fired count x y e h k m n =
    let journal = subst (λ (s : Start). IsJournal s (events_on after) n.ranked) (one_start e h k) n.journal in
    m.printed ∙ ap journal_text (one_journal new.start (one_set e h k) h.bench.set.sound m.ranked n.ranked m.journal journal) ∙ sym n.printed

-- where the same stood before, as many were fired
pub as_many_fired : (old new other after : BenchView) (fired count : ℕ) → old.start ≡ other.start → Alike (standing (set_of old)) (standing (set_of other))
    → EndsNormal old fired new → EndsNormal other count after → fired ≡ count
as_many_fired old new other after fired count e before h k =
    let a = alike-length before in
    let b = alike-length (one_set e h k) in
    let c = alike-length h.sweep.extends.standing in
    let d = alike-length k.sweep.extends.standing in
    let f = length-append h.sweep.extends.fresh (events_on old) in
    let g = length-append k.sweep.extends.fresh (events_on other) in
    let n = h.sweep.extends.count in
    let m = k.sweep.extends.count in
    omega arith
