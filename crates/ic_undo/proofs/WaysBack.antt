-- Going back: what isn't in the mark is undone, then what is missing is fired.
use Rattle.std.proofs.Common.{◌≡◌, ◌+◌, ◌≤◌, ◌<◌, List, [], map, reverse, length, inl, inr, refl, sym, ap, subst, arith, ◌∙◌, length-append}
use Rattle.std.proofs.lemmas.List.{length-map, append-nil}
use Rattle.ic_name.specs.Events.{Event}
use Rattle.ic_name.specs.declared.ids.EventId.{EventId}
use Rattle.ic_name.specs.declared.limits.TheConstants.{MAX_LINES}
use Rattle.ic_path.specs.Orders.{IsIn, Alike}
use Rattle.ic_path.proofs.Alikes.{alike-length}
use Rattle.ic_theory.specs.Sound.{IsSound}
use Rattle.ic_roster.specs.Rosters.{Stander}
use Rattle.ic_set.specs.Orders.{AreInOrder}
use Rattle.ic_set.specs.Views.{standing}
use Rattle.ic_journal.specs.Benches.{IsBench}
use Rattle.ic_journal.specs.Calls.{Stays}
use Rattle.ic_journal.specs.Views.{BenchView, set_of}
use Rattle.ic_undo.specs.declared.faults.Counts.{Counts}
use Rattle.ic_journal.specs.Undone.{AreUndone, undoing, AreFree, AreIdsOfFree}
use Rattle.ic_undo.specs.Marks.{MarkView, IsMark}
use Rattle.ic_undo.specs.GoingBack.{IsOutside, AreOutside, AreMissing, AreFirable, AreFired, AreSomeFired, IsBack, IsPartWay, DontFitBack}
use Rattle.ic_undo.proofs.Backs.{alike_reverse}
use Rattle.ic_undo.proofs.CanonicalOrders.{listed_in_order}
use Rattle.ic_undo.proofs.ChosenOrders.{choose, chosen_in_order}
use Rattle.ic_undo.proofs.FirableEvents.{firable}
use Rattle.ic_undo.proofs.FiredInTurn.{none_fired}
use Rattle.ic_undo.proofs.FreeOrders.{in_free_order}
use Rattle.ic_undo.proofs.MarkedEvents.{over_start, outside_with_dependents, inside_or_not, stands_or_not, missing_chosen, mark_parts, causes_before, mark_stands}
use Rattle.ic_undo.proofs.PlacedEvents.{order_length}
use Rattle.ic_undo.proofs.StayedBenches.{none_undone, free_still, undone_still}
use Rattle.ic_undo.proofs.Unwinds.{last_first}

module _ (v : BenchView) (ok : IsBench v) (m : MarkView) (same : m.start ≡ v.start) (k : IsMark m) where
  -- the mark, over the bench's start
  over : IsMark (record { start = v.start; events = m.events })
  over = over_start v m same k

  -- what isn't in the mark can be listed in canonical order
  listed_outside : (ids : List EventId) × AreInOrder (set_of v) (IsOutside m) ids
  listed_outside =
      let a = listed_in_order (set_of v) ok.set in
      let c = choose (IsOutside m) a.1.order (λ x i. inside_or_not v ok.set m.events over x (a.1.each.only x i).0) in
      (map (λ (x : Stander). x.id) c.0, chosen_in_order (set_of v) (IsOutside m) a.1 c.1 refl)

  -- and so can what is missing
  listed_missing : (came : List Event) × AreMissing v m came
  listed_missing =
      let c = choose (λ e. IsIn e (standing (set_of v)) → ⊥) m.events (λ e i. elim (stands_or_not v ok.set m.events over e i) [ inl j ↦ inr (λ n. n j) | inr n ↦ inl n ]) in
      (c.0, subst (λ s. AreMissing v (record { start = s; events = m.events }) c.0) (sym same) (missing_chosen v ok.set m.events over c.1))

  -- where only the room has changed, nothing was done yet
  pub nothing_done : (new : BenchView) → Stays v new → IsPartWay v m (record { undone = 0; fired = 0 }) new
  nothing_done new s = record {
    gone = [];
    others = reverse listed_outside.1.order;
    came = [];
    behind = listed_missing.0;
    outside = last_first v (IsOutside m) listed_outside.0 listed_outside.1;
    missing = listed_missing.1;
    did = record { between = new; undone = none_undone v new s; fired = none_fired new; undone_count = refl; fired_count = refl };
    in_turn = inl (refl, refl);
  }

  module _ (ids : List EventId) (came : List Event) (a : AreInOrder (set_of v) (IsOutside m) ids) (missing : AreMissing v m came) where
    -- where a line for each of these doesn't fit
    pub dont_fit_back : MAX_LINES < length v.lines + (length ids + length came) → DontFitBack v m
    dont_fit_back l =
        let one = alike-length (alike_reverse a.order) in
        let two = order_length a.order ids a.named in
        (reverse a.order, came, last_first v (IsOutside m) ids a, missing, omega (arith, l, one, two))

    -- what isn't in the mark can be undone from the last one on
    free : AreFree v a.order
    free = in_free_order v (IsOutside m) ids ok (outside_with_dependents v ok.set m.events over) a

    module _ (ready : BenchView) (s : Stays v ready) where
      pub free_ids : AreIdsOfFree ready ids
      free_ids = (a.order, free_still v ready a.order s free, a.named)

      module _ (mid : BenchView) (lawful : IsBench mid) (u : (order : List Stander) → AreFree ready order → map (λ x. x.id) order ≡ ids → AreUndone ready (reverse order) mid) where
        -- it is undone
        undone : AreUndone v (reverse a.order) mid
        undone = undone_still v ready mid (reverse a.order) s (u a.order (free_still v ready a.order s free) a.named)

        -- as many as there are ids
        pub gone_length : length (reverse a.order) ≡ length ids
        gone_length = sym (alike-length (alike_reverse a.order)) ∙ order_length a.order ids a.named

        out : AreOutside v m (reverse a.order)
        out = last_first v (IsOutside m) ids a

        sound : IsSound v.start (standing (set_of mid))
        sound = subst (λ z. IsSound z (standing (set_of mid))) undone.start lawful.set.sound

        over_missing : AreMissing v (record { start = v.start; events = m.events }) came
        over_missing = subst (λ z. AreMissing v (record { start = z; events = m.events }) came) same missing

        -- then what is missing can be fired
        pub missing_firable : AreFirable mid.start (standing (set_of mid)) came
        missing_firable = subst (λ z. AreFirable z (standing (set_of mid)) came) (sym undone.start)
            (firable v.start ok.set.proper m.events over.sound over.shallow over.few_agents (standing (set_of mid)) came
            (mark_parts v ok.set m.events over mid (reverse a.order) came sound out undone over_missing) (causes_before v ok.set m.events over mid (reverse a.order) came sound out undone over_missing))

        -- within the history
        pub missing_fit : IsBench ready → length ids + length came ≤ ready.room → length mid.lines + length came ≤ MAX_LINES
        missing_fit l fit =
            let short = l.running.short in
            let stayed = ap length s.lines in
            let lines = ap length undone.lines in
            let two = length-append v.lines (map undoing (reverse a.order)) in
            let three = length-map (reverse a.order) undoing in
            let four = gone_length in
            omega (arith, short, stayed, lines, two, three, four, fit)

        -- where all of it is fired the bench is back
        pub is_back : (new : BenchView) (counts : Counts) → AreFired mid came new → counts.undone ≡ length ids → counts.fired ≡ length came → IsBack v m counts new
        is_back new counts f one two = record {
          gone = reverse a.order;
          came = came;
          outside = out;
          missing = missing;
          did = record { between = mid; undone = undone; fired = f; undone_count = one ∙ sym gone_length; fired_count = two };
        }

        -- and just the mark's events stand
        pub back_stands : (new : BenchView) → AreFired mid came new → Alike m.events (standing (set_of new))
        back_stands new f = mark_stands v ok.set m.events over mid (reverse a.order) came sound out undone over_missing new f

        -- where some of it is, the bench is on its way
        pub is_part_way : (new : BenchView) (counts : Counts) → AreSomeFired mid came counts.fired new → counts.undone ≡ length ids → IsPartWay v m counts new
        is_part_way new counts f one = record {
          gone = reverse a.order;
          others = [];
          came = f.came;
          behind = f.behind;
          outside = subst (λ xs. AreOutside v m xs) (sym (append-nil (reverse a.order))) out;
          missing = subst (λ xs. AreMissing v m xs) (sym f.parts) missing;
          did = record { between = mid; undone = undone; fired = f.fired; undone_count = one ∙ sym gone_length; fired_count = f.fired_count };
          in_turn = inr (refl, f.left);
        }
