-- One listed event more that is fired in its turn, or is hindered.
use Rattle.std.proofs.Common.{◌≡◌, ◌+◌, ◌*◌, ◌≤◌, Bool, true, false, cond, List, ◌∷◌, [], length, inl, inr, Option, Some, None, sym, ap, subst, arith, ◌∙◌, length-append}
use Rattle.std.specs.BTreeMap.{is_at}
use Rattle.std.specs.Ordering.{is_gt}
use Rattle.ic_name.specs.Events.{Event, Pair, pair, pair_cmp}
use Rattle.ic_name.specs.declared.ids.EventId.{EventId}
use Rattle.ic_set.specs.declared.pairs.ActivePair.{ActivePair}
use Rattle.ic_set.specs.Pairs.{IsPairOf}
use Rattle.ic_set.specs.Views.{standing}
use Rattle.ic_journal.specs.Benches.{IsBench}
use Rattle.ic_journal.specs.Views.{BenchView, set_of}
use Rattle.ic_undo.specs.declared.turns.Hindrance.{Hindrance}
use Rattle.ic_undo.specs.declared.turns.Hindrance.TheVariants as hindrance
use Rattle.ic_undo.specs.Absorbing.{IsLeastListed}
use Rattle.ic_undo.specs.Coming.{Comes, FiresReady, Hinders, IsNoted, StopsComing}
use Rattle.ic_undo.specs.Ready.{IsMissingName, TellsMissing, AreReady}
use Rattle.ic_undo.proofs.ComingEvents.{none_came, came_length, one_more}
use Rattle.ic_undo.proofs.MissingNames.{active_missing, missing_after}
use Rattle.ic_undo.proofs.ReadyPairs.{least_ready, ready_after}
use Rattle.ic_undo.proofs.StayedBenches.{unchanged}

-- of two lines for each listed event those are left that the events that came haven't taken
pub lines_left : (old mid : BenchView) (names : List Pair) (ids : List EventId) → Comes old names ids mid → 2 * length names ≤ old.room → 2 * length names ≤ mid.room + length ids
lines_left old mid names ids c room = let r = c.fired.room in let n = came_length old mid names ids c in omega (arith, r, n, room)

-- where memory ran out at first no events came
pub nothing_came : (v : BenchView) (names : List Pair) → IsBench v → (ids : List EventId) → ids ≡ [] → (why : Hindrance) → why ≡ hindrance.Memory → StopsComing v names ids why v
nothing_came v names lawful ids none why is = subst (λ w. StopsComing v names ids w v) (sym is) (record {
  between = v;
  lawful = lawful;
  comes = subst (λ xs. Comes v names xs v) (sym none) (none_came v names);
  hinders = unchanged v;
})

module _ (old mid : BenchView) (names : List Pair) (ids : List EventId) (lawful : IsBench mid) (comes : Comes old names ids mid) (waits : Pair → Bool) (tells : TellsMissing (set_of mid) names waits)
    (at : Pair → Option ActivePair) (ready : AreReady (set_of mid) names at) (n : Pair) (p : ActivePair) (there : at n ≡ Some p) where
  -- a ready pair is that of an active event of the name
  pub ready_event : (e : Event) × IsPairOf (set_of mid) e p × (pair e ≡ n)
  ready_event = (ready.only n p there).1

  -- whose name was missing
  pub was_missing : waits n ≡ true
  was_missing = (tells n).1 ((ready.only n p there).0, subst (IsMissingName (set_of mid)) ready_event.2 (active_missing (set_of mid) ready_event.0 ready_event.1.active))

  -- where it is the least one, it is its turn
  module _ (least : (q : Pair) (r : ActivePair) → at q ≡ Some r → is_gt (pair_cmp n q) ≡ false) where
    in_turn : IsLeastListed mid.start (standing (set_of mid)) names ready_event.0
    in_turn = least_ready mid names at lawful.set ready n ready_event.0 p ready_event.1 ready_event.2 there least

    module _ (new : BenchView) (lawful' : IsBench new) where
      -- where it was fired and its id is noted, it came
      came : (more : List EventId) → IsNoted mid ready_event.0 ids more new → Comes old names more new
      came more noted = subst (λ xs. Comes old names xs new) (sym noted.2) (one_more old mid new names ids ready_event.0 noted.0 lawful lawful' comes in_turn noted.1)

      -- once it is fired
      module _ (left : Pair → Bool) (out : (q : Pair) → left q ≡ cond (is_at (pair_cmp n) q) false (waits q)) (rest at' : Pair → Option ActivePair) (gone : (q : Pair) → rest q ≡ cond (is_at (pair_cmp n) q) None (at q)) (more : List EventId)
          (fires : FiresReady mid ready_event.0 left rest at' ids more new) where
        -- it came
        pub comes_too : Comes old names more new
        comes_too = came more fires.noted

        -- its name is missing no more
        pub missing_then : TellsMissing (set_of new) names left
        missing_then = missing_after (set_of mid) (set_of new) names waits left ready_event.0 (length mid.lines) fires.noted.0 fires.noted.1.1 tells
            (subst (λ m. (q : Pair) → left q ≡ cond (is_at (pair_cmp m) q) false (waits q)) (sym ready_event.2) out)

        -- and what is active then is ready
        pub ready_then : AreReady (set_of new) names at'
        ready_then = ready_after (set_of mid) (set_of new) lawful.set lawful'.set names ready_event.0 p ready_event.1 (length mid.lines) fires.noted.0 fires.noted.1.1 left fires.awoken at rest at' fires.awakes ready
            (subst (λ m. (q : Pair) → rest q ≡ cond (is_at (pair_cmp m) q) None (at q)) (sym ready_event.2) gone) missing_then fires.adds

        -- there is an id more
        pub ids_then : length more ≡ length ids + 1
        ids_then = ap length fires.noted.2 ∙ length-append ids (fires.noted.0 ∷ [])

      -- where it was hindered no more events come
      pub stops_then : (why : Hindrance) (more : List EventId) → Hinders mid ready_event.0 why ids more new → StopsComing old names more why new
      stops_then hindrance.Deep more h = record { between = mid; lawful = lawful; comes = subst (λ xs. Comes old names xs mid) (sym h.1) comes; hinders = (ready_event.0, in_turn, h.0) }
      stops_then hindrance.Full more h = record { between = mid; lawful = lawful; comes = subst (λ xs. Comes old names xs mid) (sym h.1) comes; hinders = (ready_event.0, in_turn, h.0) }
      stops_then hindrance.Memory more (inl h) = record { between = mid; lawful = lawful; comes = subst (λ xs. Comes old names xs mid) (sym h.1) comes; hinders = h.0 }
      stops_then hindrance.Memory more (inr h) = record { between = new; lawful = lawful'; comes = came more h; hinders = unchanged new }

      -- and there is room to undo those that came
      pub room_then : (why : Hindrance) (more : List EventId) → 2 * length names ≤ old.room → length ids + 1 ≤ length names → Hinders mid ready_event.0 why ids more new → length more ≤ new.room
      room_then hindrance.Deep more room few h = let l = lines_left old mid names ids comes room in let r = h.0.0.room in let s = ap length h.1 in omega (arith, l, r, s, few)
      room_then hindrance.Full more room few h = let l = lines_left old mid names ids comes room in let r = h.0.0.room in let s = ap length h.1 in omega (arith, l, r, s, few)
      room_then hindrance.Memory more room few (inl h) = let l = lines_left old mid names ids comes room in let r = h.0.room in let s = ap length h.1 in omega (arith, l, r, s, few)
      room_then hindrance.Memory more room few (inr h) =
          let l = lines_left old mid names ids comes room in
          let r = h.1.0.room in
          let s = ap length h.2 ∙ length-append ids (h.0 ∷ []) in
          omega (arith, l, r, s, few)
