-- Listed events that all stand, or of which none stays.
use Rattle.std.proofs.Common.{◌≡◌, ℕ, ◌+◌, ◌*◌, ◌≤◌, Bool, true, false, List, [], ◌∷◌, ◌++◌, length, refl, sym, ap, subst, arith, ◌∙◌}
use Rattle.std.proofs.lemmas.List.{append-nil}
use Rattle.std.specs.Ordering.{is_gt}
use Rattle.ic_name.specs.Events.{Event, Pair, pair_cmp}
use Rattle.ic_name.specs.declared.ids.EventId.{EventId}
use Rattle.ic_name.specs.declared.lines.Call.{Call}
use Rattle.ic_name.specs.declared.lines.Call.TheVariants.{Fire}
use Rattle.ic_name.specs.declared.lines.Line.{Line}
use Rattle.ic_name.specs.declared.lines.Reply.{Reply}
use Rattle.ic_name.specs.declared.lines.Reply.TheVariants as reply
use Rattle.ic_path.specs.Orders.{Alike}
use Rattle.ic_path.proofs.Alikes.{alike_back, alike_then}
use Rattle.ic_theory.specs.Active.{IsActive}
use Rattle.ic_theory.specs.Machine.{State, events, IsDeep, IsFull, MachineStep, not_active, deep, full, fired, not_standing, held, undone}
use Rattle.ic_theory.specs.Starts.{Start}
use Rattle.ic_theory.proofs.Normal.{active-alike}
use Rattle.ic_set.specs.Changes.{IsSame}
use Rattle.ic_set.specs.Views.{standing}
use Rattle.ic_journal.specs.Benches.{IsAt, IsBench}
use Rattle.ic_journal.specs.Calls.{Stays}
use Rattle.ic_journal.specs.Views.{BenchView, set_of}
use Rattle.ic_journal.proofs.MachineSteps.{events_at}
use Rattle.ic_journal.proofs.SameSets.{full-alike}
use Rattle.ic_undo.specs.declared.faults.AbsorbFault.TheVariants as absorb
use Rattle.ic_undo.specs.declared.obstacle.Obstacle.{Obstacle}
use Rattle.ic_undo.specs.declared.turns.Hindrance.{Hindrance}
use Rattle.ic_undo.specs.declared.turns.Hindrance.TheVariants as hindrance
use Rattle.ic_undo.specs.Absorbing.{Fits, Absorbs, AbsorbsNone, NoneIsNext, TakesBack, refusing}
use Rattle.ic_undo.specs.Obstacles.{IsObstacle}
use Rattle.ic_journal.specs.Undone.{AreIdsOfFree, AreUndoneFrom}
use Rattle.ic_undo.specs.Coming.{Comes, NoneListed, HindersNext, fault_from}
use Rattle.ic_undo.specs.Ready.{TellsMissing}
use Rattle.ic_undo.proofs.ComingEvents.{none_came, stands_now, came_length, next_listed, comes_from}
use Rattle.ic_undo.proofs.MissingNames.{all_stand, least_never}
use Rattle.ic_undo.proofs.Obstacles.{obstacle-alike}
use Rattle.ic_undo.proofs.StayedBenches.{unchanged, none_undone, free_same}
use Rattle.ic_undo.proofs.TakenBack.{taken_back}
use Rattle.ic_set.proofs.Admissions.{same_self}

-- why a machine answers that an event is deep
deep_reply : {s : Start} {st next : State} {call : Call} {r : Reply} (e : Event) → call ≡ Fire e → r ≡ reply.Deep → MachineStep s st call r next → IsDeep e
deep_reply e same is (not_active n) = cc
deep_reply e same is (deep {e = f} a d) = let q : f ≡ e = cc in subst IsDeep q d
deep_reply e same is (full a n f) = cc
deep_reply e same is (fired a n m) = cc
deep_reply e same is (not_standing n) = cc
deep_reply e same is (held a b c d) = cc
deep_reply e same is (undone p j n) = cc

-- and that there would be too many agents
full_reply : {s : Start} {st next : State} {call : Call} {r : Reply} (e : Event) → call ≡ Fire e → r ≡ reply.Full → MachineStep s st call r next → ¬ (IsDeep e) × IsFull s (events st) e
full_reply e same is (not_active n) = cc
full_reply e same is (deep a d) = cc
full_reply {s} {st} e same is (full {e = f} a n m) = let q : f ≡ e = cc in (λ d. n (subst IsDeep (sym q) d), subst (IsFull s (events st)) q m)
full_reply e same is (fired a n m) = cc
full_reply e same is (not_standing n) = cc
full_reply e same is (held a b c d) = cc
full_reply e same is (undone p j n) = cc

-- with the reserved room the history isn't too long
pub reserved_fits : (old start : BenchView) (names : List Pair) → Stays old start → IsBench start → 2 * length names ≤ start.room → Fits old names
reserved_fits old start names s lawful room = let short = lawful.running.short in let same = ap length s.lines in omega (arith, short, same, room)

-- nothing was done for want of memory
pub nothing_absorbed : (v : BenchView) (names : List Pair) → IsBench v → Fits v names → AbsorbsNone v names absorb.Memory v
unfolding none_came
nothing_absorbed v names lawful fits =
    ([], taken_back v v v v names [] [] lawful lawful lawful (none_came v names) (same_self (set_of v)) (sym (append-nil v.lines)) (omega arith) (none_undone v v (unchanged v)) fits)

module _ (old start : BenchView) (names : List Pair) (lawful : IsBench old) (stays : Stays old start) (fits : Fits old names) where
  module _ (mid : BenchView) (lawful' : IsBench mid) (ids : List EventId) (came : Comes start names ids mid) (none : NoneListed mid names) (test : Pair → Bool) (tells : TellsMissing (set_of mid) names test) where
    -- the events that came, from the beginning
    whole : Comes old names ids mid
    whole = comes_from old start mid names ids stays came

    -- they can be undone from the last one on
    pub free_ids : AreIdsOfFree mid ids
    free_ids = (whole.fired.came, whole.free, whole.under)

    -- where no name is missing all listed events stand
    pub absorbed : (count : ℕ) → count ≡ length ids → ((p : Pair) → test p ≡ false) → Absorbs old names count mid
    absorbed count counted empty = record {
      fits = fits;
      came = whole.came;
      in_turn = whole.in_turn;
      fired = whole.fired;
      stand = all_stand mid names test tells empty;
      fired_count = counted ∙ sym (came_length old mid names ids whole);
    }

    -- else the least one that is missing is never active, and what is in its way there is so over all that stood and came
    pub never_absorbed : (new : BenchView) → IsBench new → AreUndoneFrom mid ids new → (p : Pair) (why : Obstacle) → test p ≡ true → ((q : Pair) → test q ≡ true → is_gt (pair_cmp p q) ≡ false)
        → IsObstacle mid.start (standing (set_of mid)) p why → AbsorbsNone old names (absorb.NeverActive p why) new
    never_absorbed new after u p why there least obstacle = (
      least_never old mid names ids lawful' whole test tells none p there least,
      (
        whole.came,
        none_next,
        obstacle-alike old.start p why (alike_back (stands_now old mid names ids whole)) (subst (λ s. IsObstacle s (standing (set_of mid)) p why) whole.fired.start obstacle),
        taken_back old mid mid new names ids [] lawful lawful' after whole (same_self (set_of mid)) (sym (append-nil mid.lines)) (omega arith) (u whole.fired.came whole.free whole.under) fits,
      ),
    )
      where
        none_next : NoneIsNext old names whole.came
        none_next e a i = none e (subst (λ s. IsActive s (standing (set_of mid)) e) (sym whole.fired.start) (active-alike old.start (stands_now old mid names ids whole) a)) i

  module _ (mid back : BenchView) (between : IsBench mid) (ids : List EventId) (came : Comes start names ids mid) where
    -- the events that came, from the beginning
    until : Comes old names ids mid
    until = comes_from old start mid names ids stays came

    -- what hindered the next one changed nothing that stands
    same_after : (why : Hindrance) → HindersNext mid names why back → IsSame (set_of mid) (set_of back)
    same_after hindrance.Deep h = h.2.1
    same_after hindrance.Full h = h.2.1
    same_after hindrance.Memory h = h.same

    -- so they can be undone from the last one on
    pub free_after : (why : Hindrance) → HindersNext mid names why back → AreIdsOfFree back ids
    free_after why h = (until.fired.came, free_same mid back until.fired.came (same_after why h) until.free, until.under)

    module _ (new : BenchView) (after : IsBench new) (u : AreUndoneFrom back ids new) where
      -- where they are, nothing but lines came
      gone : (said : List Line) → (same : IsSame (set_of mid) (set_of back)) → back.lines ≡ mid.lines ++ said → mid.room ≤ back.room + length said → TakesBack old names until.came said new
      gone said same lines room = taken_back old mid back new names ids said lawful between after until same lines room (u until.fired.came (free_same mid back until.fired.came same until.free) until.under) fits

      -- and that is why none is absorbed
      pub none_absorbed : (why : Hindrance) → HindersNext mid names why back → AbsorbsNone old names (fault_from why) new
      none_absorbed hindrance.Deep (e, l, h) =
          let at = between.running.at in
          let answer = (h.0.step between.running.state at).1 in
          (until.came, e, next_listed old mid names ids e until l, deep_reply e refl refl answer, gone (refusing e reply.Deep ∷ []) h.1 h.0.lines h.0.room)
      none_absorbed hindrance.Full (e, l, h) =
          let at = between.running.at in
          let answer = full_reply e refl refl (h.0.step between.running.state at).1 in
          let stood = alike_then (events_back at) (alike_back (stands_now old mid names ids until)) in
          let many = full-alike old.start e stood (subst (λ s. IsFull s (events between.running.state) e) until.fired.start answer.1) in
          (until.came, e, next_listed old mid names ids e until l, answer.0, many, gone (refusing e reply.Full ∷ []) h.1 h.0.lines h.0.room)
        where
          events_back : IsAt mid between.running.state → Alike (events between.running.state) (standing (set_of mid))
          events_back at = alike_back (events_at mid at)
      none_absorbed hindrance.Memory h = (until.came, gone [] h.same (h.lines ∙ sym (append-nil mid.lines)) (let r = h.room in omega (arith, r)))
