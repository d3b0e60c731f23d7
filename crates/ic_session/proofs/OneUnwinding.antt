-- The undoing of many events has one answer, and leaves one state up to order.
use Rattle.std.proofs.Common.{◌≡◌, ℕ, List, length, refl, sym, ap, subst, ◌∙◌, arith}
use Rattle.std.proofs.lemmas.List.{length-map}
use Rattle.ic_name.specs.Events.{Event, Pair}
use Rattle.ic_path.proofs.Alikes.{alike_back}
use Rattle.ic_theory.specs.Starts.{Start, IsProper}
use Rattle.ic_theory.specs.Machine.{Standing, State, events}
use Rattle.ic_answer.specs.CommandReplies.{IsNamed}
use Rattle.ic_session.specs.States.{IsReached}
use Rattle.ic_theory.specs.Machine.{AreSame}
use Rattle.ic_answer.specs.Texts.{unwound_text, undone_all_text}
use Rattle.ic_answer.specs.Unwinding.{RestsOn, IsAnyEvent, AreLastFirst, DontFit, events_of, AreUndoneInTurn}
use Rattle.ic_session.proofs.OneQuery.{left_same, one_word, named_too, named_once}
use Rattle.ic_session.proofs.OneTelling.{rests-alike, one_last_first}
use Rattle.ic_session.proofs.SameStates.{reached_kept}
use Rattle.ic_session.proofs.Saying.{UnwindSays, unwound, UndoAllSays}
use Rattle.ic_session.proofs.UndoneRuns.{lines_fit, undone_once}
use Rattle.ic_theory.proofs.SameStates.{same_back, same_events}

-- where events were undone a history had room for a line of each
fits : (s : Start) {st tt next : State} (xs : List Standing) (es : List Event) → IsReached s st → AreSame st tt → events_of xs ≡ es → AreUndoneInTurn s st xs next → DontFit tt es → ⊥
fits s xs es r same e u d =
    let room = lines_fit s r u in
    let many = length-map xs (λ (x : Standing). x.event) in
    let long = ap length e in
    let lines = same.lines in
    omega (arith, room, many, long, lines, d)

module _ (s : Start) (ok : IsProper s) {st tt : State} (h : IsReached s st) (k : IsReached s tt) (same : AreSame st tt) where
  -- one list of what rests on an event of the name
  one_list : {p : Pair} (x y : Standing) (es fs : List Event) → IsNamed st p x → IsNamed tt p y
      → AreLastFirst s (events st) (RestsOn s (events st) x.event) es → AreLastFirst s (events tt) (RestsOn s (events tt) y.event) fs → es ≡ fs
  one_list x y es fs i j l m =
      let one : y ≡ x = sym (named_once s ok h k same x y i j) in
      let m' = subst (λ (z : Standing). AreLastFirst s (events tt) (RestsOn s (events tt) z.event) fs) one m in
      one_last_first s (same_events same) (reached_kept s ok h).sound es fs (λ e r. rests-alike s (same_events same) r) (λ e r. rests-alike s (alike_back (same_events same)) r) l m'

  -- the undoing of an event with all that rests on it
  pub one_unwind : {next after : State} {p : Pair} {x y : List ℕ} → UnwindSays s st p x next → UnwindSays s tt p y after → (x ≡ y) × AreSame next after
  one_unwind (UnwindSays.no_event n e u) (UnwindSays.no_event m f v) = (one_word e f refl, left_same same u v)
  one_unwind (UnwindSays.no_event n e u) (UnwindSays.no_lines j m d f v) = absurd (n _ (named_too (same_back same) j))
  one_unwind (UnwindSays.no_event n e u) (unwound j m b f) = absurd (n _ (named_too (same_back same) j))
  one_unwind (UnwindSays.no_lines i l d e u) (UnwindSays.no_event n f v) = absurd (n _ (named_too same i))
  one_unwind (UnwindSays.no_lines i l d e u) (UnwindSays.no_lines j m d' f v) = (one_word e f refl, left_same same u v)
  one_unwind (UnwindSays.no_lines {y = z} {es = es} i l d e u) (unwound {y = w} {xs = ys} j m b f) = absurd (fits s ys es k (same_back same) (sym (one_list z w es (events_of ys) i j l m)) b d)
  one_unwind (unwound i l a e) (UnwindSays.no_event n f v) = absurd (n _ (named_too same i))
  one_unwind (unwound {y = z} {xs = xs} i l a e) (UnwindSays.no_lines {y = w} {es = fs} j m d f v) = absurd (fits s xs fs h same (one_list z w (events_of xs) fs i j l m) a d)
  one_unwind (unwound {y = z} {xs = xs} i l a e) (unwound {y = w} {xs = ys} j m b f) =
      let one = one_list z w (events_of xs) (events_of ys) i j l m in
      (one_word e f (ap unwound_text one), undone_once s ok h k same one a b)

  -- one list of all events
  one_list_of_all : (es fs : List Event) → AreLastFirst s (events st) IsAnyEvent es → AreLastFirst s (events tt) IsAnyEvent fs → es ≡ fs
  one_list_of_all es fs l m = one_last_first s (same_events same) (reached_kept s ok h).sound es fs (λ e r. r) (λ e r. r) l m

  -- the undoing of all events
  pub one_undo_all : {next after : State} {x y : List ℕ} → UndoAllSays s st x next → UndoAllSays s tt y after → (x ≡ y) × AreSame next after
  one_undo_all (UndoAllSays.no_lines l d e u) (UndoAllSays.no_lines m d' f v) = (one_word e f refl, left_same same u v)
  one_undo_all (UndoAllSays.no_lines {es = es} l d e u) (UndoAllSays.undone {xs = ys} m b f) = absurd (fits s ys es k (same_back same) (sym (one_list_of_all es (events_of ys) l m)) b d)
  one_undo_all (UndoAllSays.undone {xs = xs} l a e) (UndoAllSays.no_lines {es = fs} m d f v) = absurd (fits s xs fs h same (one_list_of_all (events_of xs) fs l m) a d)
  one_undo_all (UndoAllSays.undone {xs = xs} l a e) (UndoAllSays.undone {xs = ys} m b f) =
      let one = one_list_of_all (events_of xs) (events_of ys) l m in
      let count : length xs ≡ length ys = sym (length-map xs (λ (x : Standing). x.event)) ∙ ap length one ∙ length-map ys (λ (x : Standing). x.event) in
      (one_word e f (ap undone_all_text count), undone_once s ok h k same one a b)
