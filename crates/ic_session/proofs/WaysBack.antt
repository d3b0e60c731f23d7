-- Going back to one mark from the same state, a bench comes to the same state.
use Rattle.std.proofs.Common.{◌≡◌, ◌+◌, ℕ, List, length, sym, ap, subst, ◌∙◌, arith}
use Rattle.std.proofs.lemmas.List.{length-map}
use Rattle.ic_name.specs.Events.{Event}
use Rattle.ic_name.specs.declared.lines.Call.TheVariants.{Fire}
use Rattle.ic_name.specs.declared.lines.Reply.TheVariants.{Fired}
use Rattle.ic_path.specs.Orders.{Alike}
use Rattle.ic_path.proofs.Alikes.{alike_back, alike-in}
use Rattle.ic_theory.specs.Starts.{Start, IsProper}
use Rattle.ic_theory.specs.Sound.{IsSound}
use Rattle.ic_theory.specs.Machine.{Standing, State, MachineStep}
use Rattle.ic_answer.specs.Unwinding as unwinding
use Rattle.ic_answer.specs.Unwinding.{AreUndoneInTurn, events_of}
use Rattle.ic_desk.specs.Backs.{AreOutside, AreMissing, AreFired, none, more, DontFit, GoesBack, GoesPartWay}
use Rattle.ic_session.specs.States.{IsReached}
use Rattle.ic_theory.specs.Machine.{AreSame}
use Rattle.ic_session.proofs.OneStep.{one_line_more, reached_next, one_step}
use Rattle.ic_cause.proofs.OneJournal.{canonical_same}
use Rattle.ic_session.proofs.OneTelling.{one_last_first}
use Rattle.ic_session.proofs.SameStates.{reached_kept}
use Rattle.ic_session.proofs.SortedLists.{each_same}
use Rattle.ic_session.proofs.UndoneRuns.{reached_undone, undone_once}
use Rattle.ic_theory.proofs.SameStates.{same_events}

module _ (s : Start) where
  -- events that are fired in turn lead on to a state within the limit
  reached_fired : {st next : State} {es : List Event} → IsReached s st → AreFired s st es next → IsReached s next
  reached_fired r none = r
  reached_fired r (more few a rest) = reached_fired (reached_next s r few a) rest

  -- each that is undone, or fired, is one line more
  undone_lines : {st next : State} {xs : List Standing} → IsReached s st → AreUndoneInTurn s st xs next
      → next.lines ≡ st.lines + length xs
  undone_lines r unwinding.none = omega arith
  undone_lines r (unwinding.more i few a rest) =
      let n = one_line_more s r a in
      let lines = undone_lines (reached_next s r few a) rest in
      omega (arith, n, lines)

  fired_lines : {st next : State} {es : List Event} → IsReached s st → AreFired s st es next
      → next.lines ≡ st.lines + length es
  fired_lines r none = omega arith
  fired_lines r (more few a rest) =
      let n = one_line_more s r a in
      let lines = fired_lines (reached_next s r few a) rest in
      omega (arith, n, lines)

  -- going back leads to a reached state, and so does going a part of the way
  pub reached_back : {st next : State} {es : List Event} {m n : ℕ} → IsReached s st → GoesBack s st es m n next
      → IsReached s next
  reached_back r g = reached_fired (reached_undone s r g.undid) g.did

  pub reached_part_way : {st next : State} {es : List Event} {m n : ℕ} → IsReached s st
      → GoesPartWay s st es m n next → IsReached s next
  reached_part_way r g = reached_fired (reached_undone s r g.undid) g.did

-- each has its event
named_length : (xs : List Standing) → length (events_of xs) ≡ length xs
named_length xs = length-map xs (λ x. x.event)

-- equally many are undone and fired, and the same is left
pub record AreOneWay (m n k l : ℕ) (next after : State) : Type 0 where
  pub undone : m ≡ k
  pub fired : n ≡ l
  pub left : AreSame next after

module _ (s : Start) (ok : IsProper s) where
  -- firing the same events leaves the same
  fired_once : {st tt next after : State} {es fs : List Event} → IsReached s st → IsReached s tt → AreSame st tt
      → es ≡ fs → AreFired s st es next → AreFired s tt fs after → AreSame next after
  fired_once r q same e none none = same
  fired_once r q same e none (more few a rest) = absurd cc
  fired_once r q same e (more few a rest) none = absurd cc
  fired_once {st} {tt} r q same e (more {mid = mid} {e = f} {es = es} few a rest)
      (more {mid = end} {e = g} {es = fs} less b others) =
      let one : f ≡ g = cc in
      let behind : es ≡ fs = cc in
      let b' = subst (λ z. MachineStep s tt (Fire z) Fired end) (sym one) b in
      let step = one_step s st tt mid end (Fire f) Fired Fired ok r q same a b' in
      fired_once (reached_next s r few a) (reached_next s q less b) step.1 behind rest others

  module _ {st tt : State} (r : IsReached s st) (q : IsReached s tt) (same : AreSame st tt)
      {es fs : List Event} (sound : IsSound s es) (alike : Alike es fs) where
    -- what isn't in the mark is the same
    one_outside : (xs ys : List Event) → AreOutside s st es xs → AreOutside s tt fs ys → xs ≡ ys
    one_outside xs ys h k =
        one_last_first s (same_events same) (reached_kept s ok r).sound xs ys
        (λ e n i. n (alike-in (alike_back alike) i)) (λ e n i. n (alike-in alike i)) h k

    -- and what is missing
    one_missing : (xs ys : List Event) → AreMissing s st es xs → AreMissing s tt fs ys → xs ≡ ys
    one_missing xs ys h k =
        canonical_same s alike sound xs ys
        (each_same xs ys
        (λ e p. (alike-in alike p.0, λ i. p.1 (alike-in (alike_back (same_events same)) i)))
        (λ e p. (alike-in (alike_back alike) p.0, λ i. p.1 (alike-in (same_events same) i)))
        h.each k.each)
        h.canonical k.canonical

    -- so a way back is one
    pub one_way : {m n k l : ℕ} {next after : State} → GoesBack s st es m n next → GoesBack s tt fs k l after
        → AreOneWay m n k l next after
    one_way g h = record {
      undone = g.undone_count ∙ sym (named_length g.gone) ∙ ap length gone ∙ named_length h.gone ∙ sym h.undone_count;
      fired = g.fired_count ∙ ap length came ∙ sym h.fired_count;
      left = fired_once (reached_undone s r g.undid) (reached_undone s q h.undid) between came g.did h.did;
    }
      where
        gone : events_of g.gone ≡ events_of h.gone
        gone = one_outside (events_of g.gone) (events_of h.gone) g.outside h.outside

        came : g.came ≡ h.came
        came = one_missing g.came h.came g.missing h.missing

        between : AreSame g.mid h.mid
        between = undone_once s ok r q same gone g.undid h.undid

    -- and has a line for each event
    pub fits : {m n : ℕ} {after : State} (gone came : List Event) → AreOutside s st es gone → AreMissing s st es came
        → DontFit st gone came → GoesBack s tt fs m n after → ⊥
    fits gone came outside missing many g =
        let lines = same.lines in
        let one = ap length (one_outside gone (events_of g.gone) outside g.outside) ∙ named_length g.gone in
        let two = ap length (one_missing came g.came missing g.missing) in
        let first = undone_lines s q g.undid in
        let second = fired_lines s (reached_undone s q g.undid) g.did in
        let fit = (reached_back s q g).2 in
        omega (arith, lines, many, one, two, first, second, fit)
