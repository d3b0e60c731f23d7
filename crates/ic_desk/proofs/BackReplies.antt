-- What going back to a mark answers.
use Rattle.std.proofs.Common.{◌≡◌, ◌≢◌, List, [], ◌++◌, map, reverse, ◌⊎◌, inl, inr, sym, ap, subst, arith, ◌∙◌}
use Rattle.std.proofs.lemmas.List.{append-nil, length-map, map-append, reverse-append}
use Rattle.ic_name.specs.Events.{Event}
use Rattle.ic_path.specs.Orders.{IsIn}
use Rattle.ic_path.proofs.Alikes.{alike_back, alike-in}
use Rattle.ic_theory.specs.Machine.{Standing, State}
use Rattle.ic_theory.specs.Sound.{IsSound}
use Rattle.ic_theory.proofs.Machines.{history_length}
use Rattle.ic_journal.specs.Rosters.{Stander}
use Rattle.ic_set.specs.Views.{standing}
use Rattle.ic_journal.specs.Views.{BenchView, set_of}
use Rattle.ic_journal.specs.Benches.{IsAt, IsBench, fired_in}
use Rattle.ic_journal.proofs.MachineSteps.{events_at}
use Rattle.ic_undo.specs.declared.faults.Counts.{Counts}
use Rattle.ic_journal.specs.Undone.{AreUndone, AreFree}
use Rattle.ic_undo.specs.Marks.{MarkView, IsMark}
use Rattle.ic_undo.specs.GoingBack as bench
use Rattle.ic_undo.specs.GoingBack.{IsOutside, AreFirable}
use Rattle.ic_undo.proofs.FirableEvents.{firable}
use Rattle.ic_undo.proofs.MarkedEvents.{outside_with_dependents, mark_parts, causes_before}
use Rattle.ic_answer.specs.Unwinding.{events_of}
use Rattle.ic_answer.proofs.UnwindingReplies.{free_back}
use Rattle.ic_answer.proofs.UnwoundEvents.{last_first_at}
use Rattle.ic_desk.specs.Backs.{AreOutside, AreMissing, DontFit, GoesBack, GoesPartWay}
use Rattle.ic_desk.proofs.MachineFirings.{firable_first}
use Rattle.ic_desk.proofs.WaysBack.{GoesSo, free_last, between_sound, goes_so}

-- a mark of these events over the bench's start
abbrev pub mark_over : BenchView → List Event → MarkView
mark_over v es = record { start = v.start; events = es }

module _ (old : BenchView) (ok : IsBench old) (es : List Event) (k : IsMark (mark_over old es)) (st : State) (at : IsAt old st) where
  -- what isn't in the mark is the same of the machine
  outside_at : (gone : List Stander) → bench.AreOutside old (mark_over old es) gone
      → AreOutside old.start st es (events_of (map fired_in gone))
  outside_at gone h = last_first_at old ok at (IsOutside (mark_over old es)) (λ e. ¬ (IsIn e es)) (record { to = λ x i p. p; from = λ x i q. q }) gone h

  -- and so is what is missing
  missing_at : (came : List Event) → bench.AreMissing old (mark_over old es) came → AreMissing old.start st es came
  missing_at came h = record {
    each = record {
      each = λ e p. h.each.each e (p.0, λ i. p.1 (alike-in (events_at old at) i));
      only = λ e i. ((h.each.only e i).0, λ j. (h.each.only e i).1 (alike-in (alike_back (events_at old at)) j));
      once = h.each.once;
    };
    canonical = h.canonical;
  }

  -- a line for each of them doesn't fit
  pub doesnt_fit_at : bench.DontFitBack old (mark_over old es)
      → (gone came : List Event) × AreOutside old.start st es gone × AreMissing old.start st es came × DontFit st gone came
  doesnt_fit_at h =
      let count = history_length at.history in
      let fired = length-map h.0 fired_in in
      let named = length-map (map fired_in h.0) (λ x. x.event) in
      let many = h.4 in
      (events_of (map fired_in h.0), h.1, outside_at h.0 h.2, missing_at h.1 h.3, omega (arith, count, fired, named, many))

  module _ (new : BenchView) (lawful : IsBench new) where
    -- what isn't in the mark can be undone from the last one on
    free : (gone : List Stander) → bench.AreOutside old (mark_over old es) gone → AreFree old (reverse gone)
    free gone h = free_back old (IsOutside (mark_over old es)) gone ok (outside_with_dependents old ok.set es k) h

    -- then what is missing can be fired
    fit : (between : BenchView) (gone : List Stander) (came : List Event) → IsSound old.start (standing (set_of between))
        → bench.AreOutside old (mark_over old es) gone → AreUndone old gone between → bench.AreMissing old (mark_over old es) came
        → AreFirable old.start (standing (set_of between)) came
    fit between gone came sound out u missing =
        firable old.start ok.set.proper es k.sound k.shallow k.few_agents (standing (set_of between)) came
        (mark_parts old ok.set es k between gone came sound out u missing) (causes_before old ok.set es k between gone came sound out u missing)

    -- the bench is back
    pub goes_back : (counts : Counts) → bench.IsBack old (mark_over old es) counts new
        → (next : State) × GoesBack old.start st es counts.undone counts.fired next × IsAt new next
    goes_back counts b = (
      so.next,
      record {
        gone = map fired_in b.gone;
        came = b.came;
        mid = so.mid;
        outside = outside_at b.gone b.outside;
        missing = missing_at b.came b.missing;
        undid = so.undid;
        did = so.did;
        undone_count = b.did.undone_count ∙ sym (length-map b.gone fired_in);
        fired_count = b.did.fired_count;
      },
      so.at,
    )
      where
        sound : IsSound old.start (standing (set_of b.did.between))
        sound = between_sound old new ok lawful st at b.gone b.came b.did.between (free b.gone b.outside) b.did.undone b.did.fired

        so : GoesSo old new st b.gone b.came
        so = goes_so old new ok lawful st at b.gone b.came b.did.between (free b.gone b.outside) b.did.undone b.did.fired
            (fit b.did.between b.gone b.came sound b.outside b.did.undone b.missing)

    -- or on its way
    pub goes_part_way : (counts : Counts) → bench.IsPartWay old (mark_over old es) counts new
        → (next : State) × GoesPartWay old.start st es counts.undone counts.fired next × IsAt new next
    goes_part_way counts b = (
      so.next,
      record {
        gone = map fired_in b.gone;
        others = events_of (map fired_in b.others);
        came = b.came;
        behind = b.behind;
        mid = so.mid;
        outside = subst (λ xs. AreOutside old.start st es xs) parts (outside_at (b.gone ++ b.others) b.outside);
        missing = missing_at (b.came ++ b.behind) b.missing;
        undid = so.undid;
        did = so.did;
        undone_count = b.did.undone_count ∙ sym (length-map b.gone fired_in);
        fired_count = b.did.fired_count;
        in_turn = in_turn b.in_turn;
      },
      so.at,
    )
      where
        parts : events_of (map fired_in (b.gone ++ b.others)) ≡ events_of (map fired_in b.gone) ++ events_of (map fired_in b.others)
        parts = ap events_of (map-append fired_in b.gone b.others) ∙ map-append (λ (x : Standing). x.event) (map fired_in b.gone) (map fired_in b.others)

        in_turn : ((b.gone ≡ []) × (b.came ≡ [])) ⊎ ((b.others ≡ []) × (b.behind ≢ []))
            → ((map fired_in b.gone ≡ []) × (b.came ≡ [])) ⊎ ((events_of (map fired_in b.others) ≡ []) × (b.behind ≢ []))
        in_turn (inl e) = inl (ap (λ xs. map fired_in xs) e.0, e.1)
        in_turn (inr e) = inr (ap (λ xs. events_of (map fired_in xs)) e.0, e.1)

        free_first : AreFree old (reverse b.gone)
        free_first = free_last old (reverse b.others) (reverse b.gone) (subst (λ xs. AreFree old xs) (reverse-append b.gone b.others) (free (b.gone ++ b.others) b.outside))

        sound : IsSound old.start (standing (set_of b.did.between))
        sound = between_sound old new ok lawful st at b.gone b.came b.did.between free_first b.did.undone b.did.fired

        all_gone : b.others ≡ [] → bench.AreOutside old (mark_over old es) b.gone
        all_gone e = subst (λ xs. bench.AreOutside old (mark_over old es) xs) (ap (λ xs. b.gone ++ xs) e ∙ append-nil b.gone) b.outside

        fit_first : ((b.gone ≡ []) × (b.came ≡ [])) ⊎ ((b.others ≡ []) × (b.behind ≢ [])) → AreFirable old.start (standing (set_of b.did.between)) b.came
        fit_first (inr e) = firable_first old.start (standing (set_of b.did.between)) b.came b.behind
            (fit b.did.between b.gone (b.came ++ b.behind) sound (all_gone e.0) b.did.undone b.missing)
        fit_first (inl e) = subst (λ xs. AreFirable old.start (standing (set_of b.did.between)) xs) (sym e.1) tt

        so : GoesSo old new st b.gone b.came
        so = goes_so old new ok lawful st at b.gone b.came b.did.between free_first b.did.undone b.did.fired (fit_first b.in_turn)
