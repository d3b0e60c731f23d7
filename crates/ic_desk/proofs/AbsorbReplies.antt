-- What absorbing events answers.
use Rattle.std.proofs.Common.{◌≡◌, ◌+◌, ◌*◌, ◌≤◌, ◌<◌, ℕ, List, [], ◌∷◌, ◌++◌, length, map, reverse, inl, inr, refl, sym, ap, subst, arith, ◌∙◌, append-nil, append_assoc, length-append}
use Rattle.std.proofs.lemmas.List.{length-map}
use Rattle.ic_name.specs.Events.{Event, Pair}
use Rattle.ic_name.specs.declared.limits.TheConstants.{MAX_LINES}
use Rattle.ic_name.specs.declared.lines.Line.{Line}
use Rattle.ic_name.specs.declared.lines.Call.TheVariants.{Fire}
use Rattle.ic_name.specs.declared.lines.Reply.{Reply}
use Rattle.ic_name.specs.declared.lines.Reply.TheVariants as reply
use Rattle.ic_path.specs.Orders.{IsIn, Alike}
use Rattle.ic_path.proofs.Alikes.{alike_back, alike_then, alike-in}
use Rattle.ic_theory.specs.Starts.{Start}
use Rattle.ic_theory.specs.Machine.{State, events, MachineStep, deep, full}
use Rattle.ic_theory.proofs.Machines.{IsKept, history_kept, history_length}
use Rattle.ic_theory.proofs.Normal.{active-alike}
use Rattle.ic_journal.specs.Rosters.{Stander}
use Rattle.ic_set.specs.Views.{standing}
use Rattle.ic_journal.specs.Views.{BenchView, set_of}
use Rattle.ic_journal.specs.Benches.{IsAt, IsBench, fired_in}
use Rattle.ic_journal.proofs.MachineSteps.{events_at, fired_events}
use Rattle.ic_undo.specs.Absorbing as bench
use Rattle.ic_undo.specs.Absorbing.{IsWithin, IsLeastNever, IsNextListed, NoneIsNext, refusing}
use Rattle.ic_undo.specs.GoingBack.{firing}
use Rattle.ic_journal.specs.Undone.{undoing}
use Rattle.ic_path.proofs.InLists.{in-map}
use Rattle.ic_undo.proofs.Backs.{alike_reverse, map-reverse}
use Rattle.ic_answer.specs.Unwinding.{events_of}
use Rattle.ic_work.proofs.HistoryParts.{AreAnswered, same_history, history_on, one_state}
use Rattle.ic_work.proofs.HistoryParts as parts
use Rattle.ic_desk.specs.Absorbs.{Fits, AreAbsorbed, Absorbs, AllStand, NoneIsActive, IsRefused, TakesBack}
use Rattle.ic_desk.proofs.AbsorbedRuns.{run_on, listed-alike, ComesSo, comes_so, undone_so}

-- a set in any order has the same listed events that are in no sound set with it
within-alike : (s : Start) {stood stand : List Event} {names : List Pair} {es : List Event} → Alike stood stand → IsWithin s stood names es → IsWithin s stand names es
within-alike s alike w = record {
  sound = w.sound;
  each = λ e i. elim (w.each e i) [ inl j ↦ inl (alike-in alike j) | inr j ↦ inr j ];
}

pub never-alike : (s : Start) {stood stand : List Event} {names : List Pair} {p : Pair} → Alike stood stand → IsLeastNever s stood names p → IsLeastNever s stand names p
never-alike s alike h = record {
  listed = h.listed;
  never = λ es w. h.never es (within-alike s (alike_back alike) w);
  least = λ q i n. h.least q i (λ es w. n es (within-alike s alike w));
}

-- a firing that meets a limit leaves what stands, and is a line more
pub record Stays (st next : State) : Type 0 where
  pub standing : next.standing ≡ st.standing
  pub lines : next.lines ≡ st.lines + 1

pub stays_deep : {s : Start} {e : Event} (st next : State) → MachineStep s st (Fire e) reply.Deep next → Stays st next
stays_deep st next (deep a d) = record { standing = refl; lines = refl }

pub stays_full : {s : Start} {e : Event} (st next : State) → MachineStep s st (Fire e) reply.Full next → Stays st next
stays_full st next (full a d n) = record { standing = refl; lines = refl }

module _ (old new : BenchView) (ok : IsBench old) (lawful : IsBench new) (names : List Pair) (st : State) (at : IsAt old st) where
  -- what stands on the bench stands at the state
  alike : Alike (standing (set_of old)) (events st)
  alike = events_at old at

  -- the history has as many lines
  pub fits : bench.Fits old names → Fits st names
  fits f = let count = history_length at.history in omega (arith, f, count)

  pub fits_not : MAX_LINES < length old.lines + 2 * length names → ¬ (Fits st names)
  fits_not f g = let count = history_length at.history in omega (arith, f, g, count)

  -- what came, and the lines that are left
  module _ (came : List Event) (left : List Line) (start : new.start ≡ old.start) (lines : new.lines ≡ old.lines ++ (map firing came ++ left))
      (turns : bench.AreLeastInTurn old.start (standing (set_of old)) names came) where
    abbrev run : (next : State) × AreAnswered old.start (map firing came ++ left) st next × IsAt new next
    run = run_on old new (map firing came ++ left) ok lawful start lines st at

    few : st.lines + length came ≤ MAX_LINES
    few =
        let short = lawful.running.short in
        let all = ap length lines ∙ length-append old.lines (map firing came ++ left) in
        let one = length-append (map firing came) left in
        let two = length-map came firing in
        let count = history_length at.history in
        omega (arith, short, all, one, two, count)

    abbrev so : ComesSo old.start names (standing (set_of old)) came left st run.0
    so = comes_so old.start names (standing (set_of old)) came left alike turns few run.1
    -- the state in between has a legal history

  -- all listed events stand
  pub absorbed_at : (count : ℕ) → bench.Absorbs old names count new
      → (came : List Event) × (next : State) × Absorbs old.start names st came next × AllStand next names × (count ≡ length came) × IsAt new next
  absorbed_at count h =
      let lines = h.fired.lines ∙ ap (λ ls. old.lines ++ ls) (sym (append-nil (map firing h.came))) in
      let c = so h.came [] h.fired.start lines h.in_turn in
      let r = run h.came [] h.fired.start lines h.in_turn in
      let end : r.0 ≡ c.mid = none_left c.others in (
        h.came,
        r.0,
        record { fits = fits h.fits; fired = subst (λ x. AreAbsorbed old.start names st h.came x) (sym end) c.did },
        (λ p i. (let w = h.stand p i in (w.0, alike-in (events_at new r.2) w.1, w.2))),
        h.fired_count,
        r.2,
      )
    where
      none_left : {s : Start} {a b : State} → AreAnswered s [] a b → b ≡ a
      none_left parts.none = refl

  -- what came, and what was undone behind it
  pub record ComesAndGoes (came : List Event) (said : List Line) (gone : List Stander) : Type 0 where
    pub mid : State
    pub next : State
    pub at_next : IsAt new next
    pub absorbs : Absorbs old.start names st came mid
    pub stand : Alike (reverse came ++ standing (set_of old)) (events mid)
    pub kept : IsKept old.start mid
    pub there : (x : Stander) → IsIn x gone → IsIn (fired_in x) mid.standing
    pub backwards : events_of (map fired_in gone) ≡ reverse came
    pub few : mid.lines + length said + length gone ≤ MAX_LINES
    pub others : AreAnswered old.start (said ++ map undoing gone) mid next

  pub comes_and_goes : (came : List Event) (said : List Line) (t : bench.TakesBack old names came said new) → ComesAndGoes came said (reverse t.standers)
  comes_and_goes came said t =
      let back = reverse t.standers in
      let behind = said ++ map undoing back in
      let lines : new.lines ≡ old.lines ++ (map firing came ++ (said ++ map undoing back)) = t.lines ∙ append_assoc (old.lines ++ map firing came) said (map undoing back) ∙ append_assoc old.lines (map firing came) behind in
      let r = run came behind t.same.start lines t.in_turn in
      let c = so came behind t.same.start lines t.in_turn in
      let history = history_on old.start old.lines at.history c.lines in
      let among = t.lawful.running in
      let same = one_state old.start ok.set.proper (same_history t.fired.start t.fired.lines among.at.history) history in
      let long = history_length history ∙ length-append old.lines (map firing came) in
      let short = lawful.running.short in
      let whole = ap length lines ∙ length-append old.lines (map firing came ++ behind) in
      let one = length-append (map firing came) behind in
      let two = length-append said (map undoing back) in
      let three = length-map back undoing in
      record {
        mid = c.mid;
        next = r.0;
        at_next = r.2;
        absorbs = record { fits = fits t.fits; fired = c.did };
        stand = c.stand;
        kept = history_kept old.start ok.set.proper history;
        there = λ x i. alike-in (alike_then among.at.standing same.standing) (in-map fired_in (t.there x (alike-in (alike_back (alike_reverse t.standers)) i)));
        backwards = fired_events back ∙ map-reverse (λ (x : Stander). x.event) t.standers ∙ ap reverse t.named;
        few = omega (arith, long, short, whole, one, two, three);
        others = c.others;
      }

  module _ (came : List Event) (said : List Line) (gone : List Stander) (c : ComesAndGoes came said gone) where
    takes_back : (after : State) → after.standing ≡ c.mid.standing → after.lines ≡ c.mid.lines + length said → AreAnswered old.start (map undoing gone) after c.next → TakesBack old.start after came c.next
    takes_back after same more h = record {
      gone = map fired_in gone;
      backwards = c.backwards;
      undid = undone_so old.start c.mid c.kept gone c.there (λ y i. subst (λ ys. IsIn y ys) same i) (let f = c.few in omega (arith, f, more)) h;
    }

    -- nothing was said in between
    pub nothing_said : said ≡ [] → TakesBack old.start c.mid came c.next
    nothing_said silent = takes_back c.mid refl (let none = ap length silent in omega (arith, none)) (subst (λ ls. AreAnswered old.start (ls ++ map undoing gone) c.mid c.next) silent c.others)

    -- the next one was refused
    pub refused_so : (e : Event) (r : Reply) → said ≡ refusing e r ∷ [] → ((x y : State) → MachineStep old.start x (Fire e) r y → Stays x y) → IsNextListed old names came e
        → (after : State) × IsRefused old.start names c.mid r after × TakesBack old.start after came c.next
    refused_so e r told stays turn = by (subst (λ ls. AreAnswered old.start (ls ++ map undoing gone) c.mid c.next) told c.others)
      where
        by : AreAnswered old.start (refusing e r ∷ map undoing gone) c.mid c.next → (after : State) × IsRefused old.start names c.mid r after × TakesBack old.start after came c.next
        by (parts.more {mid = after} a h) =
            let still = stays c.mid after a in
            let said_one = ap length told in
            let few = c.few in
            let lines = still.lines in (
              after,
              record { event = e; turn = listed-alike old.start c.stand turn; room = omega (arith, few, said_one); answer = a },
              takes_back after still.standing (omega (arith, lines, said_one)) h,
            )

    -- a listed event can't come to stand
    pub never_at : (p : Pair) → said ≡ [] → NoneIsNext old names came → IsLeastNever old.start (standing (set_of old)) names p
        → NoneIsActive old.start c.mid names × IsLeastNever old.start (events st) names p × TakesBack old.start c.mid came c.next
    never_at p silent none never = (
      (λ e a i. none e (active-alike old.start (alike_back c.stand) a) i),
      never-alike old.start alike never,
      nothing_said silent,
    )
