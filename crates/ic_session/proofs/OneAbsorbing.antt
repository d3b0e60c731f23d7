-- Absorbing events has one answer, where memory isn't wanting.
use Rattle.std.proofs.Common.{◌≡◌, ℕ, List, [], length, refl, sym, ap, subst, arith, rules}
use Rattle.std.specs.Global.{Vec}
use Rattle.ic_name.specs.Events.{Event, Pair, pair, pair_cmp}
use Rattle.ic_name.specs.declared.lines.Reply.{Reply}
use Rattle.ic_name.specs.declared.lines.Reply.TheVariants as reply
use Rattle.std.specs.Cmp.{IsTotalOrder}
use Rattle.std.specs.Cmp.Rules.{comparing}
use Rattle.std.specs.Ordering.{is_eq}
use Rattle.ic_path.proofs.Alikes.{alike_back}
use Rattle.ic_theory.specs.Starts.{Start, IsProper}
use Rattle.ic_theory.specs.Machine as machine
use Rattle.ic_theory.proofs.Future.{consumed_in, loose_agent}
use Rattle.ic_theory.proofs.Normal.{active-alike}
use Rattle.ic_command.specs.declared.request.Request.TheVariants.{Absorb}
use Rattle.ic_answer.specs.Texts.{refusal_text}
use Rattle.ic_answer.specs.declared.refused.Refused.TheVariants.{Deep, Full, HistoryFull}
use Rattle.ic_desk.specs.Absorbing.{IsLeastNever}
use Rattle.ic_desk.proofs.PairTests.{pair_only}
use Rattle.ic_desk.specs.Absorbs.{Fits, Absorbs, AllStand, NoneIsActive, IsRefused, TakesBack}
use Rattle.ic_desk.specs.Desks.{State}
use Rattle.ic_desk.specs.Replies.{RepliesToRequest, absorbed, never_active, absorb_deep, absorb_full, absorb_history_full, absorb_memory, absorbed_text, never_text}
use Rattle.ic_desk.proofs.AbsorbReplies.{never-alike}
use Rattle.ic_session.specs.States.{IsReached}
use Rattle.ic_theory.specs.Machine.{AreSame}
use Rattle.ic_session.specs.Wants.{Wants}
use Rattle.ic_session.proofs.AbsorbedOnce.{Ends, all_done, refused, reached_absorbed, reached_refused, refused_once, absorbed_once, back_once, stood_or_listed}
use Rattle.ic_session.proofs.SameStates.{reached_kept}
use Rattle.ic_session.proofs.WantingTexts.{refusal_wants}
use Rattle.ic_name.proofs.Orderings.{neither_greater}
use Rattle.ic_theory.proofs.SameStates.{same_back, same_events}

-- the order of names of events is total
pair_cmp_total : IsTotalOrder pair_cmp
pair_cmp_total = search (comparing, rules) depth 9

-- what is told where a firing meets a limit
abbrev limit_text : Reply → List ℕ
limit_text reply.Deep = refusal_text Deep
limit_text reply.Full = refusal_text Full
limit_text r = []

-- what absorbing answers, and the bench after it, where memory isn't wanting
pub data Tells (s : Start) (names : List Pair) (st : machine.State) : List ℕ → machine.State → Type 0 where
  all : {came : List Event} {next : machine.State} → Absorbs s names st came next → AllStand next names → Tells s names st (absorbed_text (length came)) next
  never : {p : Pair} {came : List Event} {mid next : machine.State} → Absorbs s names st came mid → NoneIsActive s mid names → IsLeastNever s (machine.events st) names p
      → TakesBack s mid came next → Tells s names st (never_text p) next
  limit : {r : Reply} {came : List Event} {mid after next : machine.State} → (r ≡ reply.Fired → ⊥) → Absorbs s names st came mid → IsRefused s names mid r after
      → TakesBack s after came next → Tells s names st (limit_text r) next
  long : ¬ (Fits st names) → Tells s names st (refusal_text HistoryFull) st

-- a reply tells so
pub record Told (s : Start) (names : List Pair) (st : State) (text : List ℕ) (next : State) : Type 0 where
  pub bench : machine.State
  pub tells : Tells s names st.bench text bench
  pub left : next ≡ record st { bench = bench }

pub told : {s : Start} {st next : State} {names : Vec Pair} {text : List ℕ} (ns : List Pair) → names.items ≡ ns → RepliesToRequest s st (Absorb names) text next → ¬ (Wants text) → Told s ns st text next
told {s = s} {st = st} ns same (absorbed {came = came} {next = next} a b) w = record {
  bench = next;
  tells = all (subst (λ xs. Absorbs s xs st.bench came next) same a) (subst (λ xs. AllStand next xs) same b);
  left = refl;
}
told {s = s} {st = st} ns same (never_active {p = p} {came = came} {mid = mid} {next = next} a n l t) w = record {
  bench = next;
  tells = never (subst (λ xs. Absorbs s xs st.bench came mid) same a) (subst (λ xs. NoneIsActive s mid xs) same n) (subst (λ xs. IsLeastNever s (machine.events st.bench) xs p) same l) t;
  left = refl;
}
told {s = s} {st = st} ns same (absorb_deep {came = came} {mid = mid} {after = after} {next = next} a r t) w = record {
  bench = next;
  tells = limit (λ e. cc) (subst (λ xs. Absorbs s xs st.bench came mid) same a) (subst (λ xs. IsRefused s xs mid reply.Deep after) same r) t;
  left = refl;
}
told {s = s} {st = st} ns same (absorb_full {came = came} {mid = mid} {after = after} {next = next} a r t) w = record {
  bench = next;
  tells = limit (λ e. cc) (subst (λ xs. Absorbs s xs st.bench came mid) same a) (subst (λ xs. IsRefused s xs mid reply.Full after) same r) t;
  left = refl;
}
told {st = st} ns same (absorb_history_full n) w = record { bench = st.bench; tells = long (subst (λ xs. ¬ (Fits st.bench xs)) same n); left = refl }
told ns same (absorb_memory a t) w = absurd (w refusal_wants)

module _ (s : Start) (ok : IsProper s) (names : List Pair) where
  -- where all listed events stand none is active
  none_active : (st : machine.State) → AllStand st names → NoneIsActive s st names
  none_active st stand e active i =
      let x = stand (pair e) i in
      let some = consumed_in x.1.1 in
      let none = loose_agent s (machine.events st) e.lead active.wire.from_loose in
      let lead = ap (λ (p : Pair). p.lead) x.2 in
      let gone = rw lead at some in
      omega (arith, gone, none)

  -- and none of them is in no sound set
  not_never : {st next : machine.State} {came : List Event} {p : Pair} → IsReached s st → Absorbs s names st came next → AllStand next names → IsLeastNever s (machine.events st) names p → ⊥
  not_never {next = next} r a stand least =
      let x = stand _ least.listed in
      least.never (machine.events next) (record { sound = (reached_kept s ok (reached_absorbed s names r a.fired)).sound; each = stood_or_listed s names a.fired }) x.0 x.1 x.2

  -- nor is the next one refused where none is active
  not_refused : {st tt after : machine.State} {r : Reply} → AreSame st tt → NoneIsActive s st names → IsRefused s names tt r after → ⊥
  not_refused same none r = none r.event (active-alike s (alike_back (same_events same)) r.turn.active) r.turn.listed

  -- the least such event is one
  one_never : {st tt : machine.State} {p q : Pair} → AreSame st tt → IsLeastNever s (machine.events st) names p → IsLeastNever s (machine.events tt) names q → p ≡ q
  one_never {p = p} {q = q} same a b =
      let c = never-alike s (alike_back (same_events same)) b in
      let tied = neither_greater _ _ (pair_cmp_total.antisymm p q) (a.least q c.listed c.never) (c.least p a.listed a.never) in
      sym (pair_only p q (ap is_eq tied))

  module _ {st tt : machine.State} (h : IsReached s st) (k : IsReached s tt) (same : AreSame st tt) where
    -- both histories are too long, or none
    fits_too : ¬ (Fits st names) → Fits tt names → ⊥
    fits_too far fits = let l = same.lines in far (omega (arith, l, fits))

    fits_also : Fits st names → ¬ (Fits tt names) → ⊥
    fits_also fits far = let l = same.lines in far (omega (arith, l, fits))

    -- what came is one
    came_once : {next after : machine.State} {came come : List Event} → Absorbs s names st came next → Absorbs s names tt come after → Ends s names next → Ends s names after → (came ≡ come) × AreSame next after
    came_once a b p q = absorbed_once s ok names h k same a.fired b.fired p q

    -- so is what is told
    pub told_once : {x y : List ℕ} {next after : machine.State} → Tells s names st x next → Tells s names tt y after → (x ≡ y) × AreSame next after
    told_once (all {next = u} a b) (all {next = v} c d) = let one = came_once a c (all_done (none_active u b)) (all_done (none_active v d)) in (ap (λ es. absorbed_text (length es)) one.0, one.1)
    told_once (all a b) (never c n l t) = absurd (not_never h a b (never-alike s (alike_back (same_events same)) l))
    told_once (all {next = u} a b) (limit f c r t) = let one = came_once a c (all_done (none_active u b)) (refused f r) in absurd (not_refused one.1 (none_active u b) r)
    told_once (all a b) (long n) = absurd (fits_also a.fits n)
    told_once (never a n l t) (all c d) = absurd (not_never k c d (never-alike s (same_events same) l))
    told_once (never a n l t) (never c m j u) =
        let one = came_once a c (all_done n) (all_done m) in
        (ap never_text (one_never same l j), back_once s ok names (reached_absorbed s names h a.fired) (reached_absorbed s names k c.fired) one.1 one.0 t u)
    told_once (never a n l t) (limit f c r u) = let one = came_once a c (all_done n) (refused f r) in absurd (not_refused one.1 n r)
    told_once (never a n l t) (long m) = absurd (fits_also a.fits m)
    told_once (limit f a r t) (all {next = v} c d) = let one = came_once a c (refused f r) (all_done (none_active v d)) in absurd (not_refused (same_back one.1) (none_active v d) r)
    told_once (limit f a r t) (never c n l u) = let one = came_once a c (refused f r) (all_done n) in absurd (not_refused (same_back one.1) n r)
    told_once (limit f a r t) (limit g c q u) =
        let one = came_once a c (refused f r) (refused g q) in
        let mid = reached_absorbed s names h a.fired in
        let mid' = reached_absorbed s names k c.fired in
        let next = refused_once s ok names mid mid' one.1 r q in
        (ap limit_text next.0, back_once s ok names (reached_refused s names mid r) (reached_refused s names mid' q) next.1 one.0 t u)
    told_once (limit f a r t) (long n) = absurd (fits_also a.fits n)
    told_once (long n) (all c d) = absurd (fits_too n c.fits)
    told_once (long n) (never c m l u) = absurd (fits_too n c.fits)
    told_once (long n) (limit g c q u) = absurd (fits_too n c.fits)
    told_once (long n) (long m) = (refl, same)
