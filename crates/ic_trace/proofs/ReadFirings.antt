-- Firings as they are read.
use Rattle.std.proofs.Common.{◌≡◌, ℕ, List, [], ◌∷◌, ◌++◌, inl, inr, length, refl, sym, ap, arith, subst, ◌∙◌, append-nil, Some, None, Result, Ok, Err, Vec, Global}
use Rattle.std.specs.Prelude.{IfOk, OnOk}
use Rattle.std.specs.declared.alloc.AllocError.{AllocError}
use Rattle.std.proofs.lemmas.List.{length_push}
use Rattle.ic_name.specs.Events.{Event, Pair, pair}
use Rattle.ic_path.specs.Orders.{here, IsIn, Alike, more}
use Rattle.ic_path.specs.Rings.{HasEachOnce}
use Rattle.ic_path.proofs.Alikes.{alike_then, alike_back, alike_more, alike-in, alike_past, append-alike-comm}
use Rattle.ic_trace.specs.Pasts.{PastView, IsWith, AreCausesNamed}
use Rattle.ic_set.proofs.KeptRanks.{in_whole}
use Rattle.ic_theory.specs.Starts.{Start, IsProper}
use Rattle.ic_theory.specs.Active.{IsActive}
use Rattle.ic_theory.specs.Causes.{IsCause}
use Rattle.ic_theory.specs.Firings.{fired}
use Rattle.ic_theory.specs.Future.{Includes}
use Rattle.ic_theory.specs.Letters as theory
use Rattle.ic_theory.specs.Sets.{consumed_times}
use Rattle.ic_theory.specs.Sound.{IsSound}
use Rattle.ic_theory.proofs.Future.{consumed_in, loose_agent}
use Rattle.ic_theory.proofs.Normal.{active-alike}
use Rattle.ic_theory.proofs.Ranks.{sound_order, sound-alike}
use Rattle.ic_trace.specs.declared.known.Known.{Known}
use Rattle.ic_trace.specs.declared.known.EventTable.{EventTable}
use Rattle.ic_trace.specs.declared.lists.Letter.TheVariants.{Fire}
use Rattle.ic_trace.specs.declared.reading.Step.TheVariants as step
use Rattle.ic_trace.specs.Known.{events_in, event_at, AreNumbered, AreNumbersOf, IsNumberOf, IsRankAbove, AreKnown}
use Rattle.ic_trace.specs.Noted.{IsNoted, AreCausesKnown, AreNumbersOfCauses}
use Rattle.ic_trace.specs.Readings.{IsFollowed, IsAccepted, IsRefused}
use Rattle.ic_trace.proofs.ByNumber.{event_in, event_at-last, events-append}
use Rattle.ic_trace.proofs.KnownEvents.{led_once, lead_numbered, stands_or_active}
use Rattle.ic_trace.proofs.KnownMore.{known_more, names_known}
use Rattle.ic_trace.proofs.Swapped.{fired_is_sound}

-- a firing is refused where no event of its name is active
pub firing_refused : (p : PastView) (n : Pair) → ((e : Event) → pair e ≡ n → IsActive p.start p.events e → ⊥) → IsRefused p (Fire n)
firing_refused p n h (theory.Fire e) q es (theory.fires a r) = let same : pair e ≡ n = cc in h e same a
firing_refused p n h (theory.Undo e) q es r = cc

-- an event whose lead was consumed isn't active
not_led : (s : Start) {all : List Event} {e x : Event} → IsActive s all e → IsIn x all → x.lead ≡ e.lead → ⊥
not_led s {all} {e} {x} a i l =
    let z : consumed_times e.lead all ≡ 0 = loose_agent s all e.lead a.wire.from_loose in
    let y = consumed_in i.1 in
    let same : consumed_times x.lead all ≡ consumed_times e.lead all = ap (λ n. consumed_times n all) l in
    absurd (omega arith)

-- what an event is noted by
pub noted_after : (p : PastView) (n : Pair) (ks : List Known) (k : Known) (t : EventTable) (r : Result ℕ AllocError) → AreNumbersOfCauses p n ks k.causes.items → IsRankAbove ks k.causes.items k.rank
    → IfOk r (λ i. i ≡ length ks) → OnOk r (t.known.items ≡ ks ++ k ∷ []) → OnOk r (AreNumbered t) → IfOk r (λ i. IsNoted p n ks k.event i t)
noted_after p n ks k t (Ok i) causes rank last grown numbered = record { noted = k; event = refl; causes = causes; rank = rank; grown = grown; numbered = numbered; last = last }
noted_after p n ks k t (Err e) causes rank last grown numbered = tt

-- the numbers of causes that were found by name
pub numbers_after : (p : PastView) (n : Pair) (ks : List Known) (names : List Pair) → AreCausesNamed p n (Some names) → (r : Result (Vec ℕ Global) AllocError)
    → IfOk r (λ v. AreNumbersOf ks names v.items) → IfOk r (λ v. AreNumbersOfCauses p n ks v.items)
numbers_after p n ks names q (Ok v) h = record { names = names; causes = q; numbers_are = h }
numbers_after p n ks names q (Err e) h = tt

-- what stands after a firing is sound
pub sound_more : (s : Start) → IsProper s → {es fs : List Event} {e : Event} → IsSound s es → IsActive s es e → Alike (e ∷ es) fs → IsSound s fs
sound_more s ok {es} h a k = let o = sound_order s ok es h in sound-alike s (alike_then (more here (alike_back o.1)) k) (fired_is_sound s ok (fired o.2 (active-alike s o.1 a)))

module _ (old new : PastView) (t : EventTable) (f : IsFollowed old t) (ok : IsProper old.start) (sound : IsSound old.start old.events) (n : Pair) (e : Event) (is : pair e ≡ n) (a : IsActive old.start old.events e) (w : IsWith old e new) where
  -- an event with a number stands already among the known ones
  known_again : (i : ℕ) → IsNumberOf t.known.items n.lead (Some i) → Includes (events_in t.known.items) (e ∷ old.events)
  known_again i h = elim (stands_or_active old.start ok f.known.sound f.part a) [
    | inl j ↦ j
    | inr b ↦ absurd (not_led old.start b (event_in t.known.items i h.0) (h.1 ∙ sym (ap (λ p. p.lead) is)))
  ]

  -- an event that is fired again
  pub accepted_again : (i : ℕ) → IsNumberOf t.known.items n.lead (Some i) → IsAccepted old t.known.items (Fire n) (step.Fire i) new t
  accepted_again i h =
      let j = known_again i h in
      let same : event_at t.known.items i ≡ e = led_once old.start f.known.sound (event_in t.known.items i h.0) (in_whole j (old.events, here)) (h.1 ∙ sym (ap (λ p. p.lead) is)) in
      record {
        followed = record {
          known = subst (λ s. AreKnown s t.known.items) (sym w.start) f.known;
          numbered = f.numbered;
          part = record { others = j.others; alike = alike_then (alike_more j.others (alike_back w.events)) j.alike };
        };
        more = [];
        one = omega arith;
        grown = sym (append-nil t.known.items);
        inside = h.0;
        name = ap (λ x. Fire (pair x)) same ∙ ap Fire is;
        start = w.start;
        after = e ∷ old.events;
        runs = rw same (theory.fires a theory.stops);
        alike = w.events;
      }

  module _ (fresh : IsNumberOf t.known.items n.lead None) where
    -- a new event is active beside all known ones
    active_beside_all : IsActive old.start (events_in t.known.items) e
    active_beside_all = elim (stands_or_active old.start ok f.known.sound f.part a) [
      | inl j ↦ absurd (lead_numbered t.known.items (in_whole j (old.events, here)) (subst (λ (p : Pair). IsNumberOf t.known.items p.lead None) (sym is) fresh))
      | inr b ↦ b
    ]

    ok' : IsProper new.start
    ok' = subst (λ s. IsProper s) (sym w.start) ok

    known' : AreKnown new.start t.known.items
    known' = subst (λ s. AreKnown s t.known.items) (sym w.start) f.known

    active' : IsActive new.start (events_in t.known.items) e
    active' = subst (λ s. IsActive s (events_in t.known.items) e) (sym w.start) active_beside_all

    sound' : IsSound new.start new.events
    sound' = subst (λ s. IsSound s new.events) (sym w.start) (sound_more old.start ok sound a w.events)

    there : IsIn e new.events
    there = alike-in w.events (old.events, here)

    -- what stands is among the known ones and it
    within : Includes (events_in t.known.items ++ e ∷ []) new.events
    within = let p = f.part in record {
      others = p.others;
      alike = alike_then (alike_more p.others (alike_back w.events)) (alike_then (alike_past p.others (e ∷ []) old.events) (alike_then (more here p.alike) (append-alike-comm (e ∷ []) (events_in t.known.items))));
    }

    -- what names tell its causes
    module _ (names : List Pair) (q : AreCausesNamed new n (Some names)) where
      same_event : q.0 ≡ e
      same_event = led_once new.start sound' q.1 there (ap (λ (p : Pair). p.lead) (q.2 ∙ sym is))

      each : HasEachOnce (IsCause new.start new.events e) q.3
      each = subst (λ x. HasEachOnce (IsCause new.start new.events x) q.3) same_event q.4

    -- its causes are known
    pub causes_known : AreCausesKnown new n t.known.items
    causes_known names q p i = names_known new.start ok' t.known.items known' e active' new.events sound' within there q.3 (each names q) p (rw q.5 i)

    -- a new event
    pub accepted_new : (t' : EventTable) (i : ℕ) → IsNoted new n t.known.items e i t' → IsAccepted old t.known.items (Fire n) (step.Fire i) new t'
    accepted_new t' i h =
        let ks = t.known.items in
        let k = h.noted in
        let names = h.causes.names in
        let q = h.causes.causes in
        let longer : events_in (ks ++ k ∷ []) ≡ events_in ks ++ e ∷ [] = events-append ks (k ∷ []) ∙ ap (λ x. events_in ks ++ x ∷ []) h.event in
        let at : event_at t'.known.items i ≡ e = rw (h.grown, h.last) (event_at-last ks k ∙ h.event) in
        let known : AreKnown new.start (ks ++ k ∷ []) = known_more new.start ok' ks known' e active' new.events sound' within there q.3 (each names q) k h.event (rw (← q.5) at h.causes.numbers_are) h.rank in
        record {
          followed = record { known = rw h.grown known; numbered = h.numbered; part = rw (h.grown, longer) within };
          more = k ∷ [];
          one = omega arith;
          grown = h.grown;
          inside = rw (h.grown, h.last) (let l = length_push ks k in omega arith);
          name = ap (λ x. Fire (pair x)) at ∙ ap Fire is;
          start = w.start;
          after = e ∷ old.events;
          runs = rw at (theory.fires a theory.stops);
          alike = w.events;
        }
