-- One event more that is fired.
use Rattle.std.proofs.Common.{◌≡◌, ◌≢◌, ◌+◌, ◌≤◌, List, [], ◌∷◌, ◌++◌, map, length, Ok, Err, refl, sym, ap, subst, arith, ◌∙◌, append_assoc, length-append}
use Rattle.std.proofs.lemmas.List.{append-nil, map-append}
use Rattle.ic_name.specs.Events.{Event}
use Rattle.ic_name.specs.declared.ids.EventId.{EventId}
use Rattle.ic_name.specs.declared.limits.TheConstants.{MAX_LINES}
use Rattle.ic_name.specs.declared.lines.Call.{Call}
use Rattle.ic_name.specs.declared.lines.Call.TheVariants.{Fire}
use Rattle.ic_name.specs.declared.lines.Reply.{Reply}
use Rattle.ic_name.specs.declared.lines.Reply.TheVariants.{Fired, Deep, Full}
use Rattle.ic_path.specs.Orders.{Alike}
use Rattle.ic_path.proofs.Alikes.{alike_self, alike_back, alike_then, alike_past, alike-cons, alike-map}
use Rattle.ic_theory.specs.Active.{IsActive}
use Rattle.ic_theory.specs.Machine.{State, events, IsDeep, IsFull, MachineStep, not_active, deep, full, fired, not_standing, held, undone}
use Rattle.ic_theory.specs.Starts.{Start}
use Rattle.ic_theory.proofs.Normal.{active-alike}
use Rattle.ic_roster.specs.Rosters.{Stander}
use Rattle.ic_set.specs.Views.{standing}
use Rattle.ic_journal.specs.Benches.{IsBench}
use Rattle.ic_journal.specs.Calls.{Steps, Stays, Fires, FiresPair}
use Rattle.ic_journal.specs.Views.{BenchView, set_of}
use Rattle.ic_journal.specs.declared.faults.PairFault.{PairFault}
use Rattle.ic_journal.specs.declared.faults.PairFault.TheVariants as fault
use Rattle.ic_journal.proofs.MachineSteps.{events_at}
use Rattle.ic_journal.proofs.SameSets.{full-alike}
use Rattle.ic_undo.specs.GoingBack.{AreFirable, AreFired, firing}
use Rattle.ic_undo.proofs.FirableEvents.{firable-alike}

-- none is fired at first
unfoldable pub none_fired : (v : BenchView) → AreFired v [] v
none_fired v = record { came = []; start = refl; fired = refl; events = alike_self v.events; lines = sym (append-nil v.lines); room = omega arith }

-- where only the room changes no more are fired
pub fired_still : (old mid new : BenchView) (es : List Event) → AreFired old es mid → Stays mid new → AreFired old es new
fired_still old mid new es f s = record {
  came = f.came;
  start = s.same.start ∙ f.start;
  fired = f.fired;
  events = alike_then f.events s.same.events;
  lines = s.lines ∙ f.lines;
  room = (let r = f.room in let q = s.room in omega (arith, r, q));
}

module _ (mid new : BenchView) (e : Event) (id : EventId) (h : Fires mid e (Ok id) new) where
  -- one more is fired
  unfoldable pub fired_more : (old : BenchView) (es : List Event) → AreFired old es mid → AreFired old (es ++ e ∷ []) new
  fired_more old es f = record {
    came = f.came ++ h.1.entry ∷ [];
    start = h.0.start ∙ f.start;
    fired = map-append (λ (x : Stander). x.event) f.came (h.1.entry ∷ []) ∙ (λ u. f.fired u ++ h.1.event u ∷ []);
    events = subst (λ xs. Alike xs new.events) (sym (append_assoc f.came (h.1.entry ∷ []) old.events))
        (alike_then (alike_past f.came (h.1.entry ∷ []) old.events) (alike_then (alike-cons h.1.entry f.events) h.1.events));
    lines = h.0.lines ∙ ap (λ ls. ls ++ firing e ∷ []) f.lines ∙ append_assoc old.lines (map firing es) (firing e ∷ []) ∙ ap (λ ls. old.lines ++ ls) (sym (map-append firing es (e ∷ [])));
    room = (let r = f.room in let q = h.0.room in let l = length-append es (e ∷ []) in omega (arith, r, q, l));
  }

  -- and those that come later can be fired still
  pub firable_later : (later : List Event) → AreFirable mid.start (standing (set_of mid)) (e ∷ later) → AreFirable new.start (standing (set_of new)) later
  firable_later later r = subst (λ s. AreFirable s (standing (set_of new)) later) (sym h.0.start) (firable-alike mid.start later more r.3)
    where
      more : Alike (e ∷ standing (set_of mid)) (standing (set_of new))
      more = subst (λ x. Alike (x ∷ standing (set_of mid)) (standing (set_of new))) h.1.event (alike-map (λ (x : Stander). x.event) h.1.events)

-- the machine fires what can be fired
fires_reply : {s : Start} {st next : State} {call : Call} {r : Reply} (e : Event) → call ≡ Fire e → r ≢ Fired → IsActive s (events st) e → ¬ (IsDeep e) → ¬ (IsFull s (events st) e) → MachineStep s st call r next → ⊥
fires_reply {s} {st} e same other active shallow few (not_active {e = f} n) = let q : f ≡ e = cc in n (subst (IsActive s (events st)) (sym q) active)
fires_reply e same other active shallow few (deep {e = f} a d) = let q : f ≡ e = cc in shallow (subst IsDeep q d)
fires_reply {s} {st} e same other active shallow few (full {e = f} a d n) = let q : f ≡ e = cc in few (subst (IsFull s (events st)) q n)
fires_reply e same other active shallow few (fired a d n) = absurd (other refl)
fires_reply e same other active shallow few (not_standing n) = cc
fires_reply e same other active shallow few (held i j m l) = cc
fires_reply e same other active shallow few (undone k j n) = cc

-- an event that can be fired is refused only for want of memory
module _ (mid new : BenchView) (lawful : IsBench mid) (e : Event) (later : List Event) (r : AreFirable mid.start (standing (set_of mid)) (e ∷ later)) where
  never : (answer : Reply) → answer ≢ Fired → Steps mid (Fire e) answer new → ⊥
  never answer other s =
      let at = lawful.running.at in
      let a = events_at mid at in
      fires_reply e refl other (active-alike mid.start a r.0) r.1 (λ f. r.2 (full-alike mid.start e (alike_back a) f)) (s.step lawful.running.state at).1

  pub only_memory : (f : PairFault) → length mid.lines + length (e ∷ later) ≤ MAX_LINES → f ≢ fault.Memory → FiresPair mid e (Err f) new → ⊥
  only_memory fault.Deep fit other h = never Deep (λ q. cc) h.0
  only_memory fault.Full fit other h = never Full (λ q. cc) h.0
  only_memory fault.HistoryFull fit other h = let n = h.0 in omega (arith, n, fit)
  only_memory fault.Memory fit other h = other refl
