-- What refused calls leave, and what undoing a firing at once restores.
use Rattle.std.proofs.Common.{◌≡◌, ◌≢◌, ℕ, ◌+◌, List, ◌∷◌, inl, inr, refl, ap, arith}
use Rattle.ic_name.specs.Events.{Event}
use Rattle.ic_name.specs.declared.lines.Call.{Call}
use Rattle.ic_name.specs.declared.lines.Call.TheVariants.{Fire, Undo}
use Rattle.ic_name.specs.declared.lines.Line.{Line}
use Rattle.ic_name.specs.declared.lines.Reply.{Reply}
use Rattle.ic_name.specs.declared.lines.Reply.TheVariants.{Fired, Undone}
use Rattle.ic_path.specs.Orders.{here, IsIn, Alike}
use Rattle.ic_path.proofs.Alikes.{alike-map, alike_back}
use Rattle.ic_theory.specs.Starts.{Start, IsProper}
use Rattle.ic_theory.specs.Active.{IsActive}
use Rattle.ic_theory.specs.Causes.{IsDependent, IsRank}
use Rattle.ic_theory.specs.Sound.{IsSound}
use Rattle.ic_theory.specs.Nets.{IsSameNet, net_of}
use Rattle.ic_theory.specs.Machine.{State, events, MachineStep, not_active, deep, full, fired as fired_now, not_standing, held, undone, IsHistory, goes_on}
use Rattle.ic_theory.proofs.AnyOrder.{net-alike}
use Rattle.ic_theory.proofs.Closed.{cause_stays}
use Rattle.ic_theory.proofs.Future.{in_alike, loose_agent, consumed_in, includes_self, includes_more}
use Rattle.ic_theory.proofs.Machines.{fire_sound, history_kept}
use Rattle.ic_theory.proofs.Ranks.{same_set, cause_in, cause_included, first_or_in}
use Rattle.ic_theory.proofs.Replies.{one_answer}

-- a call that is answered by neither firing nor undoing changes nothing that stands
pub refused_same : {s : Start} {st next : State} {call : Call} {reply : Reply} → MachineStep s st call reply next → reply ≢ Fired → reply ≢ Undone → next.standing ≡ st.standing
refused_same (not_active n) f u = refl
refused_same (deep a d) f u = refl
refused_same (full a d n) f u = refl
refused_same (fired_now a d n) f u = absurd (f refl)
refused_same (not_standing n) f u = refl
refused_same (held i j m l) f u = refl
refused_same (undone p j n) f u = absurd (u refl)

-- an active event doesn't stand
is_new : (s : Start) (es : List Event) (e : Event) → IsActive s es e → IsIn e es → ⊥
is_new s es e a i =
    let none = loose_agent s es e.lead a.wire.from_loose in
    let some = consumed_in i.1 in
    absurd (omega arith)

-- and once it was fired nothing that stands rests on it
no_dependent : (s : Start) → IsProper s → (es : List Event) (e f : Event) → IsSound s es → IsActive s es e → IsDependent s (e ∷ es) e f → ⊥
no_dependent s ok es e f h a d = elim (first_or_in (d.0).1) [ inl i ↦ itself i | inr j ↦ earlier j ]
  where
    all : IsSound s (e ∷ es)
    all = fire_sound s ok h a

    itself : f ≡ e → ⊥
    itself i =
        let below = all.ranked.above f e d.0 d.1 in
        let same : all.rank f ≡ all.rank e = ap all.rank i in
        absurd (omega arith)

    earlier : IsIn f es → ⊥
    earlier j = is_new s es e a (cause_in s (cause_stays s ok all.apart (includes_more e (includes_self es)) h j d.1))

-- so it can be undone at once, and what stood before stands again
pub undone_at_once : (s : Start) → IsProper s → {lines : List Line} {st mid : State} {e : Event} → IsHistory s lines st → MachineStep s st (Fire e) Fired mid
    → MachineStep s mid (Undo st.lines) Undone (record { standing = st.standing; lines = mid.lines + 1 })
undone_at_once s ok {st = st} {e = e} h (fired_now a d n) = undone {x = record { event = e; line = st.lines }} here refl (λ f. no_dependent s ok (events st) e f (history_kept s ok h).sound a)

-- whatever the undo leaves
pub restored_standing : (s : Start) → IsProper s → {lines : List Line} {st mid next : State} {e : Event} → IsHistory s lines st → MachineStep s st (Fire e) Fired mid → MachineStep s mid (Undo st.lines) Undone next
    → Alike st.standing next.standing
restored_standing s ok {st = st} h a u = (one_answer (Undo st.lines) (history_kept s ok (goes_on h a)) (undone_at_once s ok h a) u).standing

-- and so does its net
pub restored_net : (s : Start) → IsProper s → {lines : List Line} {st mid next : State} {e : Event} → IsHistory s lines st → MachineStep s st (Fire e) Fired mid → MachineStep s mid (Undo st.lines) Undone next
    → IsSameNet (net_of s (events st)) (net_of s (events next))
restored_net s ok h a u = net-alike s ok (history_kept s ok h).sound (alike-map (λ x. x.event) (restored_standing s ok h a u))

-- ranks of a set are ranks in any order of it
pub rank-alike : (s : Start) {es fs : List Event} (rank : Event → ℕ) → Alike es fs → IsRank s es rank → IsRank s fs rank
rank-alike s rank a h = record {
  above = λ e c i k. h.above e c (in_alike i (alike_back a)) (cause_included s (same_set (alike_back a)) k);
  least = λ e i. elim (h.least e (in_alike i (alike_back a))) [ inl z ↦ inl z | inr c ↦ inr (c.0, cause_included s (same_set a) c.1, c.2) ];
}

pub restored_ranks : (s : Start) → IsProper s → {lines : List Line} {st mid next : State} {e : Event} (rank : Event → ℕ) → IsHistory s lines st → MachineStep s st (Fire e) Fired mid → MachineStep s mid (Undo st.lines) Undone next
    → IsRank s (events st) rank → IsRank s (events next) rank
restored_ranks s ok rank h a u r = rank-alike s rank (alike-map (λ x. x.event) (restored_standing s ok h a u)) r
