-- A history determines what stands after it, up to order.
use Rattle.std.proofs.Common.{◌≡◌, ◌≢◌, ℕ, List, [], ◌∷◌, ◌++◌, length, refl, sym, ap, subst, ◌∙◌}
use Rattle.std.proofs.lemmas.List.{same_from_push}
use Rattle.ic_name.specs.Events.{Event}
use Rattle.ic_name.specs.declared.lines.Call.{Call}
use Rattle.ic_name.specs.declared.lines.Call.TheVariants.{Fire, Undo}
use Rattle.ic_name.specs.declared.lines.Line.{Line}
use Rattle.ic_name.specs.declared.lines.Reply.{Reply}
use Rattle.ic_name.specs.declared.lines.Reply.TheVariants.{Fired, Undone}
use Rattle.ic_path.specs.Orders.{Pick, Alike}
use Rattle.ic_path.proofs.Alikes.{alike_self, alike_pick, alike_then, alike-cons}
use Rattle.ic_theory.specs.Starts.{Start, IsProper}
use Rattle.ic_theory.specs.Machine.{Standing, State, MachineStep, not_active, deep, full, fired, not_standing, held, undone, IsHistory, begins, goes_on}
use Rattle.ic_theory.proofs.Machines.{IsKept, history_kept, history_length, two_picks}
use Rattle.ic_theory.proofs.Replies.{one_line}
use Rattle.ic_theory.proofs.Restored.{refused_same}

-- what stands after a firing
fired_standing : {s : Start} {st next : State} {call : Call} (e : Event) → call ≡ Fire e → MachineStep s st call Fired next
    → next.standing ≡ record { event = e; line = st.lines } ∷ st.standing
fired_standing {st = st} e same (fired {e = f} a d n) = let q : f ≡ e = cc in λ i. record { event = q i; line = st.lines } ∷ st.standing

-- what stands after an undo is what stood without the event of the line
undone_standing : {s : Start} {st next : State} {l : ℕ} → MachineStep s st (Undo l) Undone next
    → (x : Standing) × Pick x st.standing next.standing × (x.line ≡ l)
undone_standing (undone {x = x} k e n) = (x, k, e)

-- where the same stands, up to order, the same stands after the same line
module _ {s : Start} {st other : State} (k : IsKept s other) (alike : Alike st.standing other.standing) (lines : st.lines ≡ other.lines) where
  still : {call : Call} {reply : Reply} {next : State} → reply ≢ Fired → reply ≢ Undone → MachineStep s other call reply next
      → Alike st.standing next.standing
  still f u h = subst (λ (xs : List Standing). Alike st.standing xs) (sym (refused_same h f u)) alike

  taken_out : {x : Standing} {rest : List Standing} {l : ℕ} → Pick x st.standing rest → x.line ≡ l → (next : State)
      → (y : Standing) × Pick y other.standing next.standing × (y.line ≡ l) → Alike rest next.standing
  taken_out {x} {rest} p e next (y, q, f) =
      let moved = alike_pick alike p in
      let one : x ≡ y = one_line k (moved.0, moved.1) (next.standing, q) (e ∙ sym f) in
      alike_then moved.2 (two_picks one moved.1 q)

  same_next : {call : Call} {reply : Reply} {next third : State} → MachineStep s st call reply next → MachineStep s other call reply third
      → Alike next.standing third.standing
  same_next (not_active n) h = still (λ q. cc) (λ q. cc) h
  same_next (deep a d) h = still (λ q. cc) (λ q. cc) h
  same_next (full a d n) h = still (λ q. cc) (λ q. cc) h
  same_next (fired {e = e} a d n) h =
      subst (λ (xs : List Standing). Alike (record { event = e; line = st.lines } ∷ st.standing) xs) (sym (fired_standing e refl h))
      (subst (λ l. Alike (record { event = e; line = st.lines } ∷ st.standing) (record { event = e; line = l } ∷ other.standing)) lines (alike-cons _ alike))
  same_next (not_standing n) h = still (λ q. cc) (λ q. cc) h
  same_next (held i j m l) h = still (λ q. cc) (λ q. cc) h
  same_next {third = third} (undone p e n) h = taken_out p e third (undone_standing h)

-- so what stands after one history is alike
pub same_history : (s : Start) → IsProper s → {ls ks : List Line} {st other : State} → ls ≡ ks → IsHistory s ls st → IsHistory s ks other
    → Alike st.standing other.standing
same_history s ok same begins begins = alike_self []
same_history s ok same begins (goes_on {lines = ks} {call = call} {reply = reply} k b) = absurd (longer ks _ same)
  where
    longer : (xs : List Line) (x : Line) → [] ≡ xs ++ x ∷ [] → ⊥
    longer [] x e = cc
    longer (y ∷ xs) x e = cc
same_history s ok same (goes_on {lines = ls} {call = call} {reply = reply} h a) begins = absurd (longer ls _ same)
  where
    longer : (xs : List Line) (x : Line) → xs ++ x ∷ [] ≡ [] → ⊥
    longer [] x e = cc
    longer (y ∷ xs) x e = cc
same_history s ok same (goes_on {lines = ls} {st = st} {call = call} {reply = reply} h a) (goes_on {lines = ks} {st = other} {next = next} {call = calls} {reply = replies} k b) =
    let parts = same_from_push ls ks _ _ same in
    let one : call ≡ calls = ap (λ (l : Line). l.call) parts.1 in
    let two : reply ≡ replies = ap (λ (l : Line). l.reply) parts.1 in
    let count = history_length h ∙ ap length parts.0 ∙ sym (history_length k) in
    same_next (history_kept s ok k) (same_history s ok parts.0 h k) count a (subst (λ (c : Call). MachineStep s other c reply next) (sym one) (subst (λ (r : Reply). MachineStep s other calls r next) (sym two) b))
