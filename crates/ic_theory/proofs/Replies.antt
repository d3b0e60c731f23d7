-- What a call answers is determined.
use Rattle.std.proofs.Common.{◌≡◌, ◌≢◌, ℕ, ◌+◌, ◌≤◌, Bool, List, [], ◌∷◌, map, refl, sym, ap, arith, ◌∙◌, subst}
use Rattle.std.proofs.lemmas.Bool.{eq-eqb}
use Rattle.std.proofs.lemmas.Cmp.{then_total, on_total, nat_cmp_total}
use Rattle.std.specs.declared.cmp.Ordering.TheVariants.{Equal}
use Rattle.std.specs.Cmp.{IsTotalOrder}
use Rattle.ic_name.specs.Names.{Name}
use Rattle.ic_name.specs.Events.{Event}
use Rattle.ic_name.specs.Same.{same_name}
use Rattle.ic_name.proofs.SameFacts.{same_name_self}
use Rattle.ic_name.proofs.NameOrder.{name_cmp_total, name_tied}
use Rattle.ic_name.specs.declared.lines.Call.{Call}
use Rattle.ic_name.specs.declared.lines.Call.TheVariants.{Fire, Undo}
use Rattle.ic_name.specs.declared.lines.Reply.{Reply}
use Rattle.ic_name.specs.declared.lines.Reply.TheVariants.{Fired, NotActive, Deep, Full, Undone, NotStanding, Held}
use Rattle.ic_path.specs.Orders.{Pick, IsIn, Alike}
use Rattle.ic_path.proofs.Alikes.{alike_self}
use Rattle.ic_theory.specs.Starts.{Start}
use Rattle.ic_theory.specs.Sets.{consumed_times}
use Rattle.ic_theory.specs.Active.{IsActive}
use Rattle.ic_theory.specs.Causes.{IsDependent, canonical_cmp}
use Rattle.ic_theory.specs.Sound.{IsSound}
use Rattle.ic_theory.specs.Machine.{Standing, State, events, noted, IsDeep, IsFull, IsLeastDependent, MachineStep, not_active, deep, full, fired, not_standing, held, undone}
use Rattle.ic_theory.proofs.Future.{is_named}
use Rattle.ic_theory.proofs.Machines.{times, one_that, two_picks, line_is, IsKept}
use Rattle.ic_name.proofs.Orderings.{then_tied, neither_greater}

-- the canonical order is total, and ties only events with the same lead
pub canonical_total : (rank : Event → ℕ) → IsTotalOrder (canonical_cmp rank)
canonical_total rank = then_total (on_total rank nat_cmp_total) (then_total (on_total (λ (e : Event). e.lead) name_cmp_total) (on_total (λ (e : Event). e.other) name_cmp_total))

-- events that it ties have the same lead
pub canonical_tied : (rank : Event → ℕ) (e f : Event) → canonical_cmp rank e f ≡ Equal → e.lead ≡ f.lead
canonical_tied rank e f h =
    let one = then_tied _ _ h in
    let two = then_tied _ _ one.1 in
    name_tied e.lead f.lead two.0

-- two least dependents have the same lead
pub least_lead : {s : Start} {es : List Event} (e f g : Event) → IsSound s es → IsLeastDependent s es e f → IsLeastDependent s es e g → f.lead ≡ g.lead
least_lead e f g h l m = canonical_tied h.rank f g (neither_greater (canonical_cmp h.rank f g) (canonical_cmp h.rank g f) ((canonical_total h.rank).antisymm f g) (l.least h.rank h.ranked g m.dependent) (m.least h.rank h.ranked f l.dependent))

-- the name leads its event
abbrev lead_is : Name → Standing → Bool
lead_is n x = same_name n x.event.lead

-- it is counted among the consumptions
lead_times : (n : Name) (xs : List Standing) → times (lead_is n) xs ≤ consumed_times n (map (λ x. x.event) xs)
lead_times n [] = omega arith
lead_times n (x ∷ xs) = let ih = lead_times n xs in omega arith

module _ {s : Start} {st : State} (k : IsKept s st) where
  -- no two that stand have one line, or one lead
  pub one_line : {x y : Standing} → IsIn x st.standing → IsIn y st.standing → x.line ≡ y.line → x ≡ y
  one_line {x} {y} i j e = one_that (line_is y.line) (eq-eqb x.line y.line e) (eq-eqb y.line y.line refl) (k.once y.line) i.1 j.1

  -- nor one lead
  pub one_lead : {x y : Standing} → IsIn x st.standing → IsIn y st.standing → x.event.lead ≡ y.event.lead → x ≡ y
  one_lead {x} {y} i j e = let t = lead_times x.event.lead st.standing in let a = k.sound.apart x.event.lead in one_that (lead_is x.event.lead) (same_name_self x.event.lead) (is_named e) (omega arith) i.1 j.1

-- a reply to a firing, and what it says
data FireReply (s : Start) (st : State) (e : Event) (r : Reply) (next : State) : Type 0 where
  no_pair : (IsActive s (events st) e → ⊥) → r ≡ NotActive → next ≡ noted st → FireReply s st e r next
  too_deep : IsActive s (events st) e → IsDeep e → r ≡ Deep → next ≡ noted st → FireReply s st e r next
  too_full : IsActive s (events st) e → (IsDeep e → ⊥) → IsFull s (events st) e → r ≡ Full → next ≡ noted st → FireReply s st e r next
  is_fired : IsActive s (events st) e → (IsDeep e → ⊥) → (IsFull s (events st) e → ⊥) → r ≡ Fired → next ≡ record { standing = record { event = e; line = st.lines } ∷ st.standing; lines = st.lines + 1 } → FireReply s st e r next

-- the same about an equal event
fire_at : {s : Start} {st next : State} {r : Reply} {f e : Event} → f ≡ e → FireReply s st f r next → FireReply s st e r next
fire_at {s} {st} {next} {r} i h = subst (λ x. FireReply s st x r next) i h

-- each answer to a firing says one of these
fire_reply : {s : Start} {st next : State} {call : Call} {r : Reply} (e : Event) → call ≡ Fire e → MachineStep s st call r next → FireReply s st e r next
fire_reply e h (not_active {e = f} n) = let i : f ≡ e = cc in fire_at i (no_pair n refl refl)
fire_reply e h (deep {e = f} a d) = let i : f ≡ e = cc in fire_at i (too_deep a d refl refl)
fire_reply e h (full {e = f} a d n) = let i : f ≡ e = cc in fire_at i (too_full a d n refl refl)
fire_reply e h (fired {e = f} a d n) = let i : f ≡ e = cc in fire_at i (is_fired a d n refl refl)
fire_reply e h (not_standing n) = cc
fire_reply e h (held i j m l) = cc
fire_reply e h (undone p j n) = cc

-- a reply to an undo, and what it says
data UndoReply (s : Start) (st : State) (l : ℕ) (r : Reply) (next : State) : Type 0 where
  none_stands : ((x : Standing) → IsIn x st.standing → x.line ≢ l) → r ≡ NotStanding → next ≡ noted st → UndoReply s st l r next
  is_held : {x y : Standing} → IsIn x st.standing → x.line ≡ l → IsIn y st.standing → IsLeastDependent s (events st) x.event y.event → r ≡ Held y.line → next ≡ noted st → UndoReply s st l r next
  is_undone : {x : Standing} {rest : List Standing} → Pick x st.standing rest → x.line ≡ l → ((f : Event) → IsDependent s (events st) x.event f → ⊥) → r ≡ Undone → next ≡ record { standing = rest; lines = st.lines + 1 } → UndoReply s st l r next

-- each answer to an undo says one of these
undo_reply : {s : Start} {st next : State} {call : Call} {r : Reply} (l : ℕ) → call ≡ Undo l → MachineStep s st call r next → UndoReply s st l r next
undo_reply l h (not_active n) = cc
undo_reply l h (deep a d) = cc
undo_reply l h (full a d n) = cc
undo_reply l h (fired a d n) = cc
undo_reply l h (not_standing {l = m} n) = let i : m ≡ l = cc in none_stands (λ x j q. n x j (q ∙ sym i)) refl refl
undo_reply l h (held {l = m} a b c d) = let i : m ≡ l = cc in is_held a (b ∙ i) c d refl refl
undo_reply l h (undone {l = m} p j n) = let i : m ≡ l = cc in is_undone p (j ∙ i) n refl refl

-- two answers to one call, and the states that they leave, are the same
pub record AreSameAnswers (r r' : Reply) (a a' : State) : Type 0 where
  pub reply : r ≡ r'
  pub standing : Alike a.standing a'.standing
  pub lines : a.lines ≡ a'.lines

-- equal replies that leave equal states are the same answer
same_answers : {r r' : Reply} {a a' : State} → r ≡ r' → a ≡ a' → AreSameAnswers r r' a a'
same_answers {a = a} e h = record { reply = e; standing = subst (λ (x : State). Alike a.standing x.standing) h (alike_self a.standing); lines = ap (λ (x : State). x.lines) h }

-- a firing has one answer
fires_once : {s : Start} {st a a' : State} {r r' : Reply} (e : Event) → FireReply s st e r a → FireReply s st e r' a' → AreSameAnswers r r' a a'
fires_once e (no_pair n h i) (no_pair m k j) = same_answers (h ∙ sym k) (i ∙ sym j)
fires_once e (no_pair n h i) (too_deep b d k j) = absurd (n b)
fires_once e (no_pair n h i) (too_full b d f k j) = absurd (n b)
fires_once e (no_pair n h i) (is_fired b d f k j) = absurd (n b)
fires_once e (too_deep b d h i) (no_pair n k j) = absurd (n b)
fires_once e (too_deep b d h i) (too_deep b' d' k j) = same_answers (h ∙ sym k) (i ∙ sym j)
fires_once e (too_deep b d h i) (too_full b' d' f k j) = absurd (d' d)
fires_once e (too_deep b d h i) (is_fired b' d' f k j) = absurd (d' d)
fires_once e (too_full b d f h i) (no_pair n k j) = absurd (n b)
fires_once e (too_full b d f h i) (too_deep b' d' k j) = absurd (d d')
fires_once e (too_full b d f h i) (too_full b' d' f' k j) = same_answers (h ∙ sym k) (i ∙ sym j)
fires_once e (too_full b d f h i) (is_fired b' d' f' k j) = absurd (f' f)
fires_once e (is_fired b d f h i) (no_pair n k j) = absurd (n b)
fires_once e (is_fired b d f h i) (too_deep b' d' k j) = absurd (d d')
fires_once e (is_fired b d f h i) (too_full b' d' f' k j) = absurd (f f')
fires_once e (is_fired b d f h i) (is_fired b' d' f' k j) = same_answers (h ∙ sym k) (i ∙ sym j)

-- an undo has one answer
undoes_once : {s : Start} {st a a' : State} {r r' : Reply} (l : ℕ) → IsKept s st → UndoReply s st l r a → UndoReply s st l r' a' → AreSameAnswers r r' a a'
undoes_once l kept (none_stands n h i) (none_stands m k j) = same_answers (h ∙ sym k) (i ∙ sym j)
undoes_once l kept (none_stands n h i) (is_held {x = x} c e d f k j) = absurd (n x c e)
undoes_once l kept (none_stands n h i) (is_undone {x = x} p e f k j) = absurd (n x (_, p) e)
undoes_once {s} {st} l kept (is_held {x = x} c e d f h i) (none_stands n k j) = absurd (n x c e)
undoes_once {s} {st} l kept (is_undone {x = x} p e f h i) (none_stands n k j) = absurd (n x (_, p) e)
undoes_once {s} {st} l kept (is_held {x = x} {y = y} c e d f h i) (is_held {x = x'} {y = y'} c' e' d' f' k j) =
    let same : x ≡ x' = one_line kept c c' (e ∙ sym e') in
    let g : IsLeastDependent s (events st) x'.event y.event = subst (λ (z : Standing). IsLeastDependent s (events st) z.event y.event) same f in
    let same_y : y ≡ y' = one_lead kept d d' (least_lead x'.event y.event y'.event kept.sound g f') in
    same_answers (h ∙ (ap (λ (z : Standing). Held z.line) same_y ∙ sym k)) (i ∙ sym j)
undoes_once {s} {st} l kept (is_held {x = x} {y = y} c e d f h i) (is_undone {x = x'} p e' n k j) =
    let same : x ≡ x' = one_line kept c (_, p) (e ∙ sym e') in
    let g : IsLeastDependent s (events st) x'.event y.event = subst (λ (z : Standing). IsLeastDependent s (events st) z.event y.event) same f in
    absurd (n y.event g.dependent)
undoes_once {s} {st} l kept (is_undone {x = x} p e n h i) (is_held {x = x'} {y = y} c e' d f k j) =
    let same : x' ≡ x = one_line kept c (_, p) (e' ∙ sym e) in
    let g : IsLeastDependent s (events st) x.event y.event = subst (λ (z : Standing). IsLeastDependent s (events st) z.event y.event) same f in
    absurd (n y.event g.dependent)
undoes_once {s} {st} l kept (is_undone {x = x} {rest = rest} p e n h i) (is_undone {x = x'} {rest = rest'} p' e' n' k j) =
    let same : x ≡ x' = one_line kept (_, p) (_, p') (e ∙ sym e') in
    let t = two_picks same p p' in
    record {
      reply = h ∙ sym k;
      standing = rw (i, j) t;
      lines = rw (i, j) refl;
    }

-- what a call answers is determined, and what stands after it up to order
pub one_answer : {s : Start} {st a a' : State} {r r' : Reply} (call : Call) → IsKept s st → MachineStep s st call r a → MachineStep s st call r' a' → AreSameAnswers r r' a a'
one_answer (Fire e) kept x y = fires_once e (fire_reply e refl x) (fire_reply e refl y)
one_answer (Undo l) kept x y = undoes_once l kept (undo_reply l refl x) (undo_reply l refl y)
