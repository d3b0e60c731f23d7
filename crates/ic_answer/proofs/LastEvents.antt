-- The events of a bench that were fired last, found and undone.
use Rattle.std.proofs.Common.{◌≡◌, ◌≢◌, ℕ, ◌+◌, ◌<◌, ◌≤◌, List, [], ◌∷◌, ◌++◌, take, drop, get_or, length, map, Ok, Err, inl, inr, refl, sym, ap, ap₂, subst, append_assoc, append-nil, arith, ◌∙◌}
use Rattle.std.proofs.lemmas.Bool.{cases_lt}
use Rattle.std.proofs.lemmas.List.{map-append, drop_more, take_more, get_or-map, length-map}
use Rattle.ic_name.specs.declared.ids.EventId.{EventId}
use Rattle.ic_name.specs.declared.limits.TheConstants.{MAX_LINES}
use Rattle.ic_name.specs.declared.lines.Call.TheVariants.{Undo}
use Rattle.ic_name.specs.declared.lines.Reply.TheVariants as reply
use Rattle.ic_path.specs.Orders.{IsIn}
use Rattle.ic_path.proofs.Alikes.{alike_back, alike-in}
use Rattle.ic_path.proofs.InLists.{in-map, map_cases, in-append_cases, in_behind}
use Rattle.ic_path.proofs.Picks.{none_in, in_first, in_more, in-cons_cases, pick_before}
use Rattle.ic_theory.specs.Starts.{Start}
use Rattle.ic_theory.specs.Machine.{Standing, State, MachineStep}
use Rattle.ic_theory.proofs.Machines.{history_kept, history_length}
use Rattle.ic_roster.specs.Rosters.{Stander, HaveOwnLines}
use Rattle.ic_set.specs.Views.{events_of}
use Rattle.ic_journal.specs.Views.{BenchView}
use Rattle.ic_journal.specs.Benches.{fired_in, IsAt, IsBench}
use Rattle.ic_journal.specs.Calls.{Undoes, LeavesOut, Stays}
use Rattle.ic_journal.specs.Undone.{undoing}
use Rattle.ic_journal.specs.declared.faults.UndoFault.{UndoFault}
use Rattle.ic_journal.specs.declared.faults.UndoFault.TheVariants as undo
use Rattle.ic_undo.proofs.Backs.{one_in_line, apart}
use Rattle.ic_answer.specs.LastFired.{AreFalling, AreFiredSince, AreSince, AreUndoneSince}
use Rattle.ic_answer.specs.Unstepped.{IsLastFired, AreUnstepped, none as no_undo}
use Rattle.ic_answer.proofs.FiredBefore.{last_not_held, unstepped_last}
use Rattle.ic_answer.proofs.UndoingReplies.{none_standing}

-- ---- found

-- no event was fired after the last line
pub none_since : (v : BenchView) → IsBench v → AreFiredSince v (length v.lines) []
none_since v lawful = record { only = λ x i. absurd (none_in i); each = λ x i l. absurd (later x i l); falling = tt }
  where
    later : (x : Stander) → IsIn x v.events → length v.lines ≤ x.id.line → ⊥
    later x i l =
        let at = lawful.running.at in
        let below = (history_kept v.start lawful.set.proper at.history).below (fired_in x) (alike-in at.standing (in-map fired_in i)) in
        let count = history_length at.history in
        omega (arith, below, count, l)

-- one more at the end, which was fired before the others
falling_more : (xs : List Stander) (x : Stander) → AreFalling xs → ((y : Stander) → IsIn y xs → x.id.line < y.id.line) → AreFalling (xs ++ x ∷ [])
falling_more [] x f before = (λ y i. absurd (none_in i), tt)
falling_more (z ∷ zs) x f before = (
  λ y i. elim (in-append_cases zs i) [
    | inl j ↦ f.0 y j
    | inr j ↦ elim (in-cons_cases j) [ inl same ↦ subst (λ (w : Stander). w.id.line < z.id.line) (sym same) (before z (in_first z zs)) | inr k ↦ absurd (none_in k) ]
  ],
  falling_more zs x f.1 (λ y i. before y (in_more z i)),
)

-- an event was fired in the line before
pub one_since : (v : BenchView) (line : ℕ) (xs : List Stander) (x : Stander) → HaveOwnLines v.events → AreFiredSince v (line + 1) xs → IsIn x v.events → x.id.line ≡ line → AreFiredSince v line (xs ++ x ∷ [])
one_since v line xs x own h i e = record { only = only; each = each; falling = falling_more xs x h.falling before }
  where
    before : (y : Stander) → IsIn y xs → x.id.line < y.id.line
    before y j = let l = (h.only y j).1 in omega (arith, l, e)

    only : (y : Stander) → IsIn y (xs ++ x ∷ []) → IsIn y v.events × (line ≤ y.id.line)
    only y j = elim (in-append_cases xs j) [
      | inl k ↦ (let o = h.only y k in let l = o.1 in (o.0, omega (arith, l)))
      | inr k ↦ elim (in-cons_cases k) [
        | inl same ↦ subst (λ (z : Stander). IsIn z v.events × (line ≤ z.id.line)) (sym same) (i, omega (arith, e))
        | inr n ↦ absurd (none_in n)
      ]
    ]

    each : (y : Stander) → IsIn y v.events → line ≤ y.id.line → IsIn y (xs ++ x ∷ [])
    each y j l = elim (cases_lt line y.id.line) [
      | inl m ↦ (let k = h.each y j (omega (arith, m)) in (_, pick_before (x ∷ []) k.1))
      | inr m ↦ (let same : y ≡ x = one_in_line v own y x j i (omega (arith, l, m, e)) in subst (λ z. IsIn z (xs ++ x ∷ [])) (sym same) (in_behind xs (in_first x [])))
    ]

-- or none was
pub none_more_since : (v : BenchView) (line : ℕ) (xs : List Stander) → AreFiredSince v (line + 1) xs → ((x : Stander) → IsIn x v.events → x.id.line ≢ line) → AreFiredSince v line xs
none_more_since v line xs h none = record {
  only = λ y i. let o = h.only y i in let l = o.1 in (o.0, omega (arith, l));
  each = λ y i l. elim (cases_lt line y.id.line) [ inl m ↦ h.each y i (omega (arith, m)) | inr m ↦ absurd (none y i (omega (arith, l, m))) ];
  falling = h.falling;
}

-- the ids of none, of one more, and of no more
pub first_ids : (v : BenchView) (line : ℕ) (ids : List EventId) → IsBench v → line ≡ length v.lines → ids ≡ [] → AreSince v line ids
first_ids v line ids lawful last none = record { order = []; since = subst (λ n. AreFiredSince v n []) (sym last) (none_since v lawful); named = sym none }

pub one_more_id : (v : BenchView) (line : ℕ) (ids new : List EventId) (id : EventId) → IsBench v → AreSince v (line + 1) ids → (x : Stander) × IsIn x v.events × (x.id ≡ id) × (id.line ≡ line)
    → new ≡ ids ++ id ∷ [] → AreSince v line new
one_more_id v line ids new id lawful h x put = record {
  order = h.order ++ x.0 ∷ [];
  since = one_since v line h.order x.0 lawful.set.own_lines h.since x.1 (ap (λ (d : EventId). d.line) x.2 ∙ x.3);
  named = map-append (λ (y : Stander). y.id) h.order (x.0 ∷ []) ∙ ap₂ (λ ds d. ds ++ d ∷ []) h.named x.2 ∙ sym put;
}

pub no_more_ids : (v : BenchView) (line : ℕ) (ids : List EventId) → AreSince v (line + 1) ids → ((x : Stander) → IsIn x v.events → x.id.line ≢ line) → AreSince v line ids
no_more_ids v line ids h none = record { order = h.order; since = none_more_since v line h.order h.since none; named = h.named }

-- ---- undone

module _ (mid new : BenchView) (lawful : IsBench mid) (line : ℕ) (x : Stander) (xs : List Stander) (since : AreFiredSince mid line (x ∷ xs)) where
  -- none that stands was fired after the first of them
  not_after : (y : Stander) → IsIn y mid.events → y.id.line ≤ x.id.line
  not_after y i = elim (cases_lt y.id.line line) [
    | inl l ↦ (let first = (since.only x (in_first x xs)).1 in omega (arith, l, first))
    | inr l ↦ elim (in-cons_cases (since.each y i l)) [
      | inl same ↦ (let e : y.id.line ≡ x.id.line = ap (λ (z : Stander). z.id.line) same in omega (arith, e))
      | inr j ↦ (let before = since.falling.0 y j in omega (arith, before))
    ]
  ]

  -- so it was fired last
  pub is_last : (st : State) → IsAt mid st → IsLastFired st (fired_in x)
  is_last st at = record {
    stands = alike-in at.standing (in-map fired_in (since.only x (in_first x xs)).0);
    last = λ y i. (
        let z = map_cases fired_in mid.events (alike-in (alike_back at.standing) i) in
        let e : z.0.id.line ≡ y.line = ap (λ (w : Standing). w.line) z.2 in
        let l = not_after z.0 z.1 in
        omega (arith, e, l)
        );
  }

  -- and the others are left
  pub others_left : LeavesOut mid x.id new → AreFiredSince new line xs
  others_left h = record { only = λ y i. (there y i, (since.only y (in_more x i)).1); each = each; falling = since.falling.1 }
    where
      entry : Stander
      entry = h.2.entry

      is_entry : entry ≡ x
      is_entry = one_in_line mid lawful.set.own_lines entry x (alike-in (alike_back h.2.events) (in_first entry new.events)) (since.only x (in_first x xs)).0 (ap (λ (d : EventId). d.line) h.2.under ∙ h.1)

      there : (y : Stander) → IsIn y xs → IsIn y new.events
      there y i = elim (in-cons_cases (alike-in h.2.events (since.only y (in_more x i)).0)) [
        | inl same ↦ (let before = since.falling.0 y i in let e : y.id.line ≡ x.id.line = ap (λ (z : Stander). z.id.line) (same ∙ is_entry) in absurd (omega (arith, before, e)))
        | inr j ↦ j
      ]

      each : (y : Stander) → IsIn y new.events → line ≤ y.id.line → IsIn y xs
      each y i l = elim (in-cons_cases (since.each y (alike-in (alike_back h.2.events) (in_more entry i)) l)) [
        | inl same ↦ absurd (apart mid lawful.set.own_lines (entry ∷ []) new.events h.2.events y (subst (λ z. IsIn z (entry ∷ [])) (is_entry ∙ sym same) (in_first entry [])) i)
        | inr j ↦ j
      ]

  -- with room its undo isn't refused
  pub isnt_refused : (f : UndoFault) → 1 ≤ mid.room → Undoes mid x.id (Err f) new → ⊥
  isnt_refused undo.NotStanding room h =
      let at = lawful.running.at in
      let step = h.0.step lawful.running.state at in
      none_standing step.1 (fired_in x) (is_last lawful.running.state at).stands refl
  isnt_refused (undo.Held d) room h =
      let at = lawful.running.at in
      let step = h.0.0.step lawful.running.state at in
      last_not_held mid.start lawful.set.proper at.history (is_last lawful.running.state at) refl step.1
  isnt_refused undo.HistoryFull room h = let full = h.0 in let short = lawful.running.short in omega (arith, full, short, room)
  isnt_refused undo.Memory room h = let none = h.1 in omega (arith, none, room)

  module _ (old : BenchView) (gone : List Stander) (did : AreUndoneSince old line gone (x ∷ xs) mid) where
    -- so it is undone, too
    pub one_undone : 1 ≤ mid.room → Undoes mid x.id (Ok tt) new → AreUndoneSince old line (gone ++ x ∷ []) xs new
    one_undone room h = record {
      start = h.0.start ∙ did.start;
      longer = record { more = did.longer.more ++ undoing x ∷ []; lines = h.0.lines ∙ ap (λ ls. ls ++ undoing x ∷ []) did.longer.lines ∙ append_assoc old.lines did.longer.more (undoing x ∷ []) };
      unstepped = unstepped;
      left = others_left h.1;
    }
      where
        unstepped : (st : State) → IsAt old st → (next : State) × AreUnstepped old.start st (events_of (gone ++ x ∷ [])) next × IsAt new next
        unstepped st at =
            let before = did.unstepped st at in
            let step = h.0.step before.0 before.2 in
            let few : before.0.lines < MAX_LINES = (let count = history_length before.2.history in let short = lawful.running.short in omega (arith, count, short, room)) in
            let answered = subst (λ (s : Start). MachineStep s before.0 (Undo x.id.line) reply.Undone step.0) did.start step.1 in
            (step.0, subst (λ es. AreUnstepped old.start st es step.0) (sym (map-append (λ (y : Stander). y.event) gone (x ∷ []))) (unstepped_last before.1 (is_last before.0 before.2) few answered), step.2)

-- nothing is undone yet
pub none_undone : (v : BenchView) (line : ℕ) (order : List Stander) → AreFiredSince v line order → AreUndoneSince v line [] order v
none_undone v line order since = record { start = refl; longer = record { more = []; lines = sym (append-nil v.lines) }; unstepped = λ st at. (st, no_undo, at); left = since }

-- the event at a place, between those before and those after it
pub record IsNext (order : List Stander) (k : ℕ) (d : EventId) : Type 0 where
  pub placed : Stander
  pub under : placed.id ≡ d
  pub before : take (k + 1) order ≡ take k order ++ placed ∷ []
  pub left : drop k order ≡ placed ∷ drop (k + 1) order

pub next_at : (order : List Stander) (ids : List EventId) (k : ℕ) (d : EventId) → map (λ x. x.id) order ≡ ids → k < length ids → IsNext order k (get_or ids k d)
next_at [] ids k d named l = let none : 0 ≡ length ids = ap length named in absurd (omega (arith, l, none))
next_at (y ∷ ys) ids k d named l =
    let long = length-map (y ∷ ys) (λ (x : Stander). x.id) in
    let many = ap length named in
    let few : k < length (y ∷ ys) = omega (arith, long, many, l) in
    record {
      placed = get_or (y ∷ ys) k y;
      under = sym (get_or-map (λ (x : Stander). x.id) (y ∷ ys) k y d few) ∙ ap (λ ds. get_or ds k d) named;
      before = take_more (y ∷ ys) k y few;
      left = drop_more (y ∷ ys) k y few;
    }

-- the event at a place is undone, where those before it are
module _ (old mid new : BenchView) (line : ℕ) (order : List Stander) (ids : List EventId) (k : ℕ) (d : EventId) (named : map (λ x. x.id) order ≡ ids) (few : k < length ids)
    (lawful : IsBench mid) (room : 1 ≤ mid.room) (did : AreUndoneSince old line (take k order) (drop k order) mid) where
  next : IsNext order k (get_or ids k d)
  next = next_at order ids k d named few

  did_so : AreUndoneSince old line (take k order) (next.placed ∷ drop (k + 1) order) mid
  did_so = subst (λ xs. AreUndoneSince old line (take k order) xs mid) next.left did

  pub next_undone : Undoes mid (get_or ids k d) (Ok tt) new → AreUndoneSince old line (take (k + 1) order) (drop (k + 1) order) new
  next_undone h =
      subst (λ xs. AreUndoneSince old line xs (drop (k + 1) order) new) (sym next.before)
      (one_undone mid new lawful line next.placed (drop (k + 1) order) did_so.left old (take k order) did_so room (subst (λ (e : EventId). Undoes mid e (Ok tt) new) (sym next.under) h))

  pub next_isnt_refused : (f : UndoFault) → Undoes mid (get_or ids k d) (Err f) new → ⊥
  next_isnt_refused f h = isnt_refused mid new lawful line next.placed (drop (k + 1) order) did_so.left f room (subst (λ (e : EventId). Undoes mid e (Err f) new) (sym next.under) h)

-- ---- the same on a bench that has more room

pub since_still : (old new : BenchView) (line : ℕ) (xs : List Stander) → Stays old new → AreFiredSince old line xs → AreFiredSince new line xs
since_still old new line xs stays h = record {
  only = λ x i. let o = h.only x i in (alike-in stays.same.events o.0, o.1);
  each = λ x i l. h.each x (alike-in (alike_back stays.same.events) i) l;
  falling = h.falling;
}
