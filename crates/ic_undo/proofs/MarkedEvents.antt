-- The events of a mark, and those that stand.
use Rattle.std.proofs.Common.{◌≡◌, ℕ, zero, suc, ◌+◌, ◌<◌, List, [], ◌∷◌, ◌++◌, map, ◌⊎◌, inl, inr, refl, sym, ap, subst, arith, ◌∙◌}
use Rattle.std.specs.Prelude.{if◌then◌else◌}
use Rattle.std.specs.List.Sorted.{IsStrictlySortedBy}
use Rattle.std.proofs.lemmas.List.{map-id, map-append}
use Rattle.ic_name.specs.Events.{Event}
use Rattle.ic_name.specs.Same.{same_name}
use Rattle.ic_name.proofs.SameFacts.{same_name_self}
use Rattle.ic_path.specs.Orders.{here, IsIn, Alike, IsOnce}
use Rattle.ic_path.proofs.Alikes.{alike_back, alike_then, alike-in, alike-map, picked_alike}
use Rattle.ic_path.proofs.EachOnce.{once_rest, once_cons, once_alike}
use Rattle.ic_path.proofs.Picks.{in_first, in_more, pick_before}
use Rattle.ic_theory.specs.Causes.{canonical_cmp}
use Rattle.ic_theory.specs.Sets.{consumed_times}
use Rattle.ic_theory.specs.Sound.{IsSound}
use Rattle.ic_theory.specs.Starts.{Start, IsProper}
use Rattle.ic_theory.proofs.Closed.{cause_stays}
use Rattle.ic_theory.proofs.Future.{in_alike, consumed_in, consumer, one_partner}
use Rattle.ic_theory.proofs.Ranks.{sound_order, sound_union, consumed-alike, cause_in, cause_included}
use Rattle.ic_roster.specs.Rosters.{Stander}
use Rattle.ic_set.specs.Sets.{IsStandingSet}
use Rattle.ic_set.specs.Views.{standing, events_of}
use Rattle.ic_journal.specs.Views.{BenchView, set_of}
use Rattle.ic_journal.specs.Undone.{AreUndone}
use Rattle.ic_undo.specs.Marks.{MarkView, IsMark}
use Rattle.ic_undo.specs.GoingBack.{IsOutside, AreOutside, AreMissing, AreFired}
use Rattle.ic_path.proofs.InLists.{in-append_cases, in_behind, in-map, map_cases}
use Rattle.ic_undo.proofs.Backs.{apart}
use Rattle.ic_undo.proofs.ChosenLists.{Chosen, chosen_from, chosen_in, chosen_once, chosen_sorted}
use Rattle.ic_undo.proofs.FirableEvents.{HaveCausesBefore}
use Rattle.ic_undo.proofs.FreeOrders.{AreWithDependents}
use Rattle.ic_undo.proofs.Places.{parts, sorted_behind}
use Rattle.ic_theory.proofs.Exchanging.{not_above}

-- events of two sound sets that one agent leads are one
pub one_led : (s : Start) → IsProper s → {es fs : List Event} → IsSound s es → IsSound s fs → (e f : Event) → IsIn e es → IsIn f fs → e.lead ≡ f.lead → e ≡ f
one_led s ok {es} {fs} h k e f i j same =
    let o = sound_order s ok es h in
    let p = sound_order s ok fs k in
    one_partner s ok e f o.2 p.2 (in_alike i o.1).1 (in_alike j p.1).1 e.lead (inl refl) (inl same)

-- an event of a sound set is in another one, or it isn't
pub in_or_not : (s : Start) → IsProper s → {es fs : List Event} → IsSound s es → IsSound s fs → (e : Event) → IsIn e es → IsIn e fs ⊎ (IsIn e fs → ⊥)
in_or_not s ok {es} {fs} h k e i = by (consumed_times e.lead fs) refl
  where
    by : (n : ℕ) → consumed_times e.lead fs ≡ n → IsIn e fs ⊎ (IsIn e fs → ⊥)
    by zero z = inr (λ j. let c = consumed_in j.1 in omega (arith, c, z))
    by (suc n) z =
        let c = consumer e.lead fs (omega (arith, z)) in
        let o = sound_order s ok es h in
        let p = sound_order s ok fs k in
        let same : e ≡ c.event = one_partner s ok e c.event o.2 p.2 (in_alike i o.1).1 (in_alike c.among p.1).1 e.lead (inl refl) c.consumes in
        inl (subst (λ x. IsIn x fs) (sym same) c.among)

-- no event is in a sound set twice
pub sound_once : (s : Start) {es : List Event} → IsSound s es → IsOnce es
sound_once s {es} h e rest k i =
    let a = h.apart e.lead in
    let c = consumed-alike e.lead (picked_alike k) in
    let t = consumed_in i.1 in
    let m : consumed_times e.lead (e ∷ rest) ≡ 1 + times + consumed_times e.lead rest = rw (same_name_self e.lead) refl in
    omega (arith, a, c, t, m)
  where
    times : ℕ
    times = if same_name e.lead e.other then 1 else 0

-- two lists without repeats that share nothing have none together
pub once-append : {X : Type 0} (xs : List X) {ys : List X} → IsOnce xs → IsOnce ys → ((x : X) → IsIn x xs → IsIn x ys → ⊥) → IsOnce (xs ++ ys)
once-append [] once once' other = once'
once-append (x ∷ xs) once once' other = once_cons
    (λ i. elim (in-append_cases xs i) [ inl j ↦ once x xs here j | inr j ↦ other x (in_first x xs) j ])
    (once-append xs (once_rest once here) once' (λ y i j. other y (in_more x i) j))

-- a mark over a bench's start
pub over_start : (v : BenchView) (m : MarkView) → m.start ≡ v.start → IsMark m → IsMark (record { start = v.start; events = m.events })
over_start v m same k = subst (λ s. IsMark (record { start = s; events = m.events })) same k

module _ (v : BenchView) (set : IsStandingSet (set_of v)) (es : List Event) (k : IsMark (record { start = v.start; events = es })) where
  -- the mark
  abbrev pub marked : MarkView
  marked = record { start = v.start; events = es }

  -- what depends on an event that isn't in the mark isn't in it either
  pub outside_with_dependents : AreWithDependents v (IsOutside marked)
  outside_with_dependents x y i out j cause inside =
      let u = sound_union v.start set.proper (standing (set_of v)) es set.sound k.sound in
      out (cause_in v.start (cause_stays v.start set.proper u.1.apart u.3 k.sound inside (cause_included v.start u.2 cause)))

  -- a standing event whose lead leads one of the mark's is in the mark
  pub led_inside : (x : Stander) (e : Event) → IsIn x v.events → IsIn e es → e.lead ≡ x.event.lead → IsIn x.event es
  led_inside x e i j same = subst (λ f. IsIn f es) (one_led v.start set.proper k.sound set.sound e x.event j (in-map (λ (y : Stander). y.event) i) same) j

  -- a standing event is in the mark or isn't
  pub inside_or_not : (x : Stander) → IsIn x v.events → IsOutside marked x ⊎ (IsOutside marked x → ⊥)
  inside_or_not x i = elim (in_or_not v.start set.proper set.sound k.sound x.event (in-map (λ (y : Stander). y.event) i)) [ inl j ↦ inr (λ out. out j) | inr out ↦ inl out ]

  -- an event of the mark stands or doesn't
  pub stands_or_not : (e : Event) → IsIn e es → IsIn e (standing (set_of v)) ⊎ (IsIn e (standing (set_of v)) → ⊥)
  stands_or_not e i = in_or_not v.start set.proper k.sound set.sound e i

  -- an event of the mark stands where one of its lead does
  pub stands_led : (e : Event) → IsIn e es → (x : Stander) × IsIn x v.events × (x.event.lead ≡ e.lead) → IsIn e (standing (set_of v))
  stands_led e i (x, j, same) =
      let there = in-map (λ (y : Stander). y.event) j in
      subst (λ f. IsIn f (standing (set_of v))) (one_led v.start set.proper set.sound k.sound x.event e there i same) there

  -- and then one of its lead does
  pub led_stands : (e : Event) → IsIn e (standing (set_of v)) → (x : Stander) × IsIn x v.events × (x.event.lead ≡ e.lead)
  led_stands e i = let x = map_cases (λ (y : Stander). y.event) v.events i in (x.0, x.1, ap (λ (f : Event). f.lead) x.2)

  -- the events of the mark that don't stand, chosen in its order, are the missing ones
  pub missing_chosen : {came : List Event} → Chosen (λ e. IsIn e (standing (set_of v)) → ⊥) es came → AreMissing v marked came
  missing_chosen {came} c = record {
    each = record { each = λ e h. chosen_in c h.0 h.1; only = λ e i. chosen_from c i; once = chosen_once c (sound_once v.start k.sound) };
    canonical = λ rank r. subst (λ xs. IsStrictlySortedBy (canonical_cmp rank) xs) (map-id came)
        (chosen_sorted (canonical_cmp rank) (λ e. e) c (subst (λ xs. IsStrictlySortedBy (canonical_cmp rank) xs) (sym (map-id es)) (k.canonical rank r)));
  }

  module _ (mid : BenchView) (gone : List Stander) (came : List Event) (sound : IsSound v.start (standing (set_of mid))) (out : AreOutside v marked gone) (u : AreUndone v gone mid) (missing : AreMissing v marked came) where
    -- what stands then stood, and is in the mark
    stood : (e : Event) → IsIn e (standing (set_of mid)) → IsIn e (standing (set_of v)) × IsIn e es
    stood e i =
        let x = map_cases (λ (y : Stander). y.event) mid.events i in
        let there : IsIn x.0 v.events = alike-in (alike_back u.events) (in_behind gone x.1) in (
          subst (λ f. IsIn f (standing (set_of v))) x.2 (in-map (λ (y : Stander). y.event) there),
          subst (λ f. IsIn f es) x.2 (elim (in_or_not v.start set.proper set.sound k.sound x.0.event (in-map (λ (y : Stander). y.event) there)) [
            | inl j ↦ j
            | inr n ↦ absurd (apart v set.own_lines gone mid.events u.events x.0 (out.each.each x.0 (there, n)) x.1)
          ]),
        )

    -- what stood and is in the mark stands still
    still : (e : Event) → IsIn e es → IsIn e (standing (set_of v)) → IsIn e (standing (set_of mid))
    still e i j =
        let x = map_cases (λ (y : Stander). y.event) v.events j in
        elim (in-append_cases gone (alike-in u.events x.1)) [
          | inl g ↦ absurd ((out.each.only x.0 g).1 (subst (λ f. IsIn f es) (sym x.2) i))
          | inr m ↦ subst (λ f. IsIn f (standing (set_of mid))) x.2 (in-map (λ (y : Stander). y.event) m)
        ]

    -- so the mark's events are the missing ones and those that stand then
    pub mark_parts : Alike es (came ++ standing (set_of mid))
    mark_parts = once_alike es (came ++ standing (set_of mid)) (sound_once v.start k.sound)
        (once-append came missing.each.once (sound_once v.start sound) (λ e i j. (missing.each.only e i).1 (stood e j).0))
        (λ e i. elim (stands_or_not e i) [ inl j ↦ in_behind came (still e i j) | inr n ↦ before (missing.each.each e (i, n)) ])
        (λ e i. elim (in-append_cases came i) [ inl j ↦ (missing.each.only e j).0 | inr j ↦ (stood e j).1 ])
      where
        before : {e : Event} → IsIn e came → IsIn e (came ++ standing (set_of mid))
        before i = (i.0 ++ standing (set_of mid), pick_before (standing (set_of mid)) i.1)

    -- and causes come before what they cause
    pub causes_before : HaveCausesBefore v.start es (standing (set_of mid)) came
    causes_before front behind e c whole cause = elim (in-append_cases came (alike-in mark_parts (cause_in v.start cause))) [ inl i ↦ by (parts front (subst (λ xs. IsIn c xs) whole i)) | inr i ↦ in_behind front i ]
      where
        there : IsIn e es
        there = (missing.each.only e (subst (λ xs. IsIn e xs) (sym whole) (in_behind front (in_first e behind)))).0

        rises : k.sound.rank c < k.sound.rank e
        rises = k.sound.ranked.above e c there cause

        sorted : IsStrictlySortedBy (canonical_cmp k.sound.rank) (map (λ x. x) (front ++ e ∷ behind))
        sorted = subst (λ xs. IsStrictlySortedBy (canonical_cmp k.sound.rank) xs) (sym (map-id (front ++ e ∷ behind))) (subst (λ xs. IsStrictlySortedBy (canonical_cmp k.sound.rank) xs) whole (missing.canonical k.sound.rank k.sound.ranked))

        by : IsIn c front ⊎ ((c ≡ e) ⊎ IsIn c behind) → IsIn c (front ++ standing (set_of mid))
        by (inl i) = (i.0 ++ standing (set_of mid), pick_before (standing (set_of mid)) i.1)
        by (inr (inl q)) = let same = ap k.sound.rank q in absurd (omega (arith, rises, same))
        by (inr (inr i)) = let low = not_above k.sound.rank e c (sorted_behind (canonical_cmp k.sound.rank) (λ x. x) front behind e c sorted i) in absurd (omega (arith, rises, low))

    -- where the missing ones are fired just the mark's events stand
    pub mark_stands : (new : BenchView) → AreFired mid came new → Alike es (standing (set_of new))
    mark_stands new f = alike_then mark_parts (subst (λ xs. Alike xs (standing (set_of new))) same (alike-map (λ (y : Stander). y.event) f.events))
      where
        same : events_of (f.came ++ mid.events) ≡ came ++ standing (set_of mid)
        same = map-append (λ (y : Stander). y.event) f.came mid.events ∙ ap (λ xs. xs ++ standing (set_of mid)) f.fired
