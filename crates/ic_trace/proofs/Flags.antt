-- Flags of lines, as events come and go.
use Rattle.std.proofs.Common.{◌≡◌, ◌↔◌, refl, ℕ, zero, suc, ◌<◌, List, [], ◌∷◌, length, set, Bool, true, false, ◌⊎◌, inl, inr, sym, ap, subst, ◌∙◌, arith, get_or-set_other}
use Rattle.std.specs.Prelude.{slice_index_or}
use Rattle.std.proofs.lemmas.Bool.{cases_eq}
use Rattle.std.proofs.lemmas.Grind.{get_or-set_at}
use Rattle.ic_name.specs.Events.{Event}
use Rattle.ic_name.specs.declared.ids.EventId.{EventId}
use Rattle.ic_path.specs.Orders.{here, IsIn, Alike}
use Rattle.ic_path.proofs.Alikes.{alike-in, alike_back, alike_pick}
use Rattle.ic_path.proofs.Picks.{in_first, in_more, in-cons_cases, none_in}
use Rattle.ic_roster.specs.Rosters.{Stander, HaveOwnLines}
use Rattle.ic_set.specs.Changes.{Admits, TakesOut}
use Rattle.ic_set.specs.Views.{SetView}
use Rattle.ic_trace.specs.Taken.{AreTaken}

-- there is a flag for each line whose flag is true
true_inside : (taken : List Bool) (n : ℕ) → slice_index_or taken n false ≡ true → n < length taken
true_inside [] n e = cc
true_inside (b ∷ taken) zero e = omega arith
true_inside (b ∷ taken) (suc n) e = let h = true_inside taken n e in omega arith

-- there is a flag for the line of each event
pub line_inside : (xs : List Stander) (taken : List Bool) → AreTaken xs taken → (x : Stander) → IsIn x xs → x.id.line < length taken
line_inside xs taken are x i = true_inside taken x.id.line ((are x.id.line).1 (x, i, refl))

-- without events no line is taken
pub none_taken : (xs : List Stander) (taken : List Bool) → xs ≡ [] → taken ≡ [] → AreTaken xs taken
none_taken xs taken empty none = λ n. (
  (λ t. (let off = ap (λ fs. slice_index_or fs n false) none in cc)),
  (λ w. absurd (none_in (subst (λ ys. IsIn w.0 ys) empty w.1))),
)

-- flags that are as they were are right for the same events
pub same_taken : (xs ys : List Stander) (taken more : List Bool) → Alike xs ys → ((n : ℕ) → slice_index_or more n false ≡ slice_index_or taken n false) → AreTaken xs taken → AreTaken ys more
same_taken xs ys taken more alike same are = λ n. (
  (λ t. (let w = (are n).0 (sym (same n) ∙ t) in (w.0, alike-in alike w.1, w.2))),
  (λ w. same n ∙ (are n).1 (w.0, alike-in (alike_back alike) w.1, w.2)),
)

-- the flags with that of an event that came
pub one_more_taken : (v v' : SetView) (e : Event) (line : ℕ) (id : EventId) → Admits v e line id v' → (taken : List Bool) → AreTaken v.events taken → line < length taken → AreTaken v'.events (set taken line true)
one_more_taken v v' e line id t taken are room = λ n. by n (cases_eq n line)
  where
    of_line : t.entry.id.line ≡ line
    of_line = ap (λ (d : EventId). d.line) t.under ∙ t.in_line

    by : (n : ℕ) → (n ≡ line) ⊎ (n ≡ line → ⊥) → (slice_index_or (set taken line true) n false ≡ true) ↔ ((x : Stander) × IsIn x v'.events × (x.id.line ≡ n))
    by n (inl q) = (
      (λ r. (t.entry, alike-in t.events (in_first t.entry v.events), of_line ∙ sym q)),
      (λ w. get_or-set_at taken line n true false q room),
    )
    by n (inr other) = (
      (λ r. (let w = (are n).0 (sym kept ∙ r) in (w.0, alike-in t.events (in_more t.entry w.1), w.2))),
      (λ w. kept ∙ (are n).1 (w.0, old w.0 w.2 (in-cons_cases (alike-in (alike_back t.events) w.1)), w.2)),
    )
      where
        kept : slice_index_or (set taken line true) n false ≡ slice_index_or taken n false
        kept = get_or-set_other taken line n true false other

        old : (x : Stander) → x.id.line ≡ n → (x ≡ t.entry) ⊎ IsIn x v.events → IsIn x v.events
        old x r (inl same) = absurd (other (sym r ∙ ap (λ (y : Stander). y.id.line) same ∙ of_line))
        old x r (inr i) = i

-- no other event is of the line of one that goes
line_left : (v v' : SetView) (id : EventId) → TakesOut v id v' → HaveOwnLines v.events → (x : Stander) → IsIn x v'.events → x.id.line ≡ id.line → ⊥
line_left v v' id t own x i q =
    let p = alike_pick (alike_back t.events) here in
    own.lines t.entry x p.0 p.1 (alike-in p.2 i) (q ∙ sym (ap (λ (d : EventId). d.line) t.under))

-- the flags without that of an event that goes
pub one_less_taken : (v v' : SetView) (id : EventId) → TakesOut v id v' → HaveOwnLines v.events → (taken : List Bool) → AreTaken v.events taken → AreTaken v'.events (set taken id.line false)
one_less_taken v v' id t own taken are = λ n. by n (cases_eq n id.line)
  where
    gone : IsIn t.entry v.events
    gone = alike-in (alike_back t.events) (in_first t.entry v'.events)

    of_line : t.entry.id.line ≡ id.line
    of_line = ap (λ (d : EventId). d.line) t.under

    room : id.line < length taken
    room = subst (λ l. l < length taken) of_line (line_inside v.events taken are t.entry gone)

    by : (n : ℕ) → (n ≡ id.line) ⊎ (n ≡ id.line → ⊥) → (slice_index_or (set taken id.line false) n false ≡ true) ↔ ((x : Stander) × IsIn x v'.events × (x.id.line ≡ n))
    by n (inl q) = (
      (λ r. (let off = get_or-set_at taken id.line n false false q room in cc)),
      (λ w. absurd (line_left v v' id t own w.0 w.1 (w.2 ∙ q))),
    )
    by n (inr other) = (
      (λ r. (let w = (are n).0 (sym kept ∙ r) in (w.0, left w.0 w.2 (in-cons_cases (alike-in t.events w.1)), w.2))),
      (λ w. kept ∙ (are n).1 (w.0, alike-in (alike_back t.events) (in_more t.entry w.1), w.2)),
    )
      where
        kept : slice_index_or (set taken id.line false) n false ≡ slice_index_or taken n false
        kept = get_or-set_other taken id.line n false false other

        left : (x : Stander) → x.id.line ≡ n → (x ≡ t.entry) ⊎ IsIn x v'.events → IsIn x v'.events
        left x r (inl same) = absurd (other (sym r ∙ ap (λ (y : Stander). y.id.line) same ∙ of_line))
        left x r (inr i) = i
