-- Events that are sound together, by number.
use Rattle.std.proofs.Common.{◌≡◌, ℕ, suc, zero, ◌<◌, ◌≤◌, ◌⊎◌, true, List, [], ◌∷◌, inl, inr, length, get_or, refl, sym, ap, arith, ◌∙◌, Some, None}
use Rattle.std.specs.Prelude.{eqb}
use Rattle.std.proofs.lemmas.Bool.{eq-eqb}
use Rattle.ic_name.specs.Names.{Name}
use Rattle.ic_name.specs.Same.{same_name}
use Rattle.ic_name.proofs.SameFacts.{same_name_self}
use Rattle.ic_name.specs.declared.kinds.Kind.{Kind}
use Rattle.ic_name.specs.Events.{Event}
use Rattle.ic_path.specs.Orders.{Pick, IsIn}
use Rattle.ic_path.proofs.Alikes.{picked_alike, alike_then, alike_back}
use Rattle.ic_link.proofs.InPlace.{in_at}
use Rattle.ic_path.proofs.InLists.{map_cases}
use Rattle.ic_theory.specs.Starts.{Start, IsProper}
use Rattle.ic_theory.specs.Active.{IsActive}
use Rattle.ic_theory.specs.Future.{Includes}
use Rattle.ic_theory.specs.Nets.{kind_of, kind_among}
use Rattle.ic_theory.specs.Sets.{agents, consumed_times}
use Rattle.ic_theory.specs.Sound.{IsSound}
use Rattle.ic_theory.proofs.Counts.{names_once}
use Rattle.ic_theory.proofs.Future.{in_alike, consumed_in, there_or_active, loose_agent}
use Rattle.ic_theory.proofs.NameKinds.{some_among}
use Rattle.ic_theory.proofs.Normal.{active-alike}
use Rattle.ic_theory.proofs.Ranks.{consumed-alike, first_or_in, sound_order}
use Rattle.ic_trace.specs.declared.known.Known.{Known}
use Rattle.ic_trace.specs.Known.{events_in, event_at, IsNumberOf}
use Rattle.ic_trace.proofs.ByNumber.{length-events, entry_number}

-- each event has a number
pub event_number : {e : Event} (ks : List Known) → IsIn e (events_in ks) → (i : ℕ) × (i < length ks) × (event_at ks i ≡ e)
event_number ks i =
    let k = map_cases (λ (x : Known). x.event) ks i in
    let n = entry_number k.1.1 in
    (n.number, n.inside, n.event ∙ k.2)

-- the number of an event's lead
pub lead_numbered : {e : Event} (ks : List Known) → IsIn e (events_in ks) → ¬ (IsNumberOf ks e.lead None)
lead_numbered ks i none = let n = event_number ks i in none n.0 n.1 (ap (λ x. x.lead) n.2)

-- no event of the list consumes the first one's lead
not_behind : {x y : Event} (es : List Event) → consumed_times x.lead (x ∷ es) ≤ 1 → IsIn y es → y ≡ x → ⊥
not_behind {x} {y} es a i e =
    let self : same_name x.lead x.lead ≡ true = same_name_self x.lead in
    let second : 1 ≤ consumed_times x.lead es = rw (ap (λ z. z.lead) e) at (consumed_in i.1) in
    let a' = rw self at a in
    absurd (omega arith)

-- so each has one place
pub one_place : (es : List Event) (d : Event) → ((n : Name) → consumed_times n es ≤ 1) → (i j : ℕ) → i < length es → j < length es → get_or es i d ≡ get_or es j d → i ≡ j
one_place [] d a i j l m e = absurd (omega arith)
one_place (x ∷ es) d a zero zero l m e = refl
one_place (x ∷ es) d a zero (suc j) l m e = absurd (not_behind es (a x.lead) (in_at es j d (omega arith)) (sym e))
one_place (x ∷ es) d a (suc i) zero l m e = absurd (not_behind es (a x.lead) (in_at es i d (omega arith)) e)
one_place (x ∷ es) d a (suc i) (suc j) l m e = ap suc (one_place es d (λ n. let b = a n in omega arith) i j (omega arith) (omega arith) e)

-- and each event one number
pub one_number : {s : Start} (ks : List Known) → IsSound s (events_in ks) → (i j : ℕ) → i < length ks → j < length ks → event_at ks i ≡ event_at ks j → i ≡ j
one_number ks h i j l m e = let n = length-events ks in one_place (events_in ks) _ h.apart i j (omega arith) (omega arith) e

module _ (s : Start) where
  -- an event stands once in a sound set
  pub stands_once : {e f : Event} {all rest : List Event} → IsSound s all → Pick e all rest → IsIn f rest → e.lead ≡ f.lead → ⊥
  stands_once {e} {f} {all} {rest} h k i l =
      let one = h.apart e.lead in
      let both : consumed_times e.lead all ≡ consumed_times e.lead (e ∷ rest) = consumed-alike e.lead (picked_alike k) in
      let self : same_name e.lead e.lead ≡ true = same_name_self e.lead in
      let second : 1 ≤ consumed_times e.lead rest = rw l (consumed_in i.1) in
      let both' = rw self at both in
      absurd (omega arith)

  -- events of one lead are one
  pub led_once : {e f : Event} {all : List Event} → IsSound s all → IsIn e all → IsIn f all → e.lead ≡ f.lead → e ≡ f
  led_once {e} {f} {all} h i j l = elim (first_or_in (in_alike j (picked_alike i.1)).1) [ inl q ↦ sym q | inr r ↦ absurd (stands_once h i.1 r l) ]

module _ (s : Start) (ok : IsProper s) where
  -- the agents of an active event have its kinds
  pub active_kinds : {es : List Event} {e : Event} → IsSound s es → IsActive s es e → (kind_of s es e.lead ≡ Some e.lead_kind) × (kind_of s es e.other ≡ Some e.other_kind)
  active_kinds {es} {e} h a = (
    at_name e.lead e.lead_kind a.present.lead (loose_agent s es e.lead a.wire.from_loose),
    at_name e.other e.other_kind a.present.other (loose_agent s es e.other a.wire.to_loose),
  )
    where
      at_name : (n : Name) (k : Kind) → IsIn (n, k) (agents s es) → consumed_times n es ≡ 0 → kind_of s es n ≡ Some k
      at_name n k i z =
          let t : eqb (consumed_times n es) 0 ≡ true = eq-eqb (consumed_times n es) 0 z in
          let m : kind_among n (agents s es) ≡ Some k = some_among n refl (names_once s es h.apart n) i.1 in
          rw (t, m) refl

  -- an event that is active in a part stands in the whole, or is active there
  pub stands_or_active : {all es : List Event} {e : Event} → IsSound s all → Includes all es → IsActive s es e → Includes all (e ∷ es) ⊎ IsActive s all e
  stands_or_active {all} {es} {e} h i a =
      let o = sound_order s ok all h in
      elim (there_or_active s ok e o.2 (record { others = i.others; alike = alike_then i.alike o.1 }) a) [
        | inl j ↦ inl (record { others = j.others; alike = alike_then j.alike (alike_back o.1) })
        | inr b ↦ inr (active-alike s (alike_back o.1) b)
      ]
