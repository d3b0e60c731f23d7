-- Where nothing more can be fired, all is there that any firing has.
use Rattle.std.proofs.Common.{◌≡◌, List, [], ◌∷◌, ◌++◌, inl, inr, refl, arith, length-append}
use Rattle.ic_name.specs.Events.{Event}
use Rattle.ic_path.specs.Orders.{Alike}
use Rattle.ic_path.proofs.Alikes.{alike-length, alike_then, alike_back, alike_more}
use Rattle.ic_theory.specs.Starts.{Start, IsProper}
use Rattle.ic_theory.specs.Active.{IsActive}
use Rattle.ic_theory.specs.Firings.{IsFired, nothing, fired}
use Rattle.ic_theory.specs.Future.{Includes}
use Rattle.ic_theory.specs.Sound.{IsSound}
use Rattle.ic_theory.proofs.Future.{there_or_active, includes_none}
use Rattle.ic_theory.proofs.Normal.{active-alike}
use Rattle.ic_theory.proofs.Ranks.{sound_order}

-- a firing after which nothing is active has each event of any firing
fired_part : (s : Start) → IsProper s → {es fs : List Event} → IsFired s fs → ((e : Event) → IsActive s fs e → ⊥) → IsFired s es → Includes fs es
fired_part s ok {fs = fs} g normal nothing = includes_none fs
fired_part s ok g normal (fired {e = e} f a) = elim (there_or_active s ok e g (fired_part s ok g normal f) a) [ inl i ↦ i | inr h ↦ absurd (normal e h) ]

-- so has a sound set in which nothing is active
pub normal_part : (s : Start) → IsProper s → {es fs : List Event} → IsSound s es → IsSound s fs → ((e : Event) → IsActive s fs e → ⊥) → Includes fs es
normal_part s ok {es} {fs} h k normal =
    let o = sound_order s ok es h in
    let p = sound_order s ok fs k in
    let i = fired_part s ok p.2 (λ e a. normal e (active-alike s (alike_back p.1) a)) o.2 in
    record { others = i.others; alike = alike_then (alike_more i.others o.1) (alike_then i.alike (alike_back p.1)) }

-- sets that are parts of one another are one
both_ways : {es fs : List Event} → Includes fs es → Includes es fs → Alike es fs
both_ways {es} {fs} i j = go i.others refl i.alike
  where
    go : (xs : List Event) → i.others ≡ xs → Alike (xs ++ es) fs → Alike es fs
    go [] e a = a
    go (x ∷ xs) e a =
        let m = alike-length a in
        let n = alike-length j.alike in
        let k = length-append xs es in
        let l = length-append j.others fs in
        absurd (omega arith)

pub normal_one : (s : Start) → IsProper s → {es fs : List Event} → IsSound s es → IsSound s fs → ((e : Event) → IsActive s es e → ⊥) → ((e : Event) → IsActive s fs e → ⊥) → Alike es fs
normal_one s ok h k n m = both_ways (normal_part s ok h k m) (normal_part s ok k h n)
