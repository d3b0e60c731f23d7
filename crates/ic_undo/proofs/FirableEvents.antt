-- The missing events of a sound set can be fired in causal order.
use Rattle.std.proofs.Common.{◌≡◌, ◌≤◌, List, [], ◌∷◌, ◌++◌, length, inl, inr, refl, sym, ap, subst, arith, length-append}
use Rattle.ic_name.specs.Events.{Event}
use Rattle.ic_name.specs.declared.limits.TheConstants.{MAX_AGENTS}
use Rattle.ic_path.specs.Orders.{IsIn, Alike}
use Rattle.ic_path.proofs.Alikes.{alike_back, alike_then, alike_past, alike-cons, alike-in}
use Rattle.ic_path.proofs.Picks.{in_first, in_more, in-cons_cases, pick_before}
use Rattle.ic_theory.specs.Active.{IsActive}
use Rattle.ic_theory.specs.Born.{born_agents}
use Rattle.ic_theory.specs.Causes.{IsCause}
use Rattle.ic_theory.specs.Machine.{IsDeep, IsFull}
use Rattle.ic_theory.specs.Sets.{agents}
use Rattle.ic_theory.specs.Sound.{IsSound}
use Rattle.ic_theory.specs.Starts.{Start, IsProper}
use Rattle.ic_theory.proofs.Normal.{active-alike}
use Rattle.ic_theory.proofs.Ranks.{sound-alike, same_set, cause_included}
use Rattle.ic_theory.proofs.Sound.{active_there}
use Rattle.ic_journal.proofs.SameSets.{agent_count, full-alike}
use Rattle.ic_undo.specs.GoingBack.{AreFirable}
use Rattle.ic_path.proofs.InLists.{in_behind, in-append_cases}

-- what can be fired over a set can be fired over it in any order
pub firable-alike : (s : Start) {es fs : List Event} (later : List Event) → Alike es fs → AreFirable s es later → AreFirable s fs later
firable-alike s [] a f = tt
firable-alike s (e ∷ later) a (active, shallow, few, rest) = (active-alike s a active, shallow, λ full. few (full-alike s e (alike_back a) full), firable-alike s later (alike-cons e a) rest)

-- the direct causes of each of these events are before it or done
abbrev pub HaveCausesBefore : Start → List Event → List Event → List Event → Type 0
HaveCausesBefore s all done later = (front behind : List Event) (e c : Event) → later ≡ front ++ e ∷ behind → IsCause s all e c → IsIn c (front ++ done)

-- with more events there are no fewer agents
agents-more : (s : Start) (es fs : List Event) → length (agents s fs) ≤ length (agents s (es ++ fs))
agents-more s [] fs = omega arith
agents-more s (e ∷ es) fs = let ih = agents-more s es fs in let n = length-append (born_agents e) (agents s (es ++ fs)) in omega (arith, ih, n)

module _ (s : Start) (ok : IsProper s) (all : List Event) (sound : IsSound s all) (shallow : (e : Event) → IsIn e all → ¬ (IsDeep e)) (few : length (agents s all) ≤ MAX_AGENTS) where
  -- the events of a sound set within the limits that aren't done can be fired where causes come before what they cause
  pub firable : (done later : List Event) → Alike all (later ++ done) → HaveCausesBefore s all done later → AreFirable s done later
  firable done [] a before = tt
  firable done (e ∷ later) a before = (active, shallow e there, not_full, firable (e ∷ done) later moved before_then)
    where
      moved : Alike all (later ++ e ∷ done)
      moved = alike_then a (alike_past (e ∷ []) later done)

      there : IsIn e all
      there = alike-in (alike_back a) (in_first e (later ++ done))

      active : IsActive s done e
      active = active_there s ok (later ++ e ∷ done) (sound-alike s moved sound) later e done refl
          (λ c k. before [] later e c refl (cause_included s (same_set (alike_back moved)) k))

      not_full : ¬ (IsFull s done e)
      not_full h =
          let n = agent_count s moved in
          let m = agents-more s later (e ∷ done) in
          let l = length-append (born_agents e) (agents s done) in
          omega (arith, few, h, n, m, l)

      before_then : HaveCausesBefore s all (e ∷ done) later
      before_then front behind f c parts k = elim (in-cons_cases (before (e ∷ front) behind f c (ap (λ xs. e ∷ xs) parts) k)) [
        | inl q ↦ subst (λ x. IsIn x (front ++ e ∷ done)) (sym q) (in_behind front (in_first e done))
        | inr i ↦ elim (in-append_cases front i) [
          | inl j ↦ (j.0 ++ e ∷ done, pick_before (e ∷ done) j.1)
          | inr j ↦ in_behind front (in_more e j)
        ]
      ]
