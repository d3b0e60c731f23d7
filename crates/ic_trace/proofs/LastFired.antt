-- An event of a firing on which nothing depends may be fired last.
use Rattle.std.proofs.Common.{List, ◌∷◌}
use Rattle.ic_name.specs.Events.{Event}
use Rattle.ic_path.specs.Orders.{Pick, here, there, more}
use Rattle.ic_path.proofs.Alikes.{picked_alike, alike_back}
use Rattle.ic_theory.specs.Starts.{Start, IsProper}
use Rattle.ic_theory.specs.Firings.{IsFired, fired}
use Rattle.ic_theory.specs.Letters.{HasNoDependent}
use Rattle.ic_theory.proofs.Future.{earlier, includes_self, includes_more}
use Rattle.ic_theory.proofs.Normal.{active-alike}
use Rattle.ic_theory.proofs.Ranks.{cause_included, same_set}
use Rattle.ic_theory.proofs.Swaps.{fired_swap}

-- what has no dependents has none in a part
pub free_earlier : (s : Start) {e a : Event} {es : List Event} → HasNoDependent s (a ∷ es) e → HasNoDependent s es e
free_earlier s {e} {a} {es} n x i c = n x (_, there i.1) (cause_included s (includes_more a (includes_self es)) c)

-- such an event may be fired last
pub fired_last : (s : Start) → IsProper s → {e : Event} {es rest : List Event} → IsFired s es → Pick e es rest → HasNoDependent s es e → IsFired s (e ∷ rest)
fired_last s ok f here n = f
fired_last s ok {e} (fired {e = a} {es = es} f h) (there {rest = rest} k) n =
    let ih = fired_last s ok f k (free_earlier s n) in
    let now : IsFired s (a ∷ e ∷ rest) = fired ih (active-alike s (picked_alike k) h) in
    fired_swap s ok e a rest now (λ c. n a (es, here) (cause_included s (same_set (more here (alike_back (picked_alike k)))) c))

-- so what is left without it is a firing
pub fired_rest : (s : Start) → IsProper s → {e : Event} {es rest : List Event} → IsFired s es → Pick e es rest → HasNoDependent s es e → IsFired s rest
fired_rest s ok f k n = earlier (fired_last s ok f k n)
