-- Ranks of a sound set are ranks of a sound part of it.
use Rattle.std.proofs.Common.{ℕ, List, inl, inr}
use Rattle.ic_name.specs.Events.{Event}
use Rattle.ic_path.specs.Orders.{IsIn}
use Rattle.ic_path.proofs.Picks.{pick_behind}
use Rattle.ic_path.proofs.Alikes.{alike-in}
use Rattle.ic_theory.specs.Starts.{Start, IsProper}
use Rattle.ic_theory.specs.Future.{Includes}
use Rattle.ic_theory.specs.Causes.{IsRank}
use Rattle.ic_theory.specs.Sound.{IsSound}
use Rattle.ic_theory.proofs.Ranks.{cause_included}
use Rattle.ic_theory.proofs.Closed.{cause_stays}

-- an event of a part is one of the whole
pub in_whole : {all es : List Event} {e : Event} → Includes all es → IsIn e es → IsIn e all
in_whole i j = alike-in i.alike (_, pick_behind i.others j.1)

-- the ranks of the whole are those of the part
pub part_ranks : (s : Start) → IsProper s → {all es : List Event} (rank : Event → ℕ) → IsSound s all → IsSound s es → Includes all es → IsRank s all rank → IsRank s es rank
part_ranks s ok rank h k i r = record {
  above = λ e c j q. r.above e c (in_whole i j) (cause_included s i q);
  least = λ e j. elim (r.least e (in_whole i j)) [ inl z ↦ inl z | inr w ↦ inr (w.0, cause_stays s ok h.apart i k j w.1, w.2) ];
}
