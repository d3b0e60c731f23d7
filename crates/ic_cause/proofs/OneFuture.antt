-- What the sound sets over one start have in common.
use Rattle.std.proofs.Common.{◌≡◌, List, ◌⊎◌}
use Rattle.std.specs.Prelude.{◌↔◌}
use Rattle.ic_name.specs.Names.{Name}
use Rattle.ic_name.specs.Events.{Event}
use Rattle.ic_path.specs.Orders.{IsIn}
use Rattle.ic_theory.specs.Starts.{Start, IsProper}
use Rattle.ic_theory.specs.Causes.{IsCause}
use Rattle.ic_theory.specs.Sound.{IsSound}
use Rattle.ic_theory.proofs.Future.{in_alike, one_partner}
use Rattle.ic_theory.proofs.Ranks.{sound_order, sound_union, cause_included}
use Rattle.ic_theory.proofs.Closed.{cause_stays}

module _ (s : Start) (ok : IsProper s) {es fs : List Event} (h : IsSound s es) (k : IsSound s fs) where
  -- an event of both has the causes that it has in their union
  pub same_causes : {e c : Event} → IsIn e es → IsIn e fs → IsCause s es e c ↔ IsCause s fs e c
  same_causes i j =
      let u = sound_union s ok es fs h k in (
        λ q. cause_stays s ok u.1.apart u.3 k j (cause_included s u.2 q),
        λ q. cause_stays s ok u.1.apart u.2 h i (cause_included s u.3 q),
      )

  -- events that share an agent are one, since each set has a firing
  pub one_event : {e f : Event} {n : Name} → IsIn e es → IsIn f fs → (n ≡ e.lead) ⊎ (n ≡ e.other) → (n ≡ f.lead) ⊎ (n ≡ f.other) → e ≡ f
  one_event {e} {f} {n} i j m m' =
      let o = sound_order s ok es h in
      let p = sound_order s ok fs k in
      one_partner s ok e f o.2 p.2 (in_alike i o.1).1 (in_alike j p.1).1 n m m'
