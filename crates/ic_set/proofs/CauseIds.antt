-- Direct causes by ids are direct causes.
use Rattle.std.proofs.Common.{◌≡◌, List, inl, refl, subst}
use Rattle.ic_name.specs.declared.ids.EventId.{EventId}
use Rattle.ic_path.specs.Orders.{IsIn}
use Rattle.ic_theory.specs.Starts.{Start}
use Rattle.ic_theory.specs.Causes.{IsCause}
use Rattle.ic_roster.specs.Rosters.{Stander, HaveOwnLines, DependsOn}
use Rattle.ic_set.specs.Causes.{HaveCauses}
use Rattle.ic_set.specs.Views.{events_of}
use Rattle.ic_set.proofs.Namings.{same_stander}

-- what depends on an event by ids stands, and has it among its direct causes
pub depends_to : (s : Start) (ss : List Stander) → HaveOwnLines ss → HaveCauses s ss → (y : Stander) (f : EventId) → IsIn y ss → DependsOn ss y.id f → (x : Stander) × IsIn x ss × (x.id ≡ f) × IsCause s (events_of ss) x.event y.event
depends_to s ss own causes y f i (x, j, e, k) =
    let c = (causes x j).only y.id k in
    (x, j, e, subst (λ (z : Stander). IsCause s (events_of ss) x.event z.event) (same_stander ss c.0 y own c.1 i (inl c.2)) c.3)

-- and the other way round
pub depends_from : (s : Start) (ss : List Stander) → HaveCauses s ss → (x y : Stander) → IsIn x ss → IsIn y ss → IsCause s (events_of ss) x.event y.event → DependsOn ss y.id x.id
depends_from s ss causes x y i j c = (x, i, refl, (causes x i).each y.id (y, j, refl, c))
