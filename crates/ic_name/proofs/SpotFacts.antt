-- The tests for spots and ids decide equality.
use Rattle.std.proofs.Common.{◌≡◌, Bool, true, false, ◌&&◌, refl, ap, eq-eqb}
use Rattle.std.proofs.lemmas.Bool.{eqb-true, and_parts}
use Rattle.ic_name.specs.declared.ids.Spot.{Spot}
use Rattle.ic_name.specs.declared.ids.Spot.TheVariants.{Agent, Name}
use Rattle.ic_name.specs.declared.ids.MakerId.{MakerId}
use Rattle.ic_name.specs.declared.ids.MakerId.TheVariants.{Start, Event}
use Rattle.ic_name.specs.declared.ids.LinkId.{LinkId}
use Rattle.ic_name.specs.Spots.{same_spot, same_maker, same_link}

both_so : (a b : Bool) → a ≡ true → b ≡ true → a && b ≡ true
both_so true b h g = g
both_so false b h g = cc

pub same_spot_true : (p q : Spot) → same_spot p q ≡ true → p ≡ q
same_spot_true (Agent a p) (Agent b q) h =
    let parts = and_parts _ _ h in
    let ids = and_parts _ _ parts.0 in
    let s = eqb-true _ _ ids.0 in
    let n = eqb-true _ _ ids.1 in
    let m = eqb-true _ _ parts.1 in
    λ i. Agent (record { slot = s i; serial = n i }) (m i)
same_spot_true (Agent a p) (Name m) h = cc
same_spot_true (Name n) (Agent b q) h = cc
same_spot_true (Name n) (Name m) h = ap Name (eqb-true n m h)

pub same_spot_self : (p : Spot) → same_spot p p ≡ true
same_spot_self (Agent a p) = both_so _ _ (both_so _ _ (eq-eqb a.slot a.slot refl) (eq-eqb a.serial a.serial refl)) (eq-eqb p p refl)
same_spot_self (Name n) = eq-eqb n n refl

same_maker_self : (m : MakerId) → same_maker m m ≡ true
same_maker_self Start = refl
same_maker_self (Event e) = both_so _ _ (eq-eqb e.slot e.slot refl) (eq-eqb e.line e.line refl)

same_maker_true : (m n : MakerId) → same_maker m n ≡ true → m ≡ n
same_maker_true Start Start h = refl
same_maker_true Start (Event e) h = cc
same_maker_true (Event d) Start h = cc
same_maker_true (Event d) (Event e) h =
    let parts = and_parts _ _ h in
    let s = eqb-true _ _ parts.0 in
    let n = eqb-true _ _ parts.1 in
    λ i. Event (record { slot = s i; line = n i })

pub same_link_self : (l : LinkId) → same_link l l ≡ true
same_link_self l = both_so _ _ (same_maker_self l.maker) (eq-eqb l.place l.place refl)

pub same_link_true : (a b : LinkId) → same_link a b ≡ true → a ≡ b
same_link_true a b h =
    let parts = and_parts _ _ h in
    let m = same_maker_true _ _ parts.0 in
    let p = eqb-true _ _ parts.1 in
    λ i. record { maker = m i; place = p i }
