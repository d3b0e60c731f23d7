use Rattle.std.proofs.Common.{◌≡◌, rules, refl, ◌∙◌}
use Rattle.std.specs.Bool.{Decides}
use Rattle.std.proofs.lemmas.Slice.Eq.{slice_eq-Decides}
use Rattle.ic_start.proofs.Decisions.{decides_then, decides_else}
use Rattle.ic_start.proofs.SameStarts.{same_start}
use Rattle.ic_start.proofs.start.Start.same.Goals as goal
use Rattle.ic_start.proofs.start.Start.same.Goals.{Joined-eq, Joined-same, then-eq, else-eq, then-same, else-same}

kinds_and_links : (c : Joined-eq) → Decides c.if-eq.value ((c.deref.result.now.kinds.items ≡ c.deref-2.result.now.kinds.items) × (c.deref.result.now.links ≡ c.deref-2.result.now.links))
kinds_and_links c =
    let kinds : Decides c.eq.result (c.deref.result.now.kinds.items ≡ c.deref-2.result.now.kinds.items) = slice_eq-Decides (λ a b. search rules) _ _ _ c.eq.ensures in
    elim c.if-eq.branch [
      | then-eq w ↦ decides_then c.eq.result w.same.result c.if-eq.value w.if-eq.true w.value-is kinds w.same.ensures
      | else-eq w ↦ decides_else c.eq.result c.if-eq.value w.if-eq.false (w.value-is ∙ w.if-eq.false) kinds
    ]

names_too : (c : Joined-same)
    → Decides c.if-same.value (((c.deref.result.now.kinds.items ≡ c.deref-2.result.now.kinds.items) × (c.deref.result.now.links ≡ c.deref-2.result.now.links)) × (c.deref.result.now.names ≡ c.deref-2.result.now.names))
names_too c =
    elim c.if-same.branch [
      | then-same w ↦
          decides_then c.if-eq.value w.same-then-same.result c.if-same.value w.if-same.true w.value-is (kinds_and_links c.before) w.same-then-same.ensures
      | else-same w ↦ decides_else c.if-eq.value c.if-same.value w.if-same.false (w.value-is ∙ w.if-same.false) (kinds_and_links c.before)
    ]

pub returns-then-same-2 : goal.returns-then-same-2
returns-then-same-2 c =
    let profiles : Decides c.eq-then-same-2.result (c.deref.result.now.profile ≡ c.deref-2.result.now.profile) = rw c.eq-then-same-2.ensures (search rules) in
    rw (← c.self.view_is, ← c.other.view_is, ← c.deref.ensures, ← c.deref-2.ensures)
    (same_start _ _ _ _ _ _ _ _ c.eq-then-same-2.result (rw c.deref.ensures c.self.invariant) (rw c.deref-2.ensures c.other.invariant) (decides_then c.if-same.value _ _ c.if-same-2.true refl (names_too (goal.at.returns-then-same-2 c).Joined-same) profiles))

pub returns-else-same-2 : goal.returns-else-same-2
returns-else-same-2 c =
    rw (← c.self.view_is, ← c.other.view_is, ← c.deref.ensures, ← c.deref-2.ensures)
    (same_start _ _ _ _ _ _ _ _ c.if-same.value (rw c.deref.ensures c.self.invariant) (rw c.deref-2.ensures c.other.invariant) (decides_else c.if-same.value _ c.if-same-2.false c.if-same-2.false (names_too (goal.at.returns-else-same-2 c).Joined-same)))
