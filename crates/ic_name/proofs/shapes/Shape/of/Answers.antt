use Rattle.std.proofs.Common.{◌≡◌, ◌≢◌, ◌⊎◌, inl, inr, ◌≤◌, length, take, Some, sym, ◌∙◌, ap, arith}
use Rattle.std.proofs.lemmas.List.{length-take}
use Rattle.ic_name.specs.declared.shapes.Shape.{Shape}
use Rattle.ic_name.specs.declared.shapes.Place.{Place}
use Rattle.ic_name.specs.declared.shapes.Place.TheVariants.{Front, Whole, Dotted}
use Rattle.ic_name.specs.NameShapes.{generations_of}
use Rattle.ic_name.proofs.NameReading.{reads_to, stands_fits, runs_more, runs_all}
use Rattle.ic_name.proofs.NameFaults.{bad_byte, broken_off}
use Rattle.ic_name.proofs.shapes.Shape.of.Goals as goal

-- the front and a place behind a dot are no ends of names
part_only : (p : Place) → (p ≡ Front) ⊎ ((s : Shape) × (p ≡ Dotted s)) → (s : Shape) → p ≢ Whole s
part_only p (inl front) s h = absurd cc
part_only p (inr dotted) s h =
    let dot = dotted.1 in
    absurd cc

pub next-requires : goal.next-requires
next-requires c =
    let read = length-take c.loop-offset.offset c.args.text.now in
    let fits : generations_of c.loop-offset.place ≤ length (take c.loop-offset.offset c.args.text.now) = stands_fits _ _ (reads_to c.loop-offset.place _ c.loop-offset.invariant) in
    omega arith

pub returns-in-None-clause-err : goal.returns-in-None-clause-err
returns-in-None-clause-err c = bad_byte _ _ _ c.loop-offset-test.true c.loop-offset.invariant (sym c.next.ensures ∙ c.in-None.is)

pub loop-offset-preserved : goal.loop-offset-preserved
loop-offset-preserved c = runs_more _ _ _ _ c.loop-offset-test.true c.loop-offset.invariant (sym c.next.ensures ∙ c.in-Some.is)

pub returns-in-Whole-clause-ok : goal.returns-in-Whole-clause-ok
returns-in-Whole-clause-ok c = reads_to (Whole c.in-Whole.shape) _ (runs_all _ _ _ c.loop-offset-test.false c.loop-offset.invariant ∙ ap Some c.in-Whole.is)

pub returns-in-Front : goal.returns-in-Front
returns-in-Front c = record {
  ok = tt;
  err = broken_off _ _ (runs_all _ _ _ c.loop-offset-test.false c.loop-offset.invariant) (part_only c.loop-offset.place c.in-Front.is);
}
