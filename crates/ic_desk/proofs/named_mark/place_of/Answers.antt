use Rattle.std.proofs.Common.{◌≡◌, List, get_or, sym, ap, subst, ◌∙◌}
use Rattle.std.proofs.lemmas.List.{take_all}
use Rattle.std.proofs.lemmas.Option.{slice_get-get_or}
use Rattle.ic_path.specs.Orders.{IsIn}
use Rattle.ic_desk.specs.Views.{NamedView}
use Rattle.ic_desk.proofs.named_mark.place_of.Goals as goal
use Rattle.ic_path.proofs.ListPlaces.{none_more}

pub returns-then-is : goal.returns-then-is
returns-then-is c =
    let x = get_or c.args.marks.now c.loop-place.place c.index-marks-place.result in
    let named = ap (λ (y : NamedView). y.name) (sym c.index-marks-place.is) ∙ sym c.name.ensures ∙ c.is.ensures.0 c.if-is.true in
    (x, slice_get-get_or c.args.marks.now c.loop-place.place c.index-marks-place.result c.loop-place-test.true, named)

pub loop-place-preserved : goal.loop-place-preserved
loop-place-preserved c =
    none_more (λ (x : NamedView). x.name ≡ c.args.name.now) c.args.marks.now c.loop-place.place
    c.index-marks-place.result c.index-marks-place.result c.loop-place-test.true c.index-marks-place.is c.loop-place.invariant
    (λ e. let t = c.is.ensures.1 (c.name.ensures ∙ e) in let f = c.if-is.false in absurd cc)

pub returns : goal.returns
returns c =
    let whole = take_all c.loop-place.place c.args.marks.now c.loop-place-test.false in
    λ x i. c.loop-place.invariant x (subst (λ (xs : List NamedView). IsIn x xs) (sym whole) i)
