use Rattle.std.proofs.Common.{◌≡◌, ◌≢◌, sym, ◌∙◌, ap, subst}
use Rattle.std.specs.Ordering.{nat_cmp}
use Rattle.std.specs.Cmp.Lexicographic.{slice_cmp}
use Rattle.ic_name.specs.Names.{depth}
use Rattle.ic_names.specs.Blocks.{anchor_of, block_of}
use Rattle.ic_names.specs.Tables.{name_at, StandsAt}
use Rattle.ic_names.proofs.PlaceNames.{place_proper}
use Rattle.ic_names.proofs.DigitOrders.{anchors_deep, anchors_decide, blocks_decide}
use Rattle.ic_names.proofs.Growing.{one_place}
use Rattle.ic_names.proofs.rows.Rows.digit_order.Goals as goal

pub loop-left-preserved : goal.loop-left-preserved
loop-left-preserved c =
    let ns = c.args.self.now.names in
    let m = name_at ns c.loop-left.left in
    let n = name_at ns c.loop-left.right in
    let here = c.loop-left.invariant in
    let apart : anchor_of m ≢ anchor_of n = λ same. c.loop-left-test.true (one_place ns (anchor_of m) _ _ c.lawful.ensures c.anchor.ensures (subst (λ a. StandsAt ns a c.anchor-in-loop-left.result) (sym same) c.anchor-in-loop-left.ensures)) in
    let left = c.anchor-left.ensures in
    let right = c.anchor-right.ensures in
    record {
      left_in = left.within;
      right_in = right.within;
      depth = ap (λ a. depth a) left.named ∙ anchors_deep m n here.depth ∙ ap (λ a. depth a) (sym right.named);
      start = ap (λ a. a.start) left.named ∙ here.start ∙ ap (λ a. a.start) (sym right.named);
      order = ap (λ a. slice_cmp nat_cmp a.digits (name_at ns c.anchor-right.result).digits) left.named ∙ ap (λ a. slice_cmp nat_cmp (anchor_of m).digits a.digits) right.named ∙ anchors_decide m n here.start here.depth apart ∙ here.order;
    }

pub returns : goal.returns
returns c =
    let ns = c.args.self.now.names in
    let m = name_at ns c.loop-left.left in
    let n = name_at ns c.loop-left.right in
    let here = c.loop-left.invariant in
    let same : anchor_of m ≡ anchor_of n = sym c.anchor.ensures.named ∙ ap (λ k. name_at ns k) c.loop-left-test.false ∙ c.anchor-in-loop-left.ensures.named in
    let blocks = blocks_decide m n (place_proper ns c.lawful.ensures c.loop-left.left) (place_proper ns c.lawful.ensures c.loop-left.right) here.depth same in
    c.cmp.ensures
    ∙ ap (λ k. nat_cmp k c.number-2.result) (c.number.ensures ∙ c.block.ensures)
    ∙ ap (λ k. nat_cmp (block_of m) k) (c.number-2.ensures ∙ c.block-2.ensures)
    ∙ blocks ∙ here.order
