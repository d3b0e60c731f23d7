use Rattle.std.proofs.Common.{◌≡◌, ◌-◌, ◌*◌, ◌/◌, take, drop, refl, sym, ◌∙◌, ap, arith}
use Rattle.ic_name.specs.Names.{depth}
use Rattle.ic_names.specs.Blocks.{number_of, block_of}
use Rattle.ic_names.specs.Tables.{name_at}
use Rattle.ic_names.proofs.KeyOrders.{name_proper}
use Rattle.ic_names.proofs.PlaceNames.{place_proper}
use Rattle.ic_names.proofs.Blocks.{anchor_deep}
use Rattle.ic_names.proofs.SameNames.{anchors_same}
use Rattle.ic_names.proofs.rows.Rows.is_named.Goals as goal

pub loop-behind-preserved : goal.loop-behind-preserved
loop-behind-preserved c =
    let ns = c.args.self.now.names in
    let n = c.args.name.now in
    let m = name_at ns c.loop-behind.at in
    let here = c.loop-behind.invariant in
    let up = c.anchor-at.ensures in
    let k = c.loop-behind.behind in
    let first = (k - 1) / 32 * 32 in
    let block : block_of m ≡ number_of (take (k - first) (drop first n.digits)) =
    sym c.block.ensures ∙ sym c.number.ensures ∙ c.if-number.false ∙ c.number-in-loop-behind.ensures ∙ c.of_digits.ensures ∙ ap (λ ds. number_of (take (k - first) (drop first ds))) c.digits-digits.ensures in
    let same = anchors_same m n (name_at ns c.anchor-at.result) k first (place_proper ns c.lawful-2.ensures c.loop-behind.at) (name_proper n c.lawful.ensures) here.behind here.high refl block up.named in
    record {
      inside = up.within;
      start = ap (λ a. a.start) up.named ∙ here.start;
      behind = omega (arith, here.behind, anchor_deep m, ap (λ a. depth a) up.named);
      high = omega (arith, here.high);
      same = (λ e. same.0 (here.same.0 e), λ e. here.same.1 (same.1 e));
    }
