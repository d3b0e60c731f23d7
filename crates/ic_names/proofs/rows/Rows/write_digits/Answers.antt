use Rattle.std.proofs.Common.{◌≡◌, ◌*◌, ◌++◌, take, drop, sym, ◌∙◌, ap, arith}
use Rattle.ic_name.specs.Names.{depth}
use Rattle.ic_name.specs.NameTexts.{digits_text}
use Rattle.ic_names.specs.Blocks.{anchor_depth}
use Rattle.ic_names.specs.Tables.{name_at}
use Rattle.ic_names.proofs.Blocks.{anchor_deep}
use Rattle.ic_names.proofs.PlaceNames.{place_proper}
use Rattle.ic_names.proofs.WrittenDigits.{joined_text}
use Rattle.ic_names.proofs.rows.Rows.write_digits.Goals as goal

pub loop-behind-preserved : goal.loop-behind-preserved
loop-behind-preserved c =
    let ns = c.args.self.now.names in
    let n = name_at ns c.loop-behind.at in
    let here = c.loop-behind.invariant in
    let up = c.anchor-at.ensures in
    let first = c.write_digits-behind.result in
    let wrote = c.write_digits-behind.ensures in
    let new = c.write_digits-behind.new.text in
    let deep : first ≡ anchor_depth n = wrote.anchor n here.behind in
    let put : drop (2 * first) new ≡ digits_text (drop first n.digits) ++ drop (2 * c.loop-behind.behind) c.loop-behind.text =
    wrote.put n (place_proper ns c.lawful.ensures c.loop-behind.at) here.behind c.block.ensures in
    record {
      inside = up.within;
      behind = deep ∙ sym (anchor_deep n) ∙ ap (λ a. depth a) (sym up.named);
      low = omega (arith, deep, here.behind, here.low, wrote.same_length);
      dots = wrote.dots;
      written = ap (λ a. digits_text a.digits ++ drop (2 * first) new) up.named ∙ ap (λ k. digits_text (take k n.digits) ++ drop (2 * first) new) (sym deep)
          ∙ joined_text n.digits first (drop (2 * first) new) (drop (2 * c.loop-behind.behind) c.loop-behind.text) put ∙ here.written;
    }
