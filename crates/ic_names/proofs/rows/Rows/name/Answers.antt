use Rattle.std.proofs.Common.{◌≡◌, ◌++◌, length, take, drop, sym, ◌∙◌, ap}
use Rattle.std.specs.List.{refill}
use Rattle.ic_name.specs.Names.{depth}
use Rattle.ic_names.specs.Blocks.{anchor_depth}
use Rattle.ic_names.specs.Tables.{name_at}
use Rattle.ic_names.proofs.Blocks.{anchor_deep}
use Rattle.ic_names.proofs.PlaceNames.{place_proper}
use Rattle.ic_names.proofs.PutDigits.{joined_digits, refilled}
use Rattle.ic_names.proofs.rows.Rows.name.Goals as goal

pub loop-behind-preserved : goal.loop-behind-preserved
loop-behind-preserved c =
    let ns = c.args.self.now.names in
    let n = name_at ns c.loop-behind.at in
    let here = c.loop-behind.invariant in
    let up = c.anchor-at.ensures in
    let first = c.put_digits-behind.result in
    let old = c.loop-behind.digits.items in
    let new = c.put_digits-behind.new.digits in
    let was : c.deref_mut.result.now ≡ old = c.deref_mut.ensures.value in
    let same : length new ≡ length old = c.put_digits-behind.ensures.same_length ∙ ap (λ ds. length ds) was in
    let all : refill (length old) old new ≡ new = refilled old new same in
    let deep : first ≡ anchor_depth n = c.put_digits-behind.ensures.anchor n here.behind in
    let put : drop first new ≡ drop first n.digits ++ drop c.loop-behind.behind old =
    c.put_digits-behind.ensures.put n (place_proper ns c.lawful.ensures c.loop-behind.at) here.behind c.block.ensures ∙ ap (λ ds. drop first n.digits ++ drop c.loop-behind.behind ds) was in
    let joined : take first n.digits ++ drop first new ≡ n.digits ++ drop c.loop-behind.behind old = joined_digits n first (drop first new) (drop c.loop-behind.behind old) put in
    record {
      inside = up.within;
      start = ap (λ a. a.start) up.named ∙ here.start;
      behind = deep ∙ sym (anchor_deep n) ∙ ap (λ a. depth a) (sym up.named);
      all = ap (λ ds. length ds) all ∙ same ∙ here.all;
      digits = ap (λ ds. (name_at ns c.anchor-at.result).digits ++ drop first ds) all ∙ ap (λ a. a.digits ++ drop first new) up.named
          ∙ ap (λ k. take k n.digits ++ drop first new) (sym deep) ∙ joined ∙ here.digits;
    }
