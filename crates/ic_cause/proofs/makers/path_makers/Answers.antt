use Rattle.std.proofs.Common.{subst, sym, arith, ◌∙◌, rules}
use Rattle.smallvec.proofs.SmallVecLemmas.{items-with_items}
use Rattle.ic_cause.proofs.MakerFacts.{HasMakers, has_makers, makers_once, few_makers}
use Rattle.ic_cause.proofs.makers.path_makers.Goals as goal
use Rattle.ic_cause.proofs.makers.path_makers.Goals.{then-len-gt1, else-len-gt1}

pub returns : goal.returns
returns g c =
    let (ids, found, are) = c.in_ok-makers.ensures in (
      ids,
      found,
      elim c.if-len-gt1.branch [
        | then-len-gt1 w ↦
            let sorted = w.sort_unstable.new.self in
            let makers = subst (HasMakers ids) (sym (w.deref_mut.ensures.value ∙ are)) (has_makers ids) in
            rw (w.makers-is, w.dedup.ensures.items, items-with_items c.in_ok-makers.makers sorted (search rules)) (makers_once ids w.deref_mut.result.now sorted makers w.sort_unstable.ensures.permutation w.sort_unstable.ensures.sorted)
        | else-len-gt1 w ↦
            let makers = subst (HasMakers ids) (sym are) (has_makers ids) in
            let short = w.if-len-gt1.false in
            let count = c.len.ensures.value in
            rw w.makers-is (few_makers ids c.in_ok-makers.makers.items makers (omega (arith, short, count)))
      ],
    )
