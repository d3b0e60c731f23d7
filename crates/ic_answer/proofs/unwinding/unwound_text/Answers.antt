use Rattle.std.proofs.Common.{rules, ◌≡◌, ◌++◌, codes, length, sym, ap, append-nil, arith, ◌∙◌}
use Rattle.std.specs.Prelude.{[]}
use Rattle.std.specs.Fmt.{decimal}
use Rattle.std.specs.List.{flat_map}
use Rattle.std.proofs.lemmas.List.{take_all}
use Rattle.ic_answer.specs.Texts.{pair_line}
use Rattle.ic_answer.proofs.UnwindingReplies.{lines_more}
use Rattle.ic_answer.proofs.unwinding.unwound_text.Goals as goal

pub loop-name-init : goal.loop-name-init
loop-name-init c =
    let head = codes "unwound " ++ decimal (length c.args.names.now) ++ codes "\n" in
    let text : c.into_bytes-text.result.items ≡ head = search rules in
    text ∙ sym (append-nil head)

pub loop-name-preserved : goal.loop-name-preserved
loop-name-preserved c =
    lines_more (codes "unwound " ++ decimal (length c.args.names.now) ++ codes "\n") c.loop-name.text.items c.push_line.new.text.items c.args.names.now c.loop-name.name-index _ c.name-item.result
    c.loop-name-test.true c.loop-name.invariant c.name-item.is c.in_ok-push_line.ensures

pub returns : goal.returns
returns c =
    let past = c.loop-name-test.false in
    let head = codes "unwound " ++ decimal (length c.args.names.now) ++ codes "\n" in
    c.loop-name.invariant ∙ ap (λ ns. head ++ flat_map (pair_line []) ns) (take_all c.loop-name.name-index c.args.names.now (omega (arith, past)))
