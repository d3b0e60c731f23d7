-- The active pairs are those of the machine's state.
use Rattle.std.proofs.Common.{rules, ◌≡◌, ◌++◌, length, sym, subst}
use Rattle.std.specs.Prelude.{codes}
use Rattle.std.specs.Fmt.{decimal}
use Rattle.ic_name.specs.Events.{Event}
use Rattle.ic_set.specs.declared.pairs.ActivePair.{ActivePair}
use Rattle.ic_set.specs.Pairs.{IsPairOf}
use Rattle.ic_journal.specs.Views.{set_of}
use Rattle.ic_answer.specs.Texts.{event_line}
use Rattle.ic_answer.proofs.ListedLines.{HasLines, no_lines, more_lines}
use Rattle.ic_answer.proofs.StandingPairs.{told_active}
use Rattle.ic_answer.proofs.reading.active.Goals as goal

pub loop-pair-init : goal.loop-pair-init
loop-pair-init g c =
    let v = c.args.bench.now in
    let ys = c.deref-pair-items.result.now in
    let head = codes "active " ++ decimal (length ys) ++ codes "\n" in
    let e : c.into_bytes-text.result.items ≡ head = search rules in
    subst (λ t. HasLines (λ (x : Event × ActivePair). x.1) (λ x. event_line x.0) (λ x. IsPairOf (set_of v) x.0 x.1) ys head 0 t) (sym e)
    (no_lines (λ (x : Event × ActivePair). x.1) (λ x. event_line x.0) (λ x. IsPairOf (set_of v) x.0 x.1) ys head)

pub loop-pair-preserved : goal.loop-pair-preserved
loop-pair-preserved g c =
    let v = c.args.bench.now in
    let ys = c.deref-pair-items.result.now in
    more_lines (λ (x : Event × ActivePair). x.1) (λ x. event_line x.0) (λ x. IsPairOf (set_of v) x.0 x.1) ys (codes "active " ++ decimal (length ys) ++ codes "\n") c.loop-pair.text.items c.push_active.new.text.items c.loop-pair.pair-index _ c.loop-pair-test.true c.loop-pair.invariant
    (λ x p e. c.in_ok-push_active.ensures x.0 (subst (λ (q : ActivePair). IsPairOf (set_of v) x.0 q) e p))

pub returns : goal.returns
returns g c = told_active c.args.bench.now c.lawful.ensures c.in_ok-pairs.pairs.items c.deref-pair-items.result.now c.deref-pair-items.ensures.value c.in_ok-pairs.ensures c.loop-pair.text.items c.loop-pair.pair-index c.loop-pair-test.false c.loop-pair.invariant
