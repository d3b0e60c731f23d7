-- The names of each of the causes.
use Rattle.std.proofs.Common.{◌++◌, sym, ap, ◌∙◌}
use Rattle.std.proofs.lemmas.List.Elements.{All-contains}
use Rattle.std.proofs.lemmas.List.Folds.{flat_map-map}
use Rattle.ic_path.specs.Orders.{IsIn}
use Rattle.ic_path.proofs.Picks.{in-contains}
use Rattle.ic_roster.specs.Rosters.{Stander}
use Rattle.ic_answer.specs.Caused.{cause_word}
use Rattle.ic_answer.proofs.ListedLines.{no_lines, more_lines, all_lines}
use Rattle.ic_answer.proofs.causes.push_causes.Goals as goal

pub loop-id-init : goal.loop-id-init
loop-id-init g c = no_lines (λ (x : Stander). x.id) (λ x. cause_word x.event) (λ x. IsIn x c.args.bench.now.events) c.args.causes.now c.args.text.now.items

pub loop-id-preserved : goal.loop-id-preserved
loop-id-preserved g c =
    more_lines (λ (x : Stander). x.id) (λ x. cause_word x.event) (λ x. IsIn x c.args.bench.now.events) c.args.causes.now c.args.text.now.items
    c.loop-id.text.items c.push_cause.new.text.items c.loop-id.id-index _ c.loop-id-test.true c.loop-id.invariant (λ x i e. c.in_ok-push_cause.ensures x i e)

pub returns : goal.returns
returns g c = λ order there named.
    all_lines (λ (x : Stander). x.id) (λ x. cause_word x.event) (λ x. IsIn x c.args.bench.now.events) c.args.causes.now c.args.text.now.items c.loop-id.text.items c.loop-id.id-index c.loop-id-test.false
    c.loop-id.invariant order (λ x i. All-contains (λ (y : Stander). IsIn y c.args.bench.now.events) order x there (in-contains i)) named
    ∙ ap (λ us. c.args.text.now.items ++ us) (sym (flat_map-map cause_word (λ (x : Stander). x.event) order))
