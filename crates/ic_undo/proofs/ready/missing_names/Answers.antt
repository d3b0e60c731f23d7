use Rattle.std.proofs.Common.{◌≡◌, ◌+◌, ◌∷◌, ◌++◌, [], take, sym, ap, subst, arith, ◌∙◌}
use Rattle.std.proofs.lemmas.List.{take_more, take_all}
use Rattle.std.specs.BTreeMap.{is_at}
use Rattle.std.specs.BTreeSet.{contains}
use Rattle.std.specs.List.{list_any}
use Rattle.ic_name.specs.Events.{pair_cmp}
use Rattle.ic_journal.specs.Views.{set_of}
use Rattle.ic_undo.specs.Ready.{TellsMissing}
use Rattle.ic_undo.proofs.MissingNames.{missing_none, missing_more, missing_same, found_stands, none_stands, one_at_most}
use Rattle.ic_undo.proofs.ready.missing_names.Goals as goal

pub loop-name-init : goal.loop-name-init
loop-name-init g c = record {
  tells = missing_none (set_of c.args.bench.now) (contains pair_cmp c.new-missing.result) (λ p. ap (λ ks. list_any (is_at (pair_cmp p)) ks) c.new-missing.ensures.empty);
  few = (let none = c.new-missing.ensures.len in omega (arith, none));
}

pub loop-name-preserved-then-is_some : goal.loop-name-preserved-then-is_some
loop-name-preserved-then-is_some g c =
    let v = set_of c.args.bench.now in
    let names = c.args.names.now in
    let k = c.loop-name.name-index in
    let n = c.name-item.result in
    let next : take (k + 1) names ≡ take k names ++ n ∷ [] = take_more names k n c.loop-name-test.true ∙ ap (λ m. take k names ++ m ∷ []) (sym c.name-item.is) in
    let found = found_stands v c.event.result n (sym c.is_some.ensures ∙ c.if-is_some.true) c.event.ensures.found in
    let few = c.loop-name.invariant.few in
    record {
      tells = subst (λ ns. TellsMissing v ns (contains pair_cmp c.loop-name.missing)) (sym next) (missing_same v (take k names) (contains pair_cmp c.loop-name.missing) n found.0 found.1 found.2 c.loop-name.invariant.tells);
      few = omega (arith, few);
    }

pub loop-name-preserved : goal.loop-name-preserved
loop-name-preserved g c =
    let v = set_of c.args.bench.now in
    let names = c.args.names.now in
    let k = c.loop-name.name-index in
    let n = c.name-item.result in
    let next : take (k + 1) names ≡ take k names ++ n ∷ [] = take_more names k n c.loop-name-test.true ∙ ap (λ m. take k names ++ m ∷ []) (sym c.name-item.is) in
    let absent = none_stands v c.event.result n (sym c.is_some.ensures ∙ c.if-is_some.false) c.event.ensures.absent in
    record {
      tells = subst (λ ns. TellsMissing v ns (contains pair_cmp c.insert.new.self)) (sym next)
          (missing_more v (take k names) (contains pair_cmp c.loop-name.missing) (contains pair_cmp c.insert.new.self) n c.in_ok-copy.field-0 c.in_ok-copy.ensures absent c.loop-name.invariant.tells c.in_ok-insert.ensures.updates.0);
      few = one_at_most c.in_ok-insert.field-0 _ _ k c.in_ok-insert.ensures.len c.loop-name.invariant.few;
    }

pub returns-clause-tells : goal.returns-clause-tells
returns-clause-tells g c =
    let past = c.loop-name-test.false in
    subst (λ ns. TellsMissing (set_of c.args.bench.now) ns (contains pair_cmp c.loop-name.missing)) (take_all c.loop-name.name-index c.args.names.now (omega (arith, past))) c.loop-name.invariant.tells

pub returns-clause-few : goal.returns-clause-few
returns-clause-few g c = let few = c.loop-name.invariant.few in let end = c.loop-name.auto.name-index-end in omega (arith, few, end)
