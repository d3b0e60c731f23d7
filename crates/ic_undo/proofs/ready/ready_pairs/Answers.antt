use Rattle.std.proofs.Common.{◌≡◌, ◌+◌, ◌∷◌, ◌++◌, [], take, refl, sym, ap, subst, arith, ◌∙◌}
use Rattle.std.proofs.lemmas.List.{take_more, take_all}
use Rattle.std.specs.BTreeMap.{get}
use Rattle.ic_name.specs.Events.{pair_cmp}
use Rattle.ic_journal.specs.Views.{set_of}
use Rattle.ic_undo.specs.Ready.{AreReady}
use Rattle.ic_undo.proofs.ReadyPairs.{ready_none, ready_more, ready_same}
use Rattle.ic_undo.proofs.ready.ready_pairs.Goals as goal

pub loop-name-init : goal.loop-name-init
loop-name-init g c = ready_none (set_of c.args.bench.now) (get pair_cmp c.new-ready.result) (λ q. rw c.new-ready.ensures.empty refl)

pub loop-name-preserved-in_default : goal.loop-name-preserved-in_default
loop-name-preserved-in_default g c =
    let v = set_of c.args.bench.now in
    let names = c.args.names.now in
    let k = c.loop-name.name-index in
    let n = c.name-item.result in
    let next : take (k + 1) names ≡ take k names ++ n ∷ [] = take_more names k n c.loop-name-test.true ∙ ap (λ m. take k names ++ m ∷ []) (sym c.name-item.is) in
    subst (λ ns. AreReady v ns (get pair_cmp c.loop-name.ready)) (sym next) (ready_same v c.lawful.ensures.set (take k names) (get pair_cmp c.loop-name.ready) n c.in_default.ensures.absent c.loop-name.invariant)

pub loop-name-preserved : goal.loop-name-preserved
loop-name-preserved g c =
    let v = set_of c.args.bench.now in
    let names = c.args.names.now in
    let k = c.loop-name.name-index in
    let n = c.name-item.result in
    let next : take (k + 1) names ≡ take k names ++ n ∷ [] = take_more names k n c.loop-name-test.true ∙ ap (λ m. take k names ++ m ∷ []) (sym c.name-item.is) in
    subst (λ ns. AreReady v ns (get pair_cmp c.insert.new.self)) (sym next)
    (ready_more v c.lawful.ensures.set (take k names) (get pair_cmp c.loop-name.ready) (get pair_cmp c.insert.new.self) n c.in_ok-copy.field-0 c.in-Some.pair c.in_ok-copy.ensures c.in-Some.ensures.found c.in_ok-insert.ensures.updates.0 c.loop-name.invariant)

pub returns : goal.returns
returns g c =
    let past = c.loop-name-test.false in
    subst (λ ns. AreReady (set_of c.args.bench.now) ns (get pair_cmp c.loop-name.ready)) (take_all c.loop-name.name-index c.args.names.now (omega (arith, past))) c.loop-name.invariant
