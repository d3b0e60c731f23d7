use Rattle.std.proofs.Common.{◌≡◌, ◌+◌, ◌∷◌, ◌++◌, [], Option, Some, None, false, take, refl, sym, ap, subst, arith, ◌∙◌}
use Rattle.std.proofs.lemmas.List.{take_more, take_all}
use Rattle.std.specs.BTreeMap.{get}
use Rattle.std.specs.BTreeSet.{contains}
use Rattle.ic_name.specs.Events.{Event, pair, pair_cmp}
use Rattle.ic_set.specs.declared.pairs.ActivePair.{ActivePair}
use Rattle.ic_set.specs.Pairs.{IsPairOf}
use Rattle.ic_journal.specs.Views.{set_of}
use Rattle.ic_undo.specs.Ready.{AddsPairs}
use Rattle.ic_undo.proofs.Places.{in_at}
use Rattle.ic_undo.proofs.ReadyPairs.{one_value, adds_none, adds_more, adds_same}
use Rattle.ic_undo.proofs.ready.add_pairs.Goals as goal

pub loop-place-init : goal.loop-place-init
loop-place-init g c = adds_none (set_of c.args.bench.now) c.lawful.ensures.set (contains pair_cmp c.args.waiting.now) (get pair_cmp c.args.ready.now)

pub loop-place-preserved-in_default : goal.loop-place-preserved-in_default
loop-place-preserved-in_default g c =
    let v = set_of c.args.bench.now in
    let waits = contains pair_cmp c.args.waiting.now in
    let pairs = c.args.pairs.now in
    let k = c.loop-place.place-index in
    let none : Option ActivePair = None in
    let next : take (k + 1) pairs ≡ take k pairs ++ none ∷ [] = take_more pairs k None c.loop-place-test.true ∙ ap (λ x. take k pairs ++ x ∷ []) c.in_default.is in
    subst (λ ps. AddsPairs v waits ps (get pair_cmp c.args.ready.now) (get pair_cmp c.loop-place.ready)) (sym next)
    (adds_same v c.lawful.ensures.set waits (take k pairs) (get pair_cmp c.args.ready.now) (get pair_cmp c.loop-place.ready) none (λ e p h same. absurd cc) c.loop-place.invariant)

pub name_of_pair-requires : goal.name_of_pair-requires
name_of_pair-requires g c = c.requires c.in-Some.pair (in_at c.args.pairs.now c.loop-place.place-index None (Some c.in-Some.pair) c.loop-place-test.true c.in-Some.is)

pub loop-place-preserved-then-not-contains : goal.loop-place-preserved-then-not-contains
loop-place-preserved-then-not-contains g c =
    let v = set_of c.args.bench.now in
    let waits = contains pair_cmp c.args.waiting.now in
    let pairs = c.args.pairs.now in
    let k = c.loop-place.place-index in
    let p = c.in-Some.pair in
    let next : take (k + 1) pairs ≡ take k pairs ++ Some p ∷ [] = take_more pairs k None c.loop-place-test.true ∙ ap (λ x. take k pairs ++ x ∷ []) c.in-Some.is in
    let idle : (e : Event) (q : ActivePair) → IsPairOf v e q → Some p ≡ Some q → waits (pair e) ≡ false =
    (λ e q h same. subst (λ n. waits n ≡ false) (c.in_ok-name.ensures e (subst (IsPairOf v e) (sym (one_value same)) h)) (sym c.contains.ensures ∙ c.if-not-contains.true)) in
    subst (λ ps. AddsPairs v waits ps (get pair_cmp c.args.ready.now) (get pair_cmp c.loop-place.ready)) (sym next)
    (adds_same v c.lawful.ensures.set waits (take k pairs) (get pair_cmp c.args.ready.now) (get pair_cmp c.loop-place.ready) (Some p) idle c.loop-place.invariant)

pub loop-place-preserved : goal.loop-place-preserved
loop-place-preserved g c =
    let v = set_of c.args.bench.now in
    let waits = contains pair_cmp c.args.waiting.now in
    let pairs = c.args.pairs.now in
    let k = c.loop-place.place-index in
    let p = c.in-Some.pair in
    let next : take (k + 1) pairs ≡ take k pairs ++ Some p ∷ [] = take_more pairs k None c.loop-place-test.true ∙ ap (λ x. take k pairs ++ x ∷ []) c.in-Some.is in
    let active = c.requires p (in_at pairs k None (Some p) c.loop-place-test.true c.in-Some.is) in
    subst (λ ps. AddsPairs v waits ps (get pair_cmp c.args.ready.now) (get pair_cmp c.insert.new.self)) (sym next)
    (adds_more v c.lawful.ensures.set waits (take k pairs) (get pair_cmp c.args.ready.now) (get pair_cmp c.loop-place.ready) (get pair_cmp c.insert.new.self) (Some p) p c.in_ok-name.name refl
    (active.0, active.1, c.in_ok-name.ensures active.0 active.1) (sym c.contains.ensures ∙ c.if-not-contains.false) c.in_ok-insert.ensures.updates.0 c.loop-place.invariant)

pub returns : goal.returns
returns g c =
    let past = c.loop-place-test.false in
    subst (λ ps. AddsPairs (set_of c.args.bench.now) (contains pair_cmp c.args.waiting.now) ps (get pair_cmp c.args.ready.now) (get pair_cmp c.loop-place.ready)) (take_all c.loop-place.place-index c.args.pairs.now (omega (arith, past))) c.loop-place.invariant
