use Rattle.std.proofs.Common.{◌≡◌, ◌+◌, ◌<◌, ◌≤◌, ℕ, List, [], ◌∷◌, ◌++◌, length, take, drop, get_or, refl, ap, sym, subst, arith, ◌∙◌, length-append}
use Rattle.std.proofs.lemmas.List.{take_all, length-drop}
use Rattle.ic_name.specs.Events.{Event}
use Rattle.ic_name.specs.declared.limits.TheConstants.{MAX_LINES}
use Rattle.ic_undo.specs.GoingBack.{AreFired, firing, events_at}
use Rattle.ic_undo.proofs.FiredInTurn.{none_fired, fired_still, fired_more, firable_later, only_memory}
use Rattle.ic_undo.proofs.Places.{in_at}
use Rattle.ic_undo.proofs.PlacedMarks.{is_at, all_at, length_first, length_rest, next_at, rest_at}
use Rattle.ic_undo.proofs.going_back.fire_each.Goals as goal

-- what isn't empty
more : {xs ys : List Event} {e : Event} → xs ≡ e ∷ ys → xs ≡ [] → ⊥
more h n = let q = sym h ∙ n in cc

-- lines for all that are left fit
fits : (lines n : ℕ) (xs ys : List Event) → xs ≡ ys → length xs ≡ n → lines + n ≤ MAX_LINES → lines + length ys ≤ MAX_LINES
fits lines n xs ys same long fit = let q = ap length same in omega (arith, q, long, fit)

pub loop-place-init : goal.loop-place-init
loop-place-init g c =
    let fit = c.requires.fit in
    record { did = none_fired c.args.bench.now; firable = c.requires.firable; fit = fit; few = omega (arith, fit); count = refl }

pub event-requires : goal.event-requires
event-requires g c = c.requires.within (get_or c.args.places.now c.loop-place.place-index 0) (in_at c.args.places.now c.loop-place.place-index 0 _ c.loop-place-test.true refl)

pub returns-in_default-clause-some : goal.returns-in_default-clause-some
returns-in_default-clause-some g c =
    let es = c.args.mark.now.events in
    let ps = c.args.places.now in
    let k = c.loop-place.place-index in
    let inside = c.loop-place-test.true in
    let there = is_at es (get_or ps k 0) (c.requires.within (get_or ps k 0) (in_at ps k 0 _ inside refl)) in
    record {
      came = events_at es (take k ps);
      behind = events_at es (drop k ps);
      parts = all_at es ps k;
      left = more (rest_at es ps k there.0 inside there.1);
      fired = c.loop-place.invariant.did;
      fired_count = c.loop-place.invariant.count ∙ sym (length_first es ps k c.requires.within (omega (arith, inside)));
    }

pub returns-in-Err-Memory-clause-some : goal.returns-in-Err-Memory-clause-some
returns-in-Err-Memory-clause-some g c =
    let es = c.args.mark.now.events in
    let ps = c.args.places.now in
    let k = c.loop-place.place-index in
    let inside = c.loop-place-test.true in
    let wanting = (rw c.in-Err-Memory.field-0-is at c.in-Err-Memory.ensures) c.in-Ok.event c.in-Some.ensures.found in
    record {
      came = events_at es (take k ps);
      behind = events_at es (drop k ps);
      parts = all_at es ps k;
      left = more (rest_at es ps k c.in-Ok.event inside c.in-Ok.ensures);
      fired = fired_still c.args.bench.now c.loop-place.bench c.fire_pair.new.self (events_at es (take k ps)) c.loop-place.invariant.did wanting.1;
      fired_count = c.loop-place.invariant.count ∙ sym (length_first es ps k c.requires.within (omega (arith, inside)));
    }

pub unreachable-requires-in-Err-Deep : goal.unreachable-requires-in-Err-Deep
unreachable-requires-in-Err-Deep g c =
    let es = c.args.mark.now.events in
    let ps = c.args.places.now in
    let k = c.loop-place.place-index in
    let i = c.loop-place.invariant in
    let rest = rest_at es ps k c.in-Ok.event c.loop-place-test.true c.in-Ok.ensures in
    let is = c.in-Err-Deep.field-0-is in
    only_memory c.loop-place.bench c.fire_pair.new.self c.lawful.ensures c.in-Ok.event (events_at es (drop (k + 1) ps)) (rw rest at i.firable) c.in-Err-Deep.field-0
    (fits (length c.loop-place.bench.lines) (length (drop k ps)) (events_at es (drop k ps)) (c.in-Ok.event ∷ events_at es (drop (k + 1) ps)) rest (length_rest es ps k c.requires.within) i.fit) (λ e. cc) (c.in-Err-Deep.ensures c.in-Ok.event c.in-Some.ensures.found)

pub unreachable-requires-in-Err-Full : goal.unreachable-requires-in-Err-Full
unreachable-requires-in-Err-Full g c =
    let es = c.args.mark.now.events in
    let ps = c.args.places.now in
    let k = c.loop-place.place-index in
    let i = c.loop-place.invariant in
    let rest = rest_at es ps k c.in-Ok.event c.loop-place-test.true c.in-Ok.ensures in
    let is = c.in-Err-Full.field-0-is in
    only_memory c.loop-place.bench c.fire_pair.new.self c.lawful.ensures c.in-Ok.event (events_at es (drop (k + 1) ps)) (rw rest at i.firable) c.in-Err-Full.field-0
    (fits (length c.loop-place.bench.lines) (length (drop k ps)) (events_at es (drop k ps)) (c.in-Ok.event ∷ events_at es (drop (k + 1) ps)) rest (length_rest es ps k c.requires.within) i.fit) (λ e. cc) (c.in-Err-Full.ensures c.in-Ok.event c.in-Some.ensures.found)

pub loop-place-preserved : goal.loop-place-preserved
loop-place-preserved g c =
    let es = c.args.mark.now.events in
    let ps = c.args.places.now in
    let k = c.loop-place.place-index in
    let i = c.loop-place.invariant in
    let e = c.in-Ok.event in
    let inside = c.loop-place-test.true in
    let fires = (c.in-Ok-fire_pair.ensures e c.in-Some.ensures.found).0 in
    let noted = ap length fires.0.lines in
    let one = length-append c.loop-place.bench.lines (firing e ∷ []) in
    let fit = i.fit in
    let few = i.few in
    let count = i.count in
    let here = length-drop k ps in
    let next = length-drop (k + 1) ps in
    record {
      did = subst (λ fs. AreFired c.args.bench.now fs c.fire_pair.new.self) (sym (next_at es ps k e inside c.in-Ok.ensures))
          (fired_more c.loop-place.bench c.fire_pair.new.self e c.in-Ok-fire_pair.field-0.id fires c.args.bench.now (events_at es (take k ps)) i.did);
      firable = firable_later c.loop-place.bench c.fire_pair.new.self e c.in-Ok-fire_pair.field-0.id fires (events_at es (drop (k + 1) ps)) (rw (rest_at es ps k e inside c.in-Ok.ensures) at i.firable);
      fit = omega (arith, noted, one, fit, here, next, inside);
      few = omega (arith, few, here, next, inside);
      count = ap (λ n. n + 1) count;
    }
