use Rattle.std.proofs.Common.{◌/◌, ◌<◌, length, drop, sym, refl, ◌∙◌, arith, length-drop, true≢false}
use Rattle.std.proofs.Math.ListN.{length-set}
use Rattle.std.specs.Prelude.{replicate}
use Rattle.ic_shared.specs.declared.merging.TheConstants.{MAX_COLUMNS}
use Rattle.ic_shared.specs.Passes.{column, columns}
use Rattle.ic_shared.specs.Settles.{differs}
use Rattle.ic_shared.proofs.Owned.{settles_start, settles_step, settles_end, get_drop, get_at, bounded_step, zeros, ends_more, get_length, next_of, second, none_in_order, left_over}
use Rattle.ic_shared.proofs.Columns.{columns_length}
use Rattle.ic_shared.proofs.merging.merge.Goals as goal

pub loop-j-init : goal.loop-j-init
loop-j-init g c = (settles_start c.args.base (drop c.args.base c.args.bench.now.lines) (columns c.args.bench.now.names c.args.passes.now) (replicate MAX_COLUMNS 0) (zeros MAX_COLUMNS), refl, λ p. let z = zeros MAX_COLUMNS p in omega arith)

pub overflow_add-cursors : goal.overflow_add-cursors
overflow_add-cursors g c = let b = c.loop-j.invariant.2 c.loop-j.last in omega arith

pub loop-j-preserved-then-confirms : goal.loop-j-preserved-then-confirms
loop-j-preserved-then-confirms g c =
    let i = c.loop-j.invariant in
    let lt = c.if-last-passes.true in
    let few = c.requires.few in
    let in_cursors : c.loop-j.last < length c.loop-j.cursors = omega arith in
    let long = columns_length c.args.bench.now.names c.args.passes.now in
    let pass = get_at c.args.passes.now (c.loop-j.last / 2) _ _ (omega arith) c.index-passes-last.is in
    let there = c.column_of.ensures c.args.bench.now.names c.args.passes.now c.index-passes-last.result pass in
    let n = c.if-confirms.ensures.0 refl in (
      settles_step c.args.base (drop c.args.base c.args.bench.now.lines) (columns c.args.bench.now.names c.args.passes.now) c.loop-j.cursors c.loop-j.j c.loop-j.last _ n.0 n.1 i.0 in_cursors (omega arith) there
          (get_drop c.args.base c.args.bench.now.lines c.loop-j.j ∙ n.2)
          n.3 n.4,
      simp length-set i.1,
      bounded_step c.loop-j.cursors c.loop-j.j c.loop-j.last in_cursors i.2,
    )

pub loop-j-preserved : goal.loop-j-preserved
loop-j-preserved g c =
    let i = c.loop-j.invariant in
    let lt = (c.in-Some.ensures.some c.args.bench.now.names).0 in
    let few = c.requires.few in
    let in_cursors : c.in-Some.c < length c.loop-j.cursors = omega arith in
    let long = columns_length c.args.bench.now.names c.args.passes.now in
    let pass = get_at c.args.passes.now (c.in-Some.c / 2) _ _ (omega arith) c.index-passes-c.is in
    let there = c.column_of-in-loop-j.ensures c.args.bench.now.names c.args.passes.now c.index-passes-c.result pass in
    let n = c.if-not-confirms.ensures.0 refl in (
      settles_step c.args.base (drop c.args.base c.args.bench.now.lines) (columns c.args.bench.now.names c.args.passes.now) c.loop-j.cursors c.loop-j.j c.in-Some.c _ n.0 n.1 i.0 in_cursors (omega arith) there
          (get_drop c.args.base c.args.bench.now.lines c.loop-j.j ∙ n.2)
          n.3 n.4,
      simp length-set i.1,
      bounded_step c.loop-j.cursors c.loop-j.j c.in-Some.c in_cursors i.2,
    )

pub loop-c-preserved : goal.loop-c-preserved
loop-c-preserved g c =
    let pass = get_at c.args.passes.now (c.loop-c.c / 2) _ _ (omega arith) c.index-passes-c-in-loop-c.is in
    let there = c.column_of-in-loop-c.ensures c.args.bench.now.names c.args.passes.now c.index-passes-c-in-loop-c.result pass in
    ends_more (columns c.args.bench.now.names c.args.passes.now) c.loop-j.cursors c.loop-c.c _ c.loop-c.invariant there (c.in-None-number_at.ensures c.args.bench.now.names)

pub returns-clause-ok : goal.returns-clause-ok
returns-clause-ok g c = settles_end c.args.base (drop c.args.base c.args.bench.now.lines) (columns c.args.bench.now.names c.args.passes.now) c.loop-j.cursors c.loop-j.j c.loop-j.invariant.0
    (let w = c.requires.within in simp length-drop (omega arith))
    (λ b xs there.
    let lt = get_length (columns c.args.bench.now.names c.args.passes.now) b xs there in
    let long = columns_length c.args.bench.now.names c.args.passes.now in
    c.loop-c.invariant b xs (omega arith) there)

pub returns-in-Some-behind-clause-err : goal.returns-in-Some-behind-clause-err
returns-in-Some-behind-clause-err g c =
    let s = c.in-Some-behind.ensures.some c.args.bench.now.names in
    second c.args.base c.args.bench.now.lines (columns c.args.bench.now.names c.args.passes.now) c.loop-j.cursors c.loop-j.j s.1.0 _ c.loop-j.invariant.0 (simp length-drop (omega arith)) s.1.1 s.0

pub returns-in-None-clause-err : goal.returns-in-None-clause-err
returns-in-None-clause-err g c =
    let long = columns_length c.args.bench.now.names c.args.passes.now in
    none_in_order c.args.base c.args.bench.now.lines (columns c.args.bench.now.names c.args.passes.now) c.loop-j.cursors c.loop-j.j c.loop-j.invariant.0 (simp length-drop (omega arith)) c.requires.within
    (λ b lt. c.in_default.ensures.none c.args.bench.now.names b (omega arith))
    (λ b lt. c.in-None.ensures.none c.args.bench.now.names b (omega arith))

pub returns-then-not-confirms-clause-err : goal.returns-then-not-confirms-clause-err
returns-then-not-confirms-clause-err g c =
    let lt = (c.in-Some.ensures.some c.args.bench.now.names).0 in
    let pass = get_at c.args.passes.now (c.in-Some.c / 2) _ _ (omega arith) c.index-passes-c.is in
    let there = c.column_of-in-loop-j.ensures c.args.bench.now.names c.args.passes.now c.index-passes-c.result pass in
    differs c.in-Some.c _ _ there (next_of (columns c.args.bench.now.names c.args.passes.now) c.loop-j.cursors c.in-Some.c _ _ there (c.in-Some.ensures.some c.args.bench.now.names).1) (λ h. absurd (true≢false (sym (c.if-not-confirms.ensures.1 h))))

pub returns-in-Some-number_at-clause-err : goal.returns-in-Some-number_at-clause-err
returns-in-Some-number_at-clause-err g c =
    let pass = get_at c.args.passes.now (c.loop-c.c / 2) _ _ (omega arith) c.index-passes-c-in-loop-c.is in
    let there = c.column_of-in-loop-c.ensures c.args.bench.now.names c.args.passes.now c.index-passes-c-in-loop-c.result pass in
    left_over c.args.base c.args.bench.now.lines (columns c.args.bench.now.names c.args.passes.now) c.loop-j.cursors c.loop-j.j c.loop-c.c _ c.loop-j.invariant.0 (simp length-drop (omega arith))
    (column c.args.bench.now.names c.index-passes-c-in-loop-c.result c.column_of-in-loop-c.result, there, c.in-Some-number_at.ensures c.args.bench.now.names) c.requires.within

pub offset_bounds-passes-c : goal.offset_bounds-passes-c
offset_bounds-passes-c g c = let lt = (c.in-Some.ensures.some c.args.bench.now.names).0 in let few = c.requires.few in omega arith

pub bounds-passes-c : goal.bounds-passes-c
bounds-passes-c g c = let lt = (c.in-Some.ensures.some c.args.bench.now.names).0 in let few = c.requires.few in omega arith

pub offset_bounds-cursors-c : goal.offset_bounds-cursors-c
offset_bounds-cursors-c g c = let lt = (c.in-Some.ensures.some c.args.bench.now.names).0 in let few = c.requires.few in omega arith

pub bounds-cursors-c : goal.bounds-cursors-c
bounds-cursors-c g c = let lt = (c.in-Some.ensures.some c.args.bench.now.names).0 in let few = c.requires.few in omega arith

pub offset_bounds-cursors-c-in-loop-j : goal.offset_bounds-cursors-c-in-loop-j
offset_bounds-cursors-c-in-loop-j g c = let lt = (c.in-Some.ensures.some c.args.bench.now.names).0 in let few = c.requires.few in omega arith

pub bounds-cursors-c-in-loop-j : goal.bounds-cursors-c-in-loop-j
bounds-cursors-c-in-loop-j g c = let lt = (c.in-Some.ensures.some c.args.bench.now.names).0 in let few = c.requires.few in omega arith

pub bounds-cursors-c-in-loop-j-2 : goal.bounds-cursors-c-in-loop-j-2
bounds-cursors-c-in-loop-j-2 g c = let lt = (c.in-Some.ensures.some c.args.bench.now.names).0 in let few = c.requires.few in omega arith
