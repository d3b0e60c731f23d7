use Rattle.std.proofs.Common.{◌≡◌, ℕ, List, ◌∷◌, ◌++◌, Option, Some, reverse, length, subst}
use Rattle.ic_theory.specs.Letters.{AreConcurrent}
use Rattle.ic_trace.specs.Cursors.{HasTwo, list_in}
use Rattle.ic_trace.specs.Known.{event_at}
use Rattle.ic_trace.specs.declared.reading.Step.{Step}
use Rattle.ic_trace.specs.declared.cursor.Cursor.{Cursor}
use Rattle.ic_trace.proofs.CursorMoves.{swap_made, swap_refused, first_inside, second_inside, swapped_inside, put_back}
use Rattle.ic_trace.proofs.cursor.Cursor.swap.Goals as goal

-- the letters that were taken out
two : (xs : List Step) (i : ℕ) (o : Option (Step × Step)) (x y : Step) (new : Cursor) → o ≡ Some (x, y) → HasTwo xs i o new → (length new.before.items ≡ i) × (xs ≡ new.before.items ++ x ∷ y ∷ reverse new.behind.items)
two xs i o x y new e h = subst (λ (p : Option (Step × Step)). HasTwo xs i p new) e h

pub are_concurrent-requires-clause-left : goal.are_concurrent-requires-clause-left
are_concurrent-requires-clause-left c =
    let w = two (list_in c.args.self.now) c.args.place c.in_ok-first.field-0 c.in-Some.first c.in-Some.second c.take_two.new.self c.in-Some.is c.in_ok-first.ensures in
    rw c.number.ensures (first_inside c.args.known.now c.take_two.new.self.before.items (reverse c.take_two.new.self.behind.items) c.in-Some.first c.in-Some.second w.1 c.requires)

pub are_concurrent-requires-clause-right : goal.are_concurrent-requires-clause-right
are_concurrent-requires-clause-right c =
    let w = two (list_in c.args.self.now) c.args.place c.in_ok-first.field-0 c.in-Some.first c.in-Some.second c.take_two.new.self c.in-Some.is c.in_ok-first.ensures in
    rw c.number-2.ensures (second_inside c.args.known.now c.take_two.new.self.before.items (reverse c.take_two.new.self.behind.items) c.in-Some.first c.in-Some.second w.1 c.requires)

pub returns-then-not-are_concurrent-clause-does : goal.returns-then-not-are_concurrent-clause-does
returns-then-not-are_concurrent-clause-does c =
    let w = two (list_in c.args.self.now) c.args.place c.in_ok-first.field-0 c.in-Some.first c.in-Some.second c.take_two.new.self c.in-Some.is c.in_ok-first.ensures in
    λ s ok known js.
    let n : ¬ (AreConcurrent s (event_at c.args.known.now c.number.result) (event_at c.args.known.now c.number-2.result)) = λ k. (let t = (c.are_concurrent.ensures s ok known).1 k in let f = c.if-not-are_concurrent.true in absurd cc) in
    swap_refused s c.args.known.now (list_in c.args.self.now) c.take_two.new.self.before.items (reverse c.take_two.new.self.behind.items) c.args.place c.in-Some.first c.in-Some.second w.0 w.1 (rw (c.number.ensures, c.number-2.ensures) at n)

pub returns-clause-does : goal.returns-clause-does
returns-clause-does c =
    let w = two (list_in c.args.self.now) c.args.place c.in_ok-first.field-0 c.in-Some.first c.in-Some.second c.take_two.new.self c.in-Some.is c.in_ok-first.ensures in
    λ s ok known.
    let k : AreConcurrent s (event_at c.args.known.now c.number.result) (event_at c.args.known.now c.number-2.result) = (c.are_concurrent.ensures s ok known).0 c.if-not-are_concurrent.false in
    rw (c.in_ok-push-2.ensures.items, c.in_ok-push.ensures.items, put_back c.take_two.new.self.behind.items c.in-Some.first c.in-Some.second)
    (swap_made s c.args.known.now (list_in c.args.self.now) c.take_two.new.self.before.items (reverse c.take_two.new.self.behind.items) c.args.place c.in-Some.first c.in-Some.second w.0 w.1 (rw (c.number.ensures, c.number-2.ensures) at k))

pub returns-clause-inside : goal.returns-clause-inside
returns-clause-inside c =
    let w = two (list_in c.args.self.now) c.args.place c.in_ok-first.field-0 c.in-Some.first c.in-Some.second c.take_two.new.self c.in-Some.is c.in_ok-first.ensures in
    λ t. rw (c.in_ok-push-2.ensures.items, c.in_ok-push.ensures.items, put_back c.take_two.new.self.behind.items c.in-Some.first c.in-Some.second)
    (swapped_inside c.args.known.now c.take_two.new.self.before.items (reverse c.take_two.new.self.behind.items) c.in-Some.first c.in-Some.second w.1 c.requires)
