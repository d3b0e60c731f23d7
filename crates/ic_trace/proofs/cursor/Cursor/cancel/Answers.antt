use Rattle.std.proofs.Common.{◌≡◌, ℕ, ◌↔◌, List, ◌∷◌, ◌++◌, Bool, true, false, Option, Some, reverse, length, refl, subst}
use Rattle.std.specs.Prelude.{IsTrue}
use Rattle.ic_theory.specs.Starts.{Start}
use Rattle.ic_trace.specs.Cursors.{HasTwo, Does, list_in}
use Rattle.ic_trace.specs.Known.{AreKnown}
use Rattle.ic_trace.specs.Readings.{AreInverse, AreInside, letters_in}
use Rattle.ic_trace.specs.declared.known.Known.{Known}
use Rattle.ic_trace.specs.declared.moving.Move.TheVariants.{Cancel}
use Rattle.ic_trace.specs.declared.reading.Step.{Step}
use Rattle.ic_trace.specs.declared.cursor.Cursor.{Cursor}
use Rattle.ic_trace.proofs.CursorMoves.{cancel_made, cancel_refused, others_inside}
use Rattle.ic_trace.proofs.cursor.Cursor.cancel.Goals as goal

-- the letters that were taken out
two : (xs : List Step) (i : ℕ) (o : Option (Step × Step)) (x y : Step) (new : Cursor) → o ≡ Some (x, y) → HasTwo xs i o new → (length new.before.items ≡ i) × (xs ≡ new.before.items ++ x ∷ y ∷ reverse new.behind.items)
two xs i o x y new e h = subst (λ (p : Option (Step × Step)). HasTwo xs i p new) e h

-- what the test says of the move
does : (s : Start) (ks : List Known) (xs before behind : List Step) (i : ℕ) (x y : Step) (yes : Bool) → length before ≡ i → xs ≡ before ++ x ∷ y ∷ behind → IsTrue yes ↔ AreInverse x y → AreKnown s ks → AreInside ks xs → Does s (Cancel i) (letters_in ks xs) yes (letters_in ks (before ++ behind))
does s ks xs before behind i x y true at is w known inside = cancel_made s ks xs before behind i x y at is (w.0 refl)
does s ks xs before behind i x y false at is w known inside = λ js. cancel_refused s ks xs before behind i x y at is known inside (λ h. (let t = w.1 h in absurd cc))

pub returns-in-Some-clause-does : goal.returns-in-Some-clause-does
returns-in-Some-clause-does c =
    let w = two (list_in c.args.self.now) c.args.place c.in_ok-first.field-0 c.in-Some.first c.in-Some.second c.take_two.new.self c.in-Some.is c.in_ok-first.ensures in
    λ s ks known inside.
    does s ks (list_in c.args.self.now) c.take_two.new.self.before.items (reverse c.take_two.new.self.behind.items) c.args.place c.in-Some.first c.in-Some.second c.undoes.result w.0 w.1 c.undoes.ensures known inside

pub returns-in-Some-clause-inside : goal.returns-in-Some-clause-inside
returns-in-Some-clause-inside c =
    let w = two (list_in c.args.self.now) c.args.place c.in_ok-first.field-0 c.in-Some.first c.in-Some.second c.take_two.new.self c.in-Some.is c.in_ok-first.ensures in
    λ ks t inside. others_inside ks c.take_two.new.self.before.items (reverse c.take_two.new.self.behind.items) c.in-Some.first c.in-Some.second w.1 inside
