-- The rule of the table: how its words and the views of all seats belong together, between any two steps.
-- A seat's view stands in the list of views at the place of its number, and a spent view stays there.
use Rattle.std.specs.Prelude.{◌≡◌, ◌≢◌, ℕ, ◌+◌, ◌<◌, ◌≤◌, ◌⊎◌, true, false, List, [], length, slice_index, Some, min, nat_lt}
use mathlib.Core.Option.{some}
use lib.ListN.{get_elem?}
use Rattle.atomic_table.specs.Table.{State}
use Rattle.ic_claim.specs.declared.limits.TheConstants.{CLAIM_WORDS, MAX_BUDGET, MAX_SEATS, STOP_PLACE, TICKET_PLACE, FIRST_CLAIM_PLACE, PLACES}
use Rattle.ic_claim.specs.declared.view.View.{View}
use Rattle.ic_claim.specs.Counts.{one_if, times, total}
use Rattle.ic_claim.specs.Views.{spent_view}

abbrev pub word_of_stop : List ℕ → ℕ
word_of_stop words = slice_index words STOP_PLACE

abbrev pub word_of_tickets : List ℕ → ℕ
word_of_tickets words = slice_index words TICKET_PLACE

abbrev pub word_of_claim : List ℕ → ℕ → ℕ
word_of_claim words w = slice_index words (w + FIRST_CLAIM_PLACE)

-- what holds of the view at place k
pub record Fits (budget : ℕ) (words : List ℕ) (views : List View) (k : ℕ) (v : View) : Type 0 where
  -- a seat's number is its place
  pub numbered : v.spent ≡ false → v.number ≡ k
  -- a seat knows the budget
  pub budgeted : v.spent ≡ false → v.budget ≡ budget
  -- a spent view knows and holds nothing
  pub emptied : v.spent ≡ true → v ≡ spent_view
  -- the claim word that a seat holds has the seat's number and one
  pub holds : (w : ℕ) → v.held ≡ Some w → (w < CLAIM_WORDS) × (word_of_claim words w ≡ k + 1)
  -- a seat that knows of a stop knows right
  pub told : v.stopped ≡ true → word_of_stop words ≡ 1
  -- a None is only where no ticket is left
  pub used_up : v.nones ≢ [] → budget ≤ word_of_tickets words
  -- a seat has one None of its own where a draw of its own found no ticket left, and else none
  pub own_none : v.spent ≡ false → times k v.nones ≡ one_if v.done
  -- a None of a seat that isn't spent is in no other view
  pub kept_none : v.spent ≡ false → total (λ u. times k u.nones) views ≡ times k v.nones

-- the seat with number 0, which counts the numbers that it gave
pub record CountsSeats (views : List View) (v : View) : Type 0 where
  -- it is there
  pub there : get_elem? views 0 ≡ some v
  -- and isn't spent
  pub unspent : v.spent ≡ false
  -- each view but its own has a number that it gave
  pub counted : length views ≡ v.given + 1
  -- and there are no more than all seats
  pub most : v.given < MAX_SEATS

-- a seat that holds the claim word w
pub record HasHolder (words : List ℕ) (views : List View) (w : ℕ) : Type 0 where
  -- the seat's number
  pub seat : ℕ
  -- its view
  pub view : View
  -- which is there
  pub there : get_elem? views seat ≡ some view
  -- and has the word
  pub held : view.held ≡ Some w
  -- which has the seat's number and one
  pub named : word_of_claim words w ≡ seat + 1

-- the words of the table agree with what all seats know
pub record Agree (budget : ℕ) (words : List ℕ) (views : List View) : Type 0 where
  -- the table has a stop word, a ticket word and the claim words
  pub places : length words ≡ PLACES
  -- the budget is not too large
  pub bounded : budget ≤ MAX_BUDGET
  -- the seat with number 0 counts the numbers that it gave
  pub first : (v : View) × CountsSeats views v
  -- each view fits
  pub fits : (k : ℕ) (v : View) → get_elem? views k ≡ some v → Fits budget words views k v
  -- a claim word is 0, or a seat holds it
  pub claims : (w : ℕ) → w < CLAIM_WORDS → (word_of_claim words w ≡ 0) ⊎ HasHolder words views w
  -- a number below the ticket word and the budget is in all views together once, and any other is in none
  pub tickets : (x : ℕ) → total (λ v. times x v.tickets) views ≡ one_if (nat_lt x (min (word_of_tickets words) budget))
  -- a None is under the number of a seat, and no seat has two
  pub nones : (x : ℕ) → total (λ v. times x v.nones) views ≤ one_if (nat_lt x (length views))
  -- the ticket word has passed the budget by no more than there are Nones
  pub over : word_of_tickets words ≤ budget + total (λ v. length v.nones) views
  -- as many views are spent as seats came home
  pub homes : total (λ v. v.homes) views ≡ total (λ v. one_if v.spent) views
  -- the stop word is 1 once a seat has asked, and 0 before
  pub stop : word_of_stop words ≡ one_if (nat_lt 0 (total (λ v. v.stops) views))

abbrev pub Holds : ℕ → State ℕ View → Type 0
Holds budget s = Agree budget s.words s.views
