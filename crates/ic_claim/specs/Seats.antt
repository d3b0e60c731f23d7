-- Claims and seats as their callers see them, and what they keep.
use Rattle.std.specs.Prelude.{◌≡◌, ℕ, ◌<◌, ◌≤◌, Bool, false, [], Option, Some}
use Rattle.atomic_table.specs.Table.{Me}
use Rattle.atomic_table.specs.Seated.{TableId}
use Rattle.ic_claim.specs.declared.limits.TheConstants.{CLAIM_WORDS, MAX_SEATS, PLACES}
use Rattle.ic_claim.specs.declared.view.View.{View}
use Rattle.ic_claim.specs.Counts.{one_if, times}

-- which table the claims are, and how many tickets it has
pub record ClaimsValue : Type 0 where
  pub table : TableId
  pub budget : ℕ

-- which table a seat is of, and what it knows
pub record SeatValue : Type 0 where
  pub table : TableId
  pub view : View

-- what claims keep beside their table
pub record IsClaims (table : TableId) (key budget : ℕ) : Type 0 where
  pub places : table.words ≡ PLACES
  pub no_slots : table.slots ≡ 0
  pub keyed : key ≡ budget

-- what a seat keeps beside its view
pub record IsSeat (number budget : ℕ) (held : Option ℕ) (done : Bool) (given : ℕ) (me : Me ℕ View) : Type 0 where
  pub no_slots : me.1 ≡ []
  pub unspent : me.0.spent ≡ false
  pub numbered : me.0.number ≡ number
  pub budgeted : me.0.budget ≡ budget
  pub holding : me.0.held ≡ held
  pub ended : me.0.done ≡ done
  pub counted : me.0.given ≡ given
  pub below : number < MAX_SEATS
  pub noted : one_if me.0.done ≤ times me.0.number me.0.nones
  pub in_range : (w : ℕ) → held ≡ Some w → w < CLAIM_WORDS
