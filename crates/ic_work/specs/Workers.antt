-- Workers with their seats and passes.
use Rattle.std.specs.Prelude.{◌≡◌, ◌≢◌, ◌+◌, ◌≤◌, ℕ, List, [], length, None, All}
use Rattle.atomic_table.specs.Seated.{TableId}
use Rattle.ic_claim.specs.Seats.{SeatValue}
use Rattle.ic_shared.specs.Passes.{PassView, added_by, added_by_all}

-- all that the caller of a pass added it added by runs of firings
abbrev pub AreFires : PassView → Type 0
AreFires pass = pass.receipts ≡ []

-- the seat is of the table, and holds no word
pub record IsFree (table : TableId) (seat : SeatValue) : Type 0 where
  pub placed : seat.table ≡ table
  pub free : seat.view.held ≡ None

-- the seat has its number and its tickets still
pub record Keeps (old new : SeatValue) : Type 0 where
  pub table : new.table ≡ old.table
  pub number : new.view.number ≡ old.view.number
  pub budget : new.view.budget ≡ old.view.budget
  pub tickets : new.view.tickets ≡ old.view.tickets

-- at most so many lines were added, each by a run of firings
pub record MayFire (most : ℕ) (old new : PassView) : Type 0 where
  pub few : added_by new ≤ added_by old + most
  pub fires : AreFires old → AreFires new

-- the seat draws tickets, each of which is unused
pub record DrawsMore (old : SeatValue) (unused : ℕ) (new : SeatValue) (unused' : ℕ) : Type 0 where
  pub table : new.table ≡ old.table
  pub number : new.view.number ≡ old.view.number
  pub budget : new.view.budget ≡ old.view.budget
  pub held : new.view.held ≡ old.view.held
  pub drawn : length new.view.tickets + unused ≡ length old.view.tickets + unused'

-- a worker has drawn a ticket for each line that it added, each by a run of firings
pub record Works (seat : SeatValue) (pass : PassView) (seat' : SeatValue) (pass' : PassView) : Type 0 where
  pub table : seat'.table ≡ seat.table
  pub number : seat'.view.number ≡ seat.view.number
  pub budget : seat'.view.budget ≡ seat.view.budget
  pub free : seat'.view.held ≡ None
  pub spent : added_by pass' + length seat.view.tickets ≤ added_by pass + length seat'.view.tickets
  pub fires : AreFires pass → AreFires pass'

-- the same from one turn to another, where the worker has so many tickets that it hasn't used
pub record WorksOn (unused : ℕ) (seat : SeatValue) (pass : PassView) (unused' : ℕ) (seat' : SeatValue) (pass' : PassView) : Type 0 where
  pub table : seat'.table ≡ seat.table
  pub number : seat'.view.number ≡ seat.view.number
  pub budget : seat'.view.budget ≡ seat.view.budget
  pub free : seat'.view.held ≡ None
  pub spent : added_by pass' + length seat.view.tickets + unused' ≤ added_by pass + length seat'.view.tickets + unused
  pub fires : AreFires pass → AreFires pass'

-- a worker but the first one: it holds no word, and has a ticket for each line that it added, each by a run of firings
pub record IsGuest (table : TableId) (seat : SeatValue) (pass : PassView) : Type 0 where
  pub seated : IsFree table seat
  pub later : seat.view.number ≢ 0
  pub spent : added_by pass ≤ length seat.view.tickets
  pub fires : AreFires pass

-- the first worker, with what it has taken in: it has a ticket for each line of its own and of those whose passes are home,
-- and all were added by runs of firings
pub record IsFirst (table : TableId) (budget : ℕ) (seat : SeatValue) (pass : PassView) (home : List PassView) : Type 0 where
  pub seated : IsFree table seat
  pub tickets : seat.view.budget ≡ budget
  pub spent : added_by_all home + added_by pass ≤ length seat.view.tickets
  pub fires : AreFires pass
  pub all_fire : All AreFires home
