-- The views of seats, and what each call makes of them.
use Rattle.std.specs.Prelude.{◌≡◌, ℕ, ◌+◌, ◌++◌, ◌||◌, true, false, [], ◌∷◌, None, if◌then◌else◌}
use Rattle.ic_claim.specs.declared.view.View.{View}

-- a seat that has done nothing yet
abbrev pub new_view : ℕ → ℕ → View
new_view budget number = record {
  spent = false;
  budget = budget;
  number = number;
  given = 0;
  homes = 0;
  held = None;
  done = false;
  stopped = false;
  stops = 0;
  refusals = 0;
  tickets = [];
  nones = [];
}

-- a seat that another took in
abbrev pub spent_view : View
spent_view = record (new_view 0 0) { spent = true }

-- the seat has drawn this ticket more
abbrev pub with_ticket : View → ℕ → View
with_ticket v n = record v { tickets = v.tickets ++ n ∷ [] }

-- the seat has a None under its own number
abbrev pub with_none : View → View
with_none v = record v { done = true; nones = v.nones ++ v.number ∷ [] }

-- the seat after a draw that found no ticket left: it has one None, however often it draws
abbrev pub refused : View → View
refused v = if v.done then v else with_none v

-- one seat more was split off
abbrev pub given_one : View → View
given_one v = record v { given = v.given + 1 }

-- the seat that is split off: it has the next number, and knows of a stop what the other knows
abbrev pub next_seat : View → View
next_seat v = record (new_view v.budget (v.given + 1)) { stopped = v.stopped }

-- the seat that gave the others their numbers has taken all of them in, and a draw of its own found no ticket left
pub record HasAllHome (v : View) : Type 0 where
  pub first : v.number ≡ 0
  pub home : v.homes ≡ v.given
  pub done : v.done ≡ true

-- the seat v has taken in the seat w
abbrev pub joined : View → View → View
joined v w = record v {
  homes = v.homes + w.homes + 1;
  stopped = v.stopped || w.stopped;
  stops = v.stops + w.stops;
  refusals = v.refusals + w.refusals;
  tickets = v.tickets ++ w.tickets;
  nones = v.nones ++ w.nones;
}
