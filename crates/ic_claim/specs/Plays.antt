-- What each kind of step tells its seat, by the number that it found.
use Rattle.std.specs.Prelude.{◌≡◌, ℕ, ◌+◌, ◌-◌, ◌≤◌, ◌==◌, true, length, Some, None, nat_lt, if◌then◌else◌}
use Rattle.atomic_table.specs.Table.{Me, Step}
use Rattle.ic_claim.specs.declared.limits.TheConstants.{FIRST_CLAIM_PLACE}
use Rattle.ic_claim.specs.declared.view.View.{View}
use Rattle.ic_claim.specs.Counts.{one_if, times}
use Rattle.ic_claim.specs.Views.{with_ticket, with_none, HasAllHome}

-- the seat's view becomes w, and it holds the slots that it held
abbrev pub Becomes : Me ℕ View → View → Me ℕ View → Type 0
Becomes m w m' = (m'.0 ≡ w) × (m'.1 ≡ m.1)

-- the number found is a ticket if it is below the budget
abbrev pub drawn : View → ℕ → View
drawn v n = if nat_lt n v.budget then with_ticket v n else with_none v

abbrev pub Draws : Step ℕ → Me ℕ View → ℕ → Me ℕ View → Type 0
Draws s m n m' = Becomes m (drawn m.0 n) m'

-- the word w is the seat's if it was found to be 0
abbrev pub taken : View → ℕ → ℕ → View
taken v w n = if n == 0 then record v { held = Some w } else record v { refusals = v.refusals + 1 }

abbrev pub Takes : Step ℕ → Me ℕ View → ℕ → Me ℕ View → Type 0
Takes s m n m' = Becomes m (taken m.0 (s.word - FIRST_CLAIM_PLACE) n) m'

abbrev pub Leaves : Step ℕ → Me ℕ View → ℕ → Me ℕ View → Type 0
Leaves s m n m' = Becomes m (record m.0 { held = None }) m'

abbrev pub Stops : Step ℕ → Me ℕ View → ℕ → Me ℕ View → Type 0
Stops s m n m' = Becomes m (record m.0 { stopped = true; stops = m.0.stops + 1 }) m'

-- the tickets of one view are distinct and no more than the budget, and all of them once all seats are home
pub record AreTickets (v : View) : Type 0 where
  pub once : (x : ℕ) → times x v.tickets ≤ 1
  pub few : length v.tickets ≤ v.budget
  pub all : HasAllHome v → (x : ℕ) → times x v.tickets ≡ one_if (nat_lt x v.budget)

-- all were asked to stop if 1 was found, and a seat that knew of it finds 1
abbrev pub Looks : Step ℕ → Me ℕ View → ℕ → Me ℕ View → Type 0
Looks s m n m' = Becomes m (record m.0 { stopped = n == 1 }) m' × (m.0.stopped ≡ true → n ≡ 1) × AreTickets m.0
