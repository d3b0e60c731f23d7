-- What a worker has in hand.
use Rattle.std.specs.Prelude.{◌≡◌, ◌≢◌, ℕ, Option, None}
use Rattle.ic_work.specs.declared.hand.Hand.{Hand}
use Rattle.ic_work.specs.declared.hand.InHand.{InHand}
use Rattle.ic_work.specs.declared.hand.InHand.TheVariants.{Nothing}
use Rattle.ic_work.specs.Workers.{Keeps}

-- a word is held for what is in hand, and none where nothing is
abbrev pub Grips : InHand → Option ℕ → Type 0
Grips Nothing held = held ≡ None
Grips other held = held ≢ None

-- the hand is of the same worker, at the same claims, and the seat has its tickets still
pub record Stays (old new : Hand) : Type 0 where
  pub claims : new.claims.now ≡ old.claims.now
  pub same_seat : new.seat.ghost_name ≡ old.seat.ghost_name
  pub same_near : new.near.ghost_name ≡ old.near.ghost_name
  pub seat : Keeps old.seat.now new.seat.now
