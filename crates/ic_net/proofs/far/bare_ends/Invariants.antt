use Rattle.std.proofs.Common.{◌≡◌, ◌<◌, ℕ, vec_len, slice_index_or}
use Rattle.ic_name.specs.declared.ids.Spot.{Spot}
use Rattle.ic_start.specs.Starts.{IsStartSpot}
use Rattle.ic_net.specs.FarTables.{place_of}
use Rattle.ic_net.proofs.far.bare_ends.Given as goal

abbrev pub invariant-loop-place : goal.invariant-loop-place
invariant-loop-place l =
    (vec_len l.ends ≡ l.place)
    × ((k : ℕ) (d : Spot) → k < l.place → IsStartSpot l.agents l.names (slice_index_or l.ends.items k d) × (place_of l.agents (slice_index_or l.ends.items k d) ≡ k))
