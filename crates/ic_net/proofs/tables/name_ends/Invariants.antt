use Rattle.std.proofs.Common.{◌≡◌, ◌+◌, ◌<◌, ℕ, length, drop}
use Rattle.std.specs.Prelude.{slice_index}
use Rattle.ic_name.specs.declared.ids.Spot.TheVariants as spots
use Rattle.ic_path.specs.Links.{degree}
use Rattle.ic_link.specs.Links.{shape}
use Rattle.ic_net.proofs.tables.name_ends.Given as goal

abbrev pub invariant-loop-number : goal.invariant-loop-number
invariant-loop-number l = record {
  long : length l.times.items ≡ l.names;
  counted : (j : ℕ) → j < l.names → slice_index l.times.items j + degree shape (drop l.number l.links) (spots.Name j) ≡ degree shape l.links (spots.Name j);
}
