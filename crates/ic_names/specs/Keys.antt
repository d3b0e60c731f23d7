-- Keys of names: numbers whose order never goes against that of the names.
use Rattle.std.specs.Prelude.{ℕ, zero, suc, ◌+◌, ◌*◌, ◌/◌, ◌%◌, ◌^◌, ◌<◌, List, [], ◌∷◌, All}
use Rattle.ic_name.specs.declared.limits.TheConstants.{MAX_START_AGENTS}
use Rattle.ic_name.specs.Names.{Name, depth}

-- a start number and digits as names have them, however many digits there are
pub record IsProper (n : Name) : Type 0 where
  pub starts : n.start < MAX_START_AGENTS
  pub digit : All (λ d. d < 4) n.digits

-- the first digits, as many as that, as one number in base 4, with a 0 for each that is missing
unfoldable pub front_of : ℕ → List ℕ → ℕ
front_of zero ds = 0
front_of (suc n) [] = 0
front_of (suc n) (d ∷ ds) = d * 4 ^ n + front_of n ds

-- the depth, the start number and the first 17 digits, in one number
abbrev pub key_of : Name → ℕ
key_of n = depth n * 2 ^ 50 + n.start * 2 ^ 34 + front_of 17 n.digits

-- the depth in a key
abbrev pub depth_in : ℕ → ℕ
depth_in k = k / 2 ^ 50

-- the start number in a key
abbrev pub start_in : ℕ → ℕ
start_in k = k % 2 ^ 50 / 2 ^ 34
