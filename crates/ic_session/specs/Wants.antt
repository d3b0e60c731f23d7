-- Want of memory, told of in a text.
use Rattle.std.specs.Prelude.{◌≡◌, ℕ, List, ◌++◌, codes}

-- want of memory is told of in the text
abbrev pub Wants : List ℕ → Type 0
Wants text = (front behind : List ℕ) × (text ≡ front ++ codes "refused 25 memory" ++ behind)
