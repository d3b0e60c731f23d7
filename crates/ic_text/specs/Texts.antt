-- The bytes of names.
use Rattle.std.specs.Prelude.{ℕ, ◌==◌, nat_le, ◌&&◌, ◌||◌, Bool, false, List, [], ◌∷◌}

-- a byte with which a name begins: `a` to `z` or `_`
abbrev pub is_letter : ℕ → Bool
is_letter b = (nat_le 97 b && nat_le b 122) || (b == 95)

-- a digit
abbrev pub is_digit : ℕ → Bool
is_digit b = nat_le 48 b && nat_le b 57

-- a byte with which a name goes on
abbrev pub is_name_byte : ℕ → Bool
is_name_byte b = is_letter b || is_digit b

-- a name that begins with `_`
abbrev pub is_reserved : List ℕ → Bool
is_reserved [] = false
is_reserved (b ∷ bs) = b == 95
