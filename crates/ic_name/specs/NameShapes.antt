-- The shape of the text of a name, and how it is read byte by byte.
use Rattle.std.specs.Prelude.{◌≡◌, ℕ, ◌+◌, ◌-◌, ◌*◌, Bool, ◌&&◌, ◌==◌, nat_lt, nat_le, List, if◌then◌else◌, Option, Some, None}
use Rattle.ic_name.specs.declared.limits.TheConstants.{MAX_START_AGENTS}
use Rattle.ic_name.specs.declared.shapes.Shape.{Shape}
use Rattle.ic_name.specs.declared.shapes.Place.{Place}
use Rattle.ic_name.specs.declared.shapes.Place.TheVariants.{Front, Whole, Dotted}
use Rattle.ic_name.specs.Names.{Name, depth}
use Rattle.ic_name.specs.NameTexts.{IsTextOf}

-- the text is that of a name of any depth, with this start number and so many digits
pub record HasShape (s : Shape) (t : List ℕ) : Type 0 where
  pub name : Name
  pub written : IsTextOf name t
  pub start : name.start ≡ s.start
  pub generations : depth name ≡ s.generations

-- how many digits have been read
abbrev pub generations_of : Place → ℕ
generations_of Front = 0
generations_of (Whole s) = s.generations
generations_of (Dotted s) = s.generations

-- the byte is a decimal digit
abbrev pub is_decimal : ℕ → Bool
is_decimal c = nat_le 48 c && nat_le c 57

-- the byte is the digit of a child
abbrev pub is_child_digit : ℕ → Bool
is_child_digit c = nat_le 48 c && nat_le c 51

-- a start number with a decimal digit behind it
abbrev pub longer_start : ℕ → ℕ → ℕ
longer_start start c = 10 * start + (c - 48)

-- the start number may go on with the byte: it isn't 0, nothing else was read, and it stays small
abbrev pub may_go_on : Shape → ℕ → Bool
may_go_on s c = (is_decimal c && (s.generations == 0)) && (nat_lt 0 s.start && nat_lt (longer_start s.start c) MAX_START_AGENTS)

-- where reading stands after one byte more
abbrev pub next_place : Place → ℕ → Option Place
next_place Front c = if is_decimal c then Some (Whole (record { start = c - 48; generations = 0 })) else None
next_place (Whole s) c =
    if c == 46 then Some (Dotted s)
    else if may_go_on s c then Some (Whole (record { start = longer_start s.start c; generations = 0 }))
    else None
next_place (Dotted s) c =
    if is_child_digit c then Some (Whole (record { start = s.start; generations = s.generations + 1 })) else None
