-- What the contracts see of the lexer and of the builder.
use Rattle.std.specs.Prelude.{◌≡◌, ℕ, Bool, true, false, List, [], ◌∷◌, Option, Some, None, reverse}
use Rattle.ic_text.specs.declared.lexer.Lexeme.{Lexeme}
use Rattle.ic_text.specs.declared.lexer.Lexeme.TheVariants as lexemes
use Rattle.ic_text.specs.declared.lexer.Lexer.{Lexer}
use Rattle.ic_text.specs.declared.builder.Builder.{Builder}
use Rattle.ic_text.specs.Reading.{State}
use Rattle.ic_text.specs.declared.builder.Side as declared
use Rattle.ic_text.specs.declared.builder.Side.TheVariants as declared_sides
use Rattle.ic_text.specs.Sides.{Side}
use Rattle.ic_text.specs.Sides as sides
use Rattle.ic_text.specs.Ends.{port_of_end}
use Rattle.ic_text.specs.Tokens.{Token, symbol, name, opening, closing, comma, equals, semicolon, profile, stray, digit, bad, Mode, between, in_comment, Item, items}

-- the token that a lexeme is
abbrev pub token_of : Lexeme → Token
token_of (lexemes.Symbol k) = symbol k
token_of (lexemes.Name bytes) = name bytes.now
token_of lexemes.Opening = opening
token_of lexemes.Closing = closing
token_of lexemes.Comma = comma
token_of lexemes.Equals = equals
token_of lexemes.Semicolon = semicolon
token_of lexemes.Profile = profile
token_of lexemes.Stray = stray
token_of lexemes.Digit = digit
token_of lexemes.Bad = bad

-- what the next byte of a lexer stands in
abbrev pub mode_of : Bool → Mode
mode_of true = in_comment
mode_of false = between

-- the tokens that a lexer has left
abbrev pub left : Lexer → List Item
left l = items (mode_of l.in_comment) l.at l.rest.now

-- what a call took from the front of the tokens
abbrev pub Takes : List Item → List Item → Option (ℕ × Lexeme) → Type 0
Takes old new None = old ≡ []
Takes old new (Some x) = old ≡ record { at = x.0; token = token_of x.1 } ∷ new

-- what comes next in a text
abbrev pub side_of : declared.Side → Side
side_of declared_sides.Beginning = sides.Beginning
side_of declared_sides.Heading = sides.Heading
side_of declared_sides.Left = sides.Left
side_of (declared_sides.Equals root) = sides.Equals (port_of_end root)
side_of (declared_sides.Right root) = sides.Right (port_of_end root)
side_of declared_sides.Semicolon = sides.Semicolon

-- what a builder has read
abbrev pub state_of : Builder → State
state_of b = record { kinds = b.kinds.items; joins = b.links; seen = b.names; stack = reverse b.stack.items; side = side_of b.side; profile = b.profile }

-- the builder went on as the reading does, or the reading doesn't go on
abbrev pub GoesOn : Option State → State → Bool → Type 0
GoesOn next new true = next ≡ Some new
GoesOn next new false = next ≡ None
