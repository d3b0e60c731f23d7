-- What says the profile of a text has no name and no symbol.
use Rattle.std.proofs.Common.{◌≡◌, List, refl}
use Rattle.ic_name.specs.declared.rules.Profile.{Profile}
use Rattle.ic_name.specs.declared.rules.Profile.TheVariants.{Classic, Straight}
use Rattle.ic_text.specs.Tokens.{Token}
use Rattle.ic_text.specs.Grammar.{heading, symbols, names}

-- the names are those behind it
pub heading_names : (p : Profile) (ts : List Token) → names (heading p ts) ≡ names ts
heading_names Classic ts = refl
heading_names Straight ts = refl

-- the symbols are those behind it
pub heading_symbols : (p : Profile) (ts : List Token) → symbols (heading p ts) ≡ symbols ts
heading_symbols Classic ts = refl
heading_symbols Straight ts = refl
