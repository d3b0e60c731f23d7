-- What comes next in a text, outside all parentheses.
use Rattle.ic_name.specs.declared.ports.Port.{Port}

-- the profile or what comes where an equation may begin; the semicolon behind the profile; a left term or the end of the
-- text; the equality sign; the right term, each with the root of the left one; the semicolon
pub data Side : Type 0 where
  Beginning : Side
  Heading : Side
  Left : Side
  Equals : Port → Side
  Right : Port → Side
  Semicolon : Side
