-- The net of a printed text is the net that it was printed for.
use Rattle.std.proofs.Common.{ℕ, List}
use Rattle.ic_theory.specs.Listed.{ListedNet}
use Rattle.ic_theory.specs.Starts.{Start, IsProper}
use Rattle.ic_text.specs.Grammar.{equation_tokens, names as names_of, start_of, AreNames}
use Rattle.ic_text.specs.Printable.{IsPrintable}
use Rattle.ic_text.specs.Printed.{printed_equations}
use Rattle.ic_text.specs.Reread.{IsReread}
use Rattle.ic_text.proofs.PrintedStart.{IsPrintedStart, printed_start}
use Rattle.ic_text.proofs.RereadPartners.{reread_partners}
use Rattle.ic_text.proofs.RereadOthers.{reread_others}
use Rattle.ic_text.proofs.RereadRings.{reread_rings}

-- the net of the start of a net's text is the net
reread_start : (names : List (List ℕ)) (l : ListedNet) (s : Start) → IsPrintable names l → IsPrintedStart names l s → IsReread names l s
reread_start names l s ok is = record {
  kinds = is.kinds;
  partners = reread_partners names l ok s is;
  no_others = reread_others names l ok s is;
  rings = reread_rings names l ok s is;
  profile = is.profile;
}

-- where its equations are proper and their names allowed
pub reread : (names : List (List ℕ)) (l : ListedNet) → IsPrintable names l → IsProper (start_of l.profile (printed_equations names l)) → AreNames (names_of (equation_tokens (printed_equations names l)))
    → IsReread names l (start_of l.profile (printed_equations names l))
reread names l ok proper allowed = reread_start names l (start_of l.profile (printed_equations names l)) ok (printed_start names l proper allowed)
