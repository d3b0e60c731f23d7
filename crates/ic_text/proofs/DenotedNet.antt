-- The start that a printed text denotes has the net that was printed.
use Rattle.std.proofs.Common.{ℕ, List, refl, ap, ◌∙◌, subst}
use Rattle.ic_theory.specs.Listed.{ListedNet}
use Rattle.ic_theory.specs.Starts.{Start}
use Rattle.ic_text.specs.Grammar.{equation_tokens, names as names_of, start_of, AreNames, Denotes}
use Rattle.ic_text.proofs.Headings.{heading_names}
use Rattle.ic_text.proofs.Spelling.{one_start}
use Rattle.ic_text.proofs.Proper.{proper}
use Rattle.ic_text.specs.NetText.{net_text}
use Rattle.ic_text.specs.Printable.{IsPrintable}
use Rattle.ic_text.specs.Printed.{printed_equations}
use Rattle.ic_text.specs.Reread.{IsReread}
use Rattle.ic_text.proofs.PrintedTokens.{printed_tokens}
use Rattle.ic_text.proofs.RereadNet.{reread}

-- what a printed text denotes is the start of its equations
pub denoted_start : (names : List (List ℕ)) (l : ListedNet) (s : Start) → IsPrintable names l → Denotes (net_text names l) s → Denotes (net_text names l) (start_of l.profile (printed_equations names l))
denoted_start names l s ok d = record { profile = l.profile; equations = printed_equations names l; grammar = printed_tokens names l ok; allowed = d.allowed; start = refl }

-- its net is the net that was printed
pub denoted_net : (names : List (List ℕ)) (l : ListedNet) (s : Start) → IsPrintable names l → Denotes (net_text names l) s → IsReread names l s
denoted_net names l s ok d =
    let e = denoted_start names l s ok d in
    let allowed : AreNames (names_of (equation_tokens (printed_equations names l))) = subst (λ xs. AreNames xs) (ap names_of (printed_tokens names l ok) ∙ heading_names l.profile (equation_tokens (printed_equations names l))) d.allowed in
    subst (λ t. IsReread names l t) (one_start (net_text names l) (start_of l.profile (printed_equations names l)) s e d) (reread names l ok (proper (net_text names l) (start_of l.profile (printed_equations names l)) e) allowed)
