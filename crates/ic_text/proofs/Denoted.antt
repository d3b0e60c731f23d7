-- A printed text denotes a start.
use Rattle.std.proofs.Common.{◌≡◌, ℕ, ◌+◌, ◌*◌, ◌^◌, ◌<◌, List, length, refl, sym, ap, ◌∙◌, subst}
use Rattle.ic_theory.specs.Starts.{Start}
use Rattle.ic_theory.specs.Listed.{ListedNet}
use Rattle.ic_text.specs.Grammar.{AreNames, Denotes, start_of, tokens, equation_tokens, names as names_of}
use Rattle.ic_text.proofs.Headings.{heading_names}
use Rattle.ic_text.specs.NetText.{net_text}
use Rattle.ic_text.specs.Printable.{IsPrintable}
use Rattle.ic_text.specs.Printed.{printed_equations}
use Rattle.ic_text.proofs.PrintedTokens.{printed_tokens}
use Rattle.ic_text.proofs.PrintedNames.{printed_names}

-- the start of its equations
pub denoted : (names : List (List ℕ)) (l : ListedNet) → IsPrintable names l → 3 * length l.agents + l.rings < 2 ^ 64 → (s : Start) × Denotes (net_text names l) s
denoted names l h few =
    let grammar = printed_tokens names l h in
    let same : names_of (tokens (net_text names l)) ≡ names_of (equation_tokens (printed_equations names l)) = ap names_of grammar ∙ heading_names l.profile (equation_tokens (printed_equations names l)) in
    (start_of l.profile (printed_equations names l), record { profile = l.profile; equations = printed_equations names l; grammar = grammar; allowed = subst (λ xs. AreNames xs) (sym same) (printed_names names l h few); start = refl })
