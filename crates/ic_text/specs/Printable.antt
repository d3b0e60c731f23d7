-- Nets of which a printed text says all.
use Rattle.std.specs.Prelude.{◌≡◌, ◌≢◌, ℕ, ◌≤◌, true, false, List, [], ◌∷◌, length, All, Some, IsSome}
use Rattle.ic_name.specs.declared.ports.Port.{Port}
use Rattle.ic_name.specs.declared.limits.TheConstants.{MAX_START_AGENTS}
use Rattle.ic_theory.specs.Nets.{Net}
use Rattle.ic_theory.specs.Listed.{ListedNet, IsListing, free_among, shown}
use Rattle.ic_text.specs.Texts.{is_letter, is_name_byte, is_reserved}
use Rattle.ic_text.specs.declared.grammar.limits.TheConstants.{MAX_TEXT, MAX_FREE_NAMES, MAX_NAME}
use Rattle.ic_text.specs.NetText.{name_text, net_text}

-- each loose port's partner is another one, whose partner it is
abbrev pub IsWired : Net → Type 0
IsWired n = (p q : Port) → n.partner p ≡ Some q → (q ≢ p) × (n.partner q ≡ Some p)

-- a name that may stand free: a letter, then letters, digits and `_`
abbrev pub IsFreeName : List ℕ → Type 0
IsFreeName [] = ⊥
IsFreeName (b ∷ bs) = (is_letter b ≡ true) × (is_reserved (b ∷ bs) ≡ false) × All (λ c. is_name_byte c ≡ true) bs

-- a listed net, wired, whose free names have texts that may stand free and tell them apart
pub record IsPrintable (names : List (List ℕ)) (l : ListedNet) : Type 0 where
  pub listing : IsListing l
  pub wired : IsWired (shown l)
  pub free : (j : ℕ) → IsSome (free_among j l.frees) → IsFreeName (name_text names j)
  pub apart : (i j : ℕ) → IsSome (free_among i l.frees) → IsSome (free_among j l.frees) → name_text names i ≡ name_text names j → i ≡ j

-- a net whose text is within the reader's limits
pub record IsWithinLimits (names : List (List ℕ)) (l : ListedNet) : Type 0 where
  pub short : length (net_text names l) ≤ MAX_TEXT
  pub few_agents : length l.agents ≤ MAX_START_AGENTS
  pub few_free : length l.frees ≤ MAX_FREE_NAMES
  pub short_names : (j : ℕ) → IsSome (free_among j l.frees) → length (name_text names j) ≤ MAX_NAME
