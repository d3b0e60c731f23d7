-- The names of marks.
use Rattle.std.specs.Prelude.{◌≡◌, ◌≤◌, [], ◌∷◌, ℕ, true, List, length, Option, Some, None}
use Rattle.std.specs.List.{list_all}
use Rattle.ic_text.specs.Texts.{is_letter, is_name_byte}
use Rattle.ic_text.specs.declared.grammar.limits.TheConstants.{MAX_NAME}

-- a name as it may stand in a net text: a letter, then letters and digits, not too long
pub record IsMarkName (name : List ℕ) : Type 0 where
  pub first : ℕ
  pub further : List ℕ
  pub parts : name ≡ first ∷ further
  pub begins : is_letter first ≡ true
  pub goes_on : list_all is_name_byte further ≡ true
  pub short : length name ≤ MAX_NAME

-- the mark's name that a word writes, if it writes one
abbrev pub IsMarkNameIn : List ℕ → Option (List ℕ) → Type 0
IsMarkNameIn word (Some name) = IsMarkName word × (name ≡ word)
IsMarkNameIn word None = ¬ (IsMarkName word)

-- the name of a mark that is the only word, if there is one
abbrev pub IsOnlyName : List (List ℕ) → Option (List ℕ) → Type 0
IsOnlyName ws (Some name) = IsMarkName name × (ws ≡ name ∷ [])
IsOnlyName ws None = (name : List ℕ) → IsMarkName name → ws ≡ name ∷ [] → ⊥
