-- The words of a command line.
use Rattle.std.specs.Prelude.{ℕ, ◌==◌, ◌||◌, not, Bool, List, [], ◌∷◌, ◌++◌, if◌then◌else◌}

-- a blank or a tab
abbrev pub is_blank : ℕ → Bool
is_blank b = (b == 32) || (b == 9)

-- the word that the bytes so far make, if there are any
abbrev pub last_word : List ℕ → List (List ℕ)
last_word [] = []
last_word (b ∷ bs) = (b ∷ bs) ∷ []

-- the words of what is left, of whose first word some bytes have come
abbrev pub words_after : List ℕ → List ℕ → List (List ℕ)
words_after front [] = last_word front
words_after front (b ∷ bs) = if is_blank b then last_word front ++ words_after [] bs else words_after (front ++ b ∷ []) bs

-- the words of a line, separated by runs of blanks, which may stand at both ends, too
abbrev pub words : List ℕ → List (List ℕ)
words line = words_after [] line

-- a byte of a word
abbrev pub is_solid : ℕ → Bool
is_solid b = not (is_blank b)
