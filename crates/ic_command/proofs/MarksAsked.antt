-- Words that ask for something with a mark, told by the first of them.
use Rattle.std.proofs.Common.{◌≡◌, ℕ, Bool, true, false, List, [], ◌∷◌, ◌||◌, refl, sym, ap, subst}
use Rattle.std.specs.Prelude.{codes, Option, Some, None}
use Rattle.std.specs.Str.{bytes_eq}
use Rattle.ic_command.specs.declared.request.Request.{Request}
use Rattle.ic_command.specs.declared.request.Request.TheVariants.{Mark, Back}
use Rattle.ic_command.specs.MarkNames.{IsMarkName, IsMarkNameIn, IsOnlyName}
use Rattle.ic_command.specs.Requests.{AsksMark, mark, back}

-- the only word is the name of a mark, or isn't
pub only_name : (word : List ℕ) (ws : List (List ℕ)) (o : Option (List ℕ)) → ws ≡ word ∷ [] → IsMarkNameIn word o → IsOnlyName ws o
only_name word ws (Some name) whole is = (subst IsMarkName (let e = is.1 in cc) is.0, (let e = is.1 in cc))
only_name word ws None whole is = λ name named h. is (subst IsMarkName (let e : name ≡ word = cc in e) named)

pub asks_mark : (rest : List (List ℕ)) (name : List ℕ) → IsOnlyName rest (Some name) → AsksMark (codes "mark" ∷ rest) (Mark name)
asks_mark rest name only = subst (λ us. AsksMark (codes "mark" ∷ us) (Mark name)) (sym only.1) (mark only.0)

pub asks_back : (rest : List (List ℕ)) (name : List ℕ) → IsOnlyName rest (Some name) → AsksMark (codes "back" ∷ rest) (Back name)
asks_back rest name only = subst (λ us. AsksMark (codes "back" ∷ us) (Back name)) (sym only.1) (back only.0)

-- no word, or more than one, is no name
pub no_only_name : (ws : List (List ℕ)) → ((word : List ℕ) → ws ≡ word ∷ [] → ⊥) → IsOnlyName ws None
no_only_name ws n name named h = n name h

-- what the words that ask for something with a mark say behind their first
named_behind : (word : List ℕ) (ws us : List (List ℕ)) (r : Request) → AsksMark us r → us ≡ word ∷ ws → (name : List ℕ) × IsMarkName name × ws ≡ name ∷ []
named_behind word ws us r (mark {name = name} named) e = (name, named, cc)
named_behind word ws us r (back {name = name} named) e = (name, named, cc)

-- without one they ask for nothing with a mark
pub marks_none : (w : List ℕ) (rest : List (List ℕ)) → IsOnlyName rest None → (r : Request) → ¬ (AsksMark (w ∷ rest) r)
marks_none w rest none r a = let said = named_behind w rest (w ∷ rest) r a refl in none said.0 said.1 said.2

-- a word that asks for something with the name of a mark behind it
abbrev pub is_marking : List ℕ → Bool
is_marking w = bytes_eq w (codes "mark") || bytes_eq w (codes "back")

marking : (w : List ℕ) (rest us : List (List ℕ)) (r : Request) → AsksMark us r → us ≡ w ∷ rest → is_marking w ≡ true
marking w rest us r (mark named) e = let same : codes "mark" ≡ w = cc in sym (ap is_marking same)
marking w rest us r (back named) e = let same : codes "back" ≡ w = cc in sym (ap is_marking same)

-- other words don't
pub marks_not : (w : List ℕ) (rest : List (List ℕ)) → is_marking w ≡ false → (r : Request) → ¬ (AsksMark (w ∷ rest) r)
marks_not w rest other r a = let marks = marking w rest (w ∷ rest) r a refl in absurd cc
