-- The texts of names.
use Rattle.std.specs.Prelude.{◌≡◌, ℕ, ◌+◌, ◌<◌, ◌≤◌, List, [], ◌∷◌, ◌++◌, length, take, All, Result, Ok, Err, ◌⊎◌, codes}
use Rattle.std.specs.Fmt.{decimal}
use Rattle.ic_name.specs.Names.{Name, IsName, depth}
use Rattle.ic_name.specs.Events.{Pair}
use Rattle.ic_name.specs.declared.faults.NameFault.{NameFault}
use Rattle.ic_name.specs.declared.faults.NameFault.TheVariants.{BadName, Deep, Memory}
use Rattle.ic_name.specs.declared.limits.TheConstants.{MAX_DEPTH, MAX_START_AGENTS}

-- a dot and a digit for each generation
abbrev pub digits_text : List ℕ → List ℕ
digits_text [] = []
digits_text (d ∷ ds) = 46 ∷ (48 + d) ∷ digits_text ds

-- the start number in decimal, and then the digits
abbrev pub name_text : Name → List ℕ
name_text n = decimal n.start ++ digits_text n.digits

-- the names of an event's two agents, the lead first
abbrev pub pair_text : Pair → List ℕ
pair_text p = name_text p.lead ++ codes " " ++ name_text p.other

-- the text is that of the name, which may have any depth
pub record IsTextOf (n : Name) (t : List ℕ) : Type 0 where
  pub starts : n.start < MAX_START_AGENTS
  pub digit : All (λ d. d < 4) n.digits
  pub text : t ≡ name_text n

-- the text is that of a name of any depth
pub record IsNameText (t : List ℕ) : Type 0 where
  pub name : Name
  pub written : IsTextOf name t

-- the text is that of a name with more digits than a name may have
pub record IsDeepText (t : List ℕ) : Type 0 where
  pub name : Name
  pub written : IsTextOf name t
  pub deep : MAX_DEPTH < depth name

-- the text is that of a name with no more digits than a name may have
pub record IsShallowText (t : List ℕ) : Type 0 where
  pub name : Name
  pub is_name : IsName name
  pub text : t ≡ name_text name

-- the text can be made longer to that of a name of any depth, or is one
pub record BeginsName (t : List ℕ) : Type 0 where
  pub rest : List ℕ
  pub whole : IsNameText (t ++ rest)

-- the least offset at which no text of a name goes on, or the length of a text that breaks off
pub record IsBadAt (t : List ℕ) (k : ℕ) : Type 0 where
  pub within : k ≤ length t
  pub before : BeginsName (take k t)
  pub after : k < length t → ¬ (BeginsName (take (k + 1) t))
  pub whole : k ≡ length t → ¬ (IsNameText t)

-- what each answer of reading a text says of it
abbrev pub Reads : List ℕ → Result Name NameFault → Type 0
Reads t (Ok n) = IsName n × (t ≡ name_text n)
Reads t (Err (BadName k)) = IsBadAt t k
Reads t (Err Deep) = IsDeepText t
Reads t (Err Memory) = IsShallowText t

-- the text of a name is that of no other name
abbrev pub OneName : Type 0
OneName = (m n : Name) → IsName m → IsName n → name_text m ≡ name_text n → m ≡ n

-- reading the text of a name gives that name, unless memory runs out
abbrev pub ReadsBack : Type 0
ReadsBack = (n : Name) → IsName n → (r : Result Name NameFault) → Reads (name_text n) r → (r ≡ Ok n) ⊎ (r ≡ Err Memory)
