-- Words that ask to absorb, told by the first of them.
use Rattle.std.proofs.Common.{◌≡◌, ℕ, false, List, [], ◌∷◌, refl, sym, subst}
use Rattle.std.proofs.lemmas.Slice.Eq.{bytes_eq-Decides}
use Rattle.std.specs.Prelude.{codes, Some, None}
use Rattle.std.specs.Str.{bytes_eq}
use Rattle.ic_name.specs.declared.limits.TheConstants.{MAX_ABSORBED}
use Rattle.ic_command.specs.Asked.{AsksAbsorb, absorb}
use Rattle.ic_command.specs.Commands.{AreNumberUpTo, IsNumberUpTo}

-- what stands behind the first word
absorb_parts : {ws : List (List ℕ)} {n : ℕ} (w : List ℕ) (rest : List (List ℕ)) → AsksAbsorb ws n → ws ≡ w ∷ rest
    → (w ≡ codes "absorb") × ((v : List ℕ) × (rest ≡ v ∷ []) × IsNumberUpTo MAX_ABSORBED v n)
absorb_parts w rest (absorb {w = v} is small) whole = (cc, (v, cc, record { written = is; small = small }))

-- the number behind the word
pub absorbs_number : (rest : List (List ℕ)) (n : ℕ) → AreNumberUpTo MAX_ABSORBED rest (Some n) → AsksAbsorb (codes "absorb" ∷ rest) n
absorbs_number rest n number = subst (λ us. AsksAbsorb (codes "absorb" ∷ us) n) (sym number.1) (absorb number.2.written number.2.small)

-- and where there is none
pub absorbs_no_number : (rest : List (List ℕ)) → AreNumberUpTo MAX_ABSORBED rest None → (n : ℕ) → ¬ (AsksAbsorb (codes "absorb" ∷ rest) n)
absorbs_no_number rest none n a = let p = absorb_parts (codes "absorb") rest a refl in none p.1.0 n p.1.1 p.1.2

-- another word asks to absorb nothing
pub absorbs_not : (w : List ℕ) (rest : List (List ℕ)) → bytes_eq w (codes "absorb") ≡ false → (n : ℕ) → ¬ (AsksAbsorb (w ∷ rest) n)
absorbs_not w rest other n a = let same = (bytes_eq-Decides w (codes "absorb")).1 (absorb_parts w rest a refl).0 in absurd cc

-- no words ask to absorb nothing
pub absorbs_nothing : (ws : List (List ℕ)) → ws ≡ [] → (n : ℕ) → ¬ (AsksAbsorb ws n)
absorbs_nothing ws none n (absorb is small) = cc
