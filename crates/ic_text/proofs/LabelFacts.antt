-- The texts of wires: two ports of agents have one text exactly where they are one port, or partners.
use Rattle.std.proofs.Common.{◌≡◌, ◌≢◌, ℕ, ◌^◌, ◌<◌, true, false, List, [], ◌∷◌, length, ◌⊎◌, inl, inr, refl, sym, ap, subst, ◌∙◌, arith, Option, Some}
use Rattle.std.specs.Prelude.{decimal, position}
use Rattle.std.proofs.lemmas.Fmt.{decimal_injective}
use Rattle.ic_name.specs.Names.{Name}
use Rattle.ic_name.specs.Same.{same_port}
use Rattle.ic_name.specs.declared.ports.Port.{Port}
use Rattle.ic_name.specs.declared.ports.Port.TheVariants.{Of}
use Rattle.ic_name.specs.declared.ports.Port.TheVariants as port
use Rattle.ic_theory.specs.Listed.{ListedNet, IsListing, shown}
use Rattle.ic_text.specs.Texts.{is_reserved}
use Rattle.ic_text.specs.NetText.{name_text, wire_of, numbered_wires, numbered, label_of}
use Rattle.ic_text.proofs.Wires.{wire_between, wire_both}
use Rattle.ic_text.specs.Printable.{IsFreeName, IsWired, IsPrintable}
use Rattle.ic_text.proofs.WireNumbers.{number_of, one_number, wire_numbered}

-- a number's text begins with `_`
pub numbered_reserved : (k : ℕ) → is_reserved (numbered k) ≡ true
numbered_reserved k = refl

-- different numbers have different texts
pub numbered_one : (m n : ℕ) → m < 2 ^ 64 → n < 2 ^ 64 → numbered m ≡ numbered n → m ≡ n
numbered_one m n h g e = decimal_injective m n h g (behind 95 (decimal m) (decimal n) e)
  where
    behind : (b : ℕ) (xs ys : List ℕ) → ◌≡◌ {A = List ℕ} (b ∷ xs) (b ∷ ys) → xs ≡ ys
    behind b xs ys e = cc

-- a name that may stand free doesn't begin with `_`
pub free_unreserved : (x : List ℕ) → IsFreeName x → is_reserved x ≡ false
free_unreserved [] h = absurd h
free_unreserved (b ∷ bs) h = h.1

-- no number's text is a name that may stand free
pub numbered_apart : (k : ℕ) (x : List ℕ) → IsFreeName x → numbered k ≢ x
numbered_apart k x h e = let a : is_reserved x ≡ true = ap is_reserved (sym e) ∙ numbered_reserved k in let b = free_unreserved x h in cc

-- the text at a port of an agent whose partner is one: the number of their wire
pub record Label (names : List (List ℕ)) (l : ListedNet) (p q : Port) : Type 0 where
  pub wire : Port
  pub named : (wire ≡ p) ⊎ (wire ≡ q)
  pub number : ℕ
  pub is : position (same_port wire) (numbered_wires l.agents) ≡ Some number
  pub below : number < length (numbered_wires l.agents)
  pub text : label_of names (numbered_wires l.agents) p q ≡ numbered number

-- each such port has one
pub label_at : (names : List (List ℕ)) (l : ListedNet) → IsListing l → (n m : Name) (i j : ℕ) → (shown l).partner (Of n i) ≡ Some (Of m j) → Label names l (Of n i) (Of m j)
label_at names l h n m i j e =
    let w = wire_between (Of n i) m j in
    let k = number_of (wire_numbered l h n i (Of m j) w.wire e w.is) in
    record { wire = w.wire; named = w.named; number = k.number; is = k.is; below = k.below; text = rw w.is (rw k.is refl) }

-- a port whose partner is a free name has the name's text
pub label_free : (names : List (List ℕ)) (ws : List Port) (p : Port) (j : ℕ) → label_of names ws p (port.Name j) ≡ name_text names j
label_free names ws p j = refl

-- the two ports of a wire have one label
pub label_both : (names : List (List ℕ)) (ws : List Port) (n m : Name) (i j : ℕ) → Of m j ≢ Of n i → label_of names ws (Of n i) (Of m j) ≡ label_of names ws (Of m j) (Of n i)
label_both names ws n m i j apart =
    let w = wire_between (Of n i) m j in
    let back : wire_of (Of m j) (Of n i) ≡ Some w.wire = sym (wire_both n m i j apart) ∙ w.is in
    rw (w.is, back) refl

-- ports whose partner is one port are one port
one_partner : (l : ListedNet) → IsWired (shown l) → (x y z : Port) → (shown l).partner x ≡ Some z → (shown l).partner y ≡ Some z → x ≡ y
one_partner l ok x y z f g = let u = (ok x z f).1 in let v = (ok y z g).1 in let k : ◌≡◌ {A = Option Port} (Some x) (Some y) = sym u ∙ v in cc

-- where one port each of two wires is the same, so are the wires
shared : (l : ListedNet) → IsWired (shown l) → (p q p' q' w : Port) → (shown l).partner p ≡ Some q → (shown l).partner p' ≡ Some q'
    → (w ≡ p) ⊎ (w ≡ q) → (w ≡ p') ⊎ (w ≡ q') → (p' ≡ p) ⊎ (p' ≡ q)
shared l ok p q p' q' w e e' (inl f) (inl g) = inl (sym g ∙ f)
shared l ok p q p' q' w e e' (inr f) (inl g) = inr (sym g ∙ f)
shared l ok p q p' q' w e e' (inl f) (inr g) =
    let back : (shown l).partner p ≡ Some p' = subst (λ z. (shown l).partner z ≡ Some p') (sym g ∙ f) (ok p' q' e').1 in
    let k : ◌≡◌ {A = Option Port} (Some p') (Some q) = sym back ∙ e in
    inr cc
shared l ok p q p' q' w e e' (inr f) (inr g) = inl (one_partner l ok p' p q (subst (λ z. (shown l).partner p' ≡ Some z) (sym g ∙ f) e') e)

-- ports of agents with one label are one port, or partners
pub label_one : (names : List (List ℕ)) (l : ListedNet) → IsPrintable names l → length (numbered_wires l.agents) < 2 ^ 64 → (n m n' m' : Name) (i j i' j' : ℕ)
    → (shown l).partner (Of n i) ≡ Some (Of m j) → (shown l).partner (Of n' i') ≡ Some (Of m' j')
    → label_of names (numbered_wires l.agents) (Of n i) (Of m j) ≡ label_of names (numbered_wires l.agents) (Of n' i') (Of m' j')
    → (Of n' i' ≡ Of n i) ⊎ (Of n' i' ≡ Of m j)
label_one names l ok short n m n' m' i j i' j' e e' same =
    let a = label_at names l ok.listing n m i j e in
    let b = label_at names l ok.listing n' m' i' j' e' in
    let low = a.below in
    let low' = b.below in
    let number : a.number ≡ b.number = numbered_one a.number b.number (omega arith) (omega arith) (sym a.text ∙ same ∙ b.text) in
    let wire : a.wire ≡ b.wire = one_number a.wire b.wire a.number (numbered_wires l.agents) a.is (b.is ∙ ap Some (sym number)) in
    shared l ok.wired (Of n i) (Of m j) (Of n' i') (Of m' j') a.wire e e' a.named (subst (λ z. (z ≡ Of n' i') ⊎ (z ≡ Of m' j')) (sym wire) b.named)
