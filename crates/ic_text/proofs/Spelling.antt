-- A spelling is read in one way, so a text denotes one start.
use Rattle.std.proofs.Common.{◌≡◌, ℕ, List, [], ◌∷◌, refl, sym, ◌∙◌}
use Rattle.ic_name.specs.declared.rules.Profile.{Profile}
use Rattle.ic_name.specs.declared.rules.Profile.TheVariants.{Classic, Straight}
use Rattle.ic_theory.specs.Starts.{Start}
use Rattle.ic_text.specs.Tokens.{Token, comma, closing, equals, semicolon, profile}
use Rattle.ic_text.specs.Grammar.{gamma, delta, Term, named, eps, fork, Equation, spell, equation_tokens, text_of, Denotes, start_of}

-- the first of equal lists
pub head_is : (t u : Token) (ts us : List Token) → t ∷ ts ≡ u ∷ us → t ≡ u
head_is t u ts us e = cc

-- what is behind it
pub tail_is : (t u : Token) (ts us : List Token) → t ∷ ts ≡ u ∷ us → ts ≡ us
tail_is t u ts us e = cc

-- no front of a text is the front of another term: a spelling is read in one way
pub one_term : (s t : Term) (cs bs : List Token) → spell s cs ≡ spell t bs → (s ≡ t) × (cs ≡ bs)
one_term (named x) (named y) cs bs e = (cc, cc)
one_term (named x) eps cs bs e = absurd cc
one_term (named x) (fork g c d) cs bs e = absurd cc
one_term eps (named y) cs bs e = absurd cc
one_term eps eps cs bs e = (refl, cc)
one_term eps (fork gamma c d) cs bs e = absurd cc
one_term eps (fork delta c d) cs bs e = absurd cc
one_term (fork f a b) (named y) cs bs e = absurd cc
one_term (fork gamma a b) eps cs bs e = absurd cc
one_term (fork delta a b) eps cs bs e = absurd cc
one_term (fork gamma a b) (fork delta c d) cs bs e = absurd cc
one_term (fork delta a b) (fork gamma c d) cs bs e = absurd cc
one_term (fork gamma a b) (fork gamma c d) cs bs e =
    let h = one_term a c (comma ∷ spell b (closing ∷ cs)) (comma ∷ spell d (closing ∷ bs)) cc in
    let k = one_term b d (closing ∷ cs) (closing ∷ bs) (tail_is comma comma _ _ h.1) in
    ((λ i. fork gamma (h.0 i) (k.0 i)), tail_is closing closing _ _ k.1)
one_term (fork delta a b) (fork delta c d) cs bs e =
    let h = one_term a c (comma ∷ spell b (closing ∷ cs)) (comma ∷ spell d (closing ∷ bs)) cc in
    let k = one_term b d (closing ∷ cs) (closing ∷ bs) (tail_is comma comma _ _ h.1) in
    ((λ i. fork delta (h.0 i) (k.0 i)), tail_is closing closing _ _ k.1)

-- a term has a token
pub starts : (s : Term) (cs : List Token) → spell s cs ≡ [] → ⊥
starts (named x) cs e = absurd cc
starts eps cs e = absurd cc
starts (fork f a b) cs e = absurd cc

-- equations by their tokens
one_list : (es fs : List Equation) → equation_tokens es ≡ equation_tokens fs → es ≡ fs
one_list [] [] e = refl
one_list [] (f ∷ fs) e = absurd (starts f.left _ (sym e))
one_list (q ∷ es) [] e = absurd (starts q.left _ e)
one_list (q ∷ es) (f ∷ fs) e =
    let h = one_term q.left f.left _ _ e in
    let k = one_term q.right f.right _ _ (tail_is equals equals _ _ h.1) in
    let r = one_list es fs (tail_is semicolon semicolon _ _ k.1) in
    λ i. record { left = h.0 i; right = k.0 i } ∷ r i

-- no term begins with the profile
no_profile : (t : Term) (cs ts : List Token) → spell t cs ≡ profile ∷ ts → ⊥
no_profile (named x) cs ts e = absurd cc
no_profile eps cs ts e = absurd cc
no_profile (fork gamma a b) cs ts e = absurd cc
no_profile (fork delta a b) cs ts e = absurd cc

-- nor do equations
no_heading : (es : List Equation) (ts : List Token) → equation_tokens es ≡ profile ∷ ts → ⊥
no_heading [] ts e = absurd cc
no_heading (q ∷ es) ts e = no_profile q.left _ ts e

-- the profile and the equations of a text, by its tokens
pub one_text : (p q : Profile) (es fs : List Equation) → text_of p es ≡ text_of q fs → (p ≡ q) × (es ≡ fs)
one_text Classic Classic es fs e = (refl, one_list es fs e)
one_text Classic Straight es fs e = absurd (no_heading es _ e)
one_text Straight Classic es fs e = absurd (no_heading fs _ (sym e))
one_text Straight Straight es fs e = (refl, one_list es fs (tail_is semicolon semicolon _ _ (tail_is profile profile _ _ e)))

-- a text denotes one start
pub one_start : (text : List ℕ) (s t : Start) → Denotes text s → Denotes text t → s ≡ t
one_start text s t c d =
    let h = one_text c.profile d.profile c.equations d.equations (sym c.grammar ∙ d.grammar) in
    c.start ∙ (λ i. start_of (h.0 i) (h.1 i)) ∙ sym d.start
