-- A printed text within the reader's limits has no fault.
use Rattle.std.proofs.Common.{◌≡◌, ℕ, ◌+◌, ◌*◌, ◌^◌, ◌≤◌, ◌<◌, Bool, true, false, List, [], ◌∷◌, ◌++◌, length, inl, inr, refl, sym, ap, subst, ◌∙◌, arith, append_assoc, length-append}
use Rattle.std.specs.List.{AllByRecursion}
use Rattle.std.specs.Str.{bytes_eq}
use Rattle.std.proofs.lemmas.Slice.Eq.{bytes_eq-Decides}
use Rattle.ic_name.specs.declared.kinds.Kind.{Kind}
use Rattle.ic_theory.specs.Listed.{ListedNet}
use Rattle.ic_text.specs.Texts.{is_reserved}
use Rattle.ic_text.specs.Tokens.{Token, symbol, name, bad}
use Rattle.ic_text.specs.Grammar.{equation_tokens, text_of, tokens, symbols, occurs, AreNames, names as names_of}
use Rattle.ic_text.specs.Faults.{At, Stands}
use Rattle.ic_text.specs.declared.grammar.limits.TheConstants.{MAX_NAME}
use Rattle.ic_text.specs.declared.grammar.refusal.Refusal.{Refusal}
use Rattle.ic_text.specs.declared.grammar.refusal.Refusal.TheVariants.{TooLong, BadByte, Syntax, NameTooLong, Thrice, TooManyAgents, TooNested, ReservedFree, TooManyFree}
use Rattle.ic_text.proofs.Headings.{heading_names, heading_symbols}
use Rattle.ic_text.proofs.Distinct.{times_in, occurs_is}
use Rattle.ic_text.specs.NetText.{net_text}
use Rattle.ic_text.specs.Printable.{IsPrintable, IsWithinLimits}
use Rattle.ic_text.specs.Printed.{printed_equations}
use Rattle.ic_text.proofs.AgentSymbols.{symbols_count}
use Rattle.ic_text.proofs.FewFree.{few_free}
use Rattle.ic_text.proofs.Fronts.{split, each_at, names_append, symbols_append, IsGood, good_text}
use Rattle.ic_text.proofs.Nesting.{shallow}
use Rattle.ic_text.proofs.NameCounts.{printed, times_append}
use Rattle.ic_text.proofs.PrintedNames.{countable, printed_names}
use Rattle.ic_text.proofs.PrintedTokens.{printed_tokens}
use Rattle.ic_text.proofs.ShortNames.{numbers_within, names_short}

-- ---- names

-- a name of the text is one of its names
name_at : (P : List ℕ → Type 0) (front rest ts : List Token) (x : List ℕ) → ts ≡ front ++ name x ∷ rest → AllByRecursion P (names_of ts) → P x
name_at P front rest ts x e h = each_at P (names_of front) x (names_of rest) (rw (ap names_of e ∙ names_append front (name x ∷ rest)) at h)

-- it occurs once more than in front of it
name_once_more : (front rest ts : List Token) (x : List ℕ) → ts ≡ front ++ name x ∷ rest → occurs x (names_of front) + 1 ≤ occurs x (names_of ts)
name_once_more front rest ts x e =
    let parts : times_in x (names_of ts) ≡ times_in x (names_of front) + times_in x (x ∷ names_of rest) = ap (times_in x) (ap names_of e ∙ names_append front (name x ∷ rest)) ∙ times_append x (names_of front) (x ∷ names_of rest) in
    let self : bytes_eq x x ≡ true = (bytes_eq-Decides x x).1 refl in
    let here : times_in x (x ∷ names_of rest) ≡ 1 + times_in x (names_of rest) = rw self refl in
    let all = occurs_is x (names_of ts) in
    let some = occurs_is x (names_of front) in
    omega arith

-- a symbol stands behind as many as are in front of it
symbol_behind : (front rest ts : List Token) (k : Kind) → ts ≡ front ++ symbol k ∷ rest → length (symbols front) + 1 ≤ length (symbols ts)
symbol_behind front rest ts k e =
    let parts = ap length (ap symbols e ∙ symbols_append front (symbol k ∷ rest)) in
    let long = length-append (symbols front) (k ∷ symbols rest) in
    omega arith

-- ---- faults

-- no fault stands in the text
pub faultless : (names : List (List ℕ)) (l : ListedNet) → IsPrintable names l → IsWithinLimits names l → (f : Refusal) → Stands (net_text names l) f → ⊥
faultless names l h w f stands = by f stands
  where
    grammar : tokens (net_text names l) ≡ text_of l.profile (printed_equations names l)
    grammar = printed_tokens names l h

    few : 3 * length l.agents + l.rings < 2 ^ 64
    few = let k = numbers_within names l w in omega arith

    named : names_of (text_of l.profile (printed_equations names l)) ≡ printed names l
    named = heading_names l.profile (equation_tokens (printed_equations names l))

    names_are : AreNames (printed names l)
    names_are = printed_names names l h few

    parts : (front : List Token) (o : ℕ) (t : Token) → At (net_text names l) front o t → (rest : List Token) × (text_of l.profile (printed_equations names l) ≡ front ++ t ∷ rest)
    parts front o t a = let s = split (net_text names l) front o t a in (s.0, sym grammar ∙ s.1)

    clash : (b : Bool) → b ≡ true → b ≡ false → ⊥
    clash true e g = cc
    clash false e g = cc

    by : (f : Refusal) → Stands (net_text names l) f → ⊥
    by TooLong s = let k = w.short in absurd (omega arith)
    by (BadByte o) s = let p = parts s.0 o bad s.1 in each_at IsGood s.0 bad p.0 (rw p.1 at (good_text l.profile (printed_equations names l)))
    by (Syntax o) (inl s) =
        let p = parts s.0 o s.1 s.2 in
        s.3 (record { profile = l.profile; equations = printed_equations names l; rest = p.0; parts = p.1 ∙ sym (append_assoc s.0 (s.1 ∷ []) p.0) })
    by (Syntax o) (inr s) = s.1 l.profile (printed_equations names l) grammar
    by (NameTooLong o) s =
        let p = parts s.0 o (name s.1) s.2 in
        let k = name_at (λ x. length x ≤ MAX_NAME) s.0 p.0 (text_of l.profile (printed_equations names l)) s.1 p.1 (subst (λ xs. AllByRecursion (λ x. length x ≤ MAX_NAME) xs) (sym named) (names_short names l h w)) in
        let long = s.3 in
        absurd (omega arith)
    by (Thrice o) s =
        let p = parts s.0 o (name s.1) s.2 in
        let more = name_once_more s.0 p.0 (text_of l.profile (printed_equations names l)) s.1 p.1 in
        let same = ap (occurs s.1) named in
        let twice = names_are.twice s.1 in
        let two = s.3 in
        absurd (omega arith)
    by (TooManyAgents o) s =
        let p = parts s.0 o (symbol s.1) s.2 in
        let more = symbol_behind s.0 p.0 (text_of l.profile (printed_equations names l)) s.1 p.1 in
        let same = ap length (heading_symbols l.profile (equation_tokens (printed_equations names l))) in
        let all = symbols_count names l in
        let most = w.few_agents in
        let many = s.3 in
        absurd (omega arith)
    by (TooNested o) s =
        let p = parts s.0 o (symbol s.1) s.2 in
        let low = shallow names l s.0 (symbol s.1 ∷ p.0) p.1 in
        let deep = s.3 in
        absurd (omega arith)
    by (ReservedFree o) s =
        let once : occurs s.1 (printed names l) ≡ 1 = ap (occurs s.1) (sym (ap names_of grammar ∙ named)) ∙ s.4 in
        clash (is_reserved s.1) s.3 (names_are.joints s.1 once)
    by TooManyFree s =
        let few' = few_free names l h (countable l few) in
        let most = w.few_free in
        let many = rw (ap names_of grammar ∙ named) at s in
        absurd (omega arith)
