-- What a text denotes is proper.
use Rattle.std.proofs.Common.{◌≡◌, ℕ, ◌≤◌, ◌<◌, List, length, None, sym, ap, subst, ◌∙◌, arith, inl, inr}
use Rattle.std.proofs.lemmas.Bool.{cases_lt}
use Rattle.std.specs.List.{position_or_len}
use Rattle.std.specs.Str.{bytes_eq}
use Rattle.ic_name.specs.declared.ports.Port.TheVariants as ports
use Rattle.ic_name.specs.declared.rules.Profile.{Profile}
use Rattle.ic_theory.specs.Links.{degree}
use Rattle.ic_theory.specs.Starts.{Start, IsProper, net_shape, start_links}
use Rattle.ic_text.specs.Grammar.{Equation, equation_tokens, names, distinct, text_links, start_of, AreNames, Denotes}
use Rattle.ic_text.proofs.Headings.{heading_names}
use Rattle.ic_text.proofs.LinkEnds.{degree_is, text_ports, told, text_names}
use Rattle.ic_text.proofs.Distinct.{times_in, occurs_is, listed_occurs, listed_once, occurs_listed, number_below, owner, none_told, one_told}

-- the names of equations in order of first occurrence
abbrev listed : List Equation → List (List ℕ)
listed es = distinct (names (equation_tokens es))

-- the number of a name
abbrev number : List Equation → List ℕ → ℕ
number es x = position_or_len (bytes_eq x) (listed es)

-- the ends at a name, as often as its number is told
told_of : (p : Profile) (es : List Equation) (j : ℕ) → degree net_shape (start_links (start_of p es)) (ports.Name j) ≡ told (number es) j (names (equation_tokens es))
told_of p es j = degree_is None 0 (text_links (number es) 0 es) (ports.Name j) ∙ text_names (number es) j 0 es

-- a name of the text, by its number
record Told (p : Profile) (es : List Equation) (j : ℕ) : Type 0 where
  text : List ℕ
  listed : 1 ≤ times_in text (distinct (names (equation_tokens es)))
  is : degree net_shape (start_links (start_of p es)) (ports.Name j) ≡ times_in text (names (equation_tokens es))

-- each number below the length is one of a name
told_by : (p : Profile) (es : List Equation) (j : ℕ) → j < length (listed es) → Told p es j
told_by p es j lt =
    let o = owner (listed es) (λ x. listed_once x (names (equation_tokens es))) j lt in
    record { text = o.text; listed = o.listed; is = told_of p es j ∙ one_told (number es) j o.text (names (equation_tokens es)) o.only }

-- no greater number has a link end
none_of : (p : Profile) (es : List Equation) (j : ℕ) → length (listed es) ≤ j → degree net_shape (start_links (start_of p es)) (ports.Name j) ≡ 0
none_of p es j le =
    told_of p es j ∙ none_told (number es) j (length (listed es)) (names (equation_tokens es)) (λ x h. number_below x (listed es) (occurs_listed x (names (equation_tokens es)) h)) le

-- no number has more than two
few_of : (p : Profile) (es : List Equation) → AreNames (names (equation_tokens es)) → (j : ℕ) → degree net_shape (start_links (start_of p es)) (ports.Name j) ≤ 2
few_of p es allowed j =
    elim (cases_lt j (length (listed es))) [
      | inl lt ↦ (let t = told_by p es j lt in omega (arith, t.is, occurs_is t.text (names (equation_tokens es)), allowed.twice t.text))
      | inr le ↦ omega (arith, none_of p es j le)
    ]

-- the start of equations whose names are allowed is proper
start_is_proper : (p : Profile) (es : List Equation) → AreNames (names (equation_tokens es)) → IsProper (start_of p es)
start_is_proper p es allowed = record {
  agent_ports = λ x i. degree_is None 0 (text_links (number es) 0 es) (ports.Of x i) ∙ text_ports (number es) x i 0 es;
  name_ends = λ j lt. (let t = told_by p es j lt in omega (arith, t.is, t.listed, listed_occurs t.text (names (equation_tokens es))));
  few_ends = few_of p es allowed;
  no_others = none_of p es;
}

-- the names of a text are those of its equations
pub allowed_names : (text : List ℕ) (s : Start) (d : Denotes text s) → AreNames (names (equation_tokens d.equations))
allowed_names text s d = subst (λ xs. AreNames xs) (ap names d.grammar ∙ heading_names d.profile (equation_tokens d.equations)) d.allowed

-- what a text denotes is proper
pub proper : (text : List ℕ) (s : Start) → Denotes text s → IsProper s
proper text s d = subst (λ (t : Start). IsProper t) (sym d.start) (start_is_proper d.profile d.equations (allowed_names text s d))
