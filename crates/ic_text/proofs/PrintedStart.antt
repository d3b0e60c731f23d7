-- The start of a printed text: its names by number, its links and its agents.
use Rattle.std.proofs.Common.{◌≡◌, ℕ, ◌≤◌, ◌<◌, true, false, List, length, map, refl, sym, ap, ◌∙◌, None}
use Rattle.std.specs.List.{position_or_len}
use Rattle.std.specs.Str.{bytes_eq}
use Rattle.std.proofs.lemmas.Bool.{eq-eqb}
use Rattle.std.proofs.lemmas.Slice.Eq.{bytes_eq-Decides}
use Rattle.ic_name.specs.declared.ports.Port.TheVariants as port
use Rattle.ic_theory.specs.Links.{degree}
use Rattle.ic_theory.specs.Listed.{ListedNet}
use Rattle.ic_theory.specs.Starts.{Start, IsProper, net_shape, start_links}
use Rattle.ic_text.specs.Texts.{is_reserved}
use Rattle.ic_text.specs.Grammar.{equation_tokens, names as names_of, distinct, text_links, start_of, occurs, AreNames}
use Rattle.ic_text.proofs.LinkEnds.{degree_is, text_names}
use Rattle.ic_text.proofs.Distinct.{times_in, occurs_is, listed_once, owner, one_told}
use Rattle.ic_text.specs.Printed.{printed_equations}
use Rattle.ic_text.proofs.PrintedJoins.{printed_joins, printed_links, printed_symbols}

-- the number of a name of a start
abbrev pub number_in : Start → List ℕ → ℕ
number_in s x = position_or_len (bytes_eq x) s.names

-- what the start of a net's text is
pub record IsPrintedStart (names : List (List ℕ)) (l : ListedNet) (s : Start) : Type 0 where
  pub joins : s.joins ≡ printed_joins (number_in s) names l
  pub kinds : s.kinds ≡ map (λ a. a.kind) l.agents
  pub profile : s.profile ≡ l.profile
  pub proper : IsProper s
  pub once : (x : List ℕ) → times_in x s.names ≤ 1
  pub unreserved : (x : List ℕ) → number_in s x < length s.names → degree net_shape (start_links s) (port.Name (number_in s x)) ≡ 1 → is_reserved x ≡ false

-- names with one number below the length are one
pub same_number : (ys : List (List ℕ)) → ((x : List ℕ) → times_in x ys ≤ 1) → (x y : List ℕ) → position_or_len (bytes_eq x) ys < length ys → position_or_len (bytes_eq x) ys ≡ position_or_len (bytes_eq y) ys → x ≡ y
same_number ys once x y lt e =
    let o = owner ys once (position_or_len (bytes_eq x) ys) lt in
    let a : bytes_eq o.text x ≡ true = sym (o.only x) ∙ eq-eqb _ _ refl in
    let b : bytes_eq o.text y ≡ true = sym (o.only y) ∙ eq-eqb _ _ e in
    sym ((bytes_eq-Decides o.text x).0 a) ∙ (bytes_eq-Decides o.text y).0 b

-- a name of a text has as many link ends as it occurs
name_ends : (names : List (List ℕ)) (l : ListedNet) (x : List ℕ) → number_in (start_of l.profile (printed_equations names l)) x < length (start_of l.profile (printed_equations names l)).names
    → degree net_shape (start_links (start_of l.profile (printed_equations names l))) (port.Name (number_in (start_of l.profile (printed_equations names l)) x)) ≡ occurs x (names_of (equation_tokens (printed_equations names l)))
name_ends names l x lt =
    let es = printed_equations names l in
    let xs : List (List ℕ) = names_of (equation_tokens es) in
    let N : List ℕ → ℕ = λ y. position_or_len (bytes_eq y) (distinct xs) in
    let o = owner (distinct xs) (λ y. listed_once y xs) (N x) lt in
    let is : o.text ≡ x = (bytes_eq-Decides o.text x).0 (sym (o.only x) ∙ eq-eqb _ _ refl) in
    degree_is None 0 (text_links N 0 es) (port.Name (N x)) ∙ text_names N (N x) 0 es ∙ one_told N (N x) o.text xs o.only ∙ ap (λ y. times_in y xs) is ∙ occurs_is x xs

-- the start of a net's text is that
pub printed_start : (names : List (List ℕ)) (l : ListedNet) → IsProper (start_of l.profile (printed_equations names l)) → AreNames (names_of (equation_tokens (printed_equations names l)))
    → IsPrintedStart names l (start_of l.profile (printed_equations names l))
printed_start names l proper allowed = record {
  joins = printed_links (number_in (start_of l.profile (printed_equations names l))) names l;
  kinds = printed_symbols names l;
  profile = refl;
  proper = proper;
  once = λ x. listed_once x (names_of (equation_tokens (printed_equations names l)));
  unreserved = λ x lt h. allowed.joints x (sym (name_ends names l x lt) ∙ h);
}
