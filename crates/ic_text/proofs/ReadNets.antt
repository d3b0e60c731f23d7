-- A net that firings leave over the start of a text can be printed.
use Rattle.std.proofs.Common.{◌≡◌, ℕ, zero, suc, ◌<◌, ◌≤◌, Bool, true, false, List, [], ◌∷◌, length, Some, None, IsSome, refl, sym, ap, ◌∙◌, subst, arith, eqb, inl, inr, slice_index_or}
use Rattle.std.specs.Prelude.{◌⊎◌, if◌then◌else◌}
use Rattle.std.proofs.lemmas.List.Elements.{All-from_recursion}
use Rattle.std.proofs.lemmas.Bool.{cases_lt, eqb-true, eq-eqb}
use Rattle.std.specs.List.{position_or_len}
use Rattle.std.specs.Str.{bytes_eq}
use Rattle.std.proofs.lemmas.Slice.Eq.{bytes_eq-Decides}
use Rattle.ic_name.specs.declared.ports.Port.TheVariants as port
use Rattle.ic_name.specs.declared.rules.Profile.{Profile}
use Rattle.ic_name.specs.Events.{Event}
use Rattle.ic_theory.specs.Links.{degree}
use Rattle.ic_theory.specs.FarEnds.{far}
use Rattle.ic_theory.specs.Starts.{Start, IsProper, net_shape, start_links}
use Rattle.ic_theory.specs.Sets.{links}
use Rattle.ic_theory.specs.Firings.{IsFired}
use Rattle.ic_theory.specs.Nets.{net_of, IsSameNet}
use Rattle.ic_theory.specs.Listed.{ListedNet, IsListing, free_among, shown}
use Rattle.ic_theory.proofs.Counts.{free_degree}
use Rattle.ic_theory.proofs.Loose.{partners_back}
use Rattle.ic_text.specs.Texts.{is_name_byte, is_reserved}
use Rattle.ic_text.specs.Grammar.{Equation, Denotes, AreNames, start_of, equation_tokens, text_of, text_links, names, distinct, tokens}
use Rattle.ic_text.proofs.Headings.{heading_names}
use Rattle.ic_text.proofs.LinkEnds.{degree_is, text_names}
use Rattle.ic_text.proofs.Distinct.{times_in, occurs_is, listed_once, owner, one_told}
use Rattle.ic_text.proofs.Proper.{proper}
use Rattle.ic_text.specs.NetText.{name_text}
use Rattle.ic_text.specs.Printable.{IsPrintable, IsWired, IsFreeName}
use Rattle.ic_text.proofs.Spelled.{IsNameText}
use Rattle.ic_text.proofs.NameTokens.{text_names_are, occurring_is}

-- a name that occurs in the list stands in it
stands_in : (ys : List (List ℕ)) (j : ℕ) → j < length ys → 1 ≤ times_in (slice_index_or ys j []) ys
stands_in [] j lt = absurd (omega (arith, lt))
stands_in (y ∷ ys) zero lt = rw ((bytes_eq-Decides y y).1 refl) (omega arith)
stands_in (y ∷ ys) (suc j) lt = let h = stands_in ys j (omega (arith, lt)) in omega (arith, h)

-- in a list that has each once, it has its own place
own_place : (ys : List (List ℕ)) → ((x : List ℕ) → times_in x ys ≤ 1) → (j : ℕ) → j < length ys → position_or_len (bytes_eq (slice_index_or ys j [])) ys ≡ j
own_place [] once j lt = absurd (omega (arith, lt))
own_place (y ∷ ys) once zero lt = rw ((bytes_eq-Decides y y).1 refl) refl
own_place (y ∷ ys) once (suc j) lt = go (bytes_eq (slice_index_or ys j []) y) refl (own_place ys (λ x. (let h = once x in omega (arith, h))) j (omega (arith, lt)))
  where
    x : List ℕ
    x = slice_index_or ys j []

    go : (b : Bool) → bytes_eq x y ≡ b → position_or_len (bytes_eq x) ys ≡ j → position_or_len (bytes_eq x) (y ∷ ys) ≡ suc j
    go true e h = absurd (let k = rw e at (once x) in let s = stands_in ys j (omega (arith, lt)) in omega (arith, k, s))
    go false e h = rw e (omega (arith, h))

-- the name of a number has as many link ends as it occurs
ends_of_name : (p : Profile) (es : List Equation) (j : ℕ) → j < length (distinct (names (equation_tokens es)))
    → degree net_shape (start_links (start_of p es)) (port.Name j) ≡ times_in (slice_index_or (distinct (names (equation_tokens es))) j []) (names (equation_tokens es))
ends_of_name p es j lt =
    let xs : List (List ℕ) = names (equation_tokens es) in
    let ys : List (List ℕ) = distinct xs in
    let N : List ℕ → ℕ = λ y. position_or_len (bytes_eq y) ys in
    let o = owner ys (λ y. listed_once y xs) j lt in
    let here = own_place ys (λ y. listed_once y xs) j lt in
    let is : o.text ≡ slice_index_or ys j [] = (bytes_eq-Decides o.text (slice_index_or ys j [])).0 (sym (o.only (slice_index_or ys j [])) ∙ eq-eqb j _ (sym here)) in
    degree_is None 0 (text_links N 0 es) (port.Name j) ∙ text_names N j 0 es ∙ one_told N j o.text xs o.only ∙ ap (λ y. times_in y xs) is

-- a name of a text that isn't reserved may stand free
may_stand : (x : List ℕ) → IsNameText x → is_reserved x ≡ false → IsFreeName x
may_stand [] h r = h
may_stand (b ∷ bs) h r = (h.0, r, All-from_recursion (λ c. is_name_byte c ≡ true) bs h.1)

-- what is known of a free name
record IsFree (text : List ℕ) (s : Start) (j : ℕ) : Type 0 where
  within : j < length s.names
  free : IsFreeName (name_text s.names j)

-- a name that is a loose port has one link end
loose_once : (s : Start) (es : List Event) (l : ListedNet) (j : ℕ) → IsProper s → IsSameNet (shown l) (net_of s es) → IsSome (free_among j l.frees) → degree net_shape (start_links s) (port.Name j) ≡ 1
loose_once s es l j ok same some =
    go (eqb (degree net_shape (links s es) (port.Name j)) 1) refl (subst IsSome (same.partners (port.Name j)) some)
  where
    go : (b : Bool) → eqb (degree net_shape (links s es) (port.Name j)) 1 ≡ b → IsSome (if b then Some (far net_shape (links s es) (port.Name j)) else None) → degree net_shape (start_links s) (port.Name j) ≡ 1
    go true e h = sym (free_degree s ok es j) ∙ eqb-true _ 1 e
    go false e h = cc

-- so it has a text that may stand free
free_names : (text : List ℕ) (p : Profile) (es : List Equation) (j : ℕ) → tokens text ≡ text_of p es → AreNames (names (tokens text)) → IsProper (start_of p es) → degree net_shape (start_links (start_of p es)) (port.Name j) ≡ 1
    → IsFree text (start_of p es) j
free_names text p es j grammar allowed ok once = go (cases_lt j (length (distinct (names (equation_tokens es)))))
  where
    x : List ℕ
    x = slice_index_or (distinct (names (equation_tokens es))) j []

    go : (j < length (distinct (names (equation_tokens es)))) ⊎ (length (distinct (names (equation_tokens es))) ≤ j) → IsFree text (start_of p es) j
    go (inr le) = absurd (let none = ok.no_others j le in omega (arith, once, none))
    go (inl lt) =
        let one : times_in x (names (equation_tokens es)) ≡ 1 = sym (ends_of_name p es j lt) ∙ once in
        let here : times_in x (names (tokens text)) ≡ 1 = ap (λ ts. times_in x (names ts)) grammar ∙ ap (times_in x) (heading_names p (equation_tokens es)) ∙ one in
        let token = occurring_is IsNameText x (names (tokens text)) (text_names_are text) (omega (arith, here)) in
        record { within = lt; free = may_stand x token (allowed.joints x (sym (occurs_is x (names (tokens text))) ∙ here)) }

-- such a net can be printed
pub read_net_printable : (text : List ℕ) (s : Start) (es : List Event) (l : ListedNet) → Denotes text s → IsFired s es → IsListing l → IsSameNet (shown l) (net_of s es)
    → IsPrintable s.names l
read_net_printable text s es l d f listing same = record {
  listing = listing;
  wired = wired;
  free = λ j h. (known j h).free;
  apart = apart;
}
  where
    ok : IsProper s
    ok = proper text s d

    known : (j : ℕ) → IsSome (free_among j l.frees) → IsFree text s j
    known j h =
        let once = loose_once s es l j ok same h in
        subst (λ t. IsFree text t j) (sym d.start) (free_names text d.profile d.equations j d.grammar d.allowed (subst IsProper d.start ok) (subst (λ t. degree net_shape (start_links t) (port.Name j) ≡ 1) d.start once))

    wired : IsWired (shown l)
    wired p q h =
        let back = partners_back s ok es f p q (sym (same.partners p) ∙ h) in
        (back.0, same.partners q ∙ back.1)

    places : (j : ℕ) → j < length s.names → position_or_len (bytes_eq (name_text s.names j)) s.names ≡ j
    places j lt =
        let names_is : s.names ≡ distinct (names (equation_tokens d.equations)) = ap (λ (t : Start). t.names) d.start in
        own_place s.names (λ x. subst (λ ys. times_in x ys ≤ 1) (sym names_is) (listed_once x (names (equation_tokens d.equations)))) j lt

    apart : (i j : ℕ) → IsSome (free_among i l.frees) → IsSome (free_among j l.frees) → name_text s.names i ≡ name_text s.names j → i ≡ j
    apart i j h k e = sym (places i (known i h).within) ∙ ap (λ x. position_or_len (bytes_eq x) s.names) e ∙ places j (known j k).within
