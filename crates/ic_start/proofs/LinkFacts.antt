-- The links of a start by their ends.
use Rattle.std.proofs.Common.{◌≡◌, ℕ, zero, suc, ◌+◌, List, [], ◌∷◌, ◌++◌, ◌∙◌, Option, Some, None, slice_get, get_or, length, ltb, ltb-true, ltb-false, true, false, refl, sym, ap, subst, arith}
use Rattle.std.proofs.lemmas.Option.{slice_get_read, slice_get_past}
use Rattle.ic_name.specs.declared.ids.AgentId.{AgentId}
use Rattle.ic_name.specs.declared.ids.Link.{Link}
use Rattle.ic_start.specs.declared.links.End.{End}
use Rattle.ic_start.specs.declared.links.End.TheVariants as the_ends
use Rattle.ic_start.specs.declared.links.Ends.{Ends}
use Rattle.ic_start.specs.Links.{spot_of, link_of, end_of, port_of, number_of, first_end, second_end, links_from, IsOfStart, AreNumbered}

-- the spot of an end is a spot of a start
of_start : (e : End) → IsOfStart (spot_of e)
of_start (the_ends.Agent port number) = refl
of_start (the_ends.Name number) = tt

-- the links are numbered
pub numbered : (k : ℕ) (es : List Ends) → AreNumbered k (links_from k es)
numbered k [] = tt
numbered k (e ∷ es) = (refl, of_start (first_end e), of_start (second_end e), numbered (k + 1) es)

-- there are as many links as there are pairs of ends
pub as_many : (k : ℕ) (es : List Ends) → length (links_from k es) ≡ length es
as_many k [] = refl
as_many k (e ∷ es) = ap suc (as_many (k + 1) es)

-- the link behind others
pub one_more : (k n : ℕ) (es : List Ends) (e : Ends) → n ≡ k + length es → links_from k (es ++ e ∷ []) ≡ links_from k es ++ link_of n (first_end e) (second_end e) ∷ []
one_more k n [] e h = let z : k ≡ n = omega (arith, h) in λ i. link_of (z i) (first_end e) (second_end e) ∷ []
one_more k n (x ∷ xs) e h = let r = one_more (k + 1) n xs e (omega (arith, h)) in λ i. link_of k (first_end x) (second_end x) ∷ r i

-- the link with a number, where there is one, and where there is none
link_at : (k n i : ℕ) (es : List Ends) (e : Ends) → n ≡ k + i → slice_get es i ≡ Some e → slice_get (links_from k es) i ≡ Some (link_of n (first_end e) (second_end e))
link_at k n i [] e h found = cc
link_at k n zero (x ∷ xs) e h found =
    let z : k ≡ n = omega (arith, h) in
    let same : x ≡ e = cc in
    λ t. Some (link_of (z t) (first_end (same t)) (second_end (same t)))
link_at k n (suc i) (x ∷ xs) e h found = link_at (k + 1) n i xs e (omega (arith, h)) found

none_at : (k i : ℕ) (es : List Ends) → slice_get es i ≡ None → slice_get (links_from k es) i ≡ None
none_at k i [] h = refl
none_at k zero (x ∷ xs) h = cc
none_at k (suc i) (x ∷ xs) h = none_at (k + 1) i xs h

-- the link with the ends that are read at a place, and none where there are none
pub link_read : (es read : List Ends) (i : ℕ) (e : Ends) → read ≡ es → true ≡ ltb i (length read) → e ≡ get_or read i e → slice_get (links_from 0 es) i ≡ Some (link_of i (first_end e) (second_end e))
link_read es read i e same in_range is =
    subst (λ (xs : List Ends). slice_get (links_from 0 xs) i ≡ Some (link_of i (first_end e) (second_end e))) same
    (link_at 0 i i read e (omega arith) (slice_get_read read _ i e refl (ltb-true _ _ (sym in_range)) is))

pub none_read : (es read : List Ends) (i : ℕ) → read ≡ es → false ≡ ltb i (length read) → slice_get (links_from 0 es) i ≡ None
none_read es read i same past =
    subst (λ (xs : List Ends). slice_get (links_from 0 xs) i ≡ None) same (none_at 0 i read (slice_get_past read i (ltb-false _ _ (sym past))))

-- ends with one spot are one
one_end : (a b : End) → spot_of a ≡ spot_of b → a ≡ b
one_end (the_ends.Agent p m) (the_ends.Agent q n) h =
    let port : p ≡ q = cc in
    let agent : ◌≡◌ {A = AgentId} (record { slot = m; serial = 0 }) (record { slot = n; serial = 0 }) = cc in
    λ t. the_ends.Agent (port t) (agent t).slot
one_end (the_ends.Agent p m) (the_ends.Name n) h = cc
one_end (the_ends.Name m) (the_ends.Agent q n) h = cc
one_end (the_ends.Name m) (the_ends.Name n) h = cc

-- an end is the one with its port and its number
pub end_back : (e : End) → end_of (port_of e) (number_of e) ≡ e
end_back (the_ends.Agent port number) = refl
end_back (the_ends.Name number) = refl

-- the port and the number of an end are those that it was made of
port_back : (p : Option ℕ) (n : ℕ) → port_of (end_of p n) ≡ p
port_back (Some port) n = refl
port_back None n = refl

number_back : (p : Option ℕ) (n : ℕ) → number_of (end_of p n) ≡ n
number_back (Some port) n = refl
number_back None n = refl

-- two ends that are kept and are the same are kept in the same form
same_port : (p q : Option ℕ) (m n : ℕ) → end_of p m ≡ end_of q n → p ≡ q
same_port p q m n h = sym (port_back p m) ∙ ap port_of h ∙ port_back q n

same_number : (p q : Option ℕ) (m n : ℕ) → end_of p m ≡ end_of q n → m ≡ n
same_number p q m n h = sym (number_back p m) ∙ ap number_of h ∙ number_back q n

-- ends that make the same links are the same
pub same_ends : (k : ℕ) (es fs : List Ends) → links_from k es ≡ links_from k fs → es ≡ fs
same_ends k [] [] h = refl
same_ends k [] (f ∷ fs) h = cc
same_ends k (e ∷ es) [] h = cc
same_ends k (e ∷ es) (f ∷ fs) h =
    let first : link_of k (first_end e) (second_end e) ≡ link_of k (first_end f) (second_end f) = cc in
    let rest : links_from (k + 1) es ≡ links_from (k + 1) fs = cc in
    let a = one_end (first_end e) (first_end f) (ap (λ (l : Link). l.a) first) in
    let b = one_end (second_end e) (second_end f) (ap (λ (l : Link). l.b) first) in
    let a_port = same_port e.a_port f.a_port e.a_number f.a_number a in
    let b_port = same_port e.b_port f.b_port e.b_number f.b_number b in
    let a_number = same_number e.a_port f.a_port e.a_number f.a_number a in
    let b_number = same_number e.b_port f.b_port e.b_number f.b_number b in
    let r = same_ends (k + 1) es fs rest in
    λ t. record { a_number = a_number t; b_number = b_number t; a_port = a_port t; b_port = b_port t } ∷ r t
