-- Tests for equal starts.
use Rattle.std.proofs.Common.{◌≡◌, ℕ, ◌+◌, Bool, true, List, [], ◌∷◌, map, refl, sym, ◌∙◌, ap, length}
use Rattle.std.specs.Bool.{Decides}
use Rattle.ic_name.specs.declared.kinds.Kind.{Kind}
use Rattle.ic_name.specs.declared.rules.Profile.{Profile}
use Rattle.ic_name.specs.declared.ids.Link.{Link}
use Rattle.ic_theory.specs.Starts.{Start}
use Rattle.ic_start.specs.Starts.{IsStart, AreStartLinks, join_of, start_of}
use Rattle.ic_start.proofs.StartSpots.{one_port}

-- links of a start that stand for the same ports are one
same_links : (a n k : ℕ) (ls ms : List Link) → AreStartLinks a n k ls → AreStartLinks a n k ms → map join_of ls ≡ map join_of ms → ls ≡ ms
same_links a n k [] [] h g e = refl
same_links a n k [] (m ∷ ms) h g e = cc
same_links a n k (l ∷ ls) [] h g e = cc
same_links a n k (l ∷ ls) (m ∷ ms) h g e =
    let first : join_of l ≡ join_of m = cc in
    let rest : map join_of ls ≡ map join_of ms = cc in
    let id : l.id ≡ m.id = h.0 ∙ sym g.0 in
    let x = one_port a n l.a m.a h.1 g.1 (ap (λ p. p.0) first) in
    let y = one_port a n l.b m.b h.2 g.2 (ap (λ p. p.1) first) in
    let r = same_links a n (k + 1) ls ms h.3 g.3 rest in
    λ t. record { id = id t; a = x t; b = y t } ∷ r t

-- two starts are one where their kinds, their links, their texts of names and their profiles are
pub same_start : (ks ks' : List Kind) (ls ls' : List Link) (ns ns' : List (List ℕ)) (p p' : Profile) (v : Bool) → IsStart ks ls ns p → IsStart ks' ls' ns' p'
    → Decides v ((((ks ≡ ks') × (ls ≡ ls')) × (ns ≡ ns')) × (p ≡ p')) → Decides v (start_of ks ls ns p ≡ start_of ks' ls' ns' p')
same_start ks ks' ls ls' ns ns' p p' v h g d = (whole, λ e. d.1 (parts e))
  where
    whole : v ≡ true → start_of ks ls ns p ≡ start_of ks' ls' ns' p'
    whole t =
        let all = d.0 t in
        let joins : map join_of ls ≡ map join_of ls' = ap (map join_of) all.0.0.1 in
        λ i. record { kinds = all.0.0.0 i; joins = joins i; names = all.0.1 i; profile = all.1 i }

    parts : start_of ks ls ns p ≡ start_of ks' ls' ns' p' → (((ks ≡ ks') × (ls ≡ ls')) × (ns ≡ ns')) × (p ≡ p')
    parts e =
        let kinds : ks ≡ ks' = ap (λ (s : Start). s.kinds) e in
        let names : ns ≡ ns' = ap (λ (s : Start). s.names) e in
        let placed : AreStartLinks (length ks) (length ns) 0 ls' = rw (kinds, names) g.placed in
        let links = same_links (length ks) (length ns) 0 ls ls' h.placed placed (ap (λ (s : Start). s.joins) e) in
        (((kinds, links), names), ap (λ (s : Start). s.profile) e)
