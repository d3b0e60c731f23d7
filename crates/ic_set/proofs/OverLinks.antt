-- Paths that run over a link: without it, the paths from its two ends end at theirs.
use Rattle.std.proofs.Common.{◌≡◌, ◌≢◌, ◌≤◌, Bool, true, false, List, ◌⊎◌, inl, inr, refl, sym, ap, arith, subst, ◌∙◌}
use Rattle.ic_name.specs.declared.ids.Link.{Link}
use Rattle.ic_name.specs.declared.ids.LinkId.{LinkId}
use Rattle.ic_name.specs.declared.ids.Spot.{Spot}
use Rattle.ic_path.specs.FarEnds.{far}
use Rattle.ic_path.specs.Links.{Shape, Leads, forth, back, hits, degree, IsSlim}
use Rattle.ic_path.specs.Orders.{Pick, IsIn}
use Rattle.ic_path.specs.Trails.{Trail, Reaches}
use Rattle.ic_path.proofs.Degrees.{leads_from, leads_to, degree-pick, slim-pick, hits_left, hits_right}
use Rattle.ic_path.proofs.Ends.{degree-trail, reaches_far, reaches_one, reaches_back}
use Rattle.ic_path.proofs.InLists.{in-map, map_cases}
use Rattle.ic_path.proofs.LooseEnds.{leaves, ends_loose}
use Rattle.ic_path.proofs.Orders.{stops_at, far_bare}
use Rattle.ic_path.proofs.Rotated.{Takes, in-trail, taken_or_spared, exchanged}
use Rattle.ic_link.specs.Links.{shape, IsLawful, Joins}

-- the far ends of a link's two ends are these ports, either way round
abbrev pub EndAt : {P L : Type 0} → Shape P L → List L → L → P → P → Type 0
EndAt g rest l p q = ((far g rest (g.left l) ≡ p) × (far g rest (g.right l) ≡ q)) ⊎ ((far g rest (g.left l) ≡ q) × (far g rest (g.right l) ≡ p))

module _ {P L : Type 0} (g : Shape P L) where
  -- a trail to an end of degree at most one can't go on there, where that end is bare or another port than the first
  trail_reaches : {ls ss rest : List L} (a b : P) → IsSlim g ls → degree g ls b ≤ 1 → (b ≡ a → degree g ls b ≡ 0) → Trail g ls a ss b rest → Reaches g ls a b
  trail_reaches {ls} {ss} {rest} a b slim few bare t = record { links = ss; rest = rest; trail = t; stops = by (g.same b a) refl }
    where
      by : (x : Bool) → g.same b a ≡ x → degree g rest b ≡ 0
      by true e = let z = bare (g.same_true b a e) in let d = degree-trail g t b in omega arith
      by false e = stops_at g a b slim few (λ s. (let x = subst (λ c. g.same b c ≡ true) s (g.same_self b) in cc)) t

  module _ {l : L} {ls rest ss left : List L} (p q : P) (slim : IsSlim g ls) (one : degree g ls p ≡ 1) (k : Pick l ls rest) (t : Trail g ls p ss q left) (stops : degree g left q ≡ 0) where
    -- without the link, no port has more than two link ends
    thin : IsSlim g rest
    thin = slim-pick g k slim

    -- an end of the link has one other link end at most
    few_at : (v : P) → 1 ≤ hits g v l → degree g rest v ≤ 1
    few_at v h = let d = degree-pick g k v in let s = slim v in omega arith

    -- and none where it is an end of the trail
    bare_at : (v : P) → degree g ls v ≡ 1 → 1 ≤ hits g v l → degree g rest v ≡ 0
    bare_at v e h = let d = degree-pick g k v in omega arith

    -- the last port has one link end, as the first has
    last_one : degree g ls q ≡ 1
    last_one = ends_loose g p q slim one (record { links = ss; rest = left; trail = t; stops = stops })

    -- and is another port
    last_other : q ≢ p
    last_other = leaves g p q one (record { links = ss; rest = left; trail = t; stops = stops })

    -- a trail that takes the link comes to one end of it from the first port, and goes on from the other to the last
    takes_ends : Takes g l rest p ss q → EndAt g rest l p q
    takes_ends w = by w.leads
      where
        from_few : degree g rest w.from ≤ 1
        from_few = few_at w.from (leads_from g w.leads)

        to_few : degree g rest w.to ≤ 1
        to_few = few_at w.to (leads_to g w.leads)

        few_first : degree g rest p ≤ 1
        few_first = let d = degree-pick g k p in omega arith

        few_last : degree g rest q ≤ 1
        few_last = let d = degree-pick g k q in let e = last_one in omega arith

        comes : far g rest w.from ≡ p
        comes =
            let r = trail_reaches p w.from thin from_few (λ s. bare_at w.from (ap (λ v. degree g ls v) s ∙ one) (leads_from g w.leads)) w.first in
            reaches_one g thin from_few (reaches_far g rest w.from thin from_few) (reaches_back g few_first r)

        goes_on : far g rest w.to ≡ q
        goes_on =
            let u = exchanged g w.first w.second in
            let r = trail_reaches w.to q thin few_last (λ s. bare_at q last_one (subst (λ v. 1 ≤ hits g v l) (sym s) (leads_to g w.leads))) u.1 in
            reaches_one g thin to_few (reaches_far g rest w.to thin to_few) r

        by : Leads g l w.from w.to → EndAt g rest l p q
        by (forth e f) = inl (ap (far g rest) e ∙ comes, ap (far g rest) f ∙ goes_on)
        by (back e f) = inr (ap (far g rest) f ∙ goes_on, ap (far g rest) e ∙ comes)

    -- no trail along the other links leads from the first port to the last, where an end of the link leads to the first
    not_spared : {us rest' : List L} (a : P) → 1 ≤ hits g a l → far g rest a ≡ p → Trail g rest p us q rest' → degree g rest' q ≡ 0 → ⊥
    not_spared {us} {rest'} a h f u stop =
        let few = few_at a h in
        let few_first : degree g rest p ≤ 1 = let d = degree-pick g k p in omega arith in
        let r : Reaches g rest a p = subst (λ v. Reaches g rest a v) f (reaches_far g rest a thin few) in
        let same : q ≡ a = reaches_one g thin few_first (record { links = us; rest = rest'; trail = u; stops = stop }) (reaches_back g few r) in
        let bare : degree g rest a ≡ 0 = bare_at a (ap (λ v. degree g ls v) (sym same) ∙ last_one) h in
        last_other (same ∙ (sym (far_bare g rest thin a bare) ∙ f))

    -- so the trail takes the link where the far ends of its two ends are the first port and the last
    ends_taken : EndAt g rest l p q → IsIn l ss
    ends_taken e = elim (taken_or_spared g t k) [
      | inl w ↦ w.taken
      | inr w ↦ (
          let d = degree-trail g w.trail q in
          let d' = degree-trail g t q in
          let d'' = degree-pick g k q in
          let stop : degree g w.rest q ≡ 0 = omega arith in
          absurd (elim e [
            | inl x ↦ not_spared (g.left l) (hits_left g refl) x.0 w.trail stop
            | inr x ↦ not_spared (g.right l) (hits_right g refl) x.1 w.trail stop
          ]))
    ]

module _ (ls rest : List Link) (l : Link) (p q : Spot) (ids : List LinkId) (lawful : IsLawful ls) (k : Pick l ls rest) (one : degree shape ls p ≡ 1) (j : Joins ls p ids q) where
  -- a path runs over a link, by its id, only if without it the paths from its two ends end at the path's two ends
  pub over_ends : IsIn l.id ids → EndAt shape rest l p q
  over_ends i = elim (taken_or_spared shape j.trail k) [
    | inl w ↦ takes_ends shape p q lawful.slim one k j.trail j.stops w
    | inr w ↦ (
        let m = map_cases (λ (y : Link). y.id) j.links (subst (λ xs. IsIn l.id xs) (sym j.named) i) in
        absurd (lawful.own_ids l m.0 rest k (in-trail shape w.trail m.1) m.2))
  ]

  -- and if they do
  pub ends_over : EndAt shape rest l p q → IsIn l.id ids
  ends_over e = subst (λ xs. IsIn l.id xs) j.named (in-map (λ (y : Link). y.id) (ends_taken shape p q lawful.slim one k j.trail j.stops e))
