-- The net of a set doesn't depend on the order of the list.
use Rattle.std.proofs.Common.{◌≡◌, ℕ, suc, zero, ◌+◌, ◌≤◌, Bool, true, false, List, refl, sym, ap, arith, ◌∙◌, Option, Some, None}
use Rattle.std.specs.Prelude.{if◌then◌else◌, eqb}
use Rattle.std.proofs.lemmas.Bool.{eqb-true}
use Rattle.ic_name.specs.Names.{Name}
use Rattle.ic_name.specs.declared.kinds.Kind.{Kind}
use Rattle.ic_name.specs.declared.ports.Port.{Port}
use Rattle.ic_name.specs.declared.ports.Port.TheVariants.{Of}
use Rattle.ic_name.specs.declared.ports.Port.TheVariants as port
use Rattle.ic_name.specs.Events.{Event}
use Rattle.ic_name.specs.Same.{same_name}
use Rattle.ic_path.specs.Orders.{Pick, here, there, Alike, none, more}
use Rattle.ic_path.specs.Links.{degree, IsSlim}
use Rattle.ic_path.specs.FarEnds.{far}
use Rattle.ic_path.proofs.Orders.{degree-alike, far-alike, rings-alike}
use Rattle.ic_theory.specs.Born.{born_agents, born_links}
use Rattle.ic_theory.specs.Starts.{Start, start_agents, start_links, net_shape, IsProper}
use Rattle.ic_theory.specs.Sets.{agents, links, named_times, consumed_times}
use Rattle.ic_theory.specs.Sound.{IsSound}
use Rattle.ic_theory.specs.Nets.{kind_among, kind_of, is_loose, is_free, has_port, net_of, IsSameNet}
use Rattle.ic_theory.proofs.Counts.{names_once, slim, port_degree}
use Rattle.ic_theory.proofs.Future.{in_alike, made_alike}
use Rattle.ic_theory.proofs.Sound.{agent_in}
use Rattle.ic_theory.proofs.Ranks.{consumed-alike}
use Rattle.ic_theory.proofs.NameKinds.{none_among, some_among, kind_parts}

-- a name is as many agents' in any order
named-pick : (n : Name) {x : Name × Kind} {xs rest : List (Name × Kind)} → Pick x xs rest → named_times n xs ≡ (if same_name n x.0 then 1 else 0) + named_times n rest
named-pick n here = refl
named-pick n (there k) = let ih = named-pick n k in omega arith

-- and in any order of a list
pub named-alike : (n : Name) {xs ys : List (Name × Kind)} → Alike xs ys → named_times n xs ≡ named_times n ys
named-alike n none = refl
named-alike n (more k a) = let e = named-pick n k in let ih = named-alike n a in omega arith

-- and where it is one agent's at most it has the same kind
pub among-alike : (n : Name) {xs ys : List (Name × Kind)} → Alike xs ys → named_times n xs ≤ 1 → kind_among n xs ≡ kind_among n ys
among-alike n {xs} {ys} a h = go (named_times n xs) refl
  where
    same : named_times n xs ≡ named_times n ys
    same = named-alike n a

    go : (m : ℕ) → named_times n xs ≡ m → kind_among n xs ≡ kind_among n ys
    go zero e = none_among n xs e ∙ sym (none_among n ys (sym same ∙ e))
    go (suc m) e =
        let w = agent_in n xs (omega arith) in
        let i = in_alike w.1 a in
        let s = same in
        some_among n w.2 h w.1.1 ∙ sym (some_among n w.2 (omega arith) i.1)

module _ (s : Start) (ok : IsProper s) {es fs : List Event} (sound : IsSound s es) (a : Alike es fs) where
  -- the links are the same in any order
  links-alike : Alike (links s es) (links s fs)
  links-alike = made_alike (born_links s.profile) (start_links s) a

  -- no port has more than two link ends
  slim_set : IsSlim net_shape (links s es)
  slim_set = slim s ok es sound.apart

  -- each agent has the same kind
  kinds-alike : (n : Name) → kind_of s es n ≡ kind_of s fs n
  kinds-alike n =
      ap (λ c. if eqb c 0 then kind_among n (agents s es) else None) (consumed-alike n a)
      ∙ ap (λ k. if eqb (consumed_times n fs) 0 then k else None) (among-alike n (made_alike born_agents (start_agents s) a) (names_once s es sound.apart n))

  -- a loose port has one link end at most
  one_end : (p : Port) → is_loose (kind_of s es) (is_free s es) p ≡ true → degree net_shape (links s es) p ≤ 1
  one_end (port.Name j) h = let d = eqb-true (degree net_shape (links s es) (port.Name j)) 1 h in omega arith
  one_end (Of n i) h = go (kind_of s es n) refl h
    where
      most : (b : Bool) (d c m : ℕ) → d ≤ m + (if b then 0 else c) → c ≡ 0 → m ≤ 1 → d ≤ 1
      most true d c m x y z = omega arith
      most false d c m x y z = omega arith

      go : (k : Option Kind) → kind_of s es n ≡ k → has_port k i ≡ true → degree net_shape (links s es) (Of n i) ≤ 1
      go None e t = cc
      go (Some k) e t = most (eqb i 0) _ _ _ (port_degree s ok es n i) (kind_parts s es n k e).1 (names_once s es sound.apart n)

  -- the same ports are loose
  loose-alike : (p : Port) → is_loose (kind_of s es) (is_free s es) p ≡ is_loose (kind_of s fs) (is_free s fs) p
  loose-alike (Of n i) = ap (λ k. has_port k i) (kinds-alike n)
  loose-alike (port.Name j) = ap (λ d. eqb d 1) (degree-alike net_shape links-alike (port.Name j))

  -- and they have the same partners
  partners-alike : (p : Port) → (net_of s es).partner p ≡ (net_of s fs).partner p
  partners-alike p = go (is_loose (kind_of s es) (is_free s es) p) refl ∙ ap (λ b. if b then Some (far net_shape (links s fs) p) else None) (loose-alike p)
    where
      go : (b : Bool) → is_loose (kind_of s es) (is_free s es) p ≡ b → (if b then Some (far net_shape (links s es) p) else None) ≡ (if b then Some (far net_shape (links s fs) p) else None)
      go false h = refl
      go true h = ap Some (far-alike net_shape links-alike slim_set p (one_end p h))

  -- the net of a sound set is the same in any order
  pub net-alike : IsSameNet (net_of s es) (net_of s fs)
  net-alike = record { kinds = kinds-alike; partners = partners-alike; rings = rings-alike net_shape links-alike slim_set; profile = refl }
