-- The kinds of agents beside events whose children no event can name.
use Rattle.std.proofs.Common.{◌≡◌, ◌≢◌, ℕ, ◌+◌, ◌≤◌, List, [], ◌∷◌, ◌++◌, inl, inr, Option, Some, None, refl, ap, arith, ◌∙◌}
use Rattle.std.proofs.lemmas.Bool.{ne_eqb}
use Rattle.ic_name.specs.Names.{Name, depth, child_name}
use Rattle.ic_name.specs.Events.{Event}
use Rattle.ic_name.specs.declared.kinds.Kind.{Kind}
use Rattle.ic_name.specs.declared.limits.TheConstants.{MAX_DEPTH}
use Rattle.ic_path.specs.Orders.{IsIn}
use Rattle.ic_path.proofs.Picks.{in_first, in_more, in-cons_cases, none_in}
use Rattle.ic_theory.specs.Born.{named, born_agents}
use Rattle.ic_theory.specs.Machine.{IsDeep}
use Rattle.ic_theory.specs.Nets.{kind_among, kind_of}
use Rattle.ic_theory.specs.Rules.{born_kinds}
use Rattle.ic_theory.specs.Sets.{agents, consumed_times}
use Rattle.ic_theory.specs.Starts.{Start}
use Rattle.ic_theory.proofs.NameKinds.{among-append, kind_in}
use Rattle.ic_theory.proofs.Sound.{consumed-append}
use Rattle.ic_trace.proofs.DeepLinks.{depth-child}

-- a child has a child's name
child_named : (m : Name) (k : ℕ) (kinds : List Kind) (x : Name × Kind) → IsIn x (named (child_name m) k kinds) → (i : ℕ) × (x.0 ≡ child_name m i)
child_named m k [] x i = absurd (none_in i)
child_named m k (kind ∷ kinds) x i = elim (in-cons_cases i) [ inl e ↦ (k, ap (λ (y : Name × Kind). y.0) e) | inr j ↦ child_named m (k + 1) kinds x j ]

-- a deep event has no child whose name has few digits
no_child : (d : Event) → IsDeep d → (n : Name) → depth n ≤ MAX_DEPTH → kind_among n (born_agents d) ≡ None
no_child d deep n short = by (kind_among n (born_agents d)) refl
  where
    by : (k : Option Kind) → kind_among n (born_agents d) ≡ k → kind_among n (born_agents d) ≡ None
    by None h = h
    by (Some kind) h =
        let c = child_named d.lead 0 (born_kinds d.lead_kind d.other_kind) (n, kind) (kind_in n (born_agents d) h) in
        let digits = ap depth c.1 in
        let child = depth-child d.lead c.0 in
        let long = deep.0 in
        absurd (omega (arith, short, digits, child, long))

-- such an agent is there with deep events where it is there without
among_deep : (s : Start) (ds es : List Event) → ((d : Event) → IsIn d ds → IsDeep d) → (n : Name) → depth n ≤ MAX_DEPTH → kind_among n (agents s (ds ++ es)) ≡ kind_among n (agents s es)
among_deep s [] es deep n short = refl
among_deep s (d ∷ ds) es deep n short =
    among-append n (born_agents d) (agents s (ds ++ es)) ∙ rw (no_child d (deep d (in_first d ds)) n short) (among_deep s ds es (λ x i. deep x (in_more d i)) n short)

module _ (s : Start) (ds es : List Event) (deep : (d : Event) → IsIn d ds → IsDeep d) (n : Name) where
  -- the kind of an agent that they didn't consume is that without them
  pub kind_beside : depth n ≤ MAX_DEPTH → consumed_times n ds ≡ 0 → kind_of s es n ≡ kind_of s (ds ++ es) n
  kind_beside short z =
      let sum : consumed_times n (ds ++ es) ≡ consumed_times n es = omega (arith, consumed-append n ds es, z) in
      rw (sum, among_deep s ds es deep n short) refl

  -- one that they consumed has none
  pub kind_taken : consumed_times n ds ≢ 0 → None ≡ kind_of s (ds ++ es) n
  kind_taken some =
      let parts = consumed-append n ds es in
      let all : consumed_times n (ds ++ es) ≢ 0 = λ z. some (omega (arith, parts, z)) in
      rw (ne_eqb (consumed_times n (ds ++ es)) 0 all) refl
