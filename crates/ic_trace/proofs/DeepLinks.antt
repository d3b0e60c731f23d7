-- Each link of an event with children ends at a child; where no event can name it, nothing depends on the event.
use Rattle.std.proofs.Common.{◌≡◌, ◌≢◌, ℕ, zero, suc, ◌+◌, ◌≤◌, Bool, true, false, List, [], ◌∷◌, map, ◌⊎◌, inl, inr, Option, Some, refl, sym, ap, arith, ◌∙◌, subst, length-append}
use Rattle.std.specs.Prelude.{if◌then◌else◌, eqb}
use Rattle.ic_name.specs.Names.{Name, depth, child_name}
use Rattle.ic_name.specs.Events.{Event}
use Rattle.ic_name.specs.declared.kinds.Kind.{Kind}
use Rattle.ic_name.specs.declared.kinds.Kind.TheVariants.{Gamma, Delta, Eps}
use Rattle.ic_name.specs.declared.limits.TheConstants.{MAX_DEPTH}
use Rattle.ic_name.specs.declared.ports.Port.{Port}
use Rattle.ic_name.specs.declared.ports.Port.TheVariants.{Of}
use Rattle.ic_name.specs.declared.rules.Profile.{Profile}
use Rattle.ic_name.specs.declared.rules.RuleEnd.{RuleEnd}
use Rattle.ic_name.specs.declared.rules.RuleEnd.TheVariants.{Child}
use Rattle.ic_path.specs.Links.{degree, hits}
use Rattle.ic_path.specs.Orders.{IsIn}
use Rattle.ic_path.specs.Trails.{Trail}
use Rattle.ic_path.proofs.Degrees.{hits_left, degree-pick}
use Rattle.ic_path.proofs.Ends.{hit, even-trail, degree-trail}
use Rattle.ic_path.proofs.Picks.{in-cons_cases, none_in}
use Rattle.ic_theory.specs.Born.{Link, port_of, placed, born_links}
use Rattle.ic_theory.specs.Causes.{IsCause}
use Rattle.ic_theory.specs.Machine.{IsDeep}
use Rattle.ic_theory.specs.Rules.{born_kinds, born_ends}
use Rattle.ic_theory.specs.Sets.{agents, links, named_times, consumed_times}
use Rattle.ic_theory.specs.Sound.{IsSound}
use Rattle.ic_theory.specs.Starts.{Start, IsProper, net_shape}
use Rattle.ic_theory.proofs.Counts.{port_degree, names_once}
use Rattle.ic_theory.proofs.Future.{test_off, Consumer, consumer}
use Rattle.ic_theory.proofs.Sound.{trail_link}
use Rattle.ic_trace.specs.DeepEvents.{AreShallow}
use Rattle.ic_theory.proofs.LinkOrder.{made_by_maker}
use Rattle.ic_name.proofs.SameFacts.{port_name}

-- the first end is a child's
abbrev HasChild : RuleEnd × RuleEnd → Type 0
HasChild x = (i : ℕ) × (j : ℕ) × (x.0 ≡ Child i j)

-- and so for each link
abbrev HaveChildren : List (RuleEnd × RuleEnd) → Type 0
HaveChildren [] = Unit {0}
HaveChildren (x ∷ xs) = HasChild x × HaveChildren xs

-- the first end of each link of a rule that makes children is a child's
rule_children : (v : Profile) (a b : Kind) → born_kinds a b ≢ [] → HaveChildren (born_ends v a b)
rule_children v Gamma Delta n = ((0, 0, refl), ((1, 0, refl), ((2, 0, refl), ((3, 0, refl), ((0, 1, refl), ((0, 2, refl), ((1, 1, refl), ((1, 2, refl), tt))))))))
rule_children v Delta Gamma n = ((0, 0, refl), ((1, 0, refl), ((2, 0, refl), ((3, 0, refl), ((0, 1, refl), ((0, 2, refl), ((1, 1, refl), ((1, 2, refl), tt))))))))
rule_children v Gamma Eps n = ((0, 0, refl), ((1, 0, refl), tt))
rule_children v Delta Eps n = ((0, 0, refl), ((1, 0, refl), tt))
rule_children v Eps Gamma n = ((0, 0, refl), ((1, 0, refl), tt))
rule_children v Eps Delta n = ((0, 0, refl), ((1, 0, refl), tt))
rule_children v Gamma Gamma n = absurd (n refl)
rule_children v Delta Delta n = absurd (n refl)
rule_children v Eps Eps n = absurd (n refl)

-- a port of a child of the event
abbrev IsChildPort : Event → Port → Type 0
IsChildPort e p = (i : ℕ) × (j : ℕ) × (p ≡ Of (child_name e.lead i) j)

-- such links begin at children's ports
placed_first : (e : Event) (m : Option Event) (k : ℕ) (xs : List (RuleEnd × RuleEnd)) → HaveChildren xs → (l : Link)
    → IsIn l (placed m k (map (λ (x : RuleEnd × RuleEnd). (port_of e x.0, port_of e x.1)) xs)) → IsChildPort e l.a
placed_first e m k [] h l i = absurd (none_in i)
placed_first e m k (x ∷ xs) h l i = by (in-cons_cases i) (λ j. placed_first e m (k + 1) xs h.1 l j)
  where
    first : Link
    first = record { maker = m; place = k; a = port_of e x.0; b = port_of e x.1 }

    by : (l ≡ first) ⊎ IsIn l (placed m (k + 1) (map (λ (x : RuleEnd × RuleEnd). (port_of e x.0, port_of e x.1)) xs))
        → (IsIn l (placed m (k + 1) (map (λ (x : RuleEnd × RuleEnd). (port_of e x.0, port_of e x.1)) xs)) → IsChildPort e l.a) → IsChildPort e l.a
    by (inl q) f = (h.0.0, h.0.1, ap (λ (y : Link). y.a) q ∙ ap (port_of e) h.0.2)
    by (inr j) f = f j

-- a link of a trail that begins at neither end of the trail has a neighbour there
inner_degree : {ls ss rest : List Link} {p q : Port} (l : Link) → Trail net_shape ls p ss q rest → IsIn l ss → l.a ≢ p → l.a ≢ q → 2 ≤ degree net_shape ls l.a
inner_degree {p = p} {q = q} l t i n m =
    let all = degree-trail net_shape t l.a in
    let even = even-trail net_shape t l.a in
    let half = even.1 in
    let one : hit net_shape l.a p ≡ 0 = rw (test_off net_shape l.a p n) refl in
    let two : hit net_shape l.a q ≡ 0 = rw (test_off net_shape l.a q m) refl in
    let its : 1 ≤ hits net_shape l.a l = hits_left net_shape {l = l} refl in
    let there = degree-pick net_shape i.1 l.a in
    omega arith

-- a port of an agent that is in no event has at most one link end
unconsumed_degree : (s : Start) → IsProper s → (es : List Event) → ((n : Name) → consumed_times n es ≤ 1) → (x : Name) (i : ℕ) → consumed_times x es ≡ 0 → degree net_shape (links s es) (Of x i) ≤ 1
unconsumed_degree s ok es apart x i z = by (eqb i 0) (port_degree s ok es x i)
  where
    once : named_times x (agents s es) ≤ 1
    once = names_once s es apart x

    by : (b : Bool) → degree net_shape (links s es) (Of x i) ≤ named_times x (agents s es) + (if b then 0 else consumed_times x es) → degree net_shape (links s es) (Of x i) ≤ 1
    by true h = omega (arith, once)
    by false h = omega (arith, once, z)

-- the name of a child has one digit more
pub depth-child : (n : Name) (i : ℕ) → depth (child_name n i) ≡ depth n + 1
depth-child n i = length-append n.digits (i ∷ [])

module _ (s : Start) (ok : IsProper s) (es : List Event) (sound : IsSound s es) (shallow : AreShallow es) where
  -- a name with more digits than a name may have is in no event
  long_unconsumed : (x : Name) → depth x ≡ MAX_DEPTH + 1 → consumed_times x es ≡ 0
  long_unconsumed x long = by (consumed_times x es) refl
    where
      from : (c : Consumer x es) → (x ≡ c.event.lead) ⊎ (x ≡ c.event.other) → ⊥
      from c (inl e) = let few = (shallow c.event c.among).0 in let same = ap depth e in omega (arith, long, few, same)
      from c (inr e) = let few = (shallow c.event c.among).1 in let same = ap depth e in omega (arith, long, few, same)

      by : (k : ℕ) → consumed_times x es ≡ k → consumed_times x es ≡ 0
      by zero z = z
      by (suc k) z = let c = consumer x es (omega (arith, z)) in absurd (from c c.consumes)

  -- nothing depends on an event whose children have such names
  pub deep_free : (d : Event) → IsDeep d → (f : Event) → IsIn f es → IsCause s es f d → ⊥
  deep_free d deep f i k = absurd (omega (arith, few, many))
    where
      its : IsIn k.link (born_links s.profile d)
      its = made_by_maker s es (trail_link k.path.trail k.on_path.1) k.made

      first : IsChildPort d k.link.a
      first = placed_first d (Some d) 0 (born_ends s.profile d.lead_kind d.other_kind) (rule_children s.profile d.lead_kind d.other_kind deep.1) k.link its

      child : Name
      child = child_name d.lead first.0

      long : depth child ≡ MAX_DEPTH + 1
      long = depth-child d.lead first.0 ∙ ap (λ n. n + 1) deep.0

      not_at : (m : Name) → depth m ≤ MAX_DEPTH → k.link.a ≢ Of m 0
      not_at m h e =
          let same : child ≡ m = port_name (sym first.2 ∙ e) in
          let digits = ap depth same in
          absurd (omega (arith, long, h, digits))

      many : 2 ≤ degree net_shape (links s es) k.link.a
      many = inner_degree k.link k.path.trail k.on_path (not_at f.lead (shallow f i).0) (not_at f.other (shallow f i).1)

      few : degree net_shape (links s es) k.link.a ≤ 1
      few = subst (λ p. degree net_shape (links s es) p ≤ 1) (sym first.2) (unconsumed_degree s ok es sound.apart child first.1 (long_unconsumed child long))
