-- The tables that a step leaves show the net of the step.
use Rattle.std.proofs.Common.{◌≡◌, ℕ, ◌+◌, ◌<◌, ◌^◌, Bool, true, false, List, [], ◌∷◌, map, length, refl, sym, ap, ◌∙◌, cond, Option, Some, None, inl, inr}
use Rattle.std.specs.Prelude.{if◌then◌else◌, is_some, option_map, ◌⊎◌, ◌||◌}
use Rattle.std.proofs.lemmas.List.{length-map}
use Rattle.std.specs.BTreeMap.{is_at}
use Rattle.std.specs.List.Sorted.{IsStrictlySortedBy}
use Rattle.std.specs.Map.{keys_of, lookup}
use Rattle.std.specs.Ordering.{nat_cmp, is_eq}
use Rattle.ic_name.specs.Names.{Name, name_cmp, child_name}
use Rattle.ic_name.specs.Kinds.{arity}
use Rattle.ic_name.specs.Events.{Event}
use Rattle.ic_name.specs.Same.{same_name}
use Rattle.ic_name.proofs.SameFacts.{same_name_true, same_name_self}
use Rattle.ic_name.proofs.NameOrder.{name_less_apart}
use Rattle.ic_name.specs.declared.kinds.Kind.{Kind}
use Rattle.ic_name.specs.declared.rules.Profile.{Profile}
use Rattle.ic_name.specs.declared.ports.Port.{Port}
use Rattle.ic_name.specs.declared.ports.Port.TheVariants as ports
use Rattle.ic_theory.specs.Born.{named, born_agents}
use Rattle.ic_theory.specs.Rules.{born_kinds, born_ends}
use Rattle.ic_theory.specs.Nets.{Net, IsSameNet, kind_among, has_port}
use Rattle.ic_theory.specs.Steps.{Wiring, Meets, without_pair, take_links, plain_step}
use Rattle.ic_theory.specs.Listed.{NetAgent as Listed, ListedNet, shown}
use Rattle.ic_net.specs.declared.agents.NetAgent.{NetAgent}
use Rattle.ic_net.specs.declared.rewiring.Rewiring.{Rewiring}
use Rattle.ic_net.specs.Sheets.{listed_agent, partner_list, IsNet, IsReached}
use Rattle.ic_net.specs.Rewirings.{after_writes, wiring}
use Rattle.ic_net.specs.Tables.{agent_in, kind_in, partner_in, found_at, settled, IsBlank}
use Rattle.ic_net.proofs.Lookups.{same_by_cmp, found_kind, found_partner, found_free}
use Rattle.ic_net.proofs.InOrder.{keys_listed}
use Rattle.ic_net.proofs.Writes.{same_turned, settled_none, settled_some}
use Rattle.ic_net.proofs.WholeTables.{whole_by, slots_by}
use Rattle.ic_net.proofs.ReachedNets.{has_slots, steps_on, no_child, same_frees, reached_same}

-- the lists of these tables
abbrev pub listed : List (Name × NetAgent) → List (ℕ × Port) → ℕ → Profile → ListedNet
listed es fs rings profile = record { agents = map listed_agent es; frees = fs; rings = rings; profile = profile }

-- what is found in the tables is what the lists show
shown_partner : (es : List (Name × NetAgent)) (fs : List (ℕ × Port)) (rings : ℕ) (profile : Profile) (p : Port) → (shown (listed es fs rings profile)).partner p ≡ found_at es fs p
shown_partner es fs rings profile (ports.Of x i) = found_partner x i es
shown_partner es fs rings profile (ports.Name j) = found_free j fs

-- without a kind there is no agent
no_agent : (o : Option NetAgent) → option_map (λ (a : NetAgent). a.kind) o ≡ None → o ≡ None
no_agent None h = refl
no_agent (Some a) h = cc

-- an option that isn't given is none
pub none_by : {X : Type 0} (o : Option X) → is_some o ≡ false → o ≡ None
none_by None h = refl
none_by (Some x) h = cc

-- a child has the lead's name with a digit
child_named : (lead x : Name) (k : ℕ) (kinds : List Kind) (kind : Kind) → kind_among x (named (child_name lead) k kinds) ≡ Some kind → (d : ℕ) × (x ≡ child_name lead d)
child_named lead x k [] kind h = cc
child_named lead x k (y ∷ ys) kind h = go (same_name x (child_name lead k)) refl h (child_named lead x (k + 1) ys kind)
  where
    go : (b : Bool) → same_name x (child_name lead k) ≡ b → (if b then Some y else kind_among x (named (child_name lead) (k + 1) ys)) ≡ Some kind
        → (kind_among x (named (child_name lead) (k + 1) ys) ≡ Some kind → (d : ℕ) × (x ≡ child_name lead d)) → (d : ℕ) × (x ≡ child_name lead d)
    go true e m f = (k, same_name_true x (child_name lead k) e)
    go false e m f = f m

-- the writes leave in the tables what they say, at ports that the tables have where there are partners
settles : (p : Port) (o r : Option Port) (ws : List (Port × Option Port)) → is_some (after_writes p r ws) ≡ is_some o → (r ≡ None) ⊎ (r ≡ o) → settled p o ws ≡ after_writes p r ws
settles p None r ws h k = settled_none p ws ∙ sym (none_by (after_writes p r ws) h)
settles p (Some y) r ws h k = go (after_writes p r ws) refl h
  where
    go : (w : Option Port) → after_writes p r ws ≡ w → is_some w ≡ true → settled p (Some y) ws ≡ after_writes p r ws
    go None e t = cc
    go (Some q) e t = settled_some p y q r ws k e ∙ sym e

-- an agent that is taken out is found no more
taken : (new es : List (Name × NetAgent)) (name x : Name) → agent_in new x ≡ cond (is_at (name_cmp name) x) None (agent_in es x) → agent_in new x ≡ (if same_name x name then None else agent_in es x)
taken new es name x h = h ∙ go (same_name x name) refl
  where
    go : (b : Bool) → same_name x name ≡ b → cond (is_eq (name_cmp name x)) None (agent_in es x) ≡ (if b then None else agent_in es x)
    go true e = let s : same_name name x ≡ true = ap (same_name name) (same_name_true x name e) ∙ same_name_self name in rw (same_by_cmp name x, s) refl
    go false e = rw (same_by_cmp name x, same_turned x name e) refl

module _ (es : List (Name × NetAgent)) (fs : List (ℕ × Port)) (rings : ℕ) (profile : Profile) (e : Event) (r : IsReached (shown (listed es fs rings profile))) (m : Meets (shown (listed es fs rings profile)) e) where
  -- the net before the step
  abbrev before : Net
  before = shown (listed es fs rings profile)

  -- the kinds that the tables have
  kinds_before : (x : Name) → before.kind x ≡ kind_in es x
  kinds_before x = found_kind x es

  -- the children are no agents yet
  pub fresh : (d : ℕ) → agent_in es (child_name e.lead d) ≡ None
  fresh d = no_agent (agent_in es (child_name e.lead d)) (sym (kinds_before (child_name e.lead d)) ∙ no_child before r e m d)

  module _ (es1 es2 es3 es4 : List (Name × NetAgent)) (fs2 : List (ℕ × Port)) (rewiring : Rewiring)
      (others : (x : Name) → kind_among x (born_agents e) ≡ None → agent_in es1 x ≡ agent_in es x)
      (born : (x : Name) (k : Kind) → kind_among x (born_agents e) ≡ Some k → IsBlank k (agent_in es1 x))
      (kinds : (x : Name) → kind_in es2 x ≡ kind_in es1 x)
      (partners : (p : Port) → found_at es2 fs2 p ≡ settled p (found_at es1 fs p) rewiring.writes.items)
      (lead_goes : (x : Name) → agent_in es3 x ≡ cond (is_at (name_cmp e.lead) x) None (agent_in es2 x))
      (other_goes : (x : Name) → agent_in es4 x ≡ cond (is_at (name_cmp e.other) x) None (agent_in es3 x))
      (rewired_is : wiring before.partner rewiring ≡ take_links e (born_ends profile e.lead_kind e.other_kind) (record { partner = without_pair e before.partner; rings = rings })) where
    -- the net after it
    abbrev after : Net
    after = plain_step before e

    -- its partners are those that the writes say
    written : (p : Port) → after_writes p (before.partner p) rewiring.writes.items ≡ after.partner p
    written p = ap (λ (w : Wiring). w.partner p) rewired_is

    -- the agents that are left
    left : (x : Name) → agent_in es4 x ≡ (if same_name x e.lead || same_name x e.other then None else agent_in es2 x)
    left x = taken es4 es3 e.other x (other_goes x) ∙ ap (λ o. if same_name x e.other then None else o) (taken es3 es2 e.lead x (lead_goes x)) ∙ go (same_name x e.lead) (same_name x e.other)
      where
        go : (a b : Bool) → (if b then None else (if a then None else agent_in es2 x)) ≡ (if a || b then None else agent_in es2 x)
        go true true = refl
        go true false = refl
        go false true = refl
        go false false = refl

    -- the kinds once the children have come
    kinds_born : (x : Name) → kind_in es2 x ≡ (if is_some (kind_among x (born_agents e)) then kind_among x (born_agents e) else before.kind x)
    kinds_born x = kinds x ∙ go (kind_among x (born_agents e)) refl
      where
        blank : (k : Kind) (o : Option NetAgent) → IsBlank k o → option_map (λ (a : NetAgent). a.kind) o ≡ Some k
        blank k None h = absurd h
        blank k (Some a) h = ap Some h.0

        go : (o : Option Kind) → kind_among x (born_agents e) ≡ o → kind_in es1 x ≡ (if is_some o then o else before.kind x)
        go None h = ap (option_map (λ (a : NetAgent). a.kind)) (others x h) ∙ sym (kinds_before x)
        go (Some k) h = blank k (agent_in es1 x) (born x k h)

    -- an agent that was there before is there once the children have come
    still_there : (x : Name) (k : Kind) → before.kind x ≡ Some k → is_some (agent_in es2 x) ≡ true
    still_there x k h = sym (mapped (agent_in es2 x)) ∙ ap is_some (kinds_born x) ∙ go (kind_among x (born_agents e)) (before.kind x) h
      where
        mapped : (o : Option NetAgent) → is_some (option_map (λ (a : NetAgent). a.kind) o) ≡ is_some o
        mapped None = refl
        mapped (Some a) = refl

        go : (o b : Option Kind) → b ≡ Some k → is_some (if is_some o then o else b) ≡ true
        go None b h = ap is_some h
        go (Some y) b h = refl

    -- so both agents of the pair are there when they go
    pub lead_there : is_some (agent_in es2 e.lead) ≡ true
    lead_there = still_there e.lead e.lead_kind m.lead

    pub other_there : is_some (agent_in es3 e.other) ≡ true
    other_there = ap is_some (taken es3 es2 e.lead e.other (lead_goes e.other)) ∙ go (same_name e.other e.lead) refl
      where
        go : (b : Bool) → same_name e.other e.lead ≡ b → is_some (if b then None else agent_in es2 e.other) ≡ true
        go true h = absurd (name_less_apart e.lead e.other m.ordered (sym (same_name_true e.other e.lead h)))
        go false h = still_there e.other e.other_kind m.other

    -- the kinds after the step
    kinds_after : (x : Name) → kind_in es4 x ≡ after.kind x
    kinds_after x = ap (option_map (λ (a : NetAgent). a.kind)) (left x) ∙ go (same_name x e.lead || same_name x e.other)
      where
        go : (b : Bool) → option_map (λ (a : NetAgent). a.kind) (if b then None else agent_in es2 x)
            ≡ (if b then None else (if is_some (kind_among x (born_agents e)) then kind_among x (born_agents e) else before.kind x))
        go true = refl
        go false = kinds_born x

    -- a child had no partners before, and other agents had those that they have
    partners_born : (x : Name) (i : ℕ) → (before.partner (ports.Of x i) ≡ None) ⊎ (before.partner (ports.Of x i) ≡ found_at es1 fs (ports.Of x i))
    partners_born x i = go (kind_among x (born_agents e)) refl
      where
        go : (o : Option Kind) → kind_among x (born_agents e) ≡ o → (before.partner (ports.Of x i) ≡ None) ⊎ (before.partner (ports.Of x i) ≡ found_at es1 fs (ports.Of x i))
        go None h = inr (shown_partner es fs rings profile (ports.Of x i) ∙ ap (partner_in i) (sym (others x h)))
        go (Some k) h =
            let c = child_named e.lead x 0 (born_kinds e.lead_kind e.other_kind) k h in
            inl (shown_partner es fs rings profile (ports.Of x i) ∙ ap (partner_in i) (ap (agent_in es) c.1 ∙ fresh c.0))

    -- each agent has the ports of its kind, the children too
    slots_born : (x : Name) (i : ℕ) → is_some (found_at es1 fs (ports.Of x i)) ≡ has_port (kind_in es2 x) i
    slots_born x i = go (kind_among x (born_agents e)) refl ∙ ap (λ k. has_port k i) (sym (kinds x))
      where
        blank : (k : Kind) (o : Option NetAgent) → IsBlank k o → is_some (partner_in i o) ≡ has_port (option_map (λ (a : NetAgent). a.kind) o) i
        blank k None h = absurd h
        blank k (Some a) h = slots_by (partner_list a.partners) (arity a.kind) (h.1 ∙ ap (λ y. arity y + 1) (sym h.0)) i

        go : (o : Option Kind) → kind_among x (born_agents e) ≡ o → is_some (found_at es1 fs (ports.Of x i)) ≡ has_port (kind_in es1 x) i
        go None h =
            rw (others x h) (ap is_some (sym (shown_partner es fs rings profile (ports.Of x i))) ∙ has_slots before r x i ∙ ap (λ k. has_port k i) (kinds_before x))
        go (Some k) h = blank k (agent_in es1 x) (born x k h)

    -- the partners after the step
    partners_after : (p : Port) → found_at es4 fs2 p ≡ after.partner p
    partners_after (ports.Name j) =
        partners (ports.Name j)
        ∙ settles (ports.Name j) (lookup (is_at (nat_cmp j)) fs) (before.partner (ports.Name j)) rewiring.writes.items
        (ap is_some (written (ports.Name j)) ∙ same_frees before r e m j ∙ ap is_some (found_free j fs)) (inr (found_free j fs))
        ∙ written (ports.Name j)
    partners_after (ports.Of x i) = ap (partner_in i) (left x) ∙ go (same_name x e.lead || same_name x e.other) refl
      where
        slots_after : is_some (after.partner (ports.Of x i)) ≡ has_port (after.kind x) i
        slots_after = has_slots after (steps_on before r e m) x i

        go : (b : Bool) → same_name x e.lead || same_name x e.other ≡ b → partner_in i (if b then None else agent_in es2 x) ≡ after.partner (ports.Of x i)
        go true h = sym (none_by (after.partner (ports.Of x i)) (slots_after ∙ rw h refl))
        go false h =
            let kind : after.kind x ≡ kind_in es2 x = sym (kinds_born x ∙ rw h refl) in
            partners (ports.Of x i)
            ∙ settles (ports.Of x i) (found_at es1 fs (ports.Of x i)) (before.partner (ports.Of x i)) rewiring.writes.items
            (ap is_some (written (ports.Of x i)) ∙ slots_after ∙ ap (λ k. has_port k i) kind ∙ sym (slots_born x i)) (partners_born x i)
            ∙ written (ports.Of x i)

    -- the tables show the net of the step
    pub steps_to : IsSameNet (shown (listed es4 fs2 rewiring.rings profile)) after
    steps_to = record {
      kinds = λ x. found_kind x es4 ∙ kinds_after x;
      partners = λ p. shown_partner es4 fs2 rewiring.rings profile p ∙ partners_after p;
      rings = ap (λ (w : Wiring). w.rings) rewired_is;
      profile = refl;
    }

    -- and make a net
    pub step_is_net : IsStrictlySortedBy name_cmp (keys_of es4) → IsStrictlySortedBy nat_cmp (keys_of fs2) → length es4 < 2 ^ 32 → length fs2 < 2 ^ 32 → rewiring.rings < 2 ^ 63 → IsNet (listed es4 fs2 rewiring.rings profile)
    step_is_net names numbers few short seldom =
        let reached = reached_same (shown (listed es4 fs2 rewiring.rings profile)) after steps_to (steps_on before r e m) in
        let in_order : IsStrictlySortedBy name_cmp (map (λ (a : Listed). a.name) (map listed_agent es4)) = rw (keys_listed es4) names in
        record {
          listing = record { in_order = in_order; whole = whole_by (map listed_agent es4) in_order (has_slots (shown (listed es4 fs2 rewiring.rings profile)) reached); numbered = numbers };
          few_agents = rw (length-map es4 listed_agent) few;
          few_frees = short;
          few_rings = seldom;
          reached = reached;
        }
