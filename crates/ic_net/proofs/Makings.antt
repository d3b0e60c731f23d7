-- Nets that are put together from their parts.
use Rattle.std.proofs.Common.{◌≡◌, ℕ, ◌<◌, ◌^◌, Bool, true, false, List, [], ◌∷◌, ◌++◌, map, length, refl, sym, ap, subst, ◌∙◌, eqb, Option, Some, None}
use Rattle.std.specs.Prelude.{if◌then◌else◌, option_map, slice_get}
use Rattle.std.specs.List.Sorted.{IsStrictlySortedBy}
use Rattle.std.specs.Ordering.{nat_cmp}
use Rattle.std.proofs.lemmas.Bool.{eqb-true}
use Rattle.std.proofs.lemmas.Cmp.{tied_itself, nat_cmp_total}
use Rattle.std.specs.declared.cmp.Ordering.TheVariants.{Less, Equal}
use Rattle.ic_name.specs.Names.{Name, name_cmp}
use Rattle.ic_name.specs.Same.{same_name}
use Rattle.ic_name.proofs.SameFacts.{same_name_true}
use Rattle.ic_name.proofs.NameOrder.{name_tied_itself}
use Rattle.ic_name.specs.Events.{Event}
use Rattle.ic_name.specs.declared.kinds.Kind.{Kind}
use Rattle.ic_name.specs.declared.ports.Port.{Port}
use Rattle.ic_name.specs.declared.ports.Port.TheVariants as ports
use Rattle.ic_path.specs.FarEnds.{far}
use Rattle.ic_theory.specs.Listed.{NetAgent as Listed, agent_among, partner_at, free_among, shown}
use Rattle.ic_theory.specs.Nets.{Net, IsSameNet, has_port, kind_of, net_of}
use Rattle.ic_theory.specs.Sets.{links}
use Rattle.ic_theory.specs.Sound.{IsSound}
use Rattle.ic_theory.specs.Starts.{Start, IsProper, net_shape}
use Rattle.ic_theory.proofs.AnyOrder.{net-alike}
use Rattle.ic_theory.proofs.Ranks.{sound_order}
use Rattle.ic_theory.proofs.Runs.{one_net}
use Rattle.ic_net.specs.Sheets.{IsNet, IsReached}
use Rattle.ic_net.specs.Makings.{NetParts, IsLastName, IsLastNumber, listed_parts}
use Rattle.ic_net.proofs.WholeTables.{whole_by}
use Rattle.ic_net.proofs.ReachedNets.{has_slots}

-- parts that show a net of a firing make a net
pub parts_are_net : (p : NetParts) (rings : ℕ) → IsStrictlySortedBy name_cmp (map (λ (a : Listed). a.name) p.agents) → IsStrictlySortedBy nat_cmp (map (λ (x : ℕ × Port). x.0) p.frees)
    → length p.agents < 2 ^ 32 → length p.frees < 2 ^ 32 → rings < 2 ^ 63 → IsReached (shown (listed_parts p rings)) → IsNet (listed_parts p rings)
parts_are_net p rings in_order numbered few short seldom reached = record {
  listing = record { in_order = in_order; whole = whole_by p.agents in_order (has_slots (shown (listed_parts p rings)) reached); numbered = numbered };
  few_agents = few;
  few_frees = short;
  few_rings = seldom;
  reached = reached;
}

-- the agent that came last is found under its name, and the others as before
pub found_last : (n : Name) (a : Listed) (as' : List Listed) → IsLastName a.name as' → agent_among n (as' ++ a ∷ []) ≡ (if same_name n a.name then Some a else agent_among n as')
found_last n a [] l = refl
found_last n a (b ∷ bs) l = go (same_name n a.name) (same_name n b.name) refl refl (found_last n a bs l.1)
  where
    go : (t u : Bool) → same_name n a.name ≡ t → same_name n b.name ≡ u → agent_among n (bs ++ a ∷ []) ≡ (if t then Some a else agent_among n bs)
        → (if u then Some b else agent_among n (bs ++ a ∷ [])) ≡ (if t then Some a else (if u then Some b else agent_among n bs))
    go t false e f ih = ih
    go false true e f ih = refl
    go true true e f ih =
        let s : b.name ≡ a.name = sym (same_name_true n b.name f) ∙ same_name_true n a.name e in
        let g : Less ≡ Equal = sym l.0 ∙ ap (name_cmp b.name) (sym s) ∙ name_tied_itself b.name in
        cc

-- so it is with the free names
pub found_last_free : (j k : ℕ) (p : Port) (fs : List (ℕ × Port)) → IsLastNumber k fs → free_among j (fs ++ (k, p) ∷ []) ≡ (if eqb j k then Some p else free_among j fs)
found_last_free j k p [] l = refl
found_last_free j k p (x ∷ xs) l = go (eqb j k) (eqb j x.0) refl refl (found_last_free j k p xs l.1)
  where
    go : (t u : Bool) → eqb j k ≡ t → eqb j x.0 ≡ u → free_among j (xs ++ (k, p) ∷ []) ≡ (if t then Some p else free_among j xs)
        → (if u then Some x.1 else free_among j (xs ++ (k, p) ∷ [])) ≡ (if t then Some p else (if u then Some x.1 else free_among j xs))
    go t false e f ih = ih
    go false true e f ih = refl
    go true true e f ih =
        let s : x.0 ≡ k = sym (eqb-true j x.0 f) ∙ eqb-true j k e in
        let g : Less ≡ Equal = sym l.0 ∙ ap (nat_cmp x.0) (sym s) ∙ tied_itself nat_cmp_total x.0 in
        cc

-- a net that is the same as that of a sound set is one of a firing
pub sound_reached : (s : Start) (es : List Event) → IsProper s → IsSound s es → (n : Net) → IsSameNet n (net_of s es) → IsReached n
sound_reached s es ok sound n h =
    let o = sound_order s ok es sound in
    record {
      start = s;
      events = o.0;
      proper = ok;
      fired = o.2;
      net = subst (IsSameNet n) (one_net (net-alike s ok sound o.1)) h;
    }

-- parts with the agents of a set, each with the partners of its ports, and with its free names show its net
pub parts_show : (p : NetParts) (rings : ℕ) (s : Start) (es : List Event)
    → ((n : Name) → option_map (λ (a : Listed). a.kind) (agent_among n p.agents) ≡ kind_of s es n)
    → ((n : Name) (a : Listed) → agent_among n p.agents ≡ Some a → (i : ℕ) → slice_get a.partners i ≡ (net_of s es).partner (ports.Of n i))
    → ((j : ℕ) → free_among j p.frees ≡ (net_of s es).partner (ports.Name j))
    → rings ≡ (net_of s es).rings → p.profile ≡ s.profile → IsSameNet (shown (listed_parts p rings)) (net_of s es)
parts_show p rings s es kinds partners frees ring profile = record { kinds = kinds; partners = at_port; rings = ring; profile = profile }
  where
    at_agent : (n : Name) (i : ℕ) (o : Option Listed) → agent_among n p.agents ≡ o → option_map (λ (a : Listed). a.kind) o ≡ kind_of s es n → partner_at i o ≡ (net_of s es).partner (ports.Of n i)
    at_agent n i (Some a) e k = partners n a e i
    at_agent n i None e k = ap (λ (o : Option Kind). if has_port o i then Some (far net_shape (links s es) (ports.Of n i)) else None) k

    at_port : (x : Port) → (shown (listed_parts p rings)).partner x ≡ (net_of s es).partner x
    at_port (ports.Of n i) = at_agent n i (agent_among n p.agents) refl (kinds n)
    at_port (ports.Name j) = frees j
