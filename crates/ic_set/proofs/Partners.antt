-- Which agents' principal ports a wire joins, read off the links by ids.
use Rattle.std.proofs.Common.{◌≡◌, ◌≢◌, ◌↔◌, ◌≤◌, Bool, true, false, List, inl, inr, refl, sym, ap, arith, subst, ◌∙◌}
use Rattle.std.specs.Prelude.{IsTrue}
use Rattle.ic_name.specs.Names.{Name}
use Rattle.ic_name.specs.Events.{Event}
use Rattle.ic_name.specs.declared.ids.AgentId.{AgentId}
use Rattle.ic_name.specs.declared.ids.Link.{Link}
use Rattle.ic_name.specs.declared.ids.LinkId.{LinkId}
use Rattle.ic_name.specs.declared.ids.Spot.{Spot}
use Rattle.ic_name.specs.declared.ids.Spot.TheVariants as spot
use Rattle.ic_name.specs.declared.ports.Port.TheVariants.{Of}
use Rattle.ic_path.specs.FarEnds.{far as far_of}
use Rattle.ic_path.specs.Links.{degree}
use Rattle.ic_path.specs.Orders.{IsIn}
use Rattle.ic_path.proofs.Alikes.{alike-in}
use Rattle.ic_path.proofs.Ends.{hit, hit_self, even-trail, degree-trail, reversed, starts, reaches_one, reaches_far}
use Rattle.ic_link.specs.Links.{shape, Joins, IsFar}
use Rattle.ic_link.specs.declared.store.Far.{Far}
use Rattle.ic_link.specs.declared.store.Far.TheVariants as far
use Rattle.ic_theory.specs.Starts.{net_shape}
use Rattle.ic_theory.specs.Sets.{links, consumed_times}
use Rattle.ic_theory.specs.Wires.{Path, IsLoose}
use Rattle.ic_theory.proofs.Counts.{slim, principal}
use Rattle.ic_theory.proofs.Future.{loose_end, port_agent}
use Rattle.ic_theory.proofs.Loose.{path_of}
use Rattle.ic_cause.specs.Naming.{port_of}
use Rattle.ic_cause.proofs.ByPorts.{reaches_named, trail_held, trail_named}
use Rattle.ic_path.proofs.InLists.{in-map, map_cases}
use Rattle.ic_cause.proofs.OnePort.{HasSpot, one_port}
use Rattle.ic_cause.proofs.PathMakers.{no_round}
use Rattle.ic_cause.proofs.SameEnds.{degree_is}
use Rattle.ic_roster.specs.Rosters.{Member, Stander}
use Rattle.ic_set.specs.Views.{SetView, standing, agent_of}
use Rattle.ic_set.specs.Sets.{IsStandingSet, IsKept}
use Rattle.ic_set.specs.Pairs.{AreJoined}
use Rattle.ic_set.proofs.Namings.{same_member}
use Rattle.ic_set.proofs.Unled.{unled_pair, unconsumed_unled}

-- no standing event has this lead
abbrev pub LeadsNone : SetView → Name → Type 0
LeadsNone v m = (x : Stander) → IsIn x v.events → x.event.lead ≢ m

-- nor has one where a look finds none
pub none_led : (xs : List Stander) (m : Name) (b : Bool) → IsTrue b ↔ ((x : Stander) × IsIn x xs × (x.event.lead ≡ m)) → b ≡ false → (x : Stander) → IsIn x xs → x.event.lead ≢ m
none_led xs m b told none x i q = let led : b ≡ true = told.1 (x, i, q) in absurd cc

module _ (v : SetView) (set : IsStandingSet v) where
  -- the two agents of a wire are two
  pub joined_apart : {a b : AgentId} (j : AreJoined v a b) → j.left.name ≢ j.right.name
  joined_apart j e = no_round v.start (standing v) set.proper set.sound j.left.name (subst (λ m. Path (links v.start (standing v)) (Of j.left.name 0) (Of m 0)) (sym e) j.wire.path)

  -- a wire is one from either end
  pub joined_back : {a b : AgentId} → AreJoined v a b → AreJoined v b a
  joined_back j = record {
    left = j.right;
    right = j.left;
    left_there = j.right_there;
    right_there = j.left_there;
    left_id = j.right_id;
    right_id = j.left_id;
    wire = record {
      path = path_of (reversed net_shape j.wire.path.trail).1 (λ e. joined_apart j (sym (port_agent e)));
      from_loose = j.wire.to_loose;
      to_loose = j.wire.from_loose;
    };
  }

  -- an agent of a wire leads no event
  pub joined_unled : {a b : AgentId} → AreJoined v a b → (m : Member) → IsIn m v.agents → m.id ≡ a → LeadsNone v m.name
  joined_unled j m i e x k q =
      let same : m ≡ j.left = same_member v.agents m j.left set.own_names i j.left_there (inl (e ∙ sym j.left_id)) in
      unconsumed_unled j.left.name (standing v) j.wire.from_loose.3 x.event (in-map (λ (y : Stander). y.event) k) (q ∙ ap (λ y. y.name) same)

module _ (v : SetView) (ls : List Link) (k : IsKept v ls) where
  -- the spot of an agent's principal port is held
  spot_held : (m : Member) → IsIn m v.agents → HasSpot k.naming (spot.Agent m.id 0)
  spot_held m i = (k.named.agents m i).0

  -- and stands for that port
  spot_port : (m : Member) → IsIn m v.agents → port_of k.naming (spot.Agent m.id 0) ≡ Of m.name 0
  spot_port m i = ap (λ n. Of n 0) (k.named.agents m i).1

  -- it has as many link ends
  spot_degree : (m : Member) → IsIn m v.agents → degree shape ls (spot.Agent m.id 0) ≡ degree net_shape (links v.start (standing v)) (Of m.name 0)
  spot_degree m i = degree_is k.naming v.start (standing v) ls k.shows (spot.Agent m.id 0) (spot_held m i) ∙ ap (degree net_shape (links v.start (standing v))) (spot_port m i)

  -- a path from one end of a wire leads to the other
  joined_end : (m n : Member) (q : Spot) (ids : List LinkId) → IsIn m v.agents → IsIn n v.agents → m.name ≢ n.name → Path (links v.start (standing v)) (Of m.name 0) (Of n.name 0)
      → Joins ls (spot.Agent m.id 0) ids q → q ≡ spot.Agent n.id 0
  joined_end m n q ids i j other p t =
      let thin = slim v.start k.set.proper (standing v) k.set.sound.apart in
      let few : (x : Name) → degree net_shape (links v.start (standing v)) (Of x 0) ≤ 1 = principal v.start k.set.proper (standing v) k.set.sound.apart in
      let there = loose_end net_shape (Of m.name 0) (Of n.name 0) thin (few n.name) (λ e. other (sym (port_agent e))) p.trail in
      let found = rw (spot_port m i) at (reaches_named k.naming v.start (standing v) ls k.shows (spot_held m i) t) in
      let same : port_of k.naming q ≡ Of n.name 0 = reaches_one net_shape thin (few m.name) found there in
      one_port k.naming k.shows.apart q (spot.Agent n.id 0) (trail_held k.naming k.shows.held (spot_held m i) t.trail).0 (spot_held n j) (same ∙ sym (spot_port n j))

  -- what is found at one end of a path between principal ports is the other
  pub path_far : (m n : Member) (f : Far) → IsIn m v.agents → IsIn n v.agents → m.name ≢ n.name → Path (links v.start (standing v)) (Of m.name 0) (Of n.name 0)
      → IsFar ls (spot.Agent m.id 0) f → f ≡ far.End (spot.Agent n.id 0)
  path_far m n f i j other p h = by f h
    where
      ends : degree shape ls (spot.Agent m.id 0) ≡ 1
      ends =
          let d = spot_degree m i in
          let few = principal v.start k.set.proper (standing v) k.set.sound.apart m.name in
          let first = starts net_shape p.first p.trail in
          let all = degree-trail net_shape p.trail (Of m.name 0) in
          omega arith

      by : (f : Far) → IsFar ls (spot.Agent m.id 0) f → f ≡ far.End (spot.Agent n.id 0)
      by far.Bare z = absurd (omega (arith, ends, z))
      by far.Joint z = absurd (omega (arith, ends, z))
      by (far.End q) (d, ids, t) = ap (λ x. far.End x) (joined_end m n q ids i j other p t)

  -- what is found at one end of a wire is the other
  pub joined_far : (a b : AgentId) (f : Far) → AreJoined v a b → IsFar ls (spot.Agent a 0) f → f ≡ far.End (spot.Agent b 0)
  joined_far a b f j h =
      path_far j.left j.right f j.left_there j.right_there (joined_apart v k.set j) j.wire.path (subst (λ x. IsFar ls (spot.Agent x 0) f) (sym j.left_id) h)
      ∙ ap (λ x. far.End (spot.Agent x 0)) j.right_id

  -- what is found there is the far end by names, too
  pub named_far : (m n : Member) → IsIn m v.agents → IsIn n v.agents → IsFar ls (spot.Agent m.id 0) (far.End (spot.Agent n.id 0))
      → far_of net_shape (links v.start (standing v)) (Of m.name 0) ≡ Of n.name 0
  named_far m n i j (d, ids, t) =
      let thin = slim v.start k.set.proper (standing v) k.set.sound.apart in
      let few = principal v.start k.set.proper (standing v) k.set.sound.apart m.name in
      let found = rw (spot_port m i, spot_port n j) at (reaches_named k.naming v.start (standing v) ls k.shows (spot_held m i) t) in
      reaches_one net_shape thin few (reaches_far net_shape (links v.start (standing v)) (Of m.name 0) thin few) found

  -- so the partner is the agent that is found
  pub joined_one : (a b p : AgentId) (f : Far) → AreJoined v a b → IsFar ls (spot.Agent a 0) f → f ≡ far.End (spot.Agent p 0) → b ≡ p
  joined_one a b p f j h e = let there = joined_far a b f j h in cc

  -- a path that can't go on doesn't come back
  no_return : (p : Spot) (ids : List LinkId) → degree shape ls p ≡ 1 → Joins ls p ids p → ⊥
  no_return p ids d t =
      let even = even-trail shape t.trail p in
      let half = even.1 in
      let all = degree-trail shape t.trail p in
      let one : hit shape p p ≡ 1 = hit_self shape p in
      let stops = t.stops in
      omega arith

  -- the port of an agent that isn't consumed is loose
  loose_port : (m : Member) → IsIn m v.agents → consumed_times m.name (standing v) ≡ 0 → IsLoose v.start (standing v) (Of m.name 0)
  loose_port m i z = (m.kind, alike-in k.set.agents (in-map agent_of i), omega arith, z)

  -- the end of a path from a principal port is joined to it where neither agent leads an event
  end_joined : (m n : Member) → IsIn m v.agents → IsIn n v.agents → LeadsNone v m.name → LeadsNone v n.name
      → IsFar ls (spot.Agent m.id 0) (far.End (spot.Agent n.id 0)) → AreJoined v m.id n.id
  end_joined m n i j free there (d, ids, t) = record {
    left = m;
    right = n;
    left_there = i;
    right_there = j;
    left_id = refl;
    right_id = refl;
    wire = record { path = path; from_loose = loose_port m i gone.0; to_loose = loose_port n j gone.1 };
  }
    where
      other : m.name ≢ n.name
      other e =
          let same : m ≡ n = same_member v.agents m n k.set.own_names i j (inr e) in
          no_return (spot.Agent m.id 0) ids d (subst (λ x. Joins ls (spot.Agent m.id 0) ids (spot.Agent x.id 0)) (sym same) t)

      path : Path (links v.start (standing v)) (Of m.name 0) (Of n.name 0)
      path = path_of (rw (spot_port m i, spot_port n j) at (trail_named k.naming v.start (standing v) ls k.shows t.trail).1) (λ e. other (port_agent e))

      unled : (x : Name) → LeadsNone v x → (e : Event) → IsIn e (standing v) → e.lead ≢ x
      unled x none e l q = let y = map_cases (λ (y : Stander). y.event) v.events l in none y.0 y.1 (ap (λ f. f.lead) y.2 ∙ q)

      gone : (consumed_times m.name (standing v) ≡ 0) × (consumed_times n.name (standing v) ≡ 0)
      gone = unled_pair v.start (standing v) k.set.proper k.set.sound m.name n.name other path (unled m.name free) (unled n.name there)

  -- and so is what is found
  pub far_joined : (m n : Member) (f : Far) → IsIn m v.agents → IsIn n v.agents → LeadsNone v m.name → LeadsNone v n.name
      → IsFar ls (spot.Agent m.id 0) f → f ≡ far.End (spot.Agent n.id 0) → AreJoined v m.id n.id
  far_joined m n f i j free there h e = end_joined m n i j free there (subst (IsFar ls (spot.Agent m.id 0)) e h)
