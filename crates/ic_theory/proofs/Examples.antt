-- Worked nets. Each is checked by computing: the net of a set of events, and the same net by plain steps.
use Rattle.std.proofs.Common.{◌≡◌, ℕ, zero, suc, ◌≤◌, ◌<◌, ◌+◌, arith, Bool, false, [], ◌∷◌, Some, None, refl}
use Rattle.std.proofs.Math.Bool.{and-true, and-false}
use Rattle.std.proofs.lemmas.Bool.{ne_eqb, lt-leb}
use Rattle.std.specs.Prelude.{◌&&◌, eqb, leb}
use Rattle.ic_name.specs.Names.{child_name, start_name}
use Rattle.ic_name.specs.Events.{Event}
use Rattle.ic_name.specs.Same.{same_name}
use Rattle.ic_name.specs.declared.kinds.Kind.{Kind}
use Rattle.ic_name.specs.declared.kinds.Kind.TheVariants.{Gamma, Delta, Eps}
use Rattle.ic_name.specs.declared.rules.Profile.{Profile}
use Rattle.ic_name.specs.declared.rules.Profile.TheVariants.{Classic, Straight}
use Rattle.ic_name.specs.declared.ports.Port.{Port}
use Rattle.ic_name.specs.declared.ports.Port.TheVariants.{Of}
use Rattle.ic_name.specs.declared.ports.Port.TheVariants as port
use Rattle.ic_path.specs.Orders.{here, there}
use Rattle.ic_path.specs.Trails.{goes, stays}
use Rattle.ic_path.specs.Links.{forth, back}
use Rattle.ic_theory.specs.Starts.{Start, IsProper}
use Rattle.ic_theory.specs.Causes.{IsCause}
use Rattle.ic_theory.specs.Nets.{net_of}
use Rattle.ic_theory.specs.Steps.{plain_step, steps}
use Rattle.ic_theory.proofs.Counts.{one_if}

-- a port of a start agent, and a name of the text
abbrev on : ℕ → ℕ → Port
on k i = Of (start_name k) i

-- a name of the text
abbrev name : ℕ → Port
name j = port.Name j

-- a port of a child of a start agent
abbrev on_child : ℕ → ℕ → ℕ → Port
on_child k d i = Of (child_name (start_name k) d) i

-- the event of two start agents
abbrev meet : ℕ → Kind → ℕ → Kind → Event
meet j a k b = record { lead = start_name j; lead_kind = a; other = start_name k; other_kind = b }

-- x = y;
abbrev one_wire : Start
one_wire = record { kinds = []; joins = (name 0, name 1) ∷ []; names = (120 ∷ []) ∷ (121 ∷ []) ∷ []; profile = Classic }

-- two names, one wire
one_wire_0 : (net_of one_wire []).partner (name 0) ≡ Some (name 1)
one_wire_0 = refl

-- and no ring
one_wire_rings : (net_of one_wire []).rings ≡ 0
one_wire_rings = refl

-- z = y; y = x;
abbrev jointed : Start
jointed = record { kinds = []; joins = (name 0, name 1) ∷ (name 1, name 2) ∷ []; names = (122 ∷ []) ∷ (121 ∷ []) ∷ (120 ∷ []) ∷ []; profile = Classic }

-- a wire runs through a joint
jointed_0 : (net_of jointed []).partner (name 0) ≡ Some (name 2)
jointed_0 = refl

-- and a joint has no partner
jointed_1 : (net_of jointed []).partner (name 1) ≡ None
jointed_1 = refl

-- x = x; E = E;
abbrev self_link : Start
self_link = record { kinds = Eps ∷ Eps ∷ []; joins = (name 0, name 0) ∷ (on 0 0, on 1 0) ∷ []; names = (120 ∷ []) ∷ []; profile = Classic }

-- a link from a name to itself is a ring
self_link_rings : (net_of self_link []).rings ≡ 1
self_link_rings = refl

-- no wire ends there
self_link_none : (net_of self_link []).partner (name 0) ≡ None
self_link_none = refl

-- a step elsewhere keeps it
self_link_step : (plain_step (net_of self_link []) (meet 0 Eps 1 Eps)).rings ≡ 1
self_link_step = refl

-- G(x,x) = E;
abbrev looped : Start
looped = record { kinds = Gamma ∷ Eps ∷ []; joins = (on 0 1, name 0) ∷ (on 0 2, name 0) ∷ (on 0 0, on 1 0) ∷ []; names = (120 ∷ []) ∷ []; profile = Classic }

-- the erased loop leaves two epsilons that meet, by the trails
looped_net : (net_of looped (meet 0 Gamma 1 Eps ∷ [])).partner (on_child 0 0 0) ≡ Some (on_child 0 1 0)
looped_net = refl

-- and by the cases
looped_step : (plain_step (net_of looped []) (meet 0 Gamma 1 Eps)).partner (on_child 0 0 0) ≡ Some (on_child 0 1 0)
looped_step = refl

-- and back
looped_back : (plain_step (net_of looped []) (meet 0 Gamma 1 Eps)).partner (on_child 0 1 0) ≡ Some (on_child 0 0 0)
looped_back = refl

-- G(x,x) = G(y,y);
abbrev loops : Start
loops = record {
  kinds = Gamma ∷ Gamma ∷ [];
  joins = (on 0 1, name 0) ∷ (on 0 2, name 0) ∷ (on 0 0, on 1 0) ∷ (on 1 1, name 1) ∷ (on 1 2, name 1) ∷ [];
  names = (120 ∷ []) ∷ (121 ∷ []) ∷ [];
  profile = Classic;
}

-- the two gammas meet
abbrev gammas : Event
gammas = meet 0 Gamma 1 Gamma

-- the two auxiliary ports of an agent are partners
loops_wire : (net_of loops []).partner (on 0 1) ≡ Some (on 0 2)
loops_wire = refl

-- there is no ring before the event
loops_before : (net_of loops []).rings ≡ 0
loops_before = refl

-- the two loops become one ring, by the trails
loops_after : (net_of loops (gammas ∷ [])).rings ≡ 1
loops_after = refl

-- and by the cases
loops_step : (plain_step (net_of loops []) gammas).rings ≡ 1
loops_step = refl

-- and nothing has a partner any more
loops_step_none : (plain_step (net_of loops []) gammas).partner (on 0 1) ≡ None
loops_step_none = refl

-- G(x,y) = G(y,x);
abbrev twisted : Profile → Start
twisted v = record {
  kinds = Gamma ∷ Gamma ∷ [];
  joins = (on 0 1, name 0) ∷ (on 0 2, name 1) ∷ (on 0 0, on 1 0) ∷ (on 1 1, name 1) ∷ (on 1 2, name 0) ∷ [];
  names = (120 ∷ []) ∷ (121 ∷ []) ∷ [];
  profile = v;
}

-- a classic annihilation closes two rings, by the trails
twisted_classic : (net_of (twisted Classic) (gammas ∷ [])).rings ≡ 2
twisted_classic = refl

-- and by the cases
twisted_classic_step : (plain_step (net_of (twisted Classic) []) gammas).rings ≡ 2
twisted_classic_step = refl

-- a straight one closes one, by the trails
twisted_straight : (net_of (twisted Straight) (gammas ∷ [])).rings ≡ 1
twisted_straight = refl

-- and by the cases
twisted_straight_step : (plain_step (net_of (twisted Straight) []) gammas).rings ≡ 1
twisted_straight_step = refl

-- G(a,b) = G(c,d);
abbrev joined : Profile → Start
joined v = record {
  kinds = Gamma ∷ Gamma ∷ [];
  joins = (on 0 1, name 0) ∷ (on 0 2, name 1) ∷ (on 0 0, on 1 0) ∷ (on 1 1, name 2) ∷ (on 1 2, name 3) ∷ [];
  names = (97 ∷ []) ∷ (98 ∷ []) ∷ (99 ∷ []) ∷ (100 ∷ []) ∷ [];
  profile = v;
}

-- a classic annihilation joins port 1 to port 2
joined_classic : (plain_step (net_of (joined Classic) []) gammas).partner (name 0) ≡ Some (name 3)
joined_classic = refl

-- a straight one joins port 1 to port 1
joined_straight : (plain_step (net_of (joined Straight) []) gammas).partner (name 0) ≡ Some (name 2)
joined_straight = refl

-- and the trails say the same
joined_net : (net_of (joined Classic) (gammas ∷ [])).partner (name 0) ≡ Some (name 3)
joined_net = refl

-- G(a,b) = D(c,d);
abbrev crossing_net : Start
crossing_net = record {
  kinds = Gamma ∷ Delta ∷ [];
  joins = (on 0 1, name 0) ∷ (on 0 2, name 1) ∷ (on 0 0, on 1 0) ∷ (on 1 1, name 2) ∷ (on 1 2, name 3) ∷ [];
  names = (97 ∷ []) ∷ (98 ∷ []) ∷ (99 ∷ []) ∷ (100 ∷ []) ∷ [];
  profile = Classic;
}

-- gamma and delta meet
abbrev cross : Event
cross = meet 0 Gamma 1 Delta

-- a child at each auxiliary port
crossed_a : (plain_step (net_of crossing_net []) cross).partner (name 0) ≡ Some (on_child 0 0 0)
crossed_a = refl

-- at the last one too
crossed_d : (plain_step (net_of crossing_net []) cross).partner (name 3) ≡ Some (on_child 0 3 0)
crossed_d = refl

-- the four inner wires
crossed_first : (plain_step (net_of crossing_net []) cross).partner (on_child 0 0 1) ≡ Some (on_child 0 2 1)
crossed_first = refl

-- the second inner wire is crossed
crossed_inner : (plain_step (net_of crossing_net []) cross).partner (on_child 0 0 2) ≡ Some (on_child 0 3 1)
crossed_inner = refl

-- so is the third
crossed_outer : (plain_step (net_of crossing_net []) cross).partner (on_child 0 1 1) ≡ Some (on_child 0 2 2)
crossed_outer = refl

-- and the fourth joins the second ports
crossed_last : (plain_step (net_of crossing_net []) cross).partner (on_child 0 3 2) ≡ Some (on_child 0 1 2)
crossed_last = refl

-- the trails say the same
crossed_inner_net : (net_of crossing_net (cross ∷ [])).partner (on_child 0 0 2) ≡ Some (on_child 0 3 1)
crossed_inner_net = refl

-- the deltas come first, then the gammas
crossed_delta : (plain_step (net_of crossing_net []) cross).kind (child_name (start_name 0) 1) ≡ Some Delta
crossed_delta = refl

-- and then the gammas
crossed_kind : (plain_step (net_of crossing_net []) cross).kind (child_name (start_name 0) 2) ≡ Some Gamma
crossed_kind = refl

-- the pair is gone
crossed_gone : (plain_step (net_of crossing_net []) cross).kind (start_name 1) ≡ None
crossed_gone = refl

-- D(x,p) = D(y,q); D(x,r) = D(y,s);
abbrev ring_of_two : Start
ring_of_two = record {
  kinds = Delta ∷ Delta ∷ Delta ∷ Delta ∷ [];
  joins = (on 0 1, name 0) ∷ (on 0 2, name 1) ∷ (on 0 0, on 1 0) ∷ (on 1 1, name 2) ∷ (on 1 2, name 3)
      ∷ (on 2 1, name 0) ∷ (on 2 2, name 4) ∷ (on 2 0, on 3 0) ∷ (on 3 1, name 2) ∷ (on 3 2, name 5) ∷ [];
  names = (120 ∷ []) ∷ (112 ∷ []) ∷ (121 ∷ []) ∷ (113 ∷ []) ∷ (114 ∷ []) ∷ (115 ∷ []) ∷ [];
  profile = Classic;
}

-- the first two deltas meet
abbrev first_pair : Event
first_pair = meet 0 Delta 1 Delta

-- the other two meet
abbrev second_pair : Event
second_pair = meet 2 Delta 3 Delta

-- each of two events makes a half of one ring, by the trails
both_rings : (net_of ring_of_two (second_pair ∷ first_pair ∷ [])).rings ≡ 1
both_rings = refl

-- by the cases, the second step counts it
both_steps : (steps (net_of ring_of_two []) (first_pair ∷ second_pair ∷ [])).rings ≡ 1
both_steps = refl

-- in the other order too
other_steps : (steps (net_of ring_of_two []) (second_pair ∷ first_pair ∷ [])).rings ≡ 1
other_steps = refl

-- the first step joins through a joint
half_step : (plain_step (net_of ring_of_two []) first_pair).partner (on 2 1) ≡ Some (on 3 1)
half_step = refl

-- without the first event the ring is open again
undone_rings : (net_of ring_of_two (second_pair ∷ [])).rings ≡ 0
undone_rings = refl

-- its two ends are the first pair's ports
undone_ends : (net_of ring_of_two (second_pair ∷ [])).partner (on 0 1) ≡ Some (on 1 1)
undone_ends = refl

-- and the other wire of the second event stands
undone_wire : (net_of ring_of_two (second_pair ∷ [])).partner (name 4) ≡ Some (name 5)
undone_wire = refl

-- D(a,p) = D(b,q); D(b,r) = D(c,s); D(c,t) = D(d,u);
abbrev chain : Start
chain = record {
  kinds = Delta ∷ Delta ∷ Delta ∷ Delta ∷ Delta ∷ Delta ∷ [];
  joins = (on 0 1, name 0) ∷ (on 0 2, name 1) ∷ (on 0 0, on 1 0) ∷ (on 1 1, name 2) ∷ (on 1 2, name 3)
      ∷ (on 2 1, name 2) ∷ (on 2 2, name 4) ∷ (on 2 0, on 3 0) ∷ (on 3 1, name 5) ∷ (on 3 2, name 6)
      ∷ (on 4 1, name 5) ∷ (on 4 2, name 7) ∷ (on 4 0, on 5 0) ∷ (on 5 1, name 8) ∷ (on 5 2, name 9) ∷ [];
  names = (97 ∷ []) ∷ (112 ∷ []) ∷ (98 ∷ []) ∷ (113 ∷ []) ∷ (114 ∷ []) ∷ (99 ∷ []) ∷ (115 ∷ []) ∷ (116 ∷ []) ∷ (100 ∷ []) ∷ (117 ∷ []) ∷ [];
  profile = Classic;
}

-- the last two meet
abbrev third_pair : Event
third_pair = meet 4 Delta 5 Delta

-- one wire runs through the links of all three events
chain_whole : (net_of chain (third_pair ∷ second_pair ∷ first_pair ∷ [])).partner (name 0) ≡ Some (name 8)
chain_whole = refl

-- the steps give it in any order
chain_steps : (steps (net_of chain []) (second_pair ∷ third_pair ∷ first_pair ∷ [])).partner (name 0) ≡ Some (name 8)
chain_steps = refl

-- without the event in the middle it ends at that event's agents
chain_left : (net_of chain (third_pair ∷ first_pair ∷ [])).partner (name 0) ≡ Some (on 2 1)
chain_left = refl

-- on either side
chain_right : (net_of chain (third_pair ∷ first_pair ∷ [])).partner (name 8) ≡ Some (on 3 1)
chain_right = refl

-- as the steps of the other two say
chain_outer_steps : (steps (net_of chain []) (third_pair ∷ first_pair ∷ [])).partner (on 2 1) ≡ Some (name 0)
chain_outer_steps = refl

-- G(E,p) = G(q,E);
abbrev eaten : Start
eaten = record {
  kinds = Gamma ∷ Eps ∷ Gamma ∷ Eps ∷ [];
  joins = (on 0 1, on 1 0) ∷ (on 0 2, name 0) ∷ (on 0 0, on 2 0) ∷ (on 2 1, name 1) ∷ (on 2 2, on 3 0) ∷ [];
  names = (112 ∷ []) ∷ (113 ∷ []) ∷ [];
  profile = Classic;
}

-- the two gammas meet
abbrev gammas_meet : Event
gammas_meet = meet 0 Gamma 2 Gamma

-- the two epsilons meet
abbrev epsilons_meet : Event
epsilons_meet = meet 1 Eps 3 Eps

-- the epsilons meet through the link that the gammas left, by the trails
epsilons_joined : (net_of eaten (gammas_meet ∷ [])).partner (on 1 0) ≡ Some (on 3 0)
epsilons_joined = refl

-- and by the cases
epsilons_step : (plain_step (net_of eaten []) gammas_meet).partner (on 1 0) ≡ Some (on 3 0)
epsilons_step = refl

-- then they go
epsilons_gone : (steps (net_of eaten []) (gammas_meet ∷ epsilons_meet ∷ [])).partner (on 1 0) ≡ None
epsilons_gone = refl

-- and the names' wire is all that is left
epsilons_left : (steps (net_of eaten []) (gammas_meet ∷ epsilons_meet ∷ [])).partner (name 0) ≡ Some (name 1)
epsilons_left = refl

-- the event that caused the epsilons' made neither of them: both are the start's
caused : IsCause eaten (gammas_meet ∷ []) epsilons_meet gammas_meet
caused = record {
  path = record {
    first = _;
    others = _;
    left_over = _;
    trail = goes (there (there here)) (back refl refl) (goes here (forth refl refl) (goes (there (there (there (there here)))) (forth refl refl) stays));
  };
  link = _;
  on_path = (_, there here);
  made = refl;
}

-- E = E;
abbrev two_epsilons : Start
two_epsilons = record { kinds = Eps ∷ Eps ∷ []; joins = (on 0 0, on 1 0) ∷ []; names = []; profile = Classic }

-- an epsilon has port 0 alone
zero_port : (i : ℕ) (b : Bool) → one_if (eqb i 0 && b) ≡ one_if (b && leb i 0)
zero_port zero b = rw (and-true b) refl
zero_port (suc i) b = let n : eqb (suc i) 0 ≡ false = ne_eqb (suc i) 0 (λ e. omega arith) in let l : leb (suc i) 0 ≡ false = lt-leb (suc i) 0 (omega arith) in rw (n, l, and-false b) refl

-- that is a start as the laws want it
two_epsilons_proper : IsProper two_epsilons
two_epsilons_proper = record {
  agent_ports = λ x i. let a = zero_port i (same_name x (start_name 0)) in let b = zero_port i (same_name x (start_name 1)) in omega arith;
  name_ends = λ j h. absurd (omega arith);
  few_ends = λ j. omega arith;
  no_others = λ j h. refl;
}

-- a name of two occurs once
two_names : (j : ℕ) → (one_if (eqb j 0) + one_if (eqb j 1)) + 0 ≤ 1
two_names zero = omega arith
two_names (suc zero) = omega arith
two_names (suc (suc j)) = let a : eqb (suc (suc j)) 0 ≡ false = ne_eqb (suc (suc j)) 0 (λ e. omega arith) in let b : eqb (suc (suc j)) 1 ≡ false = ne_eqb (suc (suc j)) 1 (λ e. omega arith) in rw (a, b) (omega arith)

-- each of two names occurs
two_occur : (j : ℕ) → j < 2 → 1 ≤ (one_if (eqb j 0) + one_if (eqb j 1)) + 0
two_occur zero h = omega arith
two_occur (suc zero) h = omega arith
two_occur (suc (suc j)) h = absurd (omega arith)

-- and there is no third one
no_third : (j : ℕ) → 2 ≤ j → (one_if (eqb j 0) + one_if (eqb j 1)) + 0 ≡ 0
no_third j h = let a : eqb j 0 ≡ false = ne_eqb j 0 (λ e. omega arith) in let b : eqb j 1 ≡ false = ne_eqb j 1 (λ e. omega arith) in rw (a, b) refl

-- and so is a wire between two names
one_wire_proper : IsProper one_wire
one_wire_proper = record { agent_ports = λ x i. refl; name_ends = two_occur; few_ends = λ j. let h = two_names j in omega arith; no_others = no_third }
