-- One interaction on a net without links (Lafont 1997), case by case.
use Rattle.std.specs.Prelude.{◌≡◌, ℕ, ◌+◌, ◌||◌, List, [], ◌∷◌, Option, Some, None, if◌then◌else◌, is_some}
use Rattle.std.specs.declared.cmp.Ordering.TheVariants.{Less}
use Rattle.ic_name.specs.Names.{Name, name_cmp}
use Rattle.ic_name.specs.Events.{Event}
use Rattle.ic_name.specs.Same.{same_name, same_port}
use Rattle.ic_name.specs.declared.kinds.Kind.{Kind}
use Rattle.ic_name.specs.declared.rules.RuleEnd.{RuleEnd}
use Rattle.ic_name.specs.declared.rules.RuleEnd.TheVariants.{Child}
use Rattle.ic_name.specs.declared.ports.Port.{Port}
use Rattle.ic_name.specs.declared.ports.Port.TheVariants.{Of}
use Rattle.ic_theory.specs.Rules.{born_ends}
use Rattle.ic_theory.specs.Born.{port_of, born_agents}
use Rattle.ic_theory.specs.Nets.{Net, IsSameNet, kind_among}

-- a step is defined: the event's agents stand in the net, of these kinds, and their principal ports are partners
pub record Meets (n : Net) (e : Event) : Type 0 where
  pub lead : n.kind e.lead ≡ Some e.lead_kind
  pub other : n.kind e.other ≡ Some e.other_kind
  pub partners : n.partner (Of e.lead 0) ≡ Some (Of e.other 0)
  pub ordered : name_cmp e.lead e.other ≡ Less

-- the partner of each port, and the number of rings, while the links of a rule are taken one by one
pub record Wiring : Type 0 where
  pub partner : Port → Option Port
  pub rings : ℕ

-- the port has no partner any more
abbrev pub without : Port → (Port → Option Port) → Port → Option Port
without p partner x = if same_port x p then None else partner x

-- the two ports are partners now
abbrev pub with_wire : Port → Port → (Port → Option Port) → Port → Option Port
with_wire p q partner x = if same_port x p then Some q else (if same_port x q then Some p else partner x)

-- a link between two ports of the pair: where they are partners there is one ring more, else their partners become
-- partners
abbrev pub join_found : Option Port → Option Port → Port → Port → Wiring → Wiring
join_found (Some x) (Some y) p q w =
    if same_port x q
    then record { partner = without p (without q w.partner); rings = w.rings + 1 }
    else record { partner = with_wire x y (without p (without q w.partner)); rings = w.rings }
join_found _ _ p q w = w

-- a link from a child's port to a port of the pair: that port's partner becomes the child's
abbrev pub pass_found : Option Port → Port → Port → Wiring → Wiring
pass_found (Some x) c p w = record { partner = with_wire c x (without p w.partner); rings = w.rings }
pass_found None c p w = w

-- the link of a rule is taken, between these ports; one between children joins them
abbrev pub take_link : RuleEnd → RuleEnd → Port → Port → Wiring → Wiring
take_link (Child i j) (Child k l) p q w = record { partner = with_wire p q w.partner; rings = w.rings }
take_link (Child i j) _ p q w = pass_found (w.partner q) p q w
take_link _ (Child k l) p q w = pass_found (w.partner p) q p w
take_link _ _ p q w = join_found (w.partner p) (w.partner q) p q w

-- the links are taken by place, each on the partners as they then are
abbrev pub take_links : Event → List (RuleEnd × RuleEnd) → Wiring → Wiring
take_links e [] w = w
take_links e (l ∷ ls) w = take_links e ls (take_link l.0 l.1 (port_of e l.0) (port_of e l.1) w)

-- the wire between the two principal ports is taken away
abbrev pub without_pair : Event → (Port → Option Port) → Port → Option Port
without_pair e partner = without (Of e.lead 0) (without (Of e.other 0) partner)

-- the pair's agents go, the children come
abbrev pub kind_after : (Name → Option Kind) → Event → Name → Option Kind
kind_after kind e n =
    if same_name n e.lead || same_name n e.other then None
    else (let born = kind_among n (born_agents e) in if is_some born then born else kind n)

-- one plain interaction
abbrev pub plain_step : Net → Event → Net
plain_step n e =
    let w = take_links e (born_ends n.profile e.lead_kind e.other_kind) (record { partner = without_pair e n.partner; rings = n.rings }) in
    record { kind = kind_after n.kind e; partner = w.partner; rings = w.rings; profile = n.profile }

-- the steps along a list, the earliest event first
abbrev pub steps : Net → List Event → Net
steps n [] = n
steps n (e ∷ es) = steps (plain_step n e) es

-- each step along the list is defined
abbrev pub AreDefined : Net → List Event → Type 0
AreDefined n [] = Unit {0}
AreDefined n (e ∷ es) = Meets n e × AreDefined (plain_step n e) es

-- the steps along the list are defined, and end in the other net
abbrev pub EndIn : Net → List Event → Net → Type 0
EndIn n list end = AreDefined n list × IsSameNet (steps n list) end
