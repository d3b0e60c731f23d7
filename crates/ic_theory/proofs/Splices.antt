-- The plain step as one uniform splice: far ends as a total function, on which the links of a rule are put one by one.
use Rattle.std.proofs.Common.{ℕ, ◌+◌, List, [], ◌∷◌, Some, None}
use Rattle.std.specs.Prelude.{if◌then◌else◌, is_some, unwrap_or}
use Rattle.ic_name.specs.Events.{Event}
use Rattle.ic_name.specs.Same.{same_port}
use Rattle.ic_name.specs.declared.ports.Port.{Port}
use Rattle.ic_name.specs.declared.ports.Port.TheVariants as port
use Rattle.ic_path.specs.FarEnds.{splice}
use Rattle.ic_theory.specs.Born.{born_joins}
use Rattle.ic_theory.specs.Starts.{net_shape}
use Rattle.ic_theory.specs.Nets.{Net, is_loose}
use Rattle.ic_theory.specs.Steps.{kind_after}

-- far ends and rings while the links of a rule are taken one by one; a port without a partner is its own far end
pub record Ends : Type 0 where
  pub far : Port → Port
  pub rings : ℕ

-- a link splices the far ends of its two ports, or closes a ring where they are each other's
abbrev pub join : Ends → Port × Port → Ends
join w l = record { far = splice net_shape w.far l.0 l.1; rings = (if same_port (w.far l.0) l.1 then 1 else 0) + w.rings }

-- the links in turn
abbrev pub join_all : Ends → List (Port × Port) → Ends
join_all w [] = w
join_all w (l ∷ ls) = join_all (join w l) ls

-- one plain interaction by splices
abbrev pub spliced_step : Net → Event → Net
spliced_step n e =
    let w = join_all (record { far = λ p. unwrap_or (n.partner p) p; rings = n.rings }) (born_joins n.profile e) in
    record {
      kind = kind_after n.kind e;
      partner = λ p. if is_loose (kind_after n.kind e) (λ j. is_some (n.partner (port.Name j))) p then Some (w.far p) else None;
      rings = w.rings;
      profile = n.profile;
    }
