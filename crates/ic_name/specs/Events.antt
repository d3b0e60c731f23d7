-- Events: two agents that meet, the lesser one first.
use Rattle.std.specs.Prelude.{if◌then◌else◌}
use Rattle.std.specs.declared.cmp.Ordering.{Ordering}
use Rattle.std.specs.Ordering.{is_gt, on, then_cmp}
use Rattle.ic_name.specs.Names.{Name, name_cmp}
use Rattle.ic_name.specs.declared.kinds.Kind.{Kind}

-- the name of an event: its lead and the other agent
pub record Pair : Type 0 where
  pub lead : Name
  pub other : Name

-- names of events by lead, then by other agent
abbrev pub pair_cmp : Pair → Pair → Ordering
pair_cmp = then_cmp (on (λ p. p.lead) name_cmp) (on (λ p. p.other) name_cmp)

-- an event: its two agents with their kinds
pub record Event : Type 0 where
  pub lead : Name
  pub lead_kind : Kind
  pub other : Name
  pub other_kind : Kind

-- the name of an event
abbrev pub pair : Event → Pair
pair e = record { lead = e.lead; other = e.other }

-- the two names, the lesser first
abbrev pub pair_of : Name → Name → Pair
pair_of a b = if is_gt (name_cmp a b) then record { lead = b; other = a } else record { lead = a; other = b }

-- the two agents with their kinds, the lesser first
abbrev pub event_of : Name → Kind → Name → Kind → Event
event_of a ka b kb =
    if is_gt (name_cmp a b)
    then record { lead = b; lead_kind = kb; other = a; other_kind = ka }
    else record { lead = a; lead_kind = ka; other = b; other_kind = kb }
