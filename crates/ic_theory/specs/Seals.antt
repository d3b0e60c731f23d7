-- The order of links by which a ring has its seal.
use Rattle.std.specs.Prelude.{Bool}
use Rattle.std.specs.declared.cmp.Ordering.{Ordering}
use Rattle.std.specs.Option.{option_cmp}
use Rattle.std.specs.Ordering.{on, then_cmp, nat_cmp, is_lt}
use Rattle.ic_name.specs.Names.{name_cmp}
use Rattle.ic_name.specs.Events.{Event}
use Rattle.ic_theory.specs.Born.{Link}

-- the order of events by name: by lead, then by other
abbrev pub event_cmp : Event → Event → Ordering
event_cmp = then_cmp (on (λ e. e.lead) name_cmp) (on (λ e. e.other) name_cmp)

-- the order of links: by maker, the start before all events, then by place
abbrev pub link_cmp : Link → Link → Ordering
link_cmp = then_cmp (on (λ l. l.maker) (option_cmp event_cmp)) (on (λ l. l.place) nat_cmp)

-- a link comes before another one
abbrev pub comes_before : Link → Link → Bool
comes_before l m = is_lt (link_cmp l m)
