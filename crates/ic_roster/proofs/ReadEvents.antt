-- An event that is read from the table.
use Rattle.std.proofs.Common.{◌≡◌, ◌≢◌, List, Some, sym, ap, cond, ◌∙◌}
use Rattle.std.specs.List.{slice_get}
use Rattle.std.specs.Ordering.{is_gt}
use Rattle.std.specs.declared.cmp.Ordering.TheVariants.{Less}
use Rattle.std.proofs.lemmas.Option.{get_or_from_slice_get}
use Rattle.ic_name.specs.Names.{Name, name_cmp, start_name}
use Rattle.ic_name.specs.Events.{Event, event_of}
use Rattle.ic_name.proofs.NameOrder.{name_less_apart}
use Rattle.ic_names.specs.Tables.{name_at}
use Rattle.ic_roster.specs.declared.interaction.Interaction.{Interaction}
use Rattle.ic_roster.specs.Rosters.{event_in, IsNamed}

module _ (ns : List Name) (i : Interaction) (m n : Name) (named : IsNamed ns i) (lead : slice_get ns i.lead.place ≡ Some m) (other : slice_get ns i.other.place ≡ Some n) where
  -- the lead stands at its place
  lead_is : name_at ns i.lead.place ≡ m
  lead_is = get_or_from_slice_get ns i.lead.place m (start_name 0) lead

  -- the other stands at its place
  other_is : name_at ns i.other.place ≡ n
  other_is = get_or_from_slice_get ns i.other.place n (start_name 0) other

  -- the lead is the lesser one
  lesser : name_cmp m n ≡ Less
  lesser = (λ u. name_cmp (sym lead_is u) (sym other_is u)) ∙ named.ordered

  -- the two names differ
  pub names_apart : m ≢ n
  names_apart = name_less_apart m n lesser

  -- the event of the two names is the one that is told by their places
  pub event_read : event_of m i.lead_kind n i.other_kind ≡ event_in ns i
  event_read =
      let swapped : Event = record { lead = n; lead_kind = i.other_kind; other = m; other_kind = i.lead_kind } in
      let straight : Event = record { lead = m; lead_kind = i.lead_kind; other = n; other_kind = i.other_kind } in
      let made : event_of m i.lead_kind n i.other_kind ≡ straight = ap (λ o. cond (is_gt o) swapped straight) lesser in
      made ∙ λ u. record { lead = sym lead_is u; lead_kind = i.lead_kind; other = sym other_is u; other_kind = i.other_kind }
