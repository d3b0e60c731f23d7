use Rattle.std.proofs.Common.{◌≡◌, true, not, sym, ap, ◌∙◌}
use Rattle.ic_path.proofs.Alikes.{alike_back, alike-in}
use Rattle.ic_path.proofs.InLists.{filter_cases}
use Rattle.ic_name.specs.declared.ids.Link.{Link}
use Rattle.ic_name.specs.declared.ids.LinkId.{LinkId}
use Rattle.ic_name.specs.declared.ids.MakerId.TheVariants.{Event}
use Rattle.ic_name.specs.Spots.{made_by, is_maker}
use Rattle.ic_name.proofs.SameFacts.{same_event_self}
use Rattle.ic_test_text.proofs.table.paths.put.Goals as goal

-- No other link of the event is left, so the id is fresh.
pub add-requires : goal.add-requires
add-requires c = record {
  fresh = λ m i e. (
      let event = c.event.result in
      let left : not (made_by event m) ≡ true = (filter_cases (λ (l : Link). not (made_by event l)) _ (alike-in (alike_back c.take_of.ensures.drops) i)).1 in
      let made : made_by event m ≡ true = ap (λ (d : LinkId). is_maker event d.maker) e ∙ ap (is_maker event) (c.link-added.ensures ∙ ap Event (sym c.event.ensures)) ∙ same_event_self event in
      let bad : ⊥ = cc in
      bad
      );
  room = c.has_room.ensures.0 c.if-not-has_room.false;
}
