use Rattle.std.proofs.Common.{◌≡◌, List, [], ◌∷◌, inl, inr, sym, subst}
use Rattle.ic_path.specs.Orders.{IsIn}
use Rattle.ic_path.proofs.Alikes.{alike_then, alike_back, alike-in, alike-filter}
use Rattle.ic_path.proofs.InLists.{filter_cases}
use Rattle.ic_path.proofs.Picks.{none_in, in_first, in_more, in-cons_cases}
use Rattle.ic_name.specs.declared.ids.EventId.{EventId}
use Rattle.ic_name.specs.declared.ids.Link.{Link}
use Rattle.ic_name.specs.declared.ids.LinkId.{LinkId}
use Rattle.ic_name.specs.declared.ids.MakerId.{MakerId}
use Rattle.ic_name.specs.declared.ids.MakerId.TheVariants.{Start, Event}
use Rattle.ic_link.specs.Links.{AreMakers, of_start, with_maker, makers_of}
use Rattle.ic_test_text.proofs.table.side_by_side.Both.take_all.Goals as goal

-- An event stays among others where one more may come in front of them.
in_rest : (e : EventId) (m : MakerId) (es : List EventId) → IsIn e es → IsIn e (with_maker m es)
in_rest e Start es i = i
in_rest e (Event d) es i = in_more d i

-- An event that made a link of an id is among those that made links of the ids.
maker_in : (e : EventId) (ids : List LinkId) (id : LinkId) → IsIn id ids → id.maker ≡ Event e → IsIn e (makers_of ids)
maker_in e [] id i made = absurd (none_in i)
maker_in e (d ∷ ids) id i made = elim (in-cons_cases i) [
  | inl same ↦ subst (λ m. IsIn e (with_maker m (makers_of ids))) (sym (subst (λ (x : LinkId). x.maker ≡ Event e) same made)) (in_first e (makers_of ids))
  | inr j ↦ in_rest e d.maker (makers_of ids) (maker_in e ids id j made)
]

-- The makers of links whose ids are known are among the makers of these ids.
made : (ls : List Link) (ids : List LinkId) → ((l : Link) → IsIn l ls → IsIn l.id ids) → AreMakers (makers_of ids) ls
made ls ids known l e i is = maker_in e ids l.id (known l i) is

pub take_all-requires : goal.take_all-requires
take_all-requires c = rw (c.as_slice-2.ensures.value, c.in_ok-events.ensures, c.as_slice.ensures.value) (made _ _ c.requires.known)

pub take_all-requires-2 : goal.take_all-requires-2
take_all-requires-2 c = rw (c.as_slice-3.ensures.value, c.in_ok-events.ensures, c.as_slice.ensures.value) (made _ _ (λ l i. c.requires.known l (alike-in (alike_back c.requires.links) i)))

pub returns : goal.returns
returns c = record {
  links = alike_then (alike_back c.take_all.ensures) (alike_then (alike-filter of_start c.requires.links) c.take_all-2.ensures);
  known = λ l i. c.requires.known l (filter_cases of_start _ (alike-in (alike_back c.take_all.ensures) i)).0;
}
