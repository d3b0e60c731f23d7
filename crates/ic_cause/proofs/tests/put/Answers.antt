use Rattle.std.proofs.Common.{inl, inr, ap, arith, rules}
use Rattle.ic_path.proofs.Picks.{in-cons_cases}
use Rattle.ic_path.proofs.Alikes.{alike_back, alike-in}
use Rattle.ic_name.specs.declared.ids.Link.{Link}
use Rattle.ic_name.specs.declared.ids.LinkId.{LinkId}
use Rattle.ic_cause.proofs.tests.put.Goals as goal

pub add-requires : goal.add-requires
add-requires c = record {
  fresh = λ m i same. let place = ap (λ (j : LinkId). j.place) same in omega (arith, c.requires m i, place);
  room = c.has_room.ensures.0 (search rules);
}

pub returns : goal.returns
returns c m i =
    elim (in-cons_cases (alike-in (alike_back c.in_ok-add.ensures.ok) i)) [
      | inl same ↦ (let place = ap (λ (l : Link). l.id.place) same in omega (arith, place))
      | inr before ↦ omega (arith, c.requires m before)
    ]
