use Rattle.std.proofs.Common.{List, length, refl, ap, subst, arith, ◌∙◌}
use Rattle.ic_path.specs.Orders.{IsIn}
use Rattle.ic_answer.specs.Texts.{refusal_text}
use Rattle.ic_answer.specs.declared.refused.Refused.TheVariants.{TooManyMarks}
use Rattle.ic_desk.specs.Places.{IsPlace}
use Rattle.ic_desk.specs.Replies.{marked_text}
use Rattle.ic_desk.specs.Views.{NamedView, IsMarkOn}
use Rattle.ic_desk.proofs.DeskTurns.{marks_turns, too_many_turns}
use Rattle.ic_desk.proofs.Marks.{has_none, has_some, place_in, put_all}
use Rattle.ic_desk.proofs.Stoods.{marks_now}
use Rattle.ic_desk.proofs.marking.marked.Goals.{else-is_none-via-then-is_none+else-full, else-is_none-via-else-is_none}
use Rattle.ic_desk.proofs.marking.marked.Goals as goal

pub returns-then-full-clause-turns : goal.returns-then-full-clause-turns
returns-then-full-clause-turns g c =
    let none = has_none c.place_of-place.result c.is_none.result c.is_none.ensures c.if-is_none.true in
    let place = rw c.deref.ensures.value at c.place_of-place.ensures in
    let many = c.if-full.true in
    let one = c.len-full.ensures in
    let two = c.deref.ensures.len in
    let three = ap length c.deref.ensures.value in
    too_many_turns c.args.bench.now c.args.marks.now.items c.args.name (refusal_text TooManyMarks)
    (subst (λ p. IsPlace c.args.marks.now.items c.args.name p) none place) (omega (arith, many, one, two, three)) refl

pub put-requires : goal.put-requires
put-requires g c = place_in c.args.marks.now.items c.args.name c.place_of-place.result (rw c.deref.ensures.value at c.place_of-place.ensures)

pub returns-in_err-put-clause-desk : goal.returns-in_err-put-clause-desk
returns-in_err-put-clause-desk g c = λ x i. c.requires x (subst (λ (xs : List NamedView). IsIn x xs) c.in_err-put.ensures.same i)

pub returns-clause-turns : goal.returns-clause-turns
returns-clause-turns g c =
    marks_turns c.args.bench.now c.args.marks.now.items c.args.name c.put.new.marks.items c.place_of-place.result c.in_ok-mark.mark c.lines-since.result c.in_ok-text.text.items
    (rw c.deref.ensures.value at c.place_of-place.ensures)
    (λ none. elim c.else-is_none.branch [
      | else-is_none-via-then-is_none+else-full w ↦ (
          let few = w.if-full.false in
          let one = c.len-full.ensures in
          let two = c.deref.ensures.len in
          let three = ap length c.deref.ensures.value in
          omega (arith, few, one, two, three))
      | else-is_none-via-else-is_none w ↦ absurd (has_some c.place_of-place.result c.is_none.result c.is_none.ensures w.if-is_none.false none)
    ])
    c.in_ok-put.ensures.puts c.in_ok-mark.ensures (c.in_ok-text.ensures ∙ ap (marked_text c.args.name) c.event_count.ensures)

pub returns-clause-desk : goal.returns-clause-desk
returns-clause-desk g c =
    let x : NamedView = record { name = c.args.name; mark = c.in_ok-mark.mark; since = c.lines-since.result } in
    put_all (λ (y : NamedView). IsMarkOn c.args.bench.now y) c.args.marks.now.items c.put.new.marks.items c.place_of-place.result x
    (place_in c.args.marks.now.items c.args.name c.place_of-place.result (rw c.deref.ensures.value at c.place_of-place.ensures)) c.in_ok-put.ensures.puts c.requires
    (marks_now c.args.bench.now x c.lawful.ensures c.in_ok-mark.ensures.start c.lines-since.ensures c.in_ok-mark.ensures.events)
