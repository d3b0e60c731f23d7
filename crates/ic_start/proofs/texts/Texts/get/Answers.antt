use Rattle.std.proofs.Common.{◌≡◌, ◌≤◌, sym, ◌∙◌, ap, Some, arith, length, slice_get}
use Rattle.ic_start.specs.Texts.{part, cut, begin}
use Rattle.ic_start.proofs.TextFacts.{text_read, none_read}
use Rattle.ic_start.proofs.texts.Texts.get.Goals as goal
use Rattle.ic_start.proofs.texts.Texts.get.Goals.{After-deref-3}

found : (c : After-deref-3) → (c.begin_of-begin.result ≤ c.in_ok-end.field-0.now) × (c.in_ok-end.field-0.now ≤ length c.deref-3.result.now)
    × (slice_get (cut c.self.inside.bytes.items 0 c.self.inside.ends.items) c.args.number ≡ Some (part c.deref-3.result.now c.begin_of-begin.result c.in_ok-end.field-0.now))
found c =
    let ends = c.self.inside.ends.items in
    let f = text_read c.self.inside.bytes.items ends c.deref.result.now (length c.self.inside.bytes.items) c.args.number c.in_ok-end.field-0.now c.self.invariant c.deref.ensures.value c.in_ok-end.ensures.lookup.0 c.in_ok-end.ensures.lookup.1 in
    let place : begin 0 ends c.args.number ≡ c.begin_of-begin.result = ap (λ xs. begin 0 xs c.args.number) (sym c.deref-2.ensures.value) ∙ sym c.begin_of-begin.ensures in
    rw (← place, c.deref-3.ensures.value) f

pub returns-in_err-end : goal.returns-in_err-end
returns-in_err-end c =
    rw (← c.self.view_is, c.from_residual.ensures) (sym (none_read c.self.inside.bytes.items c.self.inside.ends.items c.deref.result.now c.args.number c.deref.ensures.value c.in_err-end.ensures.lookup.0))

pub slice_bounds-result-count : goal.slice_bounds-result-count
slice_bounds-result-count c = (found c).0

pub slice_bounds-result-start : goal.slice_bounds-result-start
slice_bounds-result-start c = let f = found c in omega (arith, f.0, f.1)

pub slice_bounds-result-end : goal.slice_bounds-result-end
slice_bounds-result-end c = let f = found c in omega (arith, f.0, f.1)

pub returns : goal.returns
returns c = rw (← c.self.view_is) (sym (found (goal.at.returns c).After-deref-3).2)
