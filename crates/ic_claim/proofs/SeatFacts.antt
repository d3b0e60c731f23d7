-- What a seat keeps beside its view, after a draw and after a join.
use Rattle.std.proofs.Common.{◌≡◌, ℕ, ◌≤◌, Bool, [], ◌∷◌, sym, ap, ◌∙◌, subst, arith}
use Rattle.std.specs.Prelude.{if◌then◌else◌}
use Rattle.ic_claim.specs.declared.view.View.{View}
use Rattle.ic_claim.specs.Counts.{one_if, times}
use Rattle.ic_claim.specs.Views.{with_ticket, with_none, joined}
use Rattle.ic_claim.specs.Plays.{drawn}
use Rattle.ic_claim.proofs.Totals.{times-append, one_if-same}
use Rattle.ic_claim.proofs.Drawing.{nat_lt-not}

-- a draw that found the budget or more
pub drawn_past : (v w : View) (n : ℕ) → v.budget ≤ n → w ≡ drawn v n → w ≡ with_none v
drawn_past v w n past is = is ∙ ap (λ (c : Bool). if c then with_ticket v n else with_none v) (nat_lt-not n v.budget past)

-- the seat's own None is there then
pub none_noted : (v w : View) → w ≡ with_none v → 1 ≤ times w.number w.nones
none_noted v w is =
    let a = times-append v.number v.nones (v.number ∷ []) in
    let own = one_if-same v.number in
    subst (λ (z : View). 1 ≤ times z.number z.nones) (sym is) (omega arith)

-- a seat keeps its own None when it takes in another
pub joined_noted : (v w u : View) → w ≡ joined v u → one_if v.done ≤ times v.number v.nones → one_if w.done ≤ times w.number w.nones
joined_noted v w u is has =
    let a = times-append v.number v.nones u.nones in
    subst (λ (z : View). one_if z.done ≤ times z.number z.nones) (sym is) (omega arith)
