use Rattle.std.proofs.Common.{◌≡◌, ◌+◌, ◌≤◌, All, None, vec_len, vec_capacity}
use Rattle.ic_shared.specs.Passes.{empty_pass}
use Rattle.ic_work.specs.Workers.{IsGuest}
use Rattle.ic_work.proofs.preparing.Prepared.split_off_others.Given as goal

abbrev pub invariant-loop-number : goal.invariant-loop-number
invariant-loop-number g l =
    (l.self.seat.table ≡ l.fn.self.claims.table)
    × (l.self.seat.view.held ≡ None)
    × (l.self.seat.view.number ≡ 0)
    × (l.self.seat.view.budget ≡ l.fn.self.claims.budget)
    × (l.self.seat.view.given + 1 ≡ l.number)
    × (vec_len l.self.hints + l.number ≡ vec_len l.initial.passes + 1)
    × (vec_len l.passes + l.number ≡ vec_len l.initial.passes + 1)
    × (vec_len l.self.others + 1 ≡ l.number)
    × (vec_len l.initial.passes ≤ vec_capacity l.self.others)
    × All (λ p. p ≡ empty_pass) l.passes.items
    × All (λ w. IsGuest l.fn.self.claims.table w.seat w.pass) l.self.others.items
    × (l.self.claims ≡ l.fn.self.claims)
    × (l.self.off ≡ l.fn.self.off)
    × (l.self.home ≡ l.fn.self.home)
