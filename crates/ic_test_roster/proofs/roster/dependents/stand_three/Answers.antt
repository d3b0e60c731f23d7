use Rattle.std.proofs.Common.{◌≡◌, ◌≢◌, List, [], ◌∷◌, inl, inr, ap, All, arith}
use Rattle.std.proofs.lemmas.List.Elements.{All-nil, All-cons}
use Rattle.ic_path.proofs.EachOnce.{once_cons}
use Rattle.ic_path.proofs.Picks.{none_in, in-cons_cases}
use Rattle.ic_name.specs.declared.ids.EventId.{EventId as AnEventId}
use Rattle.ic_roster.specs.Rosters.{Stander, Stands}
use Rattle.ic_test_roster.proofs.roster.dependents.stand_three.Goals as goal
use Rattle.ic_path.specs.Orders.{IsOnce}

-- nothing is in the empty list twice
once_none : IsOnce {X = AnEventId} []
once_none d rest k i = elim k [ ]

-- an event alone is there once
once_alone : (d : AnEventId) → IsOnce (d ∷ [])
once_alone d = once_cons {x = d} {xs = []} (λ i. none_in i) once_none

-- two events of two lines are there once
once_both : (d e : AnEventId) → d.line ≢ e.line → IsOnce (d ∷ e ∷ [])
once_both d e apart = once_cons {x = d} {xs = e ∷ []} (λ i. elim (in-cons_cases i) [ inl same ↦ apart (ap (λ (f : AnEventId). f.line) same) | inr j ↦ none_in j ]) (once_alone e)

pub stand_after-requires-2-clause-once : goal.stand_after-requires-2-clause-once
stand_after-requires-2-clause-once c = once_alone c.in_ok-first.first

-- both of two events stand
both_stand : (xs : List Stander) (d e : AnEventId) → Stands xs d → Stands xs e → All (Stands xs) (d ∷ e ∷ [])
both_stand xs d e first second = All-cons (Stands xs) d (e ∷ []) first (All-cons (Stands xs) e [] second (All-nil (Stands xs)))

pub stand_after-requires-3-clause-standing : goal.stand_after-requires-3-clause-standing
stand_after-requires-3-clause-standing c = both_stand _ c.in_ok-first.first c.in_ok-second.second (c.stand_after-2.ensures.kept c.in_ok-first.first c.in_ok-first.ensures.there) c.in_ok-second.ensures.there

pub stand_after-requires-3-clause-once : goal.stand_after-requires-3-clause-once
stand_after-requires-3-clause-once c = once_both c.in_ok-first.first c.in_ok-second.second (λ same. (let first : c.in_ok-first.first.line ≡ 4 = c.in_ok-first.ensures.in_line in let second : c.in_ok-second.second.line ≡ 2 = c.in_ok-second.ensures.in_line in omega (arith, same, first, second)))
