use Rattle.std.proofs.Common.{◌≡◌, ◌+◌, ◌≤◌, All, vec_len, vec_capacity}
use Rattle.ic_work.specs.Workers.{IsFirst, IsGuest}
use Rattle.ic_work.proofs.crew.take_all_in.Given as goal

abbrev pub invariant-loop-worker : goal.invariant-loop-worker
invariant-loop-worker g l = record {
  first : IsFirst l.claims.table l.claims.budget l.first.seat l.first.pass l.home.items;
  guests : All (λ w. IsGuest l.claims.table w.seat w.pass) l.others.items;
  room : vec_len l.home + vec_len l.others ≤ vec_capacity l.home;
  all : vec_len l.home + vec_len l.others ≡ vec_len l.initial.home + vec_len l.initial.others;
  capacity : vec_capacity l.home ≡ vec_capacity l.initial.home;
}

abbrev pub decreases-loop-worker : goal.decreases-loop-worker
decreases-loop-worker g l = vec_len l.others
