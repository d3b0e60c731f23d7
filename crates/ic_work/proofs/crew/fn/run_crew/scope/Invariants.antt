use Rattle.std.proofs.Common.{◌≡◌, ◌+◌, ◌≤◌, All, length, vec_len, vec_capacity}
use Rattle.ic_work.specs.Workers.{IsFirst, IsGuest}
use Rattle.ic_work.proofs.crew.fn.run_crew.scope.Given as goal

abbrev pub invariant-loop-worker : goal.invariant-loop-worker
invariant-loop-worker g l = record {
  first : IsFirst l.floor.claims.now.table l.floor.claims.now.budget l.first.seat l.first.pass l.home.items;
  guests : All (λ w. IsGuest l.floor.claims.now.table w.seat w.pass) l.others.items;
  promised : All (λ h. h.promise.claims.value.table ≡ l.floor.claims.now.table) l.handles.items;
  begun : l.started + vec_len l.others ≡ vec_len l.initial.others;
  off : l.started + vec_len l.others ≤ length l.floor.off.now;
  handles : vec_len l.handles + vec_len l.others ≤ vec_capacity l.handles;
  few : vec_len l.handles + vec_len l.others ≤ vec_len l.initial.others;
  all : vec_len l.home + vec_len l.handles + vec_len l.others ≡ vec_len l.initial.home + vec_len l.initial.others;
  room : vec_len l.initial.home + vec_len l.initial.others ≤ vec_capacity l.home;
  capacity : vec_capacity l.home ≡ vec_capacity l.initial.home;
}

abbrev pub decreases-loop-worker : goal.decreases-loop-worker
decreases-loop-worker g l = goal.left-loop-worker g l

abbrev pub invariant-loop-handle : goal.invariant-loop-handle
invariant-loop-handle g l = record {
  first : IsFirst l.floor.claims.now.table l.floor.claims.now.budget l.first.seat l.first.pass l.home.items;
  promised : All (λ h. h.promise.claims.value.table ≡ l.floor.claims.now.table) l.handles.items;
  all : vec_len l.home + vec_len l.handles ≡ vec_len l.initial.home + vec_len l.initial.handles;
  room : vec_len l.initial.home + vec_len l.initial.handles ≤ vec_capacity l.home;
  capacity : vec_capacity l.home ≡ vec_capacity l.initial.home;
}

abbrev pub decreases-loop-handle : goal.decreases-loop-handle
decreases-loop-handle g l = goal.left-loop-handle g l
