use Rattle.std.proofs.Common.{◌≡◌, ◌+◌, true, sym, subst, arith}
use Rattle.ic_session.specs.Streams.{left_in}
use Rattle.ic_session.proofs.ListedLines.{HasListed, listed_none, listed_more, listed_fails, listed_all, listed_none_all}
use Rattle.ic_session.proofs.listed_events.listed_events.Goals as goal
use Rattle.ic_session.proofs.listed_events.listed_events.Goals.{in-Event+in_ok-push-in-Event, in-Unlisted}

pub loop-taken-init : goal.loop-taken-init
loop-taken-init g c =
    let old = left_in g.R.Read.remaining c.args.source.now in
    record { listed = subst (λ events. HasListed old old 0 true events) (sym c.new-events.ensures.items) (listed_none old); less = omega arith; fewer = omega arith }

pub loop-taken-preserved : goal.loop-taken-preserved
loop-taken-preserved g c =
    let old = left_in g.R.Read.remaining c.args.source.now in
    let now = left_in g.R.Read.remaining c.loop-taken.source in
    let new = left_in g.R.Read.remaining c.next_listed.new.source in
    let listed : HasListed old new (c.loop-taken._taken + 1) c.match-branch-2.all c.match-branch-2.events.items = elim c.match-branch-2.branch [
      | in-Event+in_ok-push-in-Event w ↦
          rw (w.all-is, w.events-is, w.in_ok-push-in-Event.ensures.items) (listed_more old now new c.loop-taken._taken c.loop-taken.all c.loop-taken.events.items c.in_ok-event.field-0 w.in-Event.event c.loop-taken.invariant.listed w.in-Event.is c.in_ok-event.ensures.taken)
      | in-Unlisted w ↦
          rw (w.all-is, w.events-is) (listed_fails old now new c.loop-taken._taken c.loop-taken.all c.loop-taken.events.items c.in_ok-event.field-0 c.loop-taken.invariant.listed w.in-Unlisted.is c.in_ok-event.ensures.taken)
    ] in
    let before = c.loop-taken.invariant.less in
    let less = c.in_ok-event.ensures.less in
    let earlier = c.loop-taken.invariant.fewer in
    let fewer = c.in_ok-event.ensures.fewer in
    record { listed = listed; less = omega arith; fewer = omega arith }

pub returns-then-all-clause-taken : goal.returns-then-all-clause-taken
returns-then-all-clause-taken g c =
    let old = left_in g.R.Read.remaining c.args.source.now in
    let now = left_in g.R.Read.remaining c.loop-taken.source in
    let within = c.loop-taken.auto._taken-end in
    let over = c.loop-taken-test.false in
    let all : c.loop-taken._taken ≡ c.args.count = omega (arith, within, over) in
    listed_all old now c.args.count c.loop-taken.all c.loop-taken.events (subst (λ n. HasListed old now n c.loop-taken.all c.loop-taken.events.items) all c.loop-taken.invariant.listed) c.if-all.true

pub returns-else-all-clause-taken : goal.returns-else-all-clause-taken
returns-else-all-clause-taken g c =
    let old = left_in g.R.Read.remaining c.args.source.now in
    let now = left_in g.R.Read.remaining c.loop-taken.source in
    let within = c.loop-taken.auto._taken-end in
    let over = c.loop-taken-test.false in
    let all : c.loop-taken._taken ≡ c.args.count = omega (arith, within, over) in
    listed_none_all old now c.args.count c.loop-taken.all c.loop-taken.events.items (subst (λ n. HasListed old now n c.loop-taken.all c.loop-taken.events.items) all c.loop-taken.invariant.listed) c.if-all.false
