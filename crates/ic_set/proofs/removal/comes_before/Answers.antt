use Rattle.std.proofs.Common.{ap, ◌∙◌}
use Rattle.std.specs.Ordering.{is_lt}
use Rattle.ic_set.proofs.LeastEvents.{compared, one_told}
use Rattle.ic_set.proofs.KeyedOrders.{keyed_canonical}
use Rattle.ic_set.proofs.removal.comes_before.Goals as goal

pub returns-in_default : goal.returns-in_default
returns-in_default c = λ x y rank i j e f noted. absurd (c.in_default.ensures.absent x i e)

pub returns-in_default-event : goal.returns-in_default-event
returns-in_default-event c = λ x y rank i j e f noted. absurd (c.in_default-event.ensures.absent y j f)

pub returns : goal.returns
returns c =
    let ns = c.args.roster.now.names in
    let order = rw c.names-names.ensures at c.canonical_order.ensures in
    let first = rw c.names-names.ensures at (c.placed_event-a.ensures.keyed (rw c.names-names.ensures c.in-Some.ensures.named.lead)) in
    let second = rw c.names-names.ensures at (c.placed_event-b.ensures.keyed (rw c.names-names.ensures c.in-Some-event.ensures.named.lead)) in
    λ x y rank i j e f noted.
    (c.is_lt.ensures ∙ ap is_lt (compared c.args.roster.now.events c.lawful.ensures.lines x y c.args.first c.args.second _ _ _ _ rank c.canonical_order.result i j c.in-Some.ensures.found c.in-Some-event.ensures.found e f noted
    (λ r h k. order ∙ keyed_canonical ns c.lawful.ensures.table _ _ _ _ _ _ c.placed_event-a.ensures.lead c.placed_event-b.ensures.lead c.placed_event-a.ensures.rank c.placed_event-b.ensures.rank first second (one_told c.args.roster.now.events c.lawful.ensures.lines _ _ _ _ _ _ c.in-Some.ensures.found c.in-Some-event.ensures.found) r h k)))
