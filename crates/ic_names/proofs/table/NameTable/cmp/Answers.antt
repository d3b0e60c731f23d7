use Rattle.std.proofs.Common.{◌≡◌, ◌∙◌, sym, arith}
use Rattle.ic_names.specs.Keys.{key_of}
use Rattle.ic_names.specs.Tables.{name_at}
use Rattle.ic_names.proofs.KeyOrders.{key_less, key_greater, key_tied, tied_order}
use Rattle.ic_names.proofs.PlaceNames.{place_proper, keyed_inside, least_equal}
use Rattle.ic_names.proofs.table.NameTable.cmp.Goals as goal

pub returns-then-left-right : goal.returns-then-left-right
returns-then-left-right c =
    let ns = c.self.inside.rows.names in
    let left = rw (← c.self.view_is) at c.key.ensures in
    let right = rw (← c.self.view_is) at c.key-2.ensures in
    rw (← c.self.view_is) (sym (key_less _ _ (place_proper ns c.lawful.ensures c.args.a.place) (place_proper ns c.lawful.ensures c.args.b.place) (omega (arith, left, right, c.number-left.ensures, c.number-right.ensures, c.if-left-right.true))))

pub returns-then-right-left : goal.returns-then-right-left
returns-then-right-left c =
    let ns = c.self.inside.rows.names in
    let left = rw (← c.self.view_is) at c.key.ensures in
    let right = rw (← c.self.view_is) at c.key-2.ensures in
    rw (← c.self.view_is) (sym (key_greater _ _ (place_proper ns c.lawful.ensures c.args.a.place) (place_proper ns c.lawful.ensures c.args.b.place) (omega (arith, left, right, c.number-left.ensures, c.number-right.ensures, c.if-right-left.true))))

pub returns-then-left-eq0 : goal.returns-then-left-eq0
returns-then-left-eq0 c =
    let ns = c.self.inside.rows.names in
    let left = rw (← c.self.view_is) at c.key.ensures in
    let right = rw (← c.self.view_is) at c.key-2.ensures in
    let same : key_of (name_at ns c.args.a.place) ≡ key_of (name_at ns c.args.b.place) = omega (arith, left, right, c.number-left.ensures, c.number-right.ensures, c.if-left-right.false, c.if-right-left.false) in
    let none : key_of (name_at ns c.args.a.place) ≡ 0 = omega (arith, left, c.number-left.ensures, c.if-left-eq0.true) in
    rw (← c.self.view_is) (least_equal _ _ (place_proper ns c.lawful.ensures c.args.a.place) (place_proper ns c.lawful.ensures c.args.b.place) same none)

pub digit_order-requires-clause-left : goal.digit_order-requires-clause-left
digit_order-requires-clause-left c =
    let ns = c.self.inside.rows.names in
    let left = rw (← c.self.view_is) at c.key.ensures in
    keyed_inside ns c.args.a.place (λ none. absurd (omega (arith, none, left, c.number-left.ensures, c.if-left-eq0.false)))

pub digit_order-requires-clause-right : goal.digit_order-requires-clause-right
digit_order-requires-clause-right c =
    let ns = c.self.inside.rows.names in
    let right = rw (← c.self.view_is) at c.key-2.ensures in
    keyed_inside ns c.args.b.place (λ none. absurd (omega (arith, none, right, c.number-left.ensures, c.number-right.ensures, c.if-left-right.false, c.if-right-left.false, c.if-left-eq0.false)))

pub digit_order-requires-clause-depth : goal.digit_order-requires-clause-depth
digit_order-requires-clause-depth c =
    let ns = c.self.inside.rows.names in
    let left = rw (← c.self.view_is) at c.key.ensures in
    let right = rw (← c.self.view_is) at c.key-2.ensures in
    let same : key_of (name_at ns c.args.a.place) ≡ key_of (name_at ns c.args.b.place) = omega (arith, left, right, c.number-left.ensures, c.number-right.ensures, c.if-left-right.false, c.if-right-left.false) in
    (key_tied _ _ (place_proper ns c.lawful.ensures c.args.a.place) (place_proper ns c.lawful.ensures c.args.b.place) same).0

pub digit_order-requires-clause-start : goal.digit_order-requires-clause-start
digit_order-requires-clause-start c =
    let ns = c.self.inside.rows.names in
    let left = rw (← c.self.view_is) at c.key.ensures in
    let right = rw (← c.self.view_is) at c.key-2.ensures in
    let same : key_of (name_at ns c.args.a.place) ≡ key_of (name_at ns c.args.b.place) = omega (arith, left, right, c.number-left.ensures, c.number-right.ensures, c.if-left-right.false, c.if-right-left.false) in
    (key_tied _ _ (place_proper ns c.lawful.ensures c.args.a.place) (place_proper ns c.lawful.ensures c.args.b.place) same).1

pub returns : goal.returns
returns c =
    let ns = c.self.inside.rows.names in
    let left = rw (← c.self.view_is) at c.key.ensures in
    let right = rw (← c.self.view_is) at c.key-2.ensures in
    let same : key_of (name_at ns c.args.a.place) ≡ key_of (name_at ns c.args.b.place) = omega (arith, left, right, c.number-left.ensures, c.number-right.ensures, c.if-left-right.false, c.if-right-left.false) in
    let tied = key_tied _ _ (place_proper ns c.lawful.ensures c.args.a.place) (place_proper ns c.lawful.ensures c.args.b.place) same in
    rw (← c.self.view_is) (c.digit_order.ensures ∙ tied_order _ _ tied.0 tied.1)
