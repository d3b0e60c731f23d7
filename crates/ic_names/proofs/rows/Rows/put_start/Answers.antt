use Rattle.std.proofs.Common.{◌∙◌, ap, arith, Some}
use Rattle.ic_names.proofs.RowNames.{counted}
use Rattle.ic_names.proofs.Origins.{start_told}
use Rattle.ic_names.proofs.PutRows.{new_entry, start_anchor, put_start_names, put_start_rows}
use Rattle.ic_names.proofs.rows.Rows.put_start.Goals as goal

pub overflow_cast-place : goal.overflow_cast-place
overflow_cast-place c =
    let es = c.self.inside.entries.items in
    omega (arith, counted es c.len-place.result _ c.len-place.ensures c.self.inside.entries.ok.0, c.self.invariant.table.few)

pub some-requires : goal.some-requires
some-requires c =
    let es = c.self.inside.entries.items in
    let few = rw (← c.self.view_is) at c.requires.few in
    omega (arith, counted es c.len-place.result _ c.len-place.ensures c.self.inside.entries.ok.0, few)

pub invariant_of-self : goal.invariant_of-self
invariant_of-self c =
    let es = c.self.inside.entries.items in
    let absent = rw (← c.self.view_is) at c.requires.absent in
    let few = rw (← c.self.view_is) at c.requires.few in
    let reserved = rw (← c.self.view_is) at c.requires.reserved in
    let place = counted es c.len-place.result _ c.len-place.ensures c.self.inside.entries.ok.0 in
    let origin = start_told c.new-entry.result c.args.number c.requires.proper (ap (λ e. e.key.0) c.new-entry.ensures ∙ c.start-key.ensures) in
    put_start_rows es c.push.new.self.items c.self.inside.starts.items c.args.number c.from.result c.some.result c.new-entry.result c.self.invariant c.in-Ok.ensures.items
    (new_entry _ _ _ _ _ _ _ c.new-entry.ensures c.start-key.ensures (c.start.ensures c.args.number) (start_anchor _ c.args.number _ place) origin) c.requires.proper absent few reserved c.from.ensures
    (c.some.ensures ∙ ap Some (c.len-place.ensures ∙ c.self.inside.entries.ok.0))

pub returns-clause-names : goal.returns-clause-names
returns-clause-names c =
    let origin = start_told c.new-entry.result c.args.number c.requires.proper (ap (λ e. e.key.0) c.new-entry.ensures ∙ c.start-key.ensures) in
    rw (← c.self.view_is) (put_start_names c.self.inside.entries.items c.push.new.self.items c.args.number c.new-entry.result c.in-Ok.ensures.items origin)

pub returns-clause-place : goal.returns-clause-place
returns-clause-place c = rw (← c.self.view_is) (counted c.self.inside.entries.items c.len-place.result _ c.len-place.ensures c.self.inside.entries.ok.0)
