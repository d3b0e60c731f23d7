use Rattle.std.proofs.Common.{◌∙◌, ap, arith, Some}
use Rattle.std.proofs.lemmas.List.{get_or_read}
use Rattle.ic_name.specs.Names.{start_name}
use Rattle.ic_names.specs.Tables.{name_at}
use Rattle.ic_names.specs.Rows.{names_of, origin_of}
use Rattle.ic_names.proofs.KeyOrders.{name_proper}
use Rattle.ic_names.proofs.Grown.{stands_old}
use Rattle.ic_names.proofs.RowNames.{counted, place_inside}
use Rattle.ic_names.proofs.Origins.{child_told}
use Rattle.ic_names.proofs.PutRows.{new_entry, parent_read, parent_written, put_child_names, put_child_rows}
use Rattle.ic_names.proofs.rows.Rows.put_child.Goals as goal

pub overflow_cast-place : goal.overflow_cast-place
overflow_cast-place c =
    let es = c.self.inside.entries.items in
    omega (arith, counted es c.len-place.result _ c.len-place.ensures c.self.inside.entries.ok.0, c.self.invariant.table.few)

pub index-requires : goal.index-requires
index-requires c = omega (arith, c.self.inside.entries.ok.0, place_inside c.self.inside.entries.items c.args.parent (rw (← c.self.view_is) at c.requires.inside))

pub child-key-requires-clause-key : goal.child-key-requires-clause-key
child-key-requires-clause-key c =
    let es = c.self.inside.entries.items in
    let inside = rw (← c.self.view_is) at c.requires.inside in
    let within = place_inside es c.args.parent inside in
    let read = get_or_read es c.args.parent c.index.result.now within c.index.ensures _ in
    let shallow = rw (← c.self.view_is) at c.requires.shallow in
    let proper = c.self.invariant.table.proper c.args.parent (start_name 0) inside in
    (name_at (names_of es) c.args.parent, name_proper _ proper, ap (λ e. e.key.0) read ∙ c.self.invariant.keys c.args.parent within, omega (arith, shallow))

pub index_mut-entry-requires : goal.index_mut-entry-requires
index_mut-entry-requires c =
    let within = place_inside c.self.inside.entries.items c.args.parent (rw (← c.self.view_is) at c.requires.inside) in
    omega (arith, c.self.inside.entries.ok.0, c.in-Ok.ensures.len)

pub some-requires : goal.some-requires
some-requires c =
    let es = c.self.inside.entries.items in
    let few = rw (← c.self.view_is) at c.requires.few in
    omega (arith, counted es c.len-place.result _ c.len-place.ensures c.self.inside.entries.ok.0, few)

pub invariant_of-self : goal.invariant_of-self
invariant_of-self c =
    let es = c.self.inside.entries.items in
    let inside = rw (← c.self.view_is) at c.requires.inside in
    let within = place_inside es c.args.parent inside in
    let read = get_or_read es c.args.parent c.index.result.now within c.index.ensures _ in
    let shallow = rw (← c.self.view_is) at c.requires.shallow in
    let absent = rw (← c.self.view_is) at c.requires.absent in
    let few = rw (← c.self.view_is) at c.requires.few in
    let proper = name_proper _ (c.self.invariant.table.proper c.args.parent (start_name 0) inside) in
    let key = c.child-key.ensures (name_at (names_of es) c.args.parent) proper (ap (λ e. e.key.0) read ∙ c.self.invariant.keys c.args.parent within) in
    let block = rw (← c.self.view_is) at c.child_block-block.ensures in
    let anchor = rw (← c.self.view_is) at c.child_anchor-anchor.ensures in
    let new = c.new-entry.ensures in
    let origin = child_told c.new-entry.result (name_at (names_of es) c.args.parent) c.args.digit c.args.parent proper c.requires.small (ap (λ e. e.key.0) new ∙ key) (ap (λ e. e.block.0) new ∙ block) (ap (λ e. e.parent) new) in
    let parent = parent_read es c.push.new.self.items c.args.parent c.new-entry.result c.index_mut-entry.result.now c.in-Ok.ensures.items within c.index_mut-entry.ensures.value in
    put_child_rows es c.push.new.self.items c.self.inside.starts.items c.args.parent c.args.digit c.new-entry.result _ c.self.invariant c.in-Ok.ensures.items within c.requires.small shallow
    (new_entry _ _ _ _ _ _ _ c.new-entry.ensures key block (stands_old _ _ _ _ (anchor c.args.digit)) origin)
    (parent_written c.index_mut-entry.result.now _ c.from.result c.args.digit _ c.some.result parent c.from.ensures (c.some.ensures ∙ ap Some (c.len-place.ensures ∙ c.self.inside.entries.ok.0)))
    absent few

pub returns-clause-names : goal.returns-clause-names
returns-clause-names c =
    let es = c.self.inside.entries.items in
    let inside = rw (← c.self.view_is) at c.requires.inside in
    let within = place_inside es c.args.parent inside in
    let read = get_or_read es c.args.parent c.index.result.now within c.index.ensures _ in
    let proper = name_proper _ (c.self.invariant.table.proper c.args.parent (start_name 0) inside) in
    let key = c.child-key.ensures (name_at (names_of es) c.args.parent) proper (ap (λ e. e.key.0) read ∙ c.self.invariant.keys c.args.parent within) in
    let block = rw (← c.self.view_is) at c.child_block-block.ensures in
    let new = c.new-entry.ensures in
    let origin = child_told c.new-entry.result (name_at (names_of es) c.args.parent) c.args.digit c.args.parent proper c.requires.small (ap (λ e. e.key.0) new ∙ key) (ap (λ e. e.block.0) new ∙ block) (ap (λ e. e.parent) new) in
    let parent = parent_read es c.push.new.self.items c.args.parent c.new-entry.result c.index_mut-entry.result.now c.in-Ok.ensures.items within c.index_mut-entry.ensures.value in
    rw (← c.self.view_is) (put_child_names es c.push.new.self.items c.args.parent c.args.digit c.new-entry.result _ c.in-Ok.ensures.items within origin (ap origin_of parent))

pub returns-clause-place : goal.returns-clause-place
returns-clause-place c = rw (← c.self.view_is) (counted c.self.inside.entries.items c.len-place.result _ c.len-place.ensures c.self.inside.entries.ok.0)
