use Rattle.std.proofs.Common.{arith, refl, sym, ap, ◌∙◌, subst}
use Rattle.std.proofs.lemmas.List.{get_or_read}
use Rattle.ic_names.specs.Tables.{name_at}
use Rattle.ic_names.specs.Rows.{name_from, names_of, origin_of, IsBefore}
use Rattle.ic_names.proofs.PlaceNames.{place_proper}
use Rattle.ic_names.proofs.RowNames.{place_inside}
use Rattle.ic_names.proofs.Origins.{told_start, told_child}
use Rattle.ic_names.proofs.rows.Rows.origin.Goals as goal

pub index-entry-requires : goal.index-entry-requires
index-entry-requires c = omega (arith, c.self.inside.entries.ok.0, place_inside c.self.inside.entries.items c.args.place (rw (← c.self.view_is) at c.requires))

pub returns-then-depth-eq0-clause-named : goal.returns-then-depth-eq0-clause-named
returns-then-depth-eq0-clause-named c =
    let es = c.self.inside.entries.items in
    let within = place_inside es c.args.place (rw (← c.self.view_is) at c.requires) in
    let read = get_or_read es c.args.place c.index-entry.result.now within c.index-entry.ensures _ in
    let n = name_at (names_of es) c.args.place in
    let is = place_proper (names_of es) c.self.invariant.table c.args.place in
    let key = ap (λ e. e.key.0) read ∙ c.self.invariant.keys c.args.place within in
    let told = told_start c.index-entry.result.now n c.start_number.result is key (sym (c.depth.ensures n is key) ∙ c.if-depth-eq0.true) (sym (c.start_number.ensures n is key)) in
    rw (← c.self.view_is) (c.self.invariant.named c.args.place within ∙ ap (λ e. name_from (names_of es) (origin_of e)) (sym read) ∙ ap (λ o. name_from (names_of es) o) told)

pub returns-clause-named : goal.returns-clause-named
returns-clause-named c =
    let es = c.self.inside.entries.items in
    let within = place_inside es c.args.place (rw (← c.self.view_is) at c.requires) in
    let read = get_or_read es c.args.place c.index-entry.result.now within c.index-entry.ensures _ in
    let n = name_at (names_of es) c.args.place in
    let is = place_proper (names_of es) c.self.invariant.table c.args.place in
    let key = ap (λ e. e.key.0) read ∙ c.self.invariant.keys c.args.place within in
    let told = told_child c.index-entry.result.now n c.last_digit.result _ is key (λ none. c.if-depth-eq0.false (c.depth.ensures n is key ∙ none)) (sym c.last_digit.ensures.number) refl in
    rw (← c.self.view_is) (c.self.invariant.named c.args.place within ∙ ap (λ e. name_from (names_of es) (origin_of e)) (sym read) ∙ ap (λ o. name_from (names_of es) o) told)

pub returns-clause-before : goal.returns-clause-before
returns-clause-before c =
    let es = c.self.inside.entries.items in
    let within = place_inside es c.args.place (rw (← c.self.view_is) at c.requires) in
    let read = get_or_read es c.args.place c.index-entry.result.now within c.index-entry.ensures _ in
    let n = name_at (names_of es) c.args.place in
    let is = place_proper (names_of es) c.self.invariant.table c.args.place in
    let key = ap (λ e. e.key.0) read ∙ c.self.invariant.keys c.args.place within in
    let told = told_child c.index-entry.result.now n c.last_digit.result _ is key (λ none. c.if-depth-eq0.false (c.depth.ensures n is key ∙ none)) (sym c.last_digit.ensures.number) refl in
    subst (λ o. IsBefore c.args.place o) (ap (λ e. origin_of e) (sym read) ∙ told) (c.self.invariant.parents c.args.place within)
