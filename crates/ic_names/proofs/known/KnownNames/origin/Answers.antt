use Rattle.std.proofs.Common.{arith, sym, ap, ◌∙◌, subst}
use Rattle.std.proofs.lemmas.List.{get_or_read}
use Rattle.ic_names.specs.Rows.{name_from, IsBefore}
use Rattle.ic_names.specs.Known.{names_told}
use Rattle.ic_names.proofs.KnownOrigins.{told_inside}
use Rattle.ic_names.proofs.known.KnownNames.origin.Goals as goal

pub index-requires : goal.index-requires
index-requires c = omega (arith, c.self.inside.origins.ok.0, told_inside c.self.inside.origins.items c.args.place (rw (← c.self.view_is) at c.requires))

pub returns-clause-named : goal.returns-clause-named
returns-clause-named c =
    let os = c.self.inside.origins.items in
    let within = told_inside os c.args.place (rw (← c.self.view_is) at c.requires) in
    let read = get_or_read os c.args.place c.index.result.now within c.index.ensures _ in
    rw (← c.self.view_is) (c.self.invariant.named c.args.place within ∙ ap (λ o. name_from (names_told os) o) (sym read))

pub returns-clause-before : goal.returns-clause-before
returns-clause-before c =
    let os = c.self.inside.origins.items in
    let within = told_inside os c.args.place (rw (← c.self.view_is) at c.requires) in
    let read = get_or_read os c.args.place c.index.result.now within c.index.ensures _ in
    subst (λ o. IsBefore c.args.place o) (sym read) (c.self.invariant.parents c.args.place within)
