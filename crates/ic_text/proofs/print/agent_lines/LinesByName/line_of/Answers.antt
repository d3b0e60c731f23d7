use Rattle.std.proofs.Common.{◌≡◌, ◌∙◌, sym, ap, slice_get, Some, None}
use Rattle.std.proofs.lemmas.Option.{same_Some}
use Rattle.ic_text.specs.Lists.{agents_of}
use Rattle.ic_text.proofs.NameLines.{line_there}
use Rattle.ic_text.proofs.print.agent_lines.LinesByName.line_of.Goals as goal

pub unreachable-requires : goal.unreachable-requires
unreachable-requires c =
    let there = line_there c.args.lists.now c.requires.net c.args.self.now.slots c.requires.lines c.lawful.ensures c.args.name.place c.requires.inside c.requires.there in
    let none : None ≡ Some there.0 = sym c.in-None.is ∙ c.get.ensures ∙ there.1 in
    cc

pub returns : goal.returns
returns c =
    let there = line_there c.args.lists.now c.requires.net c.args.self.now.slots c.requires.lines c.lawful.ensures c.args.name.place c.requires.inside c.requires.there in
    let line : c.in-Some.line ≡ there.0 = same_Some c.in-Some.line there.0 (sym c.in-Some.is ∙ c.get.ensures ∙ there.1) in
    ap (slice_get (agents_of c.args.lists.now)) line ∙ there.2
