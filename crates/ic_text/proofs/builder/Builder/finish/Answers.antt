use Rattle.std.proofs.Common.{◌≡◌, ◌≤◌, None, Ok, length, true, option_map, sym, ap, ◌∙◌, arith}
use Rattle.std.specs.Prelude.{count_by, find}
use Rattle.ic_text.specs.declared.grammar.limits.TheConstants.{MAX_FREE_NAMES}
use Rattle.ic_text.specs.Names.{is_free, is_reserved_free}
use Rattle.ic_text.specs.Table.{first_of}
use Rattle.ic_text.specs.Reading.{is_at_rest}
use Rattle.ic_text.specs.Views.{state_of}
use Rattle.ic_text.proofs.Finishing.{rests, finishes, makes_start}
use Rattle.ic_text.proofs.builder.Builder.finish.Goals as goal

pub make-requires : goal.make-requires
make-requires c =
    let s = state_of c.args.self in
    let rest : is_at_rest s.stack s.side ≡ true =
    rests c.args.self.stack.items _ s.side c.args.self.stack.ok.0 (sym c.is_empty.ensures ∙ c.if-not-is_empty.false) (sym c.is_at_rest.ensures ∙ c.if-not-is_at_rest.false) in
    let none : option_map first_of (find is_reserved_free s.seen) ≡ None = sym c.reserved.ensures ∙ c.in_default.is in
    let few : count_by is_free s.seen ≤ MAX_FREE_NAMES = omega (arith, c.free.ensures, c.if-free-gt-MAX_FREE_NAMES.false) in
    let joins = c.into_start-links.ensures in
    let texts = c.in_ok-names.ensures in
    let done = finishes (length c.args.text.now) s c.into_start-links.result c.in_ok-names.names rest none few joins texts in
    makes_start c.args.text.now s c.into_start-links.result c.in_ok-names.names c.requires.read c.requires.within c.requires.short done c.lawful.ensures.numbered texts

pub returns : goal.returns
returns c =
    let s = state_of c.args.self in
    let rest : is_at_rest s.stack s.side ≡ true =
    rests c.args.self.stack.items _ s.side c.args.self.stack.ok.0 (sym c.is_empty.ensures ∙ c.if-not-is_empty.false) (sym c.is_at_rest.ensures ∙ c.if-not-is_at_rest.false) in
    let none : option_map first_of (find is_reserved_free s.seen) ≡ None = sym c.reserved.ensures ∙ c.in_default.is in
    let few : count_by is_free s.seen ≤ MAX_FREE_NAMES = omega (arith, c.free.ensures, c.if-free-gt-MAX_FREE_NAMES.false) in
    let joins = c.into_start-links.ensures in
    let texts = c.in_ok-names.ensures in
    let done = finishes (length c.args.text.now) s c.into_start-links.result c.in_ok-names.names rest none few joins texts in
    done ∙ ap Ok (sym c.in_ok-make.ensures)
