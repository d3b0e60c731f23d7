use Rattle.std.proofs.Common.{◌≡◌, [], None, option_map, slice_get, sym, ap, ◌∙◌}
use Rattle.std.specs.Prelude.{unwrap_or}
use Rattle.std.proofs.lemmas.Option.{unwrap_or-slice_get}
use Rattle.ic_text.proofs.print.put.text_of.Goals as goal

pub returns-in-None : goal.returns-in-None
returns-in-None c =
    let none : slice_get c.args.names.now c.args.number ≡ None = sym c.get.ensures ∙ ap (option_map (λ t. t.now)) c.in-None.is in
    sym (ap (λ t. unwrap_or t []) none) ∙ unwrap_or-slice_get c.args.names.now c.args.number []
