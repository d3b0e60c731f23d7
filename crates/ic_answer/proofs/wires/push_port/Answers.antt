use Rattle.std.proofs.Common.{◌≡◌, [], ◌++◌, None, option_map, slice_get, slice_index_or, sym, ap, ◌∙◌, append-nil}
use Rattle.std.specs.Prelude.{unwrap_or}
use Rattle.std.proofs.lemmas.Option.{unwrap_or-slice_get}
use Rattle.ic_name.specs.declared.ports.Port.{Port}
use Rattle.ic_answer.specs.Wired.{port_text}
use Rattle.ic_answer.proofs.wires.push_port.Goals as goal

pub returns-in-None : goal.returns-in-None
returns-in-None c =
    let none : slice_get c.args.names.now c.in-Name.number ≡ None = sym c.get.ensures ∙ ap (option_map (λ t. t.now)) c.in-None.is in
    let empty : [] ≡ slice_index_or c.args.names.now c.in-Name.number [] = sym (ap (λ t. unwrap_or t []) none) ∙ unwrap_or-slice_get c.args.names.now c.in-Name.number [] in
    sym (append-nil c.args.text.now.items) ∙ ap (λ us. c.args.text.now.items ++ us) (empty ∙ sym (ap (λ (p : Port). port_text c.args.names.now p) c.in-Name.is))
