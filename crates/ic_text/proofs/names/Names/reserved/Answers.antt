use Rattle.std.proofs.Common.{◌∙◌, sym, ap, List, eqb, ◌&&◌, option_map}
use Rattle.std.specs.Prelude.{find}
use Rattle.ic_text.specs.declared.seen.Seen.{Seen}
use Rattle.ic_text.specs.Names.{Entry, is_reserved_free}
use Rattle.ic_text.specs.Texts.{is_reserved}
use Rattle.ic_text.specs.Table.{first_of}
use Rattle.ic_text.proofs.Table.{first_reserved_is}
use Rattle.ic_text.proofs.names.Names.reserved.Goals as goal

pub returns : goal.returns
returns c =
    c.first_reserved.ensures
    ∙ ap (λ (ns : List Seen). option_map (λ n. n.first) (find (λ n. eqb n.times 1 && is_reserved n.text.now) ns)) c.deref.ensures.value
    ∙ sym (first_reserved_is c.self.inside.seen.items)
    ∙ ap (λ (ns : List Entry). option_map first_of (find is_reserved_free ns)) c.self.view_is
