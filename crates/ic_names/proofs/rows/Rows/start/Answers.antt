use Rattle.std.proofs.Common.{◌≡◌, ◌≤◌, length, sym, ap, ◌∙◌, arith, None}
use Rattle.std.proofs.lemmas.List.{get_or_past}
use Rattle.std.proofs.lemmas.Bool.{ltb-false}
use Rattle.ic_names.specs.Rows.{start_at}
use Rattle.ic_names.proofs.rows.Rows.start.Goals as goal

pub returns-in_err-get : goal.returns-in_err-get
returns-in_err-get c =
    let ss = c.self.inside.starts.items in
    let past : length ss ≤ c.args.number = omega (arith, ltb-false _ _ (sym c.in_err-get.ensures.lookup.0), c.from.ensures, ap length c.deref.ensures.value) in
    let none : c.from_residual.result ≡ start_at ss c.args.number = c.from_residual.ensures ∙ sym (get_or_past ss c.args.number None past) in
    rw (← c.self.view_is, none) (c.self.invariant.starts c.args.number)
