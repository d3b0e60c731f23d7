use Rattle.std.proofs.Common.{◌≡◌, ◌<◌, ◌≤◌, ◌++◌, ℕ, List, [], ◌∷◌, length, take, drop, refl, sym, ap, subst, arith, ◌∙◌}
use Rattle.ic_name.specs.Names.{Name, depth}
use Rattle.ic_names.specs.Blocks.{anchor_depth}
use Rattle.ic_names.specs.Tables.{name_at, IsPlaceOf}
use Rattle.ic_names.proofs.PlaceNames.{place_proper}
use Rattle.ic_names.proofs.PutDigits.{short_digits, no_digits}
use Rattle.ic_names.proofs.rows.Rows.place_from.Goals as goal
use Rattle.ic_names.proofs.rows.Rows.place_from.Goals.{then-depth-gt0, else-depth-gt0}

pub returns : goal.returns
returns c =
    let ns = c.args.others.now.names in
    let n = name_at ns c.args.place in
    let proper = place_proper ns c.lawful.ensures c.args.place in
    let deep = c.depth-depth.ensures n proper c.key-key.ensures in
    let start = c.start_number.ensures n proper c.key-key.ensures in
    let digits : take c.depth-depth.result c.if-depth-gt0.digits ≡ n.digits = elim c.if-depth-gt0.branch [
      | then-depth-gt0 w ↦
          let first = w.put_digits.ensures.anchor n deep in
          let put = w.put_digits.ensures.put n proper deep w.block.ensures in
          rw w.digits-is (short_digits n w.put_digits.result c.depth-depth.result w.put_digits.new.digits _ c.requires.short deep first put)
      | else-depth-gt0 w ↦ no_digits n c.depth-depth.result c.if-depth-gt0.digits deep w.if-depth-gt0.false
    ] in
    subst (λ ds. IsPlaceOf c.args.self.now.names (record { start = n.start; digits = ds }) c.place_of.result) digits (subst (λ s. IsPlaceOf c.args.self.now.names (record { start = s; digits = take c.depth-depth.result c.if-depth-gt0.digits }) c.place_of.result) start c.place_of.ensures)
