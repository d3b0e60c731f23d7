use Rattle.std.proofs.Common.{◌≡◌, refl, ap, ◌∙◌, ◌++◌, ◌∷◌, [], Some}
use Rattle.ic_net.specs.Rewirings.{rewired}
use Rattle.ic_net.proofs.Rewirings.{on_ok, wire_is, wiring_by}
use Rattle.ic_net.proofs.rewiring.Rewiring.wire.Goals as goal

pub returns : goal.returns
returns c = record {
  wired = on_ok c.write-2.result
      (λ e f.
      let items : c.write-2.new.self.writes.items ≡ (c.args.self.now.writes.items ++ (c.args.right, Some c.args.left) ∷ []) ++ (c.args.left, Some c.args.right) ∷ [] =
      e ∙ rw (c.in_ok-write.ensures.written, c.in_ok-to_left.ensures, c.in_ok-to_right.ensures) refl in
      wiring_by f c.write-2.new.self _ _ (ap (rewired f) items ∙ wire_is f c.args.self.now.writes.items c.args.left c.args.right) (c.write-2.ensures.rings ∙ c.write.ensures.rings))
      c.write-2.ensures.written;
  rings = c.write-2.ensures.rings ∙ c.write.ensures.rings;
}
