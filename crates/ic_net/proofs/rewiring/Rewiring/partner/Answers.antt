use Rattle.std.proofs.Common.{◌≡◌, ◌∙◌, true, false, refl, sym, ap}
use Rattle.std.specs.Prelude.{if◌then◌else◌, option_copied}
use Rattle.ic_name.specs.Same.{same_port}
use Rattle.ic_theory.proofs.Wirings.{on, off}
use Rattle.ic_net.proofs.Rewirings.{write_read}
use Rattle.ic_net.proofs.rewiring.Rewiring.partner.Goals as goal
use Rattle.ic_net.proofs.rewiring.Rewiring.partner.Goals.{Joined-same_port, then-same_port, else-same_port}

-- what was found so far, with this write
found_next : (c : Joined-same_port) → option_copied c.if-same_port.found ≡ (if same_port c.args.port.now c.write-item.result.0 then c.write-item.result.1 else option_copied c.loop-write.found)
found_next c =
    elim c.if-same_port.branch [
      | then-same_port w ↦ ap option_copied w.found-is ∙ w.as_ref-found.ensures.value ∙ rw (on (c.same_port.ensures.0 w.if-same_port.true)) refl
      | else-same_port w ↦ ap option_copied w.found-is ∙ rw (off (λ e. let z : false ≡ true = sym w.if-same_port.false ∙ c.same_port.ensures.1 e in cc)) refl
    ]

pub loop-write-preserved : goal.loop-write-preserved
loop-write-preserved c =
    write_read c.args.port.now c.args.self.now.writes.items c.loop-write.write-index c.write-item.result _ _ (rw c.deref-write-items.ensures.value at c.loop-write-test.true) (rw c.deref-write-items.ensures.value at c.write-item.is) (found_next c)
    ∙ c.loop-write.invariant
