use Rattle.std.proofs.Common.{◌≡◌, ◌≢◌, false, nat_eq, ap}
use Rattle.std.specs.Prelude.{◌&&◌}
use Rattle.std.proofs.lemmas.Bool.{eq-eqb}
use Rattle.ic_name.specs.declared.ids.AgentId.{AgentId}
use Rattle.ic_journal.proofs.standing.front.besides.Goals as goal

-- agents whose ids aren't found to be the same are not the same
differ : (a b : AgentId) → false ≡ (nat_eq a.slot b.slot && nat_eq a.serial b.serial) → a ≢ b
differ a b h same =
    let slot = eq-eqb a.slot b.slot (ap (λ (x : AgentId). x.slot) same) in
    let serial = eq-eqb a.serial b.serial (ap (λ (x : AgentId). x.serial) same) in
    let t = rw (slot, serial) at h in cc

pub returns : goal.returns
returns c = (c.in_ok-pair.was, differ c.in_ok-pair.pair.lead c.args.lead c.if-eq.ensures)
