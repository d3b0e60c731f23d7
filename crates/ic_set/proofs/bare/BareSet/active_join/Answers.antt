use Rattle.std.proofs.Common.{◌≡◌, true, false, Some, inl, inr, refl, sym, rules, ◌∙◌}
use Rattle.std.proofs.lemmas.Bool.{true≢false}
use borrow.Author.Tests.{tests}
use Rattle.ic_link.specs.declared.principals.Principals.{Principals}
use Rattle.ic_set.specs.declared.pairs.ActivePair.{ActivePair}
use Rattle.ic_set.proofs.LookedUp.{forth, back, has_both, one_between}
use Rattle.ic_set.proofs.bare.BareSet.active_join.Goals as goal
use Rattle.ic_set.proofs.bare.BareSet.active_join.Goals.{then-eq, else-eq}

pub returns-in_err-pair-clause-absent : goal.returns-in_err-pair-clause-absent
returns-in_err-pair-clause-absent g c =
    rw c.from_residual.ensures
    (λ e q k t. elim (has_both (Some c.args.join) c.args.join q refl t) [
      | forth a b ↦ c.in_err-pair.ensures.absent e q (inl a) k
      | back a b ↦ c.in_err-pair.ensures.absent e q (inr a) k
    ])

pub returns-then-ne-clause-absent : goal.returns-then-ne-clause-absent
returns-then-ne-clause-absent g c =
    λ e q k t. (
    let agents : Principals = c.args.join in
    let pair : ActivePair = c.in_ok-pair.pair in
    let found = c.in_ok-pair.ensures.found in
    let mine = one_between c.args.self.now.set c.lawful.ensures.set found.1 e pair q found.2 k agents found.0 (has_both (Some agents) agents q refl t) in
    let partner : c.if-eq.partner ≡ agents.other = elim c.if-eq.branch [
      | then-eq w ↦ (
          let lead : pair.lead ≡ agents.one = search (rules, tests) in
          elim mine [ forth a b ↦ w.partner-is ∙ b | back a b ↦ w.partner-is ∙ a ∙ sym lead ∙ b ])
      | else-eq w ↦ (elim mine [
        | forth a b ↦ (let off : c.eq.result ≡ true = search (rules, tests) in absurd (true≢false (sym off ∙ w.if-eq.false)))
        | back a b ↦ w.partner-is ∙ b
      ])
    ] in
    let same : c.ne.result ≡ false = search (rules, tests) in
    absurd (true≢false (sym c.if-ne.true ∙ same)))
