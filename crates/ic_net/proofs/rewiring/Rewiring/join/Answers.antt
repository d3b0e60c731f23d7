use Rattle.std.proofs.Common.{◌≡◌, ◌+◌, true, false, refl, ap, sym, ◌∙◌, ◌++◌, ◌∷◌, [], None}
use Rattle.ic_theory.specs.Listed.{shown}
use Rattle.ic_theory.proofs.Wirings.{on, off}
use Rattle.ic_net.proofs.Rewirings.{on_ok, join_closes, join_wires}
use Rattle.ic_net.proofs.rewiring.Rewiring.join.Goals as goal

pub returns-then-closes-clause-joined : goal.returns-then-closes-clause-joined
returns-then-closes-clause-joined c =
    let items = c.in_ok-write-2.ensures.written ∙ ap (λ ws. ws ++ (c.args.left, None) ∷ []) c.in_ok-write.ensures.written in
    on_ok c.close.result
    (λ k.
    join_closes (shown c.args.net.now).partner c.args.self.now c.write-2.new.self c.args.left c.args.right items c.in-Some.from_left c.in-Some-2.from_right (sym c.in_ok-from_left.ensures ∙ c.in-Some.is) (sym c.in_ok-from_right.ensures ∙ c.in-Some-2.is)
    (on (c.if-closes.ensures.0 refl)) c.close.new.self c.close.ensures.writes (k ∙ ap (λ n. n + 1) (c.write-2.ensures.rings ∙ c.write.ensures.rings)))
    c.close.ensures.rings

pub returns-else-closes-clause-joined : goal.returns-else-closes-clause-joined
returns-else-closes-clause-joined c =
    let items = c.in_ok-write-2.ensures.written ∙ ap (λ ws. ws ++ (c.args.left, None) ∷ []) c.in_ok-write.ensures.written in
    on_ok c.wire.result
    (λ w.
    join_wires (shown c.args.net.now).partner c.args.self.now c.write-2.new.self c.args.left c.args.right items c.in-Some.from_left c.in-Some-2.from_right (sym c.in_ok-from_left.ensures ∙ c.in-Some.is) (sym c.in_ok-from_right.ensures ∙ c.in-Some-2.is)
    (off (λ e. let z : false ≡ true = c.if-closes.ensures.1 e in cc)) c.wire.new.self (w (shown c.args.net.now).partner) (c.write-2.ensures.rings ∙ c.write.ensures.rings))
    c.wire.ensures.wired
