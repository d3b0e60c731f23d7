use Rattle.std.proofs.Common.{◌≡◌, ◌∙◌, ◌∷◌, ◌++◌, ℕ, rules, ap, sym, map}
use Rattle.std.proofs.lemmas.List.Elements.{All-push, All-rest}
use Rattle.ic_name.specs.declared.ports.Port.{Port}
use Rattle.ic_net.specs.declared.sheet.placed.PlacedPort.{PlacedPort}
use Rattle.ic_net.specs.Placed.{HasPortName, IsPortInside, free_at}
use Rattle.ic_net.proofs.PlacedNames.{shown_more}
use Rattle.ic_net.proofs.placing.place_frees.Goals as goal

pub loop-number-preserved : goal.loop-number-preserved
loop-number-preserved c =
    let is : c.loop-number.number-iterator ≡ (c.in-Some.number.now, c.in-Some.partner.now) ∷ c.next.new.self = search rules in
    let names = c.args.names.now in
    let done = c.loop-number.placed.items in
    record {
      shown = rw c.in_ok-push.ensures.items
          (shown_more (free_at names) done (c.in-Some.number.now, c.place_port.result) c.next.new.self
          ∙ ap (λ p. map (free_at names) done ++ (c.in-Some.number.now, p) ∷ c.next.new.self) c.place_port.ensures.shown
          ∙ ap (λ rest. map (free_at names) done ++ rest) (sym is)
          ∙ c.loop-number.invariant.shown);
      inside = rw c.in_ok-push.ensures.items (All-push (λ (f : ℕ × PlacedPort). IsPortInside names f.1) done _ c.loop-number.invariant.inside c.place_port.ensures.inside);
      left = All-rest (λ (f : ℕ × Port). HasPortName names f.1) (c.in-Some.number.now, c.in-Some.partner.now) c.next.new.self c.loop-number.number-iterator is c.loop-number.invariant.left;
    }
