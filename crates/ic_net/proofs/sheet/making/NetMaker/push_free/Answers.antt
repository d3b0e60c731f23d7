use Rattle.std.proofs.Common.{ℕ, ◌∷◌, [], map, sym, subst}
use Rattle.std.proofs.lemmas.List.{map-append}
use Rattle.std.proofs.lemmas.List.Elements.{All-push}
use Rattle.std.specs.Ordering.{nat_cmp}
use Rattle.ic_name.specs.declared.ports.Port.{Port}
use Rattle.ic_net.specs.declared.sheet.placed.PlacedPort.{PlacedPort}
use Rattle.ic_net.specs.Makings.{NetParts, IsLastNumber}
use Rattle.ic_net.specs.Placed.{IsPortInside, free_at}
use Rattle.ic_net.proofs.InOrder.{last_in_order}
use Rattle.ic_net.proofs.sheet.making.NetMaker.push_free.Goals as goal

pub invariant_of-self-2 : goal.invariant_of-self-2
invariant_of-self-2 c =
    let names = c.self.inside.names.now in
    let frees = c.self.inside.frees.items in
    let last = subst (λ (p : NetParts). IsLastNumber c.args.number p.frees) (sym c.self.view_is) c.requires.last in
    let inside = subst (λ (p : NetParts). IsPortInside p.names c.args.partner) (sym c.self.view_is) c.requires.inside in
    let listed = map-append (free_at names) frees ((c.args.number, c.args.partner) ∷ []) in
    let sorted = last_in_order nat_cmp (λ (f : ℕ × Port). f.0) (map (free_at names) frees) (free_at names (c.args.number, c.args.partner)) c.self.invariant.1 last in (
      c.self.invariant.0,
      rw (c.in_ok-push.ensures.items, listed) sorted,
      record { agents = c.self.invariant.2.agents; frees = rw c.in_ok-push.ensures.items (All-push (λ (f : ℕ × PlacedPort). IsPortInside names f.1) frees (c.args.number, c.args.partner) c.self.invariant.2.frees inside) },
    )
