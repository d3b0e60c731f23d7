use Rattle.std.proofs.Common.{map, rules, ◌≡◌, sym, ap}
use Rattle.std.specs.List.Sorted.{IsPermutation}
use Rattle.std.proofs.lemmas.Fn.{answers_by}
use Rattle.ic_roster.specs.Rosters.{HaveOwnNames}
use Rattle.ic_roster.specs.Placed.{member_in}
use Rattle.ic_roster.proofs.NameOrders.{is_before, before_orders, by_name, sorted_told}
use Rattle.ic_roster.proofs.roster.Roster.in_order.Goals as goal

pub returns : goal.returns
returns c =
    let ns = c.self.inside.names in
    let own : HaveOwnNames (map (member_in ns) c.self.inside.agents) = rw (← c.self.view_is) at c.lawful.ensures.names in
    let moved : IsPermutation c.self.inside.agents c.sort_by.new.self.items = rw c.in_ok-agents.ensures at c.sort_by.ensures.permutation in
    let sorted = c.in_ok-sort_by.ensures.sorted (is_before ns) (before_orders ns) (answers_by _ _ (λ f. f.0.now.names ≡ ns) (λ f a r f' k i. (search rules, search rules)) _ (sym (ap (λ r. r.names) c.self.view_is))) in
    record {
      order = rw (← c.self.view_is) (by_name ns c.self.inside.agents c.sort_by.new.self.items own moved sorted);
      told = sorted_told c.args.self.now ns c.self.inside.agents c.sort_by.new.self.items own moved (ap (λ r. r.names) (sym c.self.view_is)) (ap (λ r. r.agents) (sym c.self.view_is)) c.self.invariant.agents;
    }
