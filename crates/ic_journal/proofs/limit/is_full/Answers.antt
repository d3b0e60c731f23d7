use Rattle.std.proofs.Common.{◌≡◌, ◌∙◌, ◌+◌, ◌<◌, ◌-◌, ◌≤◌, ◌↔◌, ℕ, suc, List, [], ◌∷◌, length, IsTrue, nat_lt, refl, sym, ap, arith}
use Rattle.std.proofs.lemmas.List.{length-map}
use Rattle.std.proofs.lemmas.Bool.{ltb-true, lt-ltb}
use Rattle.ic_name.specs.declared.limits.TheConstants.{MAX_AGENTS}
use Rattle.ic_path.proofs.Alikes.{alike-length}
use Rattle.ic_name.specs.Names.{Name, child_name}
use Rattle.ic_name.specs.declared.kinds.Kind.{Kind}
use Rattle.ic_theory.specs.Born.{born_agents, named}
use Rattle.ic_theory.specs.Rules.{born_kinds}
use Rattle.ic_theory.specs.Sets.{agents}
use Rattle.ic_roster.specs.Rosters.{event_in}
use Rattle.ic_set.specs.Views.{agent_of, standing}
use Rattle.ic_journal.proofs.limit.is_full.Goals as goal

-- a sum is greater where one part is greater than what the other leaves
more_than : (len born : ℕ) → born ≤ 4 → IsTrue (nat_lt (MAX_AGENTS - born) len) ↔ (MAX_AGENTS < len + born)
more_than len born few = (λ t. (let l = ltb-true _ _ t in omega (arith, l, few)), λ l. lt-ltb _ _ (omega (arith, l, few)))

-- an event has a child of each kind of its rule
named_length : (f : ℕ → Name) (k : ℕ) (ks : List Kind) → length (named f k ks) ≡ length ks
named_length f k [] = refl
named_length f k (x ∷ ks) = ap suc (named_length f (k + 1) ks)

pub returns : goal.returns
returns g c =
    let event = event_in c.args.set.now.names c.args.event in
    let len : c.agent_count.result ≡ length (agents c.args.set.now.set.start (standing c.args.set.now.set)) = c.agent_count.ensures ∙ (rw c.roster.ensures.agents (sym (length-map c.args.set.now.set.agents agent_of))) ∙ alike-length c.lawful.ensures.set.agents in
    let count : c.children.result ≡ length (born_agents event) = c.children.ensures.count ∙ sym (named_length (child_name event.lead) 0 (born_kinds event.lead_kind event.other_kind)) in
    let few = c.children.ensures.few in
    rw (len, count) (more_than _ _ (rw count at few))
