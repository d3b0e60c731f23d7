use Rattle.std.proofs.Common.{◌≡◌, ◌≢◌, true, false, eq-eqb, List, inl, inr, refl, subst, ap}
use Rattle.ic_name.specs.Spots.{same_agent}
use Rattle.std.proofs.lemmas.Bool.{and_from}
use Rattle.ic_name.specs.declared.ids.AgentId.{AgentId}
use Rattle.ic_names.specs.Tables.{name_at}
use Rattle.ic_path.specs.Orders.{IsIn}
use Rattle.ic_roster.specs.Rosters.{Member}
use Rattle.ic_set.proofs.Namings.{same_member}
use Rattle.ic_journal.proofs.bench.Bench.propose.Goals as goal

-- ids that the test tells apart are two
apart : (a b : AgentId) → false ≡ same_agent a b → a ≢ b
apart a b h e = let same : same_agent a b ≡ true = subst (λ x. same_agent a x ≡ true) e (and_from _ _ (eq-eqb a.slot a.slot refl) (eq-eqb a.serial a.serial refl)) in absurd cc

pub returns-in_default : goal.returns-in_default
returns-in_default g c = rw (← c.self.view_is, ← c.bare-set.ensures) (inl (subst (λ (ms : List Member). (m : Member) → IsIn m ms → m.id ≢ c.args.a) c.roster-roster.ensures.agents c.in_default.ensures.absent))

pub returns-in_default-agent : goal.returns-in_default-agent
returns-in_default-agent g c = rw (← c.self.view_is, ← c.bare-set.ensures) (inr (inl (subst (λ (ms : List Member). (m : Member) → IsIn m ms → m.id ≢ c.args.b) c.roster-roster.ensures.agents c.in_default-agent.ensures.absent)))

pub returns-in-Ok-Some : goal.returns-in-Ok-Some
returns-in-Ok-Some g c =
    let left : IsIn (record { id = c.args.a; name = name_at c.roster-roster.result.now.names c.in-Some.left.name.place; kind = c.in-Some.left.kind }) c.bare-set.result.now.set.agents = subst (λ (ms : List Member). IsIn (record { id = c.args.a; name = name_at c.roster-roster.result.now.names c.in-Some.left.name.place; kind = c.in-Some.left.kind }) ms) c.roster-roster.ensures.agents c.in-Some.ensures.found in
    let right : IsIn (record { id = c.args.b; name = name_at c.roster-roster.result.now.names c.in-Some-agent.right.name.place; kind = c.in-Some-agent.right.kind }) c.bare-set.result.now.set.agents = subst (λ (ms : List Member). IsIn (record { id = c.args.b; name = name_at c.roster-roster.result.now.names c.in-Some-agent.right.name.place; kind = c.in-Some-agent.right.kind }) ms) c.roster-roster.ensures.agents c.in-Some-agent.ensures.found in
    rw (← c.self.view_is, ← c.bare-set.ensures) (record { left = record { id = c.args.a; name = name_at c.roster-roster.result.now.names c.in-Some.left.name.place; kind = c.in-Some.left.kind }; right = record { id = c.args.b; name = name_at c.roster-roster.result.now.names c.in-Some-agent.right.name.place; kind = c.in-Some-agent.right.kind }; left_there = left; right_there = right; left_id = refl; right_id = refl; apart = apart c.args.a c.args.b c.if-eq.ensures; event = rw (c.names.ensures, c.in-Ok-Some.field-0-is) at c.in-Ok-Some.ensures.made })

pub returns-in-Ok-None : goal.returns-in-Ok-None
returns-in-Ok-None g c =
    let left : IsIn (record { id = c.args.a; name = name_at c.roster-roster.result.now.names c.in-Some.left.name.place; kind = c.in-Some.left.kind }) c.bare-set.result.now.set.agents = subst (λ (ms : List Member). IsIn (record { id = c.args.a; name = name_at c.roster-roster.result.now.names c.in-Some.left.name.place; kind = c.in-Some.left.kind }) ms) c.roster-roster.ensures.agents c.in-Some.ensures.found in
    let right : IsIn (record { id = c.args.b; name = name_at c.roster-roster.result.now.names c.in-Some-agent.right.name.place; kind = c.in-Some-agent.right.kind }) c.bare-set.result.now.set.agents = subst (λ (ms : List Member). IsIn (record { id = c.args.b; name = name_at c.roster-roster.result.now.names c.in-Some-agent.right.name.place; kind = c.in-Some-agent.right.kind }) ms) c.roster-roster.ensures.agents c.in-Some-agent.ensures.found in
    let differ : (name_at c.roster-roster.result.now.names c.in-Some.left.name.place ≢ name_at c.roster-roster.result.now.names c.in-Some-agent.right.name.place) → ⊥ = rw (c.names.ensures, c.in-Ok-None.field-0-is) at c.in-Ok-None.ensures.none in
    absurd (differ (λ e. apart c.args.a c.args.b c.if-eq.ensures (ap (λ (m : Member). m.id) (same_member c.bare-set.result.now.set.agents (record { id = c.args.a; name = name_at c.roster-roster.result.now.names c.in-Some.left.name.place; kind = c.in-Some.left.kind }) (record { id = c.args.b; name = name_at c.roster-roster.result.now.names c.in-Some-agent.right.name.place; kind = c.in-Some-agent.right.kind }) c.lawful.ensures.set.own_names left right (inr e)))))

pub returns-in-Err : goal.returns-in-Err
returns-in-Err g c =
    let left : IsIn (record { id = c.args.a; name = name_at c.roster-roster.result.now.names c.in-Some.left.name.place; kind = c.in-Some.left.kind }) c.bare-set.result.now.set.agents = subst (λ (ms : List Member). IsIn (record { id = c.args.a; name = name_at c.roster-roster.result.now.names c.in-Some.left.name.place; kind = c.in-Some.left.kind }) ms) c.roster-roster.ensures.agents c.in-Some.ensures.found in
    let right : IsIn (record { id = c.args.b; name = name_at c.roster-roster.result.now.names c.in-Some-agent.right.name.place; kind = c.in-Some-agent.right.kind }) c.bare-set.result.now.set.agents = subst (λ (ms : List Member). IsIn (record { id = c.args.b; name = name_at c.roster-roster.result.now.names c.in-Some-agent.right.name.place; kind = c.in-Some-agent.right.kind }) ms) c.roster-roster.ensures.agents c.in-Some-agent.ensures.found in
    rw (← c.self.view_is, ← c.bare-set.ensures) (apart c.args.a c.args.b c.if-eq.ensures, λ none. none _ left refl, λ none. none _ right refl)
