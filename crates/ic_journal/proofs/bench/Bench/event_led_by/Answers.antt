use Rattle.std.proofs.Common.{◌≡◌, ◌≢◌, List, IfSome, IfNone, refl, sym, subst}
use Rattle.ic_names.specs.Tables.{name_at}
use Rattle.ic_path.specs.Orders.{IsIn}
use Rattle.ic_roster.specs.Rosters.{Stander, IsNewName}
use Rattle.ic_set.proofs.EventPairs.{member}
use Rattle.ic_journal.proofs.LedEvents.{lead_there, one_named}
use Rattle.ic_journal.proofs.bench.Bench.event_led_by.Goals as goal

pub returns-in_default-clause-absent : goal.returns-in_default-clause-absent
returns-in_default-clause-absent g c =
    let v = c.bare-set.result.now.set in
    let new : IsNewName v.agents c.args.lead.now = rw c.roster-roster.ensures.agents at c.in_default.ensures.absent in
    let none : (x : Stander) → IsIn x v.events → x.event.lead ≢ c.args.lead.now = λ x i e. lead_there v c.lawful.ensures.set x i (subst (IsNewName v.agents) (sym e) new) in
    rw (← c.self.view_is, ← c.bare-set.ensures) none

pub unreachable-requires : goal.unreachable-requires
unreachable-requires g c = let m = c.in-Some.ensures.found in c.in_default-agent.ensures.absent _ m.1 refl

pub returns-clause-found : goal.returns-clause-found
returns-clause-found g c =
    let v = c.bare-set.result.now.set in
    let m = c.in-Some.ensures.found in
    let there : IsIn (member c.in-Some.agent c.args.lead.now m.0) v.agents = rw c.roster-roster.ensures.agents at m.1 in
    let entry : IsIn (member c.in-Some.agent (name_at c.roster-roster.result.now.names c.in-Some-agent.entry.name.place) c.in-Some-agent.entry.kind) v.agents = rw c.roster-roster.ensures.agents at c.in-Some-agent.ensures.found in
    let named = one_named v c.lawful.ensures.set c.in-Some.agent _ _ _ _ entry there in
    let found = subst (λ (xs : List Stander). IfSome c.led_by.result (λ id. (x : Stander) × IsIn x xs × (x.id ≡ id) × (x.event.lead ≡ name_at c.roster-roster.result.now.names c.in-Some-agent.entry.name.place))) c.roster-roster.ensures.events c.led_by.ensures.found in
    rw (← c.self.view_is, ← c.bare-set.ensures) (subst (λ n. IfSome c.led_by.result (λ id. (x : Stander) × IsIn x v.events × (x.id ≡ id) × (x.event.lead ≡ n))) named found)

pub returns-clause-absent : goal.returns-clause-absent
returns-clause-absent g c =
    let v = c.bare-set.result.now.set in
    let m = c.in-Some.ensures.found in
    let there : IsIn (member c.in-Some.agent c.args.lead.now m.0) v.agents = rw c.roster-roster.ensures.agents at m.1 in
    let entry : IsIn (member c.in-Some.agent (name_at c.roster-roster.result.now.names c.in-Some-agent.entry.name.place) c.in-Some-agent.entry.kind) v.agents = rw c.roster-roster.ensures.agents at c.in-Some-agent.ensures.found in
    let named = one_named v c.lawful.ensures.set c.in-Some.agent _ _ _ _ entry there in
    let absent = subst (λ (xs : List Stander). IfNone c.led_by.result ((x : Stander) → IsIn x xs → x.event.lead ≢ name_at c.roster-roster.result.now.names c.in-Some-agent.entry.name.place)) c.roster-roster.ensures.events c.led_by.ensures.absent in
    rw (← c.self.view_is, ← c.bare-set.ensures) (subst (λ n. IfNone c.led_by.result ((x : Stander) → IsIn x v.events → x.event.lead ≢ n)) named absent)
