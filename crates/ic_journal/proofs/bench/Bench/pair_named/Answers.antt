use Rattle.std.proofs.Common.{◌≡◌, false, rules, subst}
use borrow.Author.Tests.{tests}
use Rattle.ic_path.specs.Orders.{IsIn}
use Rattle.ic_name.specs.Events.{Event, pair}
use Rattle.ic_roster.specs.Rosters.{IsNewName}
use Rattle.ic_theory.specs.Active.{IsActive}
use Rattle.ic_set.specs.Pairs.{AreJoined}
use Rattle.ic_set.specs.Views.{standing}
use Rattle.ic_set.proofs.ActivePairs.{joined_once}
use Rattle.ic_set.proofs.EventPairs.{member}
use Rattle.ic_journal.proofs.NamedPairs.{no_lead, no_other, are_joined, is_named}
use Rattle.ic_journal.proofs.bench.Bench.pair_named.Goals as goal

pub returns-in_default-clause-absent : goal.returns-in_default-clause-absent
returns-in_default-clause-absent g c =
    let v = c.bare-set.result.now.set in
    let new : IsNewName v.agents c.args.name.now.lead = rw (c.roster-roster.ensures.agents, c.lead.ensures) at c.in_default.ensures.absent in
    rw (← c.self.view_is, ← c.bare-set.ensures) (no_lead v c.lawful-2.ensures.set c.args.name.now new)

pub returns-in_default-find-clause-absent : goal.returns-in_default-find-clause-absent
returns-in_default-find-clause-absent g c =
    let v = c.bare-set.result.now.set in
    let new : IsNewName v.agents c.args.name.now.other = rw (c.roster-roster.ensures.agents, c.other.ensures) at c.in_default-find.ensures.absent in
    rw (← c.self.view_is, ← c.bare-set.ensures) (no_other v c.lawful-2.ensures.set c.args.name.now new)

pub returns-in_default-partner-clause-absent : goal.returns-in_default-partner-clause-absent
returns-in_default-partner-clause-absent g c =
    let v = c.bare-set.result.now.set in
    let lead = c.in-Some.ensures.found in
    let other = c.in-Some-find.ensures.found in
    let first : IsIn (member c.in-Some.lead c.args.name.now.lead lead.0) v.agents = rw (c.roster-roster.ensures.agents, c.lead.ensures) at lead.1 in
    let second : IsIn (member c.in-Some-find.other c.args.name.now.other other.0) v.agents = rw (c.roster-roster.ensures.agents, c.other.ensures) at other.1 in
    let absent : (e : Event) → IsActive v.start (standing v) e → pair e ≡ c.args.name.now → ⊥ = λ e active same.
    c.in_default-partner.ensures.absent _ (are_joined v c.lawful-2.ensures.set c.args.name.now c.in-Some.lead c.in-Some-find.other lead.0 other.0 first second e active same) in
    rw (← c.self.view_is, ← c.bare-set.ensures) absent

pub returns-then-ne-clause-absent : goal.returns-then-ne-clause-absent
returns-then-ne-clause-absent g c =
    let v = c.bare-set.result.now.set in
    let lead = c.in-Some.ensures.found in
    let other = c.in-Some-find.ensures.found in
    let first : IsIn (member c.in-Some.lead c.args.name.now.lead lead.0) v.agents = rw (c.roster-roster.ensures.agents, c.lead.ensures) at lead.1 in
    let second : IsIn (member c.in-Some-find.other c.args.name.now.other other.0) v.agents = rw (c.roster-roster.ensures.agents, c.other.ensures) at other.1 in
    let absent : (e : Event) → IsActive v.start (standing v) e → pair e ≡ c.args.name.now → ⊥ = λ e active same. (
    let joined = are_joined v c.lawful-2.ensures.set c.args.name.now c.in-Some.lead c.in-Some-find.other lead.0 other.0 first second e active same in
    let own : c.in-Some-partner.partner ≡ c.in-Some-find.other = joined_once v c.lawful-2.ensures.set c.in-Some.lead c.in-Some-partner.partner c.in-Some-find.other c.in-Some-partner.ensures.found joined in
    let off : c.ne.result ≡ false = search (rules, tests) in
    let on = c.if-ne.true in
    absurd cc) in
    rw (← c.self.view_is, ← c.bare-set.ensures) absent

pub returns-clause-found : goal.returns-clause-found
returns-clause-found g c =
    let v = c.bare-set.result.now.set in
    let lead = c.in-Some.ensures.found in
    let other = c.in-Some-find.ensures.found in
    let first : IsIn (member c.in-Some.lead c.args.name.now.lead lead.0) v.agents = rw (c.roster-roster.ensures.agents, c.lead.ensures) at lead.1 in
    let second : IsIn (member c.in-Some-find.other c.args.name.now.other other.0) v.agents = rw (c.roster-roster.ensures.agents, c.other.ensures) at other.1 in
    let own : c.in-Some-partner.partner ≡ c.in-Some-find.other = search (rules, tests) in
    let joined : AreJoined v c.in-Some.lead c.in-Some-find.other = subst (λ x. AreJoined v c.in-Some.lead x) own c.in-Some-partner.ensures.found in
    rw (← c.self.view_is, ← c.bare-set.ensures) (is_named v c.lawful-2.ensures.set c.args.name.now c.in-Some.lead c.in-Some-find.other lead.0 other.0 first second c.lawful.ensures joined)
