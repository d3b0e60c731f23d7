use Rattle.std.proofs.Common.{◌≡◌, ◌∙◌, refl, sym, ap}
use Rattle.ic_name.specs.Events.{Event}
use Rattle.ic_names.specs.Tables.{name_at, StandsAt}
use Rattle.ic_roster.specs.Rosters.{Stander, IsNamed}
use Rattle.ic_roster.proofs.Options.{if_none}
use Rattle.ic_roster.proofs.Named.{absent_lead}
use Rattle.ic_roster.proofs.OwnEvents.{led_there, same_lead}
use Rattle.ic_roster.proofs.roster.Roster.find_event.Goals as goal

pub returns-in_err-lead-clause-absent : goal.returns-in_err-lead-clause-absent
returns-in_err-lead-clause-absent c =
    let absent = absent_lead c.self.inside.names c.self.inside.agents c.self.inside.events c.lead.result.now c.self.invariant c.in_err-lead.ensures.absent in
    rw (← c.self.view_is) (if_none c.from_residual.result _ (λ x i e. absent x i (ap (λ p. p.lead) e ∙ sym c.lead.ensures)))

pub returns-in_err-id-clause-absent : goal.returns-in_err-id-clause-absent
returns-in_err-id-clause-absent c =
    let lead : name_at c.args.self.now.names c.in_ok-lead.lead.place ≡ c.args.name.now.lead = rw (← c.self.view_is) (c.in_ok-lead.ensures.found.named ∙ c.lead.ensures) in
    if_none c.from_residual-in_err-id.result _ (λ x i e. c.in_err-id.ensures.absent x i (ap (λ p. p.lead) e ∙ sym lead))

pub unreachable-requires : goal.unreachable-requires
unreachable-requires c = let x = c.in_ok-id.ensures.found in c.in-None.ensures.absent x.0 x.1 x.2

pub returns-in-Some-clause-found : goal.returns-in-Some-clause-found
returns-in-Some-clause-found c =
    let z = c.in-Some.ensures.found in
    let x = c.in_ok-id.ensures.found in
    let lead : name_at c.args.self.now.names c.in_ok-lead.lead.place ≡ c.args.name.now.lead = rw (← c.self.view_is) (c.in_ok-lead.ensures.found.named ∙ c.lead.ensures) in
    let led = led_there c.args.self.now.events x.0 z.0 c.lawful.ensures.lines x.1 z.1 (z.2 ∙ sym x.2) (x.3 ∙ lead) in
    let named : name_at c.args.self.now.names c.in-Some.event.interaction.other.place ≡ c.args.name.now.other = rw (← c.self.view_is) ((c.if-is.ensures.0 refl).named ∙ c.other.ensures) in
    let other : z.0.event.other ≡ c.args.name.now.other = ap (λ (e : Event). e.other) z.3 ∙ named in
    (z.0, z.1, z.2, λ i. record { lead = led i; other = other i })

pub returns-in-Some-2-clause-absent : goal.returns-in-Some-2-clause-absent
returns-in-Some-2-clause-absent c = λ x i e.
    (let z = c.in-Some.ensures.found in
    let y = c.in_ok-id.ensures.found in
    let lead : name_at c.args.self.now.names c.in_ok-lead.lead.place ≡ c.args.name.now.lead = rw (← c.self.view_is) (c.in_ok-lead.ensures.found.named ∙ c.lead.ensures) in
    let led = led_there c.args.self.now.events y.0 z.0 c.lawful.ensures.lines y.1 z.1 (z.2 ∙ sym y.2) (y.3 ∙ lead) in
    let same = same_lead c.args.self.now.events x z.0 c.lawful.ensures.lines i z.1 (led ∙ ap (λ p. p.lead) (sym e)) in
    let told : name_at c.args.self.now.names c.in-Some.event.interaction.other.place ≡ z.0.event.other = ap (λ (f : Event). f.other) (sym z.3) in
    let other : name_at c.args.self.now.names c.in-Some.event.interaction.other.place ≡ c.other.result.now = told ∙ ap (λ (z : Stander). z.event.other) (sym same) ∙ ap (λ p. p.other) e ∙ sym c.other.ensures in
    let named : IsNamed c.args.self.now.names c.in-Some.event.interaction = c.in-Some.ensures.named in
    let there : StandsAt c.args.self.now.names c.other.result.now c.in-Some.event.interaction.other.place = record { within = named.other; named = other } in
    let stands : StandsAt c.self.inside.names c.other.result.now c.in-Some.event.interaction.other.place = rw (← c.self.view_is) at there in
    let no = c.if-is.ensures.1 stands in
    cc)
