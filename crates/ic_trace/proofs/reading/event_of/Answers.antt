use Rattle.std.proofs.Common.{sym, ap, ◌∙◌}
use Rattle.ic_name.specs.Names.{Name}
use Rattle.ic_theory.specs.Nets.{kind_of}
use Rattle.ic_trace.proofs.OnlyActive.{no_lead, no_other, only_active}
use Rattle.ic_trace.proofs.reading.event_of.Goals as goal

pub returns-in_default : goal.returns-in_default
returns-in_default c =
    let p = c.args.past.now in
    no_lead p c.lawful.ensures.proper c.lawful.ensures.sound c.args.name.now (sym (c.in_default.ensures ∙ ap (λ (n : Name). kind_of p.start p.events n) c.lead.ensures))

pub returns-in_default-kind : goal.returns-in_default-kind
returns-in_default-kind c =
    let p = c.args.past.now in
    no_other p c.lawful.ensures.proper c.lawful.ensures.sound c.args.name.now (sym (c.in_default-kind.ensures ∙ ap (λ (n : Name). kind_of p.start p.events n) c.other.ensures))

pub returns : goal.returns
returns c =
    let p = c.args.past.now in
    only_active p c.lawful.ensures.proper c.lawful.ensures.sound c.args.name.now c.in-Some.lead_kind c.in-Some-kind.other_kind
    (sym (c.in-Some.ensures ∙ ap (λ (n : Name). kind_of p.start p.events n) c.lead.ensures))
    (sym (c.in-Some-kind.ensures ∙ ap (λ (n : Name). kind_of p.start p.events n) c.other.ensures))
    c.lawful-2.ensures
    c.in_ok-lead.lead c.in_ok-other.other (c.in_ok-lead.ensures ∙ c.lead-2.ensures) (c.in_ok-other.ensures ∙ c.other-2.ensures) c.of.result c.of.ensures.some c.of.ensures.event
