use Rattle.std.proofs.Common.{◌≡◌, ◌∙◌, map, ap, sym, None}
use Rattle.std.specs.Prelude.{slice_get}
use Rattle.ic_theory.specs.Listed.{agent_among, partner_at}
use Rattle.ic_net.specs.Sheets.{listed_agent}
use Rattle.ic_net.specs.Tables.{partner_in}
use Rattle.ic_net.proofs.Lookups.{found_partner}
use Rattle.ic_net.proofs.net.Net.joins.Goals as goal

pub returns-in-Some : goal.returns-in-Some
returns-in-Some c =
    let found : partner_at 0 (agent_among c.args.lead.now (map listed_agent c.self.inside.agents.entries)) ≡ slice_get c.as_slice.result.now 0 =
    found_partner c.args.lead.now 0 c.self.inside.agents.entries ∙ ap (partner_in 0) (sym c.in-Some.ensures.value) ∙ ap (λ ps. slice_get ps 0) (sym c.as_slice.ensures.value) in
    rw (← c.self.view_is, found) c.is_principal.ensures

pub returns-in-None : goal.returns-in-None
returns-in-None c =
    let found : partner_at 0 (agent_among c.args.lead.now (map listed_agent c.self.inside.agents.entries)) ≡ None =
    found_partner c.args.lead.now 0 c.self.inside.agents.entries ∙ ap (partner_in 0) (sym c.in-None.ensures.value) in
    rw (← c.self.view_is, found) ((λ h. cc), (λ h. cc))
