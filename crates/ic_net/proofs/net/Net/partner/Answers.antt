use Rattle.std.proofs.Common.{◌≡◌, ◌∙◌, ap, sym, arith}
use Rattle.std.proofs.lemmas.Grind.{common_steps}
use Rattle.std.proofs.lemmas.Option.{gets}
use Rattle.std.specs.Prelude.{slice_get, option_copied}
use Rattle.ic_net.specs.Sheets.{partner_list}
use Rattle.ic_net.specs.Tables.{partner_in}
use Rattle.ic_net.proofs.Lookups.{found_partner, found_free}
use Rattle.ic_net.proofs.net.Net.partner.Goals as goal

pub returns-in-Some : goal.returns-in-Some
returns-in-Some c =
    let found : option_copied c.get-in-Some.result ≡ slice_get (partner_list c.in-Some.agent.now.partners) c.in-Of.number = grind (arith, common_steps, gets) in
    rw (← c.self.view_is, c.in-Of.is) (found ∙ ap (partner_in c.in-Of.number) c.in-Some.ensures.value ∙ sym (found_partner c.in-Of.name c.in-Of.number c.self.inside.agents.entries))

pub returns-in-None : goal.returns-in-None
returns-in-None c =
    rw (← c.self.view_is, c.in-Of.is) (ap (partner_in c.in-Of.number) c.in-None.ensures.value ∙ sym (found_partner c.in-Of.name c.in-Of.number c.self.inside.agents.entries))

pub returns-in-Name : goal.returns-in-Name
returns-in-Name c = rw (← c.self.view_is, c.in-Name.is) (c.get-in-Name.ensures.value ∙ sym (found_free c.in-Name.number c.self.inside.frees.entries))
