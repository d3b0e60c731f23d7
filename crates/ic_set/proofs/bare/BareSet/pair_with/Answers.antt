use Rattle.std.proofs.Common.{inl, inr, refl, sym, ap, ◌∙◌}
use Rattle.ic_roster.proofs.Options.{if_none}
use Rattle.ic_set.specs.Views.{NamedView}
use Rattle.ic_set.proofs.ActivePairs.{joined_either, pair_joined, pair_turned}
use Rattle.ic_set.proofs.bare.BareSet.pair_with.Goals as goal

pub returns-in_err-meeting-clause-absent : goal.returns-in_err-meeting-clause-absent
returns-in_err-meeting-clause-absent g c = if_none c.from_residual.result _ (λ e p same h. (let j = joined_either _ c.lawful.ensures.set e p _ same h in c.in_err-meeting.ensures.absent j.0 j.1))

pub returns-in-Less-clause-found : goal.returns-in-Less-clause-found
returns-in-Less-clause-found g c =
    let m = c.in_ok-meeting.ensures.found in
    let names = c.names-names.ensures ∙ ap (λ (w : NamedView). w.names) c.self.view_is in
    (inl refl, _, pair_joined _ c.lawful.ensures.set _ _ m.first.there m.second.there (sym (rw names at c.in-Less.ensures)) m.joined)

pub returns-in-Equal : goal.returns-in-Equal
returns-in-Equal g c =
    let m = c.in_ok-meeting.ensures.found in
    let names = c.names-names.ensures ∙ ap (λ (w : NamedView). w.names) c.self.view_is in
    let is = rw names at c.cmp.ensures in
    record { found = (inr refl, _, pair_turned _ c.lawful.ensures.set _ _ m.first.there m.second.there (λ less. elim c.in-Equal.is [ inl e ↦ cc | inr e ↦ cc ]) m.joined); absent = tt }
