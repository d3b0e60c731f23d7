use Rattle.std.proofs.Common.{◌≡◌, subst}
use Rattle.std.specs.Prelude.{IfNone}
use Rattle.ic_names.specs.Tables.{name_at}
use Rattle.ic_roster.specs.Rosters.{IsNewName}
use Rattle.ic_roster.proofs.Options.{if_none}
use Rattle.ic_roster.proofs.Named.{absent_name}
use Rattle.ic_roster.proofs.roster.Roster.find.Goals as goal

pub returns-in_err-place-clause-absent : goal.returns-in_err-place-clause-absent
returns-in_err-place-clause-absent c =
    rw (← c.self.view_is) (if_none c.from_residual.result _ (absent_name c.self.inside.names c.self.inside.agents c.self.inside.events c.args.name.now c.self.invariant c.in_err-place.ensures.absent))

pub returns-clause-absent : goal.returns-clause-absent
returns-clause-absent c =
    let named : name_at c.args.self.now.names c.in_ok-place.place.place ≡ c.args.name.now = rw (← c.self.view_is) c.in_ok-place.ensures.found.named in
    subst (λ n. IfNone c.named.result (IsNewName c.args.self.now.agents n)) named c.named.ensures.absent
