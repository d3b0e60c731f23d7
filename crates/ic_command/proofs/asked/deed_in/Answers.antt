use Rattle.std.proofs.Common.{◌∷◌, Some, inl, inr, refl, sym, subst}
use Rattle.ic_command.specs.Asked.{AreAskedWords}
use Rattle.ic_command.specs.Commands.{IsEventIn, deed_word}
use Rattle.ic_command.specs.Words.{words}
use Rattle.ic_command.specs.declared.asked.Asked.TheVariants.{Alone}
use Rattle.ic_command.specs.declared.request.Request.TheVariants.{Bench}
use Rattle.ic_command.proofs.AskedWords.{asked_deed, asked_no_deed}
use Rattle.ic_command.proofs.PlainWords.{plain_agents}
use Rattle.ic_command.proofs.asked.deed_in.Goals as goal

pub returns-in-Some-clause-asked : goal.returns-in-Some-clause-asked
returns-in-Some-clause-asked c =
    subst (λ d. AreAskedWords (deed_word c.args.deed ∷ words c.args.behind.now) (Alone (Bench d))) (sym c.with.ensures)
    (asked_deed c.args.deed (words c.args.behind.now) c.in-Some.event c.in_ok-event.field-0 c.in_ok-event.ensures c.in-Some.is)

pub returns-in-Some-clause-plain : goal.returns-in-Some-clause-plain
returns-in-Some-clause-plain c = inr (plain_agents (subst (IsEventIn (words c.args.behind.now)) c.in-Some.is c.in_ok-event.ensures))

pub returns-in-None-clause-asked : goal.returns-in-None-clause-asked
returns-in-None-clause-asked c = asked_no_deed c.args.deed (words c.args.behind.now) c.in_ok-event.field-0 c.in_ok-event.ensures c.in-None.is

pub returns-in-None-clause-plain : goal.returns-in-None-clause-plain
returns-in-None-clause-plain c = inl refl
