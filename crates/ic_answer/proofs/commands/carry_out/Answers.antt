use Rattle.std.proofs.lemmas.Result.{IfOk-weaker}
use Rattle.ic_command.specs.declared.command.Command.TheVariants.{Net, Active, Journal, Why}
use Rattle.ic_answer.specs.Texts.{answer_text}
use Rattle.ic_answer.proofs.StandingNet.{told_journal}
use Rattle.ic_answer.proofs.ToldReplies.{nothing_told, malformed_told, answer_told, text_told}
use Rattle.ic_answer.proofs.commands.carry_out.Goals as goal

pub returns-in-Nothing-clause-turns : goal.returns-in-Nothing-clause-turns
returns-in-Nothing-clause-turns g c = nothing_told c.args.bench.now c.args.command c.new.result.items c.in-Nothing.is c.new.ensures.items

pub returns-in-Malformed-clause-turns : goal.returns-in-Malformed-clause-turns
returns-in-Malformed-clause-turns g c = malformed_told c.args.bench.now c.args.command c.in-Malformed.is

pub returns-in-Net-clause-turns : goal.returns-in-Net-clause-turns
returns-in-Net-clause-turns g c = text_told c.args.bench.now c.args.command Net (answer_text c.text_or_memory.result) c.net.result c.in-Net.is tt c.net.ensures c.text_or_memory.ensures.text c.text_or_memory.ensures.memory

pub returns-in-Active-clause-turns : goal.returns-in-Active-clause-turns
returns-in-Active-clause-turns g c =
    text_told c.args.bench.now c.args.command Active (answer_text c.text_or_memory-in-Active.result) c.active.result c.in-Active.is tt c.active.ensures c.text_or_memory-in-Active.ensures.text c.text_or_memory-in-Active.ensures.memory

pub returns-in-Journal-clause-turns : goal.returns-in-Journal-clause-turns
returns-in-Journal-clause-turns g c =
    text_told c.args.bench.now c.args.command Journal (answer_text c.text_or_memory-in-Journal.result) c.journal.result c.in-Journal.is tt (IfOk-weaker c.journal.result _ _ (λ text e. told_journal c.args.bench.now e.0 e.1 text.items e.2) c.journal.ensures) c.text_or_memory-in-Journal.ensures.text c.text_or_memory-in-Journal.ensures.memory

pub returns-in-Why-clause-turns : goal.returns-in-Why-clause-turns
returns-in-Why-clause-turns g c =
    answer_told c.args.bench.now c.args.command (Why c.in-Why.event) (answer_text c.answer_or_memory.result) c.why.result c.in-Why.is tt c.why.ensures c.answer_or_memory.ensures.answer c.answer_or_memory.ensures.memory
