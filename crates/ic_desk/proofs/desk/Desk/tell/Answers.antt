-- What is told in answer to each question.
use Rattle.std.proofs.Common.{ap, ◌∙◌}
use Rattle.std.proofs.lemmas.Result.{IfOk-weaker}
use Rattle.ic_command.specs.declared.question.Question.TheVariants.{Agents, Causes, Dependents, History, Wire}
use Rattle.ic_desk.specs.Views.{DeskView}
use Rattle.ic_desk.proofs.DeskTurns.{desk_still}
use Rattle.ic_desk.proofs.DeskTellings.{bench_text, bench_answer, marks_told, rules_told, help_told, steps_told, unstep_told}
use Rattle.ic_desk.proofs.desk.Desk.tell.Goals as goal

pub returns-in-Agents-clause-told : goal.returns-in-Agents-clause-told
returns-in-Agents-clause-told g c = bench_text c.args.self.now c.self.inside.bench c.args.question Agents _ c.tell_agents.result (ap (λ (d : DeskView). d.bench) c.self.view_is) c.in-Agents.is c.tell_agents.ensures c.text_or_memory.ensures.text c.text_or_memory.ensures.memory

pub returns-in-Causes-clause-told : goal.returns-in-Causes-clause-told
returns-in-Causes-clause-told g c = bench_text c.args.self.now c.self-in-Causes.inside.bench c.args.question Causes _ c.tell_causes.result (ap (λ (d : DeskView). d.bench) c.self-in-Causes.view_is) c.in-Causes.is c.tell_causes.ensures c.text_or_memory-in-Causes.ensures.text c.text_or_memory-in-Causes.ensures.memory

pub returns-in-Dependents-clause-told : goal.returns-in-Dependents-clause-told
returns-in-Dependents-clause-told g c = bench_answer c.args.self.now c.self-in-Dependents.inside.bench c.args.question (Dependents c.in-Dependents.event) _ c.tell_dependents.result (ap (λ (d : DeskView). d.bench) c.self-in-Dependents.view_is) c.in-Dependents.is c.tell_dependents.ensures c.answer_or_memory.ensures.answer c.answer_or_memory.ensures.memory

pub returns-in-Wire-clause-told : goal.returns-in-Wire-clause-told
returns-in-Wire-clause-told g c = bench_answer c.args.self.now c.self-in-Wire.inside.bench c.args.question (Wire c.in-Wire.place) _ c.tell_wire.result (ap (λ (d : DeskView). d.bench) c.self-in-Wire.view_is) c.in-Wire.is c.tell_wire.ensures c.answer_or_memory-in-Wire.ensures.answer c.answer_or_memory-in-Wire.ensures.memory

pub returns-in-History-clause-told : goal.returns-in-History-clause-told
returns-in-History-clause-told g c = bench_text c.args.self.now c.self-in-History.inside.bench c.args.question History _ c.tell_history.result (ap (λ (d : DeskView). d.bench) c.self-in-History.view_is) c.in-History.is c.tell_history.ensures c.text_or_memory-in-History.ensures.text c.text_or_memory-in-History.ensures.memory

pub returns-in-Marks-clause-told : goal.returns-in-Marks-clause-told
returns-in-Marks-clause-told g c = marks_told c.args.self.now c.deref.result.now c.args.question _ c.marks_text.result (c.deref.ensures.value ∙ ap (λ (d : DeskView). d.marks) c.self-in-Marks.view_is) c.in-Marks.is c.marks_text.ensures c.text_or_memory-in-Marks.ensures.text c.text_or_memory-in-Marks.ensures.memory

pub returns-in-Rules-clause-told : goal.returns-in-Rules-clause-told
returns-in-Rules-clause-told g c = rules_told c.args.self.now c.args.question _ c.from_slice.result c.in-Rules.is (IfOk-weaker c.from_slice.result _ _ (λ t e. e ∙ c.as_bytes.ensures.value) c.from_slice.ensures.items) c.text_or_memory-in-Rules.ensures.text c.text_or_memory-in-Rules.ensures.memory

pub returns-in-Help-clause-told : goal.returns-in-Help-clause-told
returns-in-Help-clause-told g c = help_told c.args.self.now c.args.question _ c.from_slice-in-Help.result c.in-Help.is (IfOk-weaker c.from_slice-in-Help.result _ _ (λ t e. e ∙ c.as_bytes-in-Help.ensures.value) c.from_slice-in-Help.ensures.items) c.text_or_memory-in-Help.ensures.text c.text_or_memory-in-Help.ensures.memory

pub invariant_of-self : goal.invariant_of-self
invariant_of-self g c = desk_still c.self-in-Steps.inside.bench c.step_often.new.bench c.self-in-Steps.inside.marks.items c.self-in-Steps.invariant c.step_often.ensures.turns.start c.step_often.ensures.lines

pub returns-in-Steps-clause-told : goal.returns-in-Steps-clause-told
returns-in-Steps-clause-told g c =
    steps_told c.args.self.now c.self-in-Steps.inside.bench c.step_often.new.bench c.self-in-Steps.inside.marks.items c.args.question c.in-Steps.most _ c.self-in-Steps.view_is c.in-Steps.is c.step_often.ensures.turns

pub invariant_of-self-in-Unstep : goal.invariant_of-self-in-Unstep
invariant_of-self-in-Unstep g c = desk_still c.self-in-Unstep.inside.bench c.unstep.new.bench c.self-in-Unstep.inside.marks.items c.self-in-Unstep.invariant c.unstep.ensures.turns.start c.unstep.ensures.lines

pub returns-in-Unstep-clause-told : goal.returns-in-Unstep-clause-told
returns-in-Unstep-clause-told g c =
    unstep_told c.args.self.now c.self-in-Unstep.inside.bench c.unstep.new.bench c.self-in-Unstep.inside.marks.items c.args.question c.in-Unstep.most _ c.self-in-Unstep.view_is c.in-Unstep.is c.unstep.ensures.turns
