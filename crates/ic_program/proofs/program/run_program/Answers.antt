use Rattle.std.proofs.Common.{map}
use Rattle.clap.specs.Words.{kind_of}
use Rattle.ic_program.specs.Runs.Runs.{explained}
use Rattle.ic_program.proofs.RunFacts.{run_named, run_refused, run_unwritten}
use Rattle.ic_program.proofs.RunInputs.{chose_files}
use Rattle.ic_program.proofs.program.run_program.Goals as goal

pub returns-in-Ok-clause-ran : goal.returns-in-Ok-clause-ran
returns-in-Ok-clause-ran g c = chose_files _ _ c.in-Ok.asked.options _ _ _ _ c.in-Ok.ensures.chosen c.in-Ok.ensures.files c.run_asked.ensures.input c.run_asked.ensures.files

pub returns-in-Err-clause-ran : goal.returns-in-Err-clause-ran
returns-in-Err-clause-ran g c = explained (kind_of c.in-Err.error) c.in-Err.ensures.fault c.explain.ensures

pub returns-in-Ok-clause-refused : goal.returns-in-Ok-clause-refused
returns-in-Ok-clause-refused g c =
    run_refused (map g.S.AsStr.text c.args.words.now) (g.R.Read.remaining c.args.reader.now) _ _ c.run_asked.result
    (chose_files _ _ c.in-Ok.asked.options _ _ _ _ c.in-Ok.ensures.chosen c.in-Ok.ensures.files c.run_asked.ensures.input c.run_asked.ensures.files)

pub returns-in-Err-clause-refused : goal.returns-in-Err-clause-refused
returns-in-Err-clause-refused g c =
    run_refused (map g.S.AsStr.text c.args.words.now) (g.R.Read.remaining c.args.reader.now) _ _ c.explain.result
    (explained (kind_of c.in-Err.error) c.in-Err.ensures.fault c.explain.ensures)

pub returns-in-Ok-clause-named : goal.returns-in-Ok-clause-named
returns-in-Ok-clause-named g c =
    run_named (map g.S.AsStr.text c.args.words.now) (g.R.Read.remaining c.args.reader.now) _ _ c.run_asked.result
    (chose_files _ _ c.in-Ok.asked.options _ _ _ _ c.in-Ok.ensures.chosen c.in-Ok.ensures.files c.run_asked.ensures.input c.run_asked.ensures.files)

pub returns-in-Err-clause-named : goal.returns-in-Err-clause-named
returns-in-Err-clause-named g c =
    run_named (map g.S.AsStr.text c.args.words.now) (g.R.Read.remaining c.args.reader.now) _ _ c.explain.result
    (explained (kind_of c.in-Err.error) c.in-Err.ensures.fault c.explain.ensures)

pub returns-in-Ok-clause-unwritten : goal.returns-in-Ok-clause-unwritten
returns-in-Ok-clause-unwritten g c =
    run_unwritten (map g.S.AsStr.text c.args.words.now) (g.R.Read.remaining c.args.reader.now) _ _ c.run_asked.result
    (chose_files _ _ c.in-Ok.asked.options _ _ _ _ c.in-Ok.ensures.chosen c.in-Ok.ensures.files c.run_asked.ensures.input c.run_asked.ensures.files)

pub returns-in-Err-clause-unwritten : goal.returns-in-Err-clause-unwritten
returns-in-Err-clause-unwritten g c =
    run_unwritten (map g.S.AsStr.text c.args.words.now) (g.R.Read.remaining c.args.reader.now) _ _ c.explain.result
    (explained (kind_of c.in-Err.error) c.in-Err.ensures.fault c.explain.ensures)
