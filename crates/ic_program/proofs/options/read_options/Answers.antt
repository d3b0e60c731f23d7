use Rattle.std.proofs.Common.{ap, codes, map, refl, ◌∙◌, sym}
use Rattle.std.specs.Str.Parse.{ExplainsUnsignedError, HasUnsignedDigitsIfOk, ParsesUnsigned}
use Rattle.clap.specs.Words.{fault_of, is_simple_and_free}
use Rattle.ic_program.proofs.GivenFiles.{files_chosen}
use Rattle.ic_program.proofs.GivenFlag.{flag_chosen}
use Rattle.ic_program.proofs.GivenNumbers.{budget_chosen, workers_chosen}
use Rattle.ic_program.proofs.options.read_options.Goals as goal

pub returns-clause-chosen : goal.returns-clause-chosen
returns-clause-chosen g c =
    let words = map g.S.AsStr.text c.args.words.now in
    let made = c.in_ok-command.ensures in
    let parsed = c.in_ok-matches.ensures in
    record {
      faultless = ap (λ app. fault_of app words) (sym made.shape) ∙ parsed.kinds (ap is_simple_and_free made.shape);
      workers = workers_chosen c.in_ok-command.field-0 c.in_ok-matches.matches words parsed.parsed made.plain made.local made.shape parsed.matches
          _ (λ bs r. ParsesUnsigned 8 10 bs r × ExplainsUnsignedError 10 bs r × HasUnsignedDigitsIfOk bs r) (λ u x h. h.0)
          c.get_one-workers.result c.get_one-workers.ensures.none c.get_one-workers.ensures.value c.unwrap_or.result c.unwrap_or.ensures;
      budget = budget_chosen c.in_ok-command.field-0 c.in_ok-matches.matches words parsed.parsed made.plain made.local made.shape parsed.matches
          _ (λ bs r. ParsesUnsigned 32 10 bs r × ExplainsUnsignedError 10 bs r × HasUnsignedDigitsIfOk bs r) (λ u x h. h.0)
          c.get_one-budget.result c.get_one-budget.ensures.none c.get_one-budget.ensures.value c.unwrap_or-2.result c.unwrap_or-2.ensures;
      explains = flag_chosen (codes "explain") c.in_ok-command.field-0 c.in_ok-matches.matches words made.shape parsed.matches
          c.get_flag.result c.get_flag.ensures.none c.get_flag.ensures.value c.get_flag.ensures.other;
      stops = flag_chosen (codes "stop") c.in_ok-command.field-0 c.in_ok-matches.matches words made.shape parsed.matches
          c.get_flag-2.result c.get_flag-2.ensures.none c.get_flag-2.ensures.value c.get_flag-2.ensures.other;
      echoes = flag_chosen (codes "echo") c.in_ok-command.field-0 c.in_ok-matches.matches words made.shape parsed.matches
          c.get_flag-3.result c.get_flag-3.ensures.none c.get_flag-3.ensures.value c.get_flag-3.ensures.other;
      interactive = flag_chosen (codes "interactive") c.in_ok-command.field-0 c.in_ok-matches.matches words made.shape parsed.matches
          c.get_flag-4.result c.get_flag-4.ensures.none c.get_flag-4.ensures.value c.get_flag-4.ensures.other;
    }

pub returns-clause-files : goal.returns-clause-files
returns-clause-files g c =
    files_chosen c.in_ok-command.field-0 c.in_ok-matches.matches (map g.S.AsStr.text c.args.words.now) c.in_ok-command.ensures.shape c.in_ok-matches.ensures.matches
    c.get_strs.result _ c.unwrap_or-3.result c.in_ok-files.files.items c.get_strs.ensures refl c.unwrap_or-3.ensures c.in_ok-files.ensures.items
