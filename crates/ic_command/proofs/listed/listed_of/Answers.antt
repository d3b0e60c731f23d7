use Rattle.std.proofs.Common.{◌≡◌, ℕ, true, false, List, sym, subst, ◌∙◌}
use Rattle.std.proofs.lemmas.Result.{IfOk-weaker}
use Rattle.std.specs.Prelude.{Option, Some, None}
use Rattle.std.specs.Io.BufRead.{strip_last}
use Rattle.ic_name.specs.Events.{Pair}
use Rattle.ic_command.specs.Commands.{is_well_formed}
use Rattle.ic_command.specs.Listed.{IsListedIn, Lists, ListsIn}
use Rattle.ic_command.specs.Words.{words}
use Rattle.ic_command.proofs.Bodies.{body_test, apart}
use Rattle.ic_command.proofs.listed.listed_of.Goals as goal

-- what the words of the body list, the line does
body_lists : (line body : List ℕ) → body ≡ strip_last 13 line → is_well_formed (strip_last 13 line) ≡ true → (o : Option Pair) → ListsIn (words body) o → IsListedIn line o
body_lists line body e formed (Some p) lists = (formed, subst (λ bytes. Lists (words bytes) p) e lists)
body_lists line body e formed None none = λ p l. none p (subst (λ bytes. Lists (words bytes) p) (sym e) l.1)

pub returns-then-is_well_formed : goal.returns-then-is_well_formed
returns-then-is_well_formed c =
    let body = c.without_return-body.ensures in
    let formed = body_test c.args.line.now c.without_return-body.result.now c.is_well_formed.result true body c.is_well_formed.ensures c.if-is_well_formed.true in
    IfOk-weaker c.listed_in.result _ _ (body_lists c.args.line.now c.without_return-body.result.now body formed) c.listed_in.ensures

pub returns-else-is_well_formed : goal.returns-else-is_well_formed
returns-else-is_well_formed c =
    let broken = body_test c.args.line.now c.without_return-body.result.now c.is_well_formed.result false c.without_return-body.ensures c.is_well_formed.ensures c.if-is_well_formed.false in
    λ p l. apart (sym l.0 ∙ broken)
