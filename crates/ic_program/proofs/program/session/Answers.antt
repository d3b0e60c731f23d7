use Rattle.std.proofs.Common.{◌≡◌, ◌∙◌, ℕ, List, Option, [], ap, rules, subst}
use Rattle.std.proofs.KnownBytes.{prepend_known-nil}
use Rattle.std.specs.Prelude.{IfOk, IfSome, OnErr}
use Rattle.std.specs.Io.KnownBytes.{Appends, prepend_known}
use Rattle.ic_command.specs.Left.{unread}
use Rattle.ic_command.specs.declared.lines.input.Input.{Input}
use Rattle.ic_session.proofs.SessionFacts.{begun_nothing}
use Rattle.ic_session.specs.Sessions.{IsBegun, Writes}
use Rattle.ic_session.specs.Streams.{left_in, written_to}
use Rattle.ic_session.specs.declared.streams.Source.{Source}
use Rattle.ic_program.proofs.program.session.Goals as goal

-- An input of which nothing was read has left what its reader has left.
fresh_left : {held : List ℕ} (known : Option (List ℕ)) → held ≡ [] → prepend_known held known ≡ known
fresh_left known e = ap (λ bytes. prepend_known bytes known) e ∙ prepend_known-nil known

-- and so has a source with it
source_left : {R : Type 0} (remaining : R → Option (List ℕ)) (source : Source R) (input : Input) (reader : R) → source.input ≡ input → source.reader.now ≡ reader → unread input ≡ []
    → left_in remaining source ≡ remaining reader
source_left remaining source input reader same now fresh = fresh_left (remaining source.reader.now) (ap unread same ∙ fresh) ∙ ap remaining now

pub returns-in_default-clause-began : goal.returns-in_default-clause-began
returns-in_default-clause-began g c =
    begun_nothing c.args.setting.now.mode (g.R.Read.remaining c.args.reader.now) (g.W.Write.contents c.args.writer.now)

pub returns-then-setting-clause-wrote : goal.returns-then-setting-clause-wrote
returns-then-setting-clause-wrote g c =
    let left = source_left g.R.Read.remaining c.new-source.result c.in-Ok.input c.args.reader.now c.new-source.ensures.input c.new-source.ensures.reader c.in-Ok.ensures.fresh in
    let wrote = subst (λ (known : Option (List ℕ)). IfOk c.run_session.result (λ status. IfSome known (λ bytes. Writes c.args.setting.now.mode bytes status (g.W.Write.contents c.args.writer.now) (written_to g.W.Write.contents c.run_session.new.sink))))
    left c.run_session.ensures.written in
    search (rules, wrote, c.run_session.ensures.same_writer)

pub returns-then-setting-clause-began : goal.returns-then-setting-clause-began
returns-then-setting-clause-began g c =
    let left = source_left g.R.Read.remaining c.new-source.result c.in-Ok.input c.args.reader.now c.new-source.ensures.input c.new-source.ensures.reader c.in-Ok.ensures.fresh in
    let began = subst (λ (known : Option (List ℕ)). OnErr c.run_session.result (IfSome known (λ bytes. (text : List ℕ) × IsBegun c.args.setting.now.mode bytes text × Appends (g.W.Write.contents c.args.writer.now) (written_to g.W.Write.contents c.run_session.new.sink) text)))
    left c.run_session.ensures.begun in
    search (rules, began, c.run_session.ensures.same_writer)

pub returns-clause-wrote : goal.returns-clause-wrote
returns-clause-wrote g c =
    let left = source_left g.R.Read.remaining c.new-source.result c.in-Ok.input c.args.reader.now c.new-source.ensures.input c.new-source.ensures.reader c.in-Ok.ensures.fresh in
    let wrote = subst (λ (known : Option (List ℕ)). IfOk c.run_session-2.result (λ status. IfSome known (λ bytes. Writes c.args.setting.now.mode bytes status (g.W.Write.contents c.args.writer.now) (written_to g.W.Write.contents c.run_session-2.new.sink))))
    left c.run_session-2.ensures.written in
    search (rules, wrote, c.run_session-2.ensures.same_writer)

pub returns-clause-began : goal.returns-clause-began
returns-clause-began g c =
    let left = source_left g.R.Read.remaining c.new-source.result c.in-Ok.input c.args.reader.now c.new-source.ensures.input c.new-source.ensures.reader c.in-Ok.ensures.fresh in
    let began = subst (λ (known : Option (List ℕ)). OnErr c.run_session-2.result (IfSome known (λ bytes. (text : List ℕ) × IsBegun c.args.setting.now.mode bytes text × Appends (g.W.Write.contents c.args.writer.now) (written_to g.W.Write.contents c.run_session-2.new.sink) text)))
    left c.run_session-2.ensures.begun in
    search (rules, began, c.run_session-2.ensures.same_writer)
