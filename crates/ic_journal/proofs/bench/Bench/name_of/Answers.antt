use Rattle.std.proofs.Common.{◌≡◌, ◌≢◌, ◌<◌, ℕ, List, Option, Some, None, length, refl, sym, ◌∙◌, subst}
use Rattle.std.specs.Prelude.{slice_get}
use Rattle.std.proofs.lemmas.Option.{slice_get-get_or}
use Rattle.std.proofs.lemmas.Result.{IfOk-weaker}
use Rattle.ic_name.specs.Names.{Name, start_name}
use Rattle.ic_names.specs.Tables.{name_at}
use Rattle.ic_path.specs.Orders.{IsIn}
use Rattle.ic_roster.specs.Rosters.{Member}
use Rattle.ic_journal.specs.Views.{BenchView, view_of}
use Rattle.ic_journal.specs.Reads.{IsNameOf}
use Rattle.ic_journal.proofs.bench.Bench.name_of.Goals as goal

-- what stands at the place of the agent's name is its name
name_under : (v : BenchView) (m : Member) → IsIn m v.agents → (ns : List Name) (k : ℕ) → k < length ns → name_at ns k ≡ m.name → (o : Option Name) → o ≡ slice_get ns k → IsNameOf v m.id o
name_under v m there ns k inside named None same = (let some : None ≡ Some (name_at ns k) = same ∙ slice_get-get_or ns k (start_name 0) inside in absurd cc)
name_under v m there ns k inside named (Some n) same =
    let some : Some n ≡ Some (name_at ns k) = same ∙ slice_get-get_or ns k (start_name 0) inside in
    let is : n ≡ name_at ns k = cc in
    (m, there, refl, sym (is ∙ named))

pub returns-in-Some : goal.returns-in-Some
returns-in-Some g c =
    let m : Member = record { id = c.args.id; name = name_at c.roster-roster.result.now.names c.in-Some.agent.name.place; kind = c.in-Some.agent.kind } in
    let there : IsIn m c.bare.result.now.set.agents = subst (λ (ms : List Member). IsIn m ms) c.roster-roster.ensures.agents c.in-Some.ensures.found in
    rw (← c.self.view_is, ← c.bare.ensures) (IfOk-weaker c.name.result _ _ (λ name same. name_under (view_of c.bare.result.now c.self.inside.history) m there c.roster-roster.result.now.names c.in-Some.agent.name.place c.in-Some.ensures.inside refl name same) (rw c.names.ensures at c.name.ensures))

pub returns-in-None : goal.returns-in-None
returns-in-None g c = rw (← c.self.view_is, ← c.bare.ensures) (subst (λ (ms : List Member). (m : Member) → IsIn m ms → m.id ≢ c.args.id) c.roster-roster.ensures.agents c.in-None.ensures.absent)
