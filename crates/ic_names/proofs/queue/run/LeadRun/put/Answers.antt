use Rattle.std.proofs.Common.{◌≡◌, ◌≢◌, ◌-◌, ◌<◌, ◌∷◌, ◌++◌, length, option_to_list, ap, arith}
use Rattle.std.specs.declared.cmp.Ordering.TheVariants.{Less}
use Rattle.ic_name.specs.Names.{name_cmp}
use Rattle.ic_path.proofs.Alikes.{alike_self}
use Rattle.ic_names.specs.Tables.{name_at}
use Rattle.ic_names.specs.Queues.{name_of, IsRun}
use Rattle.ic_names.proofs.UpTo.{up_to_itself, less_up_to}
use Rattle.ic_names.proofs.QueuedPlaces.{last-alike}
use Rattle.ic_names.proofs.PlacedFacts.{lead_at-before}
use Rattle.ic_names.proofs.Runs.{run_before, run_behind, run_short, last_named, last_behind, all-alike, short-alike}
use Rattle.ic_names.proofs.queue.run.LeadRun.put.Goals.{then-len-eq0-via-then-len-eq0, then-len-eq0-via-else-len-eq0+then-comes_before}
use Rattle.ic_names.proofs.queue.run.LeadRun.put.Goals as goal

-- the new lead is less than the first
comes_first : (c : goal.After-push_first) → 0 < length c.args.self.now.leads → name_cmp (name_of c.args.names.now c.args.self.now.leads 0) (name_at c.args.names.now c.args.lead.name.place) ≢ Less
comes_first c some = elim c.then-len-eq0.branch [
  | then-len-eq0-via-then-len-eq0 w ↦ absurd (omega (arith, w.if-len-eq0.true, c.len-len.ensures, ap (λ v. length v.leads) c.self.view_is, some))
  | then-len-eq0-via-else-len-eq0+then-comes_before w ↦ less_up_to (name_at c.args.names.now c.args.lead.name.place) (name_of c.args.names.now c.args.self.now.leads 0) (rw w.lead.ensures at (w.comes_before.ensures.0 w.if-comes_before.true))
]

-- the new lead and all that were in the run are a run
all_run : (c : goal.After-push_first) → IsRun c.args.names.now (c.args.lead ∷ c.pop_if_full-last.new.self.leads ++ option_to_list c.pop_if_full-last.result)
all_run c = rw c.pop_if_full-last.ensures.popped at (run_before c.requires.run c.requires.named (comes_first c))

pub returns-then-len-eq0-clause-run : goal.returns-then-len-eq0-clause-run
returns-then-len-eq0-clause-run c = rw c.push_first.ensures.pushed (run_short c.pop_if_full-last.result (all_run c))

pub returns-then-len-eq0-clause-put : goal.returns-then-len-eq0-clause-put
returns-then-len-eq0-clause-put c =
    rw (c.push_first.ensures.pushed, c.pop_if_full-last.ensures.popped) (all-alike (c.args.lead ∷ c.pop_if_full-last.new.self.leads) c.pop_if_full-last.result)

pub returns-then-len-eq0-clause-left : goal.returns-then-len-eq0-clause-left
returns-then-len-eq0-clause-left c =
    rw (c.push_first.ensures.pushed, c.pop_if_full-last.ensures.popped) (short-alike (c.args.lead ∷ c.pop_if_full-last.new.self.leads) c.pop_if_full-last.result)

pub returns-then-len-eq0-clause-named : goal.returns-then-len-eq0-clause-named
returns-then-len-eq0-clause-named c = last_named (c.args.lead ∷ c.pop_if_full-last.new.self.leads) c.pop_if_full-last.result (all_run c).named

pub returns-then-len-eq0-clause-behind : goal.returns-then-len-eq0-clause-behind
returns-then-len-eq0-clause-behind c = rw c.push_first.ensures.pushed (last_behind c.pop_if_full-last.new.self.leads c.pop_if_full-last.result (all_run c))

pub returns-then-len-eq0-clause-first : goal.returns-then-len-eq0-clause-first
returns-then-len-eq0-clause-first c = rw c.push_first.ensures.pushed (comes_first c)

pub returns-then-is_full-clause-left : goal.returns-then-is_full-clause-left
returns-then-is_full-clause-left c = alike_self _

pub returns-then-is_full-clause-first : goal.returns-then-is_full-clause-first
returns-then-is_full-clause-first c some = up_to_itself (name_of c.args.names.now c.args.self.now.leads 0)

pub returns-clause-run : goal.returns-clause-run
returns-clause-run c =
    let seen = ap (λ v. v.leads) c.self.view_is in
    rw (c.push_back_reserved.ensures.items, seen) (run_behind c.requires.run c.requires.named (λ k e.
    let last : c.len-len.result - 1 ≡ k = omega (arith, c.len-len.ensures, ap length seen, e) in
    less_up_to (name_of c.args.names.now c.args.self.now.leads k) (name_at c.args.names.now c.args.lead.name.place) (rw (c.lead-else-is_full.ensures, last) at (c.comes_before-else-is_full.ensures.0 c.if-not-comes_before.false))))

pub returns-clause-put : goal.returns-clause-put
returns-clause-put c = rw (c.push_back_reserved.ensures.items, ap (λ v. v.leads) c.self.view_is) (last-alike c.args.self.now.leads c.args.lead)

pub returns-clause-first : goal.returns-clause-first
returns-clause-first c some =
    let ls = c.args.self.now.leads in
    rw (c.push_back_reserved.ensures.items, ap (λ v. v.leads) c.self.view_is, lead_at-before ls c.args.lead 0 some) (up_to_itself (name_of c.args.names.now ls 0))
