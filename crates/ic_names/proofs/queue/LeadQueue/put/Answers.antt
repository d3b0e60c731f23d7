use Rattle.std.proofs.Common.{◌≡◌, ℕ, Bool, true, false, ◌<◌, ◌++◌, List, length, length-append, IsTrue, ◌↔◌, inl, inr, refl, sym, subst, ap, arith}
use Rattle.ic_path.specs.Orders.{IsIn}
use Rattle.ic_path.proofs.Alikes.{alike-in}
use Rattle.ic_path.proofs.Picks.{in-cons_cases}
use Rattle.ic_names.specs.declared.queue.Lead.{Lead}
use Rattle.ic_names.specs.Tables.{name_at}
use Rattle.ic_names.specs.Queues.{places, leads_of, IsQueue}
use Rattle.ic_names.proofs.UpTo.{up_to_then}
use Rattle.ic_names.proofs.Flags.{added_together}
use Rattle.ic_names.proofs.Heaps.{fewer_leads}
use Rattle.ic_names.proofs.Queued.{queue_named, run_some, put_in_run, put_in_both, tells_put}
use Rattle.ic_names.proofs.queue.LeadQueue.put.Goals as goal

-- a name whose test fails isn't in the queue
fresh : (b : Bool) (n : ℕ) (old now : List Lead) → (IsTrue b ↔ IsIn n (places now)) → old ≡ now → b ≡ false → IsIn n (places old) → ⊥
fresh b n old now tells same off i = let on : b ≡ true = tells.1 (subst (λ ls. IsIn n (places ls)) same i) in cc

pub put-requires-2-clause-room : goal.put-requires-2-clause-room
put-requires-2-clause-room c =
    let ns = c.args.names.now in
    let run = c.self.inside.run.leads in
    let heap = c.self.inside.heap in
    let queue = subst (IsQueue ns) (sym c.self.view_is) c.requires.queue in
    let few = fewer_leads ns (run ++ heap.items) c.args.name.place (queue_named queue) c.self.invariant.flagged.once c.requires.inside (fresh _ _ _ _ c.has.ensures (ap leads_of c.self.view_is) c.if-has.false) in
    omega (arith, few, length-append run heap.items, ap (λ v. v.room) c.self.view_is, c.requires.room, c.self.invariant.heap_room, heap.ok.0)

pub invariant_of-self : goal.invariant_of-self
invariant_of-self c =
    let run = c.self.inside.run in
    let heap = c.self.inside.heap.items in
    let inside : c.args.name.place < length c.self.inside.queued.items = omega (arith, ap (λ v. v.room) c.self.view_is, c.requires.inside, c.requires.room) in
    added_together run c.put.new.self heap heap _ _ c.args.name.place _ c.self.invariant (fresh _ _ _ _ c.has.ensures (ap leads_of c.self.view_is) c.if-has.false) inside
    (put_in_run run.leads c.put.new.self.leads heap c.args.name.place c.in_default.ensures.put) c.put.ensures.some c.put.ensures.room refl

pub returns-in_default-clause-queue : goal.returns-in_default-clause-queue
returns-in_default-clause-queue c =
    let queue = subst (IsQueue c.args.names.now) (sym c.self.view_is) c.requires.queue in
    record {
      run = c.put.ensures.run;
      heap = queue.heap;
      first = λ n i. up_to_then _ _ (name_at c.args.names.now n) (c.put.ensures.first (run_some c.self.inside.run.leads c.self.inside.heap.items c.self.invariant.run_first i)) (queue.first n i);
    }

pub returns-in_default-clause-entered : goal.returns-in_default-clause-entered
returns-in_default-clause-entered c n =
    rw (← c.self.view_is) (tells_put _ _ c.args.name.place n (put_in_run c.self.inside.run.leads c.put.new.self.leads c.self.inside.heap.items c.args.name.place c.in_default.ensures.put))

pub invariant_of-self-2 : goal.invariant_of-self-2
invariant_of-self-2 c =
    let run = c.self.inside.run in
    let heap = c.self.inside.heap.items in
    let heap' = c.put-2.new.heap.items in
    let inside : c.args.name.place < length c.self.inside.queued.items = omega (arith, ap (λ v. v.room) c.self.view_is, c.requires.inside, c.requires.room) in
    added_together run c.put.new.self heap heap' _ _ c.args.name.place _ c.self.invariant (fresh _ _ _ _ c.has.ensures (ap leads_of c.self.view_is) c.if-has.false) inside
    (put_in_both run.leads c.put.new.self.leads heap heap' c.in-Some.left.name.place c.args.name.place c.in-Some.ensures.left c.put-2.ensures.put) c.put.ensures.some c.put.ensures.room c.put-2.ensures.room

pub returns-clause-queue : goal.returns-clause-queue
returns-clause-queue c =
    let ns = c.args.names.now in
    let queue = subst (IsQueue ns) (sym c.self.view_is) c.requires.queue in
    record {
      run = c.put.ensures.run;
      heap = c.put-2.ensures.heap;
      first = λ n i. elim (in-cons_cases (alike-in c.put-2.ensures.put i)) [
        | inl e ↦ rw e c.in-Some.ensures.behind
        | inr j ↦ up_to_then _ _ (name_at ns n) (c.put.ensures.first (run_some c.self.inside.run.leads c.self.inside.heap.items c.self.invariant.run_first j)) (queue.first n j)
      ];
    }

pub returns-clause-entered : goal.returns-clause-entered
returns-clause-entered c n =
    rw (← c.self.view_is)
    (tells_put _ _ c.args.name.place n
    (put_in_both c.self.inside.run.leads c.put.new.self.leads c.self.inside.heap.items c.put-2.new.heap.items c.in-Some.left.name.place c.args.name.place c.in-Some.ensures.left c.put-2.ensures.put))
