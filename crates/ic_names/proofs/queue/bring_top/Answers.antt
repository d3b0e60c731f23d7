use Rattle.std.proofs.Common.{rules, ◌≡◌, ◌≢◌, true, false, ◌<◌, length, arith}
use Rattle.std.specs.declared.cmp.Ordering.TheVariants.{Less}
use Rattle.std.proofs.lemmas.List.{get_or_read}
use Rattle.ic_name.specs.Names.{name_cmp}
use Rattle.ic_path.proofs.Alikes.{alike_self, alike_back, alike-in}
use Rattle.ic_path.proofs.Picks.{in_more}
use Rattle.ic_names.specs.Tables.{name_at}
use Rattle.ic_names.specs.Queues.{lead_at, name_of}
use Rattle.ic_names.proofs.UpTo.{less_up_to, up_to_then}
use Rattle.ic_names.proofs.PlacedFacts.{no_lead}
use Rattle.ic_names.proofs.QueuedPlaces.{in-places}
use Rattle.ic_names.proofs.Heaps.{top_least, named_at, read_named}
use Rattle.ic_names.proofs.Runs.{run_before}
use Rattle.ic_names.proofs.Queued.{put_in_heap}
use Rattle.ic_names.proofs.queue.bring_top.Goals.{else-len-gt0-via-then-len-gt0+else-not-comes_before, else-len-gt0-via-else-len-gt0}
use Rattle.ic_names.proofs.queue.bring_top.Goals as goal

pub returns-then-len-eq0-clause-queue : goal.returns-then-len-eq0-clause-queue
returns-then-len-eq0-clause-queue c = record {
  run = c.requires.run;
  heap = c.requires.heap;
  first = λ n i. (let r = in-places c.args.heap.now.items i in absurd (omega (arith, r.1, c.args.heap.now.ok.0, c.len.ensures, c.if-len-eq0.true)));
}

pub returns-then-len-eq0-clause-alike : goal.returns-then-len-eq0-clause-alike
returns-then-len-eq0-clause-alike c = alike_self _

pub comes_before-requires-clause-first : goal.comes_before-requires-clause-first
comes_before-requires-clause-first c = read_named c.args.heap.now.items _ _ _ c.requires.heap.named c.index.ensures (search rules) c.args.heap.now.ok.0

pub returns-then-not-comes_before-clause-alike : goal.returns-then-not-comes_before-clause-alike
returns-then-not-comes_before-clause-alike c = alike_self _

pub returns-then-not-comes_before-clause-queue : goal.returns-then-not-comes_before-clause-queue
returns-then-not-comes_before-clause-queue c =
    let ns = c.args.names.now in
    let run = c.args.run.now.leads in
    let heap = c.args.heap.now.items in
    let some : 0 < length heap = omega (arith, c.args.heap.now.ok.0, c.len.ensures, c.if-len-eq0.false) in
    let top : c.index.result.now ≡ lead_at heap 0 = get_or_read heap 0 c.index.result.now some c.index.ensures no_lead in
    record {
      run = c.requires.run;
      heap = c.requires.heap;
      first = λ n i. up_to_then (name_of ns run 0) (name_of ns heap 0) (name_at ns n)
          (λ less. (let t : c.comes_before.result ≡ true = c.comes_before.ensures.1 (rw (top, c.lead.ensures) less) in let f : c.comes_before.result ≡ false = c.if-not-comes_before.true in cc))
          ((top_least c.requires.heap some).none_less n i);
    }

pub returns-clause-queue : goal.returns-clause-queue
returns-clause-queue c =
    let ns = c.args.names.now in
    let run = c.args.run.now.leads in
    let heap = c.args.heap.now.items in
    let some : 0 < length heap = omega (arith, c.args.heap.now.ok.0, c.len.ensures, c.if-len-eq0.false) in
    let order : 0 < length run → name_cmp (name_of ns run 0) (name_of ns heap 0) ≢ Less = λ has. elim c.else-len-gt0.branch [
      | else-len-gt0-via-then-len-gt0+else-not-comes_before w ↦ (let top : w.index.result.now ≡ lead_at heap 0 = get_or_read heap 0 w.index.result.now some w.index.ensures no_lead in
          less_up_to (name_of ns heap 0) (name_of ns run 0) (rw (top, w.lead.ensures) at (w.comes_before.ensures.0 w.if-not-comes_before.false)))
      | else-len-gt0-via-else-len-gt0 w ↦ absurd (omega (arith, w.if-len-gt0.false, c.len-2.ensures.count, has))
    ] in
    record {
      run = rw (c.push_first.ensures.pushed, c.take_top.ensures.top) (run_before c.requires.run (named_at c.requires.heap.named 0 some) order);
      heap = c.take_top.ensures.heap;
      first = λ n i. rw (c.push_first.ensures.pushed, c.take_top.ensures.top) ((top_least c.requires.heap some).none_less n (alike-in (alike_back c.take_top.ensures.others) (in_more c.take_top.result.name.place i)));
    }

pub returns-clause-alike : goal.returns-clause-alike
returns-clause-alike c =
    rw c.push_first.ensures.pushed (put_in_heap c.args.run.now.leads c.take_top.new.heap.items c.args.heap.now.items c.take_top.result.name.place c.take_top.ensures.others)
