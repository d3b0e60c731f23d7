-- Queues: a run and a heap.
use Rattle.std.proofs.Common.{◌≡◌, ◌≢◌, ℕ, suc, ◌<◌, List, [], ◌∷◌, ◌++◌, length, ◌⊎◌, ◌↔◌, inl, inr, refl, sym, ap, subst, ◌∙◌, arith}
use Rattle.std.specs.declared.cmp.Ordering.TheVariants.{Less}
use Rattle.ic_path.specs.Orders.{Alike, IsIn}
use Rattle.ic_path.proofs.Picks.{none_in, in_first, in_more, in-cons_cases, pick_before}
use Rattle.ic_path.proofs.Alikes.{alike_self, alike_then, alike_back, alike_more, alike-append, alike_past, alike-in}
use Rattle.ic_path.proofs.InLists.{in-append_cases}
use Rattle.ic_name.specs.Names.{Name, name_cmp}
use Rattle.ic_names.specs.Keys.{key_of}
use Rattle.ic_names.specs.Tables.{name_at, StandsAt}
use Rattle.ic_names.specs.declared.queue.Lead.{Lead}
use Rattle.ic_names.specs.Queues.{QueueView, place_of, places, lead_at, leads_of, name_of, AreNamed, IsRun, IsHeap, IsQueue, IsLeast}
use Rattle.ic_names.proofs.QueuedPlaces.{places-in, in-places, places-append}
use Rattle.ic_names.proofs.Heaps.{queued_inside, kept_heap}
use Rattle.ic_names.proofs.Runs.{run_first, named-append}

-- without leads there is nothing to keep in order
pub empty_queue : (ns : List Name) (q : QueueView) → q.run ≡ [] → q.heap ≡ [] → IsQueue ns q
empty_queue ns q run heap =
    let none = ap length run in
    let bare = ap length heap in
    record {
      run = record { named = record { inside = λ k h. absurd (omega (arith, h, none)); keys = λ k h. absurd (omega (arith, h, none)) }; rising = λ k h. absurd (omega (arith, h, none)) };
      heap = record { named = record { inside = λ k h. absurd (omega (arith, h, bare)); keys = λ k h. absurd (omega (arith, h, bare)) }; left = λ k h. absurd (omega (arith, h, bare)); right = λ k h. absurd (omega (arith, h, bare)) };
      first = λ n i. absurd (none_in (subst (λ ls. IsIn n (places ls)) heap i));
    }

-- each lead of a queue has a name
pub queue_named : {ns : List Name} {q : QueueView} → IsQueue ns q → AreNamed ns (leads_of q)
queue_named {ns} {q} queue = named-append q.run q.heap queue.run.named queue.heap.named

-- the least name is the run's first
pub first_least : {ns : List Name} {q : QueueView} → IsQueue ns q → 0 < length q.run → IsLeast ns (leads_of q) (place_of (lead_at q.run 0))
first_least {ns} {q} queue some = record { present = present; none_less = λ m i. by m (in-append_cases (places q.run) (subst (IsIn m) (places-append q.run q.heap) i)) }
  where
    present : IsIn (place_of (lead_at q.run 0)) (places (leads_of q))
    present = let first = places-in q.run 0 some in subst (IsIn (place_of (lead_at q.run 0))) (sym (places-append q.run q.heap)) (first.0 ++ places q.heap, pick_before (places q.heap) first.1)

    by : (m : ℕ) → IsIn m (places q.run) ⊎ IsIn m (places q.heap) → name_cmp (name_at ns m) (name_of ns q.run 0) ≢ Less
    by m (inl i) = let r = in-places q.run i in subst (λ p. name_cmp (name_at ns p) (name_of ns q.run 0) ≢ Less) r.2 (run_first queue.run r.0 r.1)
    by m (inr i) = queue.first m i

-- where the heap has a name, so has the run
pub run_some : {n : ℕ} (run heap : List Lead) → (run ≡ [] → heap ≡ []) → IsIn n (places heap) → 0 < length run
run_some {n} [] heap empty i = absurd (none_in (subst (λ ls. IsIn n (places ls)) (empty refl) i))
run_some (l ∷ run) heap empty i = omega arith

-- a name comes into the run
pub put_in_run : (run run' heap : List Lead) (n : ℕ) → Alike (places run') (n ∷ places run) → Alike (places (run' ++ heap)) (n ∷ places (run ++ heap))
put_in_run run run' heap n put = rw (places-append run' heap, places-append run heap) (alike-append put (alike_self (places heap)))

-- or into the heap
pub put_in_heap : (run heap heap' : List Lead) (n : ℕ) → Alike (places heap') (n ∷ places heap) → Alike (places (run ++ heap')) (n ∷ places (run ++ heap))
put_in_heap run heap heap' n put = rw (places-append run heap', places-append run heap) (alike_then (alike_more (places run) put) (alike_past (places run) (n ∷ []) (places heap)))

-- or into the run, and another goes from there into the heap
pub put_in_both : (run run' heap heap' : List Lead) (m n : ℕ) → Alike (m ∷ places run') (n ∷ places run) → Alike (places heap') (m ∷ places heap) → Alike (places (run' ++ heap')) (n ∷ places (run ++ heap))
put_in_both run run' heap heap' m n left put =
    alike_then (put_in_heap run' heap heap' m put) (rw (places-append run' heap, places-append run heap) (alike-append left (alike_self (places heap))))

-- what is in the queue after a name has come in
pub tells_put : (old new : List Lead) (m n : ℕ) → Alike (places new) (m ∷ places old) → IsIn n (places new) ↔ ((n ≡ m) ⊎ IsIn n (places old))
tells_put old new m n put = (
  (λ i. in-cons_cases (alike-in put i)),
  (λ h. alike-in (alike_back put) (elim h [
    | inl e ↦ subst (λ k. IsIn n (k ∷ places old)) e (in_first n (places old))
    | inr i ↦ in_more m i
  ])),
)

-- the leads in the same places are a queue
pub same_queue : {ns : List Name} {p q : QueueView} → q.run ≡ p.run → q.heap ≡ p.heap → IsQueue ns p → IsQueue ns q
same_queue {ns} {p} {q} run heap queue = record {
  run = subst (IsRun ns) (sym run) queue.run;
  heap = subst (IsHeap ns) (sym heap) queue.heap;
  first = λ n i. subst (λ ls. name_cmp (name_at ns n) (name_of ns ls 0) ≢ Less) (sym run) (queue.first n (subst (λ ls. IsIn n (places ls)) heap i));
}

module _ (old new : List Name) (keeps : (m : Name) (k : ℕ) → StandsAt old m k → StandsAt new m k) where
  -- a name keeps its place
  same_name : (k : ℕ) → k < length old → name_at new k ≡ name_at old k
  same_name k h = (keeps (name_at old k) k (record { within = h; named = refl })).named

  -- a run is one of each table in which its names keep their places
  kept_run : {ls : List Lead} → IsRun old ls → IsRun new ls
  kept_run {ls} run = record { named = named; rising = rising }
    where
      named : AreNamed new ls
      named = record {
        inside = λ k h. (keeps (name_of old ls k) (place_of (lead_at ls k)) (record { within = run.named.inside k h; named = refl })).within;
        keys = λ k h. run.named.keys k h ∙ ap key_of (sym (same_name (place_of (lead_at ls k)) (run.named.inside k h)));
      }

      rising : (k : ℕ) → suc k < length ls → name_cmp (name_of new ls (suc k)) (name_of new ls k) ≢ Less
      rising k h less =
          let first = same_name (place_of (lead_at ls (suc k))) (run.named.inside (suc k) h) in
          let second = same_name (place_of (lead_at ls k)) (run.named.inside k (omega (arith, h))) in
          run.rising k h (sym (λ i. name_cmp (first i) (second i)) ∙ less)

  -- so is a queue
  pub kept_queue : (q : QueueView) → IsQueue old q → IsQueue new q
  kept_queue q queue = record { run = kept_run queue.run; heap = kept_heap old new q.heap keeps queue.heap; first = first }
    where
      -- the first lead of the run, or the place 0 where there is none
      place : (ls : List Lead) → AreNamed old ls → 0 < length old → place_of (lead_at ls 0) < length old
      place [] named some = some
      place (l ∷ ls) named some = named.inside 0 (omega arith)

      first : (n : ℕ) → IsIn n (places q.heap) → name_cmp (name_at new n) (name_of new q.run 0) ≢ Less
      first n i less =
          let inside = queued_inside queue.heap.named i in
          let one = same_name n inside in
          let two = same_name (place_of (lead_at q.run 0)) (place q.run queue.run.named (omega (arith, inside))) in
          queue.first n i (sym (λ j. name_cmp (one j) (two j)) ∙ less)
