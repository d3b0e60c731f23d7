-- What a queue has: places of names, and the order in which it keeps them.
use Rattle.std.specs.Prelude.{◌≡◌, ◌≢◌, ℕ, suc, ◌+◌, ◌*◌, ◌<◌, ◌≤◌, ◌++◌, ◌↔◌, Bool, false, IsTrue, List, [], length, map, slice_index_or}
use Rattle.std.specs.declared.cmp.Ordering.TheVariants.{Less}
use Rattle.ic_path.specs.Orders.{IsIn}
use Rattle.ic_name.specs.Names.{Name, name_cmp}
use Rattle.ic_names.specs.Keys.{key_of}
use Rattle.ic_names.specs.Tables.{name_at}
use Rattle.ic_names.specs.declared.queue.Lead.{Lead}

-- leads in a list, and for how many there is room
pub record LeadsView : Type 0 where
  pub leads : List Lead
  pub room : ℕ

-- the leads of the run, those of the heap as they lie in it, and for how many names there is room
pub record QueueView : Type 0 where
  pub run : List Lead
  pub heap : List Lead
  pub room : ℕ

-- all leads of a queue, the run's first
abbrev pub leads_of : QueueView → List Lead
leads_of q = q.run ++ q.heap

-- the place of a lead's name
abbrev pub place_of : Lead → ℕ
place_of l = l.name.place

-- the places of the names
abbrev pub places : List Lead → List ℕ
places ls = map place_of ls

-- the lead at an index of a list
abbrev pub lead_at : List Lead → ℕ → Lead
lead_at ls k = slice_index_or ls k (record { key = record { 0 = 0 }; name = record { place = 0 } })

-- the name of the lead at an index
abbrev pub name_of : List Name → List Lead → ℕ → Name
name_of ns ls k = name_at ns (place_of (lead_at ls k))

-- the lead has a name of the table, with its key
pub record IsNamed (ns : List Name) (l : Lead) : Type 0 where
  pub inside : place_of l < length ns
  pub key : l.key.0 ≡ key_of (name_at ns (place_of l))

-- each lead has a name of the table, with its key
pub record AreNamed (ns : List Name) (ls : List Lead) : Type 0 where
  pub inside : (k : ℕ) → k < length ls → place_of (lead_at ls k) < length ns
  pub keys : (k : ℕ) → k < length ls → (lead_at ls k).key.0 ≡ key_of (name_of ns ls k)

-- each lead has a name of the table, and none has a lesser one than the lead above it
pub record IsHeap (ns : List Name) (ls : List Lead) : Type 0 where
  pub named : AreNamed ns ls
  pub left : (k : ℕ) → 2 * k + 1 < length ls → name_cmp (name_of ns ls (2 * k + 1)) (name_of ns ls k) ≢ Less
  pub right : (k : ℕ) → 2 * k + 2 < length ls → name_cmp (name_of ns ls (2 * k + 2)) (name_of ns ls k) ≢ Less

-- each lead has a name of the table, and none has a lesser one than the lead before it
pub record IsRun (ns : List Name) (ls : List Lead) : Type 0 where
  pub named : AreNamed ns ls
  pub rising : (k : ℕ) → suc k < length ls → name_cmp (name_of ns ls (suc k)) (name_of ns ls k) ≢ Less

-- the run rises, the heap is one, and none of its names is less than the run's first
pub record IsQueue (ns : List Name) (q : QueueView) : Type 0 where
  pub run : IsRun ns q.run
  pub heap : IsHeap ns q.heap
  pub first : (n : ℕ) → IsIn n (places q.heap) → name_cmp (name_at ns n) (name_of ns q.run 0) ≢ Less

-- no name stands in the queue twice
abbrev pub StandOnce : List Lead → Type 0
StandOnce ls = (i j : ℕ) → i < length ls → j < length ls → place_of (lead_at ls i) ≡ place_of (lead_at ls j) → i ≡ j

-- no name stands in the queue twice, and the flag of a place is true exactly where the name stands in the queue
pub record AreFlagged (ls : List Lead) (queued : List Bool) : Type 0 where
  pub once : StandOnce ls
  pub flags : (n : ℕ) → IsTrue (slice_index_or queued n false) ↔ IsIn n (places ls)

-- the fields of a queue go together: the flags are those of its names, the run has a lead if the heap has one, and there is
-- room in the heap for as many leads as there are flags, and in the run for one as soon as there is a flag
pub record GoTogether (run : LeadsView) (heap : List Lead) (room : ℕ) (queued : List Bool) : Type 0 where
  pub flagged : AreFlagged (run.leads ++ heap) queued
  pub run_first : run.leads ≡ [] → heap ≡ []
  pub heap_room : length queued ≤ room
  pub run_room : 0 < length queued → 0 < run.room

-- the place is one of the queue's, and none of its names is less than the one there
pub record IsLeast (ns : List Name) (ls : List Lead) (n : ℕ) : Type 0 where
  pub present : IsIn n (places ls)
  pub none_less : (m : ℕ) → IsIn m (places ls) → name_cmp (name_at ns m) (name_at ns n) ≢ Less
