-- Runs of names that rise.
use Rattle.std.proofs.Common.{◌≡◌, ◌≢◌, ℕ, zero, suc, ◌+◌, ◌<◌, List, [], ◌∷◌, ◌++◌, length, append-nil, Option, Some, None, option_to_list, IfSome, IfNone, ◌⊎◌, inl, inr, refl, sym, subst, ◌∙◌, arith}
use Rattle.std.specs.declared.cmp.Ordering.TheVariants.{Less}
use Rattle.ic_path.specs.Orders.{Alike}
use Rattle.ic_path.proofs.Alikes.{alike_self, alike_back}
use Rattle.ic_name.specs.Names.{Name, name_cmp}
use Rattle.ic_names.specs.Tables.{name_at}
use Rattle.ic_names.specs.declared.queue.Lead.{Lead}
use Rattle.ic_names.specs.Queues.{place_of, places, lead_at, name_of, IsNamed, AreNamed, IsRun}
use Rattle.ic_names.specs.Sifting.{IsUpTo}
use Rattle.ic_names.proofs.UpTo.{same_or_not, up_to_itself, up_to_then}
use Rattle.ic_names.proofs.PlacedFacts.{lead_at-last, lead_at-before, length-one_more}
use Rattle.ic_names.proofs.QueuedPlaces.{last-alike}
use Rattle.ic_names.proofs.Heaps.{named_at, all_named}

-- one lead more has a name
pub named-cons : {ns : List Name} {l : Lead} {ls : List Lead} → IsNamed ns l → AreNamed ns ls → AreNamed ns (l ∷ ls)
named-cons {ns} {l} {ls} new named = all_named each
  where
    each : (k : ℕ) → k < length (l ∷ ls) → IsNamed ns (lead_at (l ∷ ls) k)
    each zero h = new
    each (suc k) h = named_at named k (omega (arith, h))

-- and each other had one
pub named_rest : {ns : List Name} {l : Lead} {ls : List Lead} → AreNamed ns (l ∷ ls) → AreNamed ns ls
named_rest named = all_named (λ k h. named_at named (suc k) (omega (arith, h)))

-- two lists of leads with names
pub named-append : {ns : List Name} (ls ms : List Lead) → AreNamed ns ls → AreNamed ns ms → AreNamed ns (ls ++ ms)
named-append [] ms named others = others
named-append (l ∷ ls) ms named others = named-cons (named_at named 0 (omega arith)) (named-append ls ms (named_rest named) others)

-- no name of a run is less than its first
pub run_first : {ns : List Name} {ls : List Lead} → IsRun ns ls → (k : ℕ) → k < length ls → IsUpTo ns ls 0 k
run_first {ns} {ls} run zero h = up_to_itself (name_of ns ls 0)
run_first {ns} {ls} run (suc k) h = up_to_then (name_of ns ls 0) (name_of ns ls k) (name_of ns ls (suc k)) (run_first run k (omega (arith, h))) (run.rising k (omega (arith, h)))

-- a run without its first lead
pub run_rest : {ns : List Name} {l : Lead} {ls : List Lead} → IsRun ns (l ∷ ls) → IsRun ns ls
run_rest run = record { named = named_rest run.named; rising = λ k h. run.rising (suc k) (omega (arith, h)) }

-- a lead that comes before all others
pub run_before : {ns : List Name} {l : Lead} {ls : List Lead} → IsRun ns ls → IsNamed ns l → (0 < length ls → name_cmp (name_of ns ls 0) (name_at ns (place_of l)) ≢ Less) → IsRun ns (l ∷ ls)
run_before {ns} {l} {ls} run new order = record { named = named-cons new run.named; rising = rising }
  where
    rising : (k : ℕ) → suc k < length (l ∷ ls) → IsUpTo ns (l ∷ ls) k (suc k)
    rising zero h = order (omega (arith, h))
    rising (suc k) h = run.rising k (omega (arith, h))

-- a lead that comes after all others
pub run_behind : {ns : List Name} {l : Lead} {ls : List Lead} → IsRun ns ls → IsNamed ns l → ((k : ℕ) → suc k ≡ length ls → name_cmp (name_at ns (place_of l)) (name_of ns ls k) ≢ Less) → IsRun ns (ls ++ l ∷ [])
run_behind {ns} {l} {ls} run new order = record { named = named-append ls (l ∷ []) run.named (named-cons new (record { inside = λ k h. absurd (omega (arith, h)); keys = λ k h. absurd (omega (arith, h)) })); rising = λ k h. by k h (same_or_not (suc k) (length ls)) }
  where
    by : (k : ℕ) → suc k < length (ls ++ l ∷ []) → (suc k ≡ length ls) ⊎ (suc k ≢ length ls) → IsUpTo ns (ls ++ l ∷ []) k (suc k)
    by k h (inl e) less =
        let long = length-one_more ls l in
        let first = lead_at-before ls l k (omega (arith, e)) in
        let second = lead_at-last ls l (suc k) e in
        order k e (sym (λ i. name_cmp (name_at ns (place_of (second i))) (name_at ns (place_of (first i)))) ∙ less)
    by k h (inr d) less =
        let long = length-one_more ls l in
        let first = lead_at-before ls l k (omega (arith, h, long)) in
        let second = lead_at-before ls l (suc k) (omega (arith, h, long)) in
        run.rising k (omega (arith, h, long)) (sym (λ i. name_cmp (name_at ns (place_of (second i))) (name_at ns (place_of (first i)))) ∙ less)

-- a run without its last lead
pub run_short : {ns : List Name} {ls : List Lead} (o : Option Lead) → IsRun ns (ls ++ option_to_list o) → IsRun ns ls
run_short {ns} {ls} None run = subst (IsRun ns) (append-nil ls) run
run_short {ns} {ls} (Some l) run = record { named = all_named named; rising = rising }
  where
    long : length (ls ++ l ∷ []) ≡ length ls + 1
    long = length-one_more ls l

    named : (k : ℕ) → k < length ls → IsNamed ns (lead_at ls k)
    named k h = subst (IsNamed ns) (lead_at-before ls l k h) (named_at run.named k (omega (arith, h, long)))

    rising : (k : ℕ) → suc k < length ls → IsUpTo ns ls k (suc k)
    rising k h less =
        let first = lead_at-before ls l k (omega (arith, h)) in
        let second = lead_at-before ls l (suc k) h in
        run.rising k (omega (arith, h, long)) ((λ i. name_cmp (name_at ns (place_of (second i))) (name_at ns (place_of (first i)))) ∙ less)

-- that lead has a name
pub last_named : {ns : List Name} (ls : List Lead) (o : Option Lead) → AreNamed ns (ls ++ option_to_list o) → IfSome o (λ l. IsNamed ns l)
last_named ls None named = tt
last_named {ns} ls (Some l) named =
    let long = length-one_more ls l in
    subst (IsNamed ns) (lead_at-last ls l (length ls) refl) (named_at named (length ls) (omega (arith, long)))

-- which isn't less than the first
pub last_behind : {ns : List Name} {l : Lead} (ls : List Lead) (o : Option Lead) → IsRun ns (l ∷ ls ++ option_to_list o) → IfSome o (λ m. name_cmp (name_at ns (place_of m)) (name_at ns (place_of l)) ≢ Less)
last_behind ls None run = tt
last_behind {ns} {l} ls (Some m) run =
    let long = length-one_more ls m in
    subst (λ x. name_cmp (name_at ns (place_of x)) (name_at ns (place_of l)) ≢ Less) (lead_at-last ls m (length ls) refl) (run_first run (suc (length ls)) (omega (arith, long)))

-- without a last lead all places are there
pub all-alike : (ls : List Lead) (o : Option Lead) → IfNone o (Alike (places ls) (places (ls ++ option_to_list o)))
all-alike ls None = rw append-nil (alike_self (places ls))
all-alike ls (Some l) = tt

-- and with it
pub short-alike : (ls : List Lead) (o : Option Lead) → IfSome o (λ l. Alike (place_of l ∷ places ls) (places (ls ++ option_to_list o)))
short-alike ls None = tt
short-alike ls (Some l) = alike_back (last-alike ls l)
