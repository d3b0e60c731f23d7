-- Which kind a name has.
use Rattle.std.proofs.Common.{◌≡◌, ℕ, suc, zero, ◌≤◌, Bool, true, false, List, [], ◌∷◌, ◌++◌, ◌⊎◌, inl, inr, refl, sym, arith, Option, Some, None}
use Rattle.std.specs.Prelude.{if◌then◌else◌, eqb, is_some}
use Rattle.std.proofs.lemmas.Bool.{eqb-true, eq-eqb}
use Rattle.ic_name.specs.Names.{Name}
use Rattle.ic_name.specs.declared.kinds.Kind.{Kind}
use Rattle.ic_name.specs.Events.{Event}
use Rattle.ic_name.specs.Same.{same_name}
use Rattle.ic_name.proofs.SameFacts.{same_name_true}
use Rattle.ic_path.specs.Orders.{Pick, here, there, IsIn}
use Rattle.ic_theory.specs.Starts.{Start, IsProper}
use Rattle.ic_theory.specs.Sets.{agents, named_times, consumed_times}
use Rattle.ic_theory.specs.Firings.{IsFired}
use Rattle.ic_theory.specs.Nets.{kind_among, kind_of}
use Rattle.ic_theory.proofs.Counts.{names_once}
use Rattle.ic_theory.proofs.Future.{fired_apart, was_fired, WasFired, consumer, Consumer, named_in, is_named}

-- a name that no agent of the list has has no kind
pub none_among : (n : Name) (xs : List (Name × Kind)) → named_times n xs ≡ 0 → kind_among n xs ≡ None
none_among n [] h = refl
none_among n (x ∷ xs) h = go (same_name n x.0) refl (none_among n xs)
  where
    go : (b : Bool) → same_name n x.0 ≡ b → (named_times n xs ≡ 0 → kind_among n xs ≡ None) → kind_among n (x ∷ xs) ≡ None
    go true e ih = let h' = rw e at h in absurd (omega (arith, h'))
    go false e ih = let h' = rw e at h in rw e (ih (omega (arith, h')))

-- a name that one agent has has that one's kind
pub some_among : (n : Name) {y : Name × Kind} {xs rest : List (Name × Kind)} → n ≡ y.0 → named_times n xs ≤ 1 → Pick y xs rest → kind_among n xs ≡ Some y.1
some_among n e h here = rw (is_named e) refl
some_among n {y = y} e h (there {y = x} {xs = xs} k) = go (same_name n x.0) refl (named_in n e k) (some_among n e (omega arith) k)
  where
    go : (b : Bool) → same_name n x.0 ≡ b → 1 ≤ named_times n xs → kind_among n xs ≡ Some y.1 → kind_among n (x ∷ xs) ≡ Some y.1
    go true f i ih = let h' = rw f at h in absurd (omega (arith, h'))
    go false f i ih = rw f ih

-- the kind is the first one's
pub among-append : (n : Name) (xs ys : List (Name × Kind)) → kind_among n (xs ++ ys) ≡ (if is_some (kind_among n xs) then kind_among n xs else kind_among n ys)
among-append n [] ys = refl
among-append n (x ∷ xs) ys = go (same_name n x.0) refl (among-append n xs ys)
  where
    go : (b : Bool) → same_name n x.0 ≡ b → kind_among n (xs ++ ys) ≡ (if is_some (kind_among n xs) then kind_among n xs else kind_among n ys)
        → kind_among n (x ∷ (xs ++ ys)) ≡ (if is_some (kind_among n (x ∷ xs)) then kind_among n (x ∷ xs) else kind_among n ys)
    go true e ih = rw e refl
    go false e ih = rw e ih

-- a name with a kind is an agent's
pub some_times : (n : Name) (xs : List (Name × Kind)) → is_some (kind_among n xs) ≡ true → 1 ≤ named_times n xs
some_times n [] h = cc
some_times n (x ∷ xs) h = go (same_name n x.0) refl (some_times n xs)
  where
    go : (b : Bool) → same_name n x.0 ≡ b → (is_some (kind_among n xs) ≡ true → 1 ≤ named_times n xs) → 1 ≤ named_times n (x ∷ xs)
    go true e ih = rw e (omega arith)
    go false e ih = rw e (omega (arith, ih (rw e at h)))

-- the agent of that kind is in the list
pub kind_in : (n : Name) {k : Kind} (xs : List (Name × Kind)) → kind_among n xs ≡ Some k → IsIn (n, k) xs
kind_in n [] h = cc
kind_in n {k = k} (x ∷ xs) h = go (same_name n x.0) refl (kind_in n xs)
  where
    go : (b : Bool) → same_name n x.0 ≡ b → (kind_among n xs ≡ Some k → IsIn (n, k) xs) → IsIn (n, k) (x ∷ xs)
    go true e f = let i : n ≡ x.0 = same_name_true n x.0 e in let h' : ◌≡◌ {A = Option Kind} (Some x.1) (Some k) = rw e at h in let j : x.1 ≡ k = cc in let same : ◌≡◌ {A = Name × Kind} x (n, k) = λ t. (sym i t, j t) in (xs, rw (← same) here)
    go false e f = let r = f (rw e at h) in (_, there r.1)

-- an agent with a kind is there, and isn't consumed
pub kind_parts : (s : Start) (es : List Event) (n : Name) (k : Kind) → kind_of s es n ≡ Some k → IsIn (n, k) (agents s es) × (consumed_times n es ≡ 0)
kind_parts s es n k h = go (eqb (consumed_times n es) 0) refl h
  where
    go : (b : Bool) → eqb (consumed_times n es) 0 ≡ b → (if b then kind_among n (agents s es) else None) ≡ Some k → IsIn (n, k) (agents s es) × (consumed_times n es ≡ 0)
    go true t i = (kind_in n (agents s es) i, eqb-true (consumed_times n es) 0 t)
    go false t i = cc

module _ (s : Start) (es : List Event) (f : IsFired s es) where
  -- a consumed agent is there
  pub consumed_there : (n : Name) → consumed_times n es ≤ named_times n (agents s es)
  consumed_there n = go (consumed_times n es) refl
    where
      found : Consumer n es → 1 ≤ named_times n (agents s es)
      found c = by_end c.consumes
        where
          w : WasFired s es c.event
          w = was_fired s f c.among.1

          by_end : (n ≡ c.event.lead) ⊎ (n ≡ c.event.other) → 1 ≤ named_times n (agents s es)
          by_end (inl i) = named_in n i w.present.lead.1
          by_end (inr i) = named_in n i w.present.other.1

      go : (m : ℕ) → consumed_times n es ≡ m → consumed_times n es ≤ named_times n (agents s es)
      go zero h = omega arith
      go (suc m) h = let c = found (consumer n es (omega arith)) in let b = fired_apart s f n in omega arith

module _ (s : Start) (ok : IsProper s) (es : List Event) (f : IsFired s es) where
  -- an agent that is there, and isn't consumed, has its kind
  pub kind_there : (n : Name) (k : Kind) → IsIn (n, k) (agents s es) → consumed_times n es ≡ 0 → kind_of s es n ≡ Some k
  kind_there n k i z = let t : eqb (consumed_times n es) 0 ≡ true = eq-eqb (consumed_times n es) 0 z in let k' : kind_among n (agents s es) ≡ Some k = some_among n refl (names_once s es (fired_apart s f) n) i.1 in rw (t, k') refl
