-- Where a move is made, and that it is determined.
use Rattle.std.proofs.Common.{◌≡◌, ℕ, ◌+◌, ◌<◌, ◌⊎◌, List, [], ◌∷◌, ◌++◌, inl, inr, length, refl, sym, ap, arith, subst, ◌∙◌, length-append}
use Rattle.ic_theory.specs.Starts.{Start}
use Rattle.ic_theory.specs.Letters.{Letter, Fire, Undo, event_of, AreConcurrent}
use Rattle.ic_trace.specs.declared.moving.Move.{Move}
use Rattle.ic_trace.specs.declared.moving.Move.TheVariants.{Swap, Cancel}
use Rattle.ic_trace.specs.Moves.{Makes, swaps, fire_undo, undo_fire}

-- a letter and its inverse
abbrev pub AreOpposite : Letter → Letter → Type 0
AreOpposite (Fire e) (Undo f) = e ≡ f
AreOpposite (Undo e) (Fire f) = e ≡ f
AreOpposite (Fire e) (Fire f) = ⊥
AreOpposite (Undo e) (Undo f) = ⊥

-- what a move does there
abbrev pub DoesAt : Start → Move → List Letter → Letter → Letter → List Letter → List Letter → Type 0
DoesAt s m before x y behind ks =
    ((m ≡ Swap (length before)) × AreConcurrent s (event_of x) (event_of y) × (ks ≡ before ++ y ∷ x ∷ behind)) ⊎ ((m ≡ Cancel (length before)) × AreOpposite x y × (ks ≡ before ++ behind))

-- the two letters of a move
pub record Place (s : Start) (m : Move) (ls ks : List Letter) : Type 0 where
  pub before : List Letter
  pub behind : List Letter
  pub first : Letter
  pub second : Letter
  pub from : ls ≡ before ++ first ∷ second ∷ behind
  pub does : DoesAt s m before first second behind ks

pub place_of : {s : Start} {m : Move} {ls ks : List Letter} → Makes s m ls ks → Place s m ls ks
place_of (swaps before behind x y c) = record { before = before; behind = behind; first = x; second = y; from = refl; does = inl (refl, c, refl) }
place_of (fire_undo before behind e) = record { before = before; behind = behind; first = Fire e; second = Undo e; from = refl; does = inr (refl, refl, refl) }
place_of (undo_fire before behind e) = record { before = before; behind = behind; first = Undo e; second = Fire e; from = refl; does = inr (refl, refl, refl) }

-- lists that are split at one place have the same parts
pub record SameParts {X : Type 0} (bs cs : List X) (x y x' y' : X) (rs ts : List X) : Type 0 where
  pub fronts : bs ≡ cs
  pub first : x ≡ x'
  pub second : y ≡ y'
  pub rests : rs ≡ ts

pub same_parts : {X : Type 0} (bs cs : List X) {x y x' y' : X} {rs ts : List X} → length bs ≡ length cs → bs ++ x ∷ y ∷ rs ≡ cs ++ x' ∷ y' ∷ ts → SameParts bs cs x y x' y' rs ts
same_parts [] [] l e = record { fronts = refl; first = cc; second = cc; rests = cc }
same_parts [] (c ∷ cs) l e = absurd (omega arith)
same_parts (b ∷ bs) [] l e = absurd (omega arith)
same_parts (b ∷ bs) (c ∷ cs) {x} {y} {x'} {y'} {rs} {ts} l e =
    let one : b ≡ c = cc in
    let others : bs ++ x ∷ y ∷ rs ≡ cs ++ x' ∷ y' ∷ ts = cc in
    let r = same_parts bs cs (omega arith) others in
    record { fronts = λ i. one i ∷ r.fronts i; first = r.first; second = r.second; rests = r.rests }

-- the number of a move
abbrev pub place_in : Move → ℕ
place_in (Swap i) = i
place_in (Cancel i) = i

pub place_is : {s : Start} {m : Move} {ls ks : List Letter} (p : Place s m ls ks) → length p.before ≡ place_in m
place_is {s} {m} {ls} {ks} p = go p.does
  where
    go : DoesAt s m p.before p.first p.second p.behind ks → length p.before ≡ place_in m
    go (inl d) = sym (ap place_in d.0)
    go (inr d) = sym (ap place_in d.0)

-- two letters stand at the place of a move
pub long_enough : {s : Start} {m : Move} {ls ks : List Letter} → Makes s m ls ks → place_in m + 2 < length ls + 1
long_enough h = let p = place_of h in let e = ap length p.from in let a = length-append p.before (p.first ∷ p.second ∷ p.behind) in let i = place_is p in omega arith

module _ {s : Start} where
  -- a move at this place is of these letters
  pub parts_at : {m : Move} {js : List Letter} (before behind : List Letter) (x y : Letter) → length before ≡ place_in m → (p : Place s m (before ++ x ∷ y ∷ behind) js) → SameParts p.before before p.first p.second x y p.behind behind
  parts_at before behind x y l p = same_parts p.before before (place_is p ∙ sym l) (sym p.from)

  -- so there is no exchange of events that aren't concurrent
  pub no_exchange : {i : ℕ} {js : List Letter} (before behind : List Letter) (x y : Letter) → length before ≡ i → ¬ (AreConcurrent s (event_of x) (event_of y)) → ¬ (Makes s (Swap i) (before ++ x ∷ y ∷ behind) js)
  no_exchange {i} {js} before behind x y l n h = go p.does
    where
      p : Place s (Swap i) (before ++ x ∷ y ∷ behind) js
      p = place_of h

      go : DoesAt s (Swap i) p.before p.first p.second p.behind js → ⊥
      go (inl d) = let q = parts_at before behind x y l p in n (subst (λ z. AreConcurrent s (event_of x) (event_of z)) q.second (subst (λ z. AreConcurrent s (event_of z) (event_of p.second)) q.first d.1))
      go (inr d) = let e = d.0 in cc

  -- nor a cancellation of letters of which none is the inverse of the other
  pub no_cancellation : {i : ℕ} {js : List Letter} (before behind : List Letter) (x y : Letter) → length before ≡ i → ¬ (AreOpposite x y) → ¬ (Makes s (Cancel i) (before ++ x ∷ y ∷ behind) js)
  no_cancellation {i} {js} before behind x y l n h = go p.does
    where
      p : Place s (Cancel i) (before ++ x ∷ y ∷ behind) js
      p = place_of h

      go : DoesAt s (Cancel i) p.before p.first p.second p.behind js → ⊥
      go (inl d) = let e = d.0 in cc
      go (inr d) = let q = parts_at before behind x y l p in n (subst (λ z. AreOpposite x z) q.second (subst (λ z. AreOpposite z p.second) q.first d.1))

  -- the exchange of concurrent events, and the cancellation of inverses
  pub exchanged : {i : ℕ} (before behind : List Letter) (x y : Letter) → length before ≡ i → AreConcurrent s (event_of x) (event_of y) → Makes s (Swap i) (before ++ x ∷ y ∷ behind) (before ++ y ∷ x ∷ behind)
  exchanged before behind x y l c = subst (λ i. Makes s (Swap i) (before ++ x ∷ y ∷ behind) (before ++ y ∷ x ∷ behind)) l (swaps before behind x y c)

  pub cancelled : {i : ℕ} (before behind : List Letter) (x y : Letter) → length before ≡ i → AreOpposite x y → Makes s (Cancel i) (before ++ x ∷ y ∷ behind) (before ++ behind)
  cancelled before behind (Fire e) (Undo f) l o = subst (λ i. Makes s (Cancel i) (before ++ Fire e ∷ Undo f ∷ behind) (before ++ behind)) l (subst (λ g. Makes s (Cancel (length before)) (before ++ Fire e ∷ Undo g ∷ behind) (before ++ behind)) o (fire_undo before behind e))
  cancelled before behind (Undo e) (Fire f) l o = subst (λ i. Makes s (Cancel i) (before ++ Undo e ∷ Fire f ∷ behind) (before ++ behind)) l (subst (λ g. Makes s (Cancel (length before)) (before ++ Undo e ∷ Fire g ∷ behind) (before ++ behind)) o (undo_fire before behind e))
  cancelled before behind (Fire e) (Fire f) l o = absurd o
  cancelled before behind (Undo e) (Undo f) l o = absurd o

  -- a move makes one list
  pub makes_one : {m : Move} {ls ks js : List Letter} → Makes s m ls ks → Makes s m ls js → ks ≡ js
  makes_one {m} {ls} {ks} {js} h k = go p.does q.does
    where
      p : Place s m ls ks
      p = place_of h

      q : Place s m ls js
      q = place_of k

      same : SameParts p.before q.before p.first p.second q.first q.second p.behind q.behind
      same = same_parts p.before q.before (place_is p ∙ sym (place_is q)) (sym p.from ∙ q.from)

      go : DoesAt s m p.before p.first p.second p.behind ks → DoesAt s m q.before q.first q.second q.behind js → ks ≡ js
      go (inl d) (inl e) = d.2 ∙ ((λ i. same.fronts i ++ same.second i ∷ same.first i ∷ same.rests i) ∙ sym e.2)
      go (inr d) (inr e) = d.2 ∙ ((λ i. same.fronts i ++ same.rests i) ∙ sym e.2)
      go (inl d) (inr e) = let a = d.0 in let b = e.0 in cc
      go (inr d) (inl e) = let a = d.0 in let b = e.0 in cc
