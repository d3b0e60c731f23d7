-- The machine: what stands after a legal history is sound, and what a call answers is determined.
use Rattle.std.proofs.Common.{◌≡◌, ℕ, ◌+◌, ◌≤◌, ◌<◌, Bool, true, false, List, [], ◌∷◌, ◌++◌, length, map, inl, inr, refl, ap, arith}
use Rattle.std.specs.Prelude.{if◌then◌else◌, eqb}
use Rattle.std.proofs.lemmas.Bool.{eqb-true, ne_eqb}
use Rattle.ic_name.specs.Events.{Event}
use Rattle.ic_name.specs.declared.lines.Call.{Call}
use Rattle.ic_name.specs.declared.lines.Reply.{Reply}
use Rattle.ic_name.specs.declared.lines.Line.{Line}
use Rattle.ic_path.specs.Orders.{Pick, here, there, IsIn, Alike, more}
use Rattle.ic_path.proofs.Alikes.{alike_self, picked_alike, alike_back}
use Rattle.ic_theory.specs.Starts.{Start, IsProper}
use Rattle.ic_theory.specs.Active.{IsActive}
use Rattle.ic_theory.specs.Firings.{IsFired, fired}
use Rattle.ic_theory.specs.Causes.{IsDependent}
use Rattle.ic_theory.specs.Sound.{IsSound}
use Rattle.ic_theory.specs.Machine.{Standing, State, events, noted, MachineStep, not_active, deep, full, fired as fired_now, not_standing, held, undone, IsHistory, begins, goes_on}
use Rattle.ic_theory.proofs.Future.{in_rest}
use Rattle.ic_theory.proofs.Sound.{fired_sound}
use Rattle.ic_theory.proofs.Ranks.{sound-alike, sound_order, first_or_in}
use Rattle.ic_theory.proofs.Swaps.{undo_sound}
use Rattle.ic_theory.proofs.Normal.{active-alike}

-- an event that was active in a sound set makes a sound set with it
pub fire_sound : (s : Start) → IsProper s → {e : Event} {es : List Event} → IsSound s es → IsActive s es e → IsSound s (e ∷ es)
fire_sound s ok {e} {es} h a =
    let o = sound_order s ok es h in
    let f : IsFired s (e ∷ o.0) = fired o.2 (active-alike s o.1 a) in
    sound-alike s (more here (alike_back o.1)) (fired_sound s ok (e ∷ o.0) f).0

-- no event of the empty set is there
pub empty_sound : (s : Start) → IsSound s []
empty_sound s = record {
  apart = λ n. omega arith;
  present = λ e i. elim i.1 [ ];
  joined = λ e i. elim i.1 [ ];
  rank = λ e. 0;
  ranked = record { above = λ e c i. elim i.1 [ ]; least = λ e i. elim i.1 [ ] };
}

-- how many members of a list pass a test
abbrev pub times : {X : Type 0} → (X → Bool) → List X → ℕ
times test [] = 0
times test (x ∷ xs) = (if test x then 1 else 0) + times test xs

-- a member that passes is counted
some_that : {X : Type 0} (test : X → Bool) {x : X} {xs rest : List X} → test x ≡ true → Pick x xs rest → 1 ≤ times test xs
some_that test h here = rw h (omega arith)
some_that test h (there k) = let ih = some_that test h k in omega arith

-- where none passes the count is 0
none_that : {X : Type 0} (test : X → Bool) (xs : List X) → ((x : X) → IsIn x xs → test x ≡ false) → times test xs ≡ 0
none_that test [] h = refl
none_that test (x ∷ xs) h = let ih = none_that test xs (λ y i. h y (_, there i.1)) in rw (h x (xs, here)) (omega (arith, ih))

-- where one passes at most, two that pass are one
pub one_that : {X : Type 0} (test : X → Bool) {x y : X} {xs rest rest' : List X} → test x ≡ true → test y ≡ true → times test xs ≤ 1 → Pick x xs rest → Pick y xs rest' → x ≡ y
one_that test h i o here here = refl
one_that test h i o here (there k) = let t = some_that test i k in let o' = rw h at o in absurd (omega (arith, o'))
one_that test h i o (there k) here = let t = some_that test h k in let o' = rw i at o in absurd (omega (arith, o'))
one_that test h i o (there k) (there k') = one_that test h i (omega arith) k k'

-- a list without one member has no more that pass
times-pick : {X : Type 0} (test : X → Bool) {x : X} {xs rest : List X} → Pick x xs rest → times test rest ≤ times test xs
times-pick test here = omega arith
times-pick test (there k) = let ih = times-pick test k in omega arith

-- what is taken out of a list is taken out of its image
pick_map : {X Y : Type 0} (f : X → Y) {x : X} {xs rest : List X} → Pick x xs rest → Pick (f x) (map f xs) (map f rest)
pick_map f here = here
pick_map f (there k) = there (pick_map f k)

-- what is left is the same, whichever of two equal members is taken out
pub two_picks : {X : Type 0} {x y : X} {xs rest rest' : List X} → x ≡ y → Pick x xs rest → Pick y xs rest' → Alike rest rest'
two_picks e here here = alike_self _
two_picks e here (there k) = rw e (picked_alike k)
two_picks e (there k) here = rw (← e) (alike_back (picked_alike k))
two_picks e (there k) (there k') = more here (two_picks e k k')

-- it stands with this line
abbrev pub line_is : ℕ → Standing → Bool
line_is l x = eqb x.line l

-- what a legal history keeps: a sound set, and the number of a line of its own for each event, below the number of lines
pub record IsKept (s : Start) (st : State) : Type 0 where
  pub sound : IsSound s (events st)
  pub below : (x : Standing) → IsIn x st.standing → x.line < st.lines
  pub once : (l : ℕ) → times (line_is l) st.standing ≤ 1

module _ (s : Start) (ok : IsProper s) where
  -- a line that changes nothing keeps that
  kept_noted : {st : State} → IsKept s st → IsKept s (noted st)
  kept_noted k = record { sound = k.sound; below = λ x i. let b = k.below x i in omega arith; once = k.once }

  -- so does a firing
  kept_fired : {st : State} {e : Event} → IsKept s st → IsActive s (events st) e → IsKept s (record { standing = record { event = e; line = st.lines } ∷ st.standing; lines = st.lines + 1 })
  kept_fired {st} {e} k a = record {
    sound = fire_sound s ok k.sound a;
    below = λ x i. is_below x i.1;
    once = λ l. is_once l (eqb st.lines l) refl;
  }
    where
      is_below : (x : Standing) {rest : List Standing} → Pick x (record { event = e; line = st.lines } ∷ st.standing) rest → x.line < st.lines + 1
      is_below x i = elim (first_or_in i) [ inl j ↦ (let n : x.line ≡ st.lines = ap (λ (y : Standing). y.line) j in omega arith) | inr j ↦ (let b = k.below x j in omega arith) ]

      is_once : (l : ℕ) (b : Bool) → eqb st.lines l ≡ b → (if eqb st.lines l then 1 else 0) + times (line_is l) st.standing ≤ 1
      is_once l true h =
          let i : st.lines ≡ l = eqb-true st.lines l h in
          let z = none_that (line_is l) st.standing (λ x j. let b = k.below x j in ne_eqb x.line l (λ q. omega arith)) in
          rw h (omega (arith, z))
      is_once l false h = let o = k.once l in rw h (omega (arith, o))

  -- and an undo
  kept_undone : {st : State} {x : Standing} {rest : List Standing} → IsKept s st → Pick x st.standing rest → ((f : Event) → IsDependent s (events st) x.event f → ⊥) → IsKept s (record { standing = rest; lines = st.lines + 1 })
  kept_undone {st} {x} {rest} k p n = record {
    sound = undo_sound s ok k.sound (pick_map (λ y. y.event) p) (λ f i c. n f (i, c));
    below = λ y i. let j = in_rest p i.1 in let b = k.below y j in omega arith;
    once = λ l. let o = k.once l in let t = times-pick (line_is l) p in omega arith;
  }

  -- so each answer keeps that
  kept_next : {st next : State} {call : Call} {reply : Reply} → IsKept s st → MachineStep s st call reply next → IsKept s next
  kept_next k (not_active n) = kept_noted k
  kept_next k (deep a d) = kept_noted k
  kept_next k (full a d n) = kept_noted k
  kept_next k (fired_now a d n) = kept_fired k a
  kept_next k (not_standing n) = kept_noted k
  kept_next k (held i j m l) = kept_noted k
  kept_next k (undone p j n) = kept_undone k p n

  -- a legal history keeps that
  pub history_kept : {lines : List Line} {st : State} → IsHistory s lines st → IsKept s st
  history_kept begins = record { sound = empty_sound s; below = λ x i. elim i.1 [ ]; once = λ l. omega arith }
  history_kept (goes_on h a) = kept_next (history_kept h) a

-- each answer is one line more
line_more : {s : Start} {st next : State} {call : Call} {reply : Reply} → MachineStep s st call reply next → next.lines ≡ st.lines + 1
line_more (not_active n) = refl
line_more (deep a d) = refl
line_more (full a d n) = refl
line_more (fired_now a d n) = refl
line_more (not_standing n) = refl
line_more (held i j m l) = refl
line_more (undone p j n) = refl

-- one line more at the end
length-snoc : {X : Type 0} (xs : List X) (x : X) → length (xs ++ x ∷ []) ≡ length xs + 1
length-snoc [] x = refl
length-snoc (y ∷ xs) x = let ih = length-snoc xs x in omega arith

-- the number of lines of the state is the length of the history
pub history_length : {s : Start} {lines : List Line} {st : State} → IsHistory s lines st → st.lines ≡ length lines
history_length begins = refl
history_length (goes_on {lines = lines} {call = call} {reply = reply} h a) = let ih = history_length h in let m = line_more a in let l = length-snoc lines (record { call = call; reply = reply }) in omega arith
