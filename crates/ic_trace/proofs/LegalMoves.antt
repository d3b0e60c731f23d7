-- Lawful moves lead from legal lists to legal lists.
use Rattle.std.proofs.Common.{List, ◌∷◌, ◌++◌}
use Rattle.ic_name.specs.Events.{Event}
use Rattle.ic_path.specs.Orders.{Alike, here}
use Rattle.ic_path.proofs.Alikes.{alike_rest, picked_alike, alike_back}
use Rattle.ic_theory.specs.Starts.{Start, IsProper}
use Rattle.ic_theory.specs.Firings.{IsFired, nothing}
use Rattle.ic_theory.specs.Letters.{Letter, Fire, Undo, Runs, fires, undoes, IsLegal, Move, swaps, fire_undo, undo_fire, AreEquivalent, same, forth}
use Rattle.ic_trace.specs.declared.moving.Move.{Move as ListMove}
use Rattle.ic_trace.specs.Moves as moves
use Rattle.ic_trace.proofs.Runs.{runs_on, runs_parted, runs_fired, runs-alike}
use Rattle.ic_trace.proofs.Swapped.{swap_runs}

module _ (s : Start) (ok : IsProper s) where
  -- a list that is legal goes on otherwise after the same front
  otherwise : (before : List Letter) {ms ks : List Letter} → ((es gs : List Event) → IsFired s es → Runs s es ms gs → (fs : List Event) × Runs s es ks fs × Alike gs fs) → IsLegal s (before ++ ms) → IsLegal s (before ++ ks)
  otherwise before other l =
      let p = runs_parted s before l.1 in
      let q = other p.between l.0 (runs_fired s ok nothing p.first) p.second in
      (q.0, runs_on s p.first q.1)

  -- a move keeps a list legal
  pub move_legal : {ls ks : List Letter} → Move s ls ks → IsLegal s ls → IsLegal s ks
  move_legal (swaps before behind x y c) l = otherwise before {ms = x ∷ y ∷ behind} {ks = y ∷ x ∷ behind} (λ es gs g r. swap_runs s ok x y g c r) l
  move_legal (fire_undo before behind e) l = otherwise before {ms = Fire e ∷ Undo e ∷ behind} {ks = behind} (λ es gs g r. undone r) l
    where
      undone : {es gs : List Event} → Runs s es (Fire e ∷ Undo e ∷ behind) gs → (fs : List Event) × Runs s es behind fs × Alike gs fs
      undone (fires a (undoes k n r)) = runs-alike s r (alike_rest k here)
  move_legal (undo_fire before behind e) l = otherwise before {ms = Undo e ∷ Fire e ∷ behind} {ks = behind} (λ es gs g r. fired_again r) l
    where
      fired_again : {es gs : List Event} → Runs s es (Undo e ∷ Fire e ∷ behind) gs → (fs : List Event) × Runs s es behind fs × Alike gs fs
      fired_again (undoes k n (fires a r)) = runs-alike s r (alike_back (picked_alike k))

  -- a numbered move is a move
  pub unnumbered : {m : ListMove} {ls ks : List Letter} → moves.Makes s m ls ks → Move s ls ks
  unnumbered (moves.swaps before behind x y c) = swaps before behind x y c
  unnumbered (moves.fire_undo before behind e) = fire_undo before behind e
  unnumbered (moves.undo_fire before behind e) = undo_fire before behind e

  -- moves in turn keep a list legal
  pub turns_legal : {ms : List ListMove} {ls ks : List Letter} → moves.MakeInTurn s ls ms ks → IsLegal s ls → IsLegal s ks
  turns_legal moves.ends l = l
  turns_legal (moves.goes_on m t) l = turns_legal t (move_legal (unnumbered m) l)

  -- and lead to an equivalent one
  pub turns_equivalent : {ms : List ListMove} {ls ks : List Letter} → moves.MakeInTurn s ls ms ks → IsLegal s ls → AreEquivalent s ls ks
  turns_equivalent moves.ends l = same
  turns_equivalent (moves.goes_on m t) l = let n = move_legal (unnumbered m) l in forth (unnumbered m) l n (turns_equivalent t n)
