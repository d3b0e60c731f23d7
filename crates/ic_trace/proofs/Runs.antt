-- Lists of letters that are accepted one after the other.
use Rattle.std.proofs.Common.{List, [], ◌∷◌, ◌++◌}
use Rattle.ic_name.specs.Events.{Event}
use Rattle.ic_path.specs.Orders.{Alike, here, more}
use Rattle.ic_path.proofs.Alikes.{alike_pick, alike_back}
use Rattle.ic_theory.specs.Starts.{Start, IsProper}
use Rattle.ic_theory.specs.Firings.{IsFired, fired}
use Rattle.ic_theory.specs.Letters.{Letter, Fire, Undo, Runs, stops, fires, undoes}
use Rattle.ic_theory.proofs.Future.{in_alike}
use Rattle.ic_theory.proofs.Normal.{active-alike}
use Rattle.ic_theory.proofs.Ranks.{cause_included, same_set}
use Rattle.ic_trace.proofs.LastFired.{fired_rest}

module _ (s : Start) where
  -- letters, and then more
  pub runs_on : {es fs gs : List Event} {ls ms : List Letter} → Runs s es ls fs → Runs s fs ms gs → Runs s es (ls ++ ms) gs
  runs_on stops q = q
  runs_on (fires a p) q = fires a (runs_on p q)
  runs_on (undoes k n p) q = undoes k n (runs_on p q)

  -- a list that is accepted in two parts
  pub record Parted (es : List Event) (ls ms : List Letter) (gs : List Event) : Type 0 where
    pub between : List Event
    pub first : Runs s es ls between
    pub second : Runs s between ms gs

  -- the front of a list is accepted, and the rest after it
  pub runs_parted : {es gs : List Event} (ls : List Letter) {ms : List Letter} → Runs s es (ls ++ ms) gs → Parted es ls ms gs
  runs_parted {es} [] r = record { between = es; first = stops; second = r }
  runs_parted (Fire e ∷ ls) (fires a r) = let p = runs_parted ls r in record { between = p.between; first = fires a p.first; second = p.second }
  runs_parted (Undo e ∷ ls) (undoes k n r) = let p = runs_parted ls r in record { between = p.between; first = undoes k n p.first; second = p.second }

  -- what a set accepts it accepts in any order
  pub runs-alike : {es es' fs : List Event} {ls : List Letter} → Runs s es ls fs → Alike es es' → (fs' : List Event) × Runs s es' ls fs' × Alike fs fs'
  runs-alike stops a = (_, stops, a)
  runs-alike (fires h r) a = let q = runs-alike r (more here a) in (q.0, fires (active-alike s a h) q.1, q.2)
  runs-alike (undoes k n r) a =
      let p = alike_pick a k in
      let q = runs-alike r p.2 in
      (q.0, undoes p.1 (λ f i c. n f (in_alike i (alike_back a)) (cause_included s (same_set (alike_back a)) c)) q.1, q.2)

  -- from a firing they lead to a firing
  pub runs_fired : IsProper s → {es fs : List Event} {ls : List Letter} → IsFired s es → Runs s es ls fs → IsFired s fs
  runs_fired ok f stops = f
  runs_fired ok f (fires a r) = runs_fired ok (fired f a) r
  runs_fired ok f (undoes k n r) = runs_fired ok (fired_rest s ok f k n) r
