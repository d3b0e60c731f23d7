-- Names of listed events: of those that don't stand, and of those that are active, with their pairs.
use Rattle.std.specs.Prelude.{◌≡◌, ◌≢◌, ◌↔◌, ◌⊎◌, Bool, true, false, cond, IsTrue, List, Option, Some, None}
use Rattle.std.specs.BTreeMap.{is_at}
use Rattle.std.specs.Ordering.{is_gt}
use Rattle.ic_name.specs.Events.{Event, Pair, pair, pair_cmp}
use Rattle.ic_path.specs.Orders.{IsIn}
use Rattle.ic_roster.specs.Rosters.{Stander}
use Rattle.ic_set.specs.declared.pairs.ActivePair.{ActivePair}
use Rattle.ic_set.specs.Pairs.{IsPairOf}
use Rattle.ic_set.specs.Views.{SetView}

-- no event of this name stands
abbrev pub IsMissingName : SetView → Pair → Type 0
IsMissingName v p = (x : Stander) → IsIn x v.events → pair x.event ≢ p

-- the test tells the listed names of which no event stands
abbrev pub TellsMissing : SetView → List Pair → (Pair → Bool) → Type 0
TellsMissing v names waits = (p : Pair) → IsTrue (waits p) ↔ (IsIn p names × IsMissingName v p)

-- under the names of the listed events that are active there are their pairs, and nothing else is there
pub record AreReady (v : SetView) (names : List Pair) (at : Pair → Option ActivePair) : Type 0 where
  pub each : (e : Event) (p : ActivePair) → IsPairOf v e p → IsIn (pair e) names → at (pair e) ≡ Some p
  pub only : (q : Pair) (p : ActivePair) → at q ≡ Some p → IsIn q names × ((e : Event) × IsPairOf v e p × (pair e ≡ q))

-- the least ready pair, and its name, are taken out
pub record TakesLeast (waits left : Pair → Bool) (at rest : Pair → Option ActivePair) (p : ActivePair) : Type 0 where
  pub name : Pair
  pub there : at name ≡ Some p
  pub least : (q : Pair) (r : ActivePair) → at q ≡ Some r → is_gt (pair_cmp name q) ≡ false
  pub gone : (q : Pair) → rest q ≡ cond (is_at (pair_cmp name) q) None (at q)
  pub out : (q : Pair) → left q ≡ cond (is_at (pair_cmp name) q) false (waits q)

-- the pairs of the list whose names pass the test are there, too
pub record AddsPairs (v : SetView) (waits : Pair → Bool) (pairs : List (Option ActivePair)) (old new : Pair → Option ActivePair) : Type 0 where
  pub kept : (e : Event) (p : ActivePair) → IsPairOf v e p → old (pair e) ≡ Some p → new (pair e) ≡ Some p
  pub added : (e : Event) (p : ActivePair) → IsPairOf v e p → IsIn (Some p) pairs → waits (pair e) ≡ true → new (pair e) ≡ Some p
  pub only : (q : Pair) (p : ActivePair) → new q ≡ Some p → (old q ≡ Some p) ⊎ (IsIn (Some p) pairs × (waits q ≡ true) × ((e : Event) × IsPairOf v e p × (pair e ≡ q)))

-- the names are those of the events, in any order
abbrev pub AreNamesOf : List Event → List Pair → Type 0
AreNamesOf es names = (p : Pair) → IsIn p names ↔ ((e : Event) × IsIn e es × (pair e ≡ p))
