-- Agents and free names that lie in order, and one more behind them.
use Rattle.std.proofs.Common.{◌≡◌, List, [], ◌∷◌, ◌++◌, map, refl, ap}
use Rattle.std.specs.List.{AllByRecursion}
use Rattle.std.specs.List.Sorted.{IsStrictlySortedBy}
use Rattle.std.specs.Map.{keys_of}
use Rattle.std.specs.declared.cmp.Ordering.{Ordering}
use Rattle.std.specs.declared.cmp.Ordering.TheVariants.{Less}
use Rattle.ic_name.specs.Names.{Name}
use Rattle.ic_theory.specs.Listed.{NetAgent as Listed}
use Rattle.ic_net.specs.Sheets.{listed_agent}
use Rattle.ic_net.specs.declared.agents.NetAgent.{NetAgent}

-- the names of agents that are listed
pub keys_listed : (es : List (Name × NetAgent)) → map (λ (a : Listed). a.name) (map listed_agent es) ≡ keys_of es
keys_listed [] = refl
keys_listed (e ∷ es) = ap (λ ns. e.0 ∷ ns) (keys_listed es)

module _ {X K : Type 0} (cmp : K → K → Ordering) (key : X → K) where
  -- none lie in order
  pub none_in_order : IsStrictlySortedBy cmp (map key [])
  unfolding IsStrictlySortedBy
  none_in_order = tt

  -- one more behind those that are below a key that is below it
  below_all : (k : K) (xs : List X) (x : X) → AllByRecursion (λ j. cmp k j ≡ Less) (map key xs) → cmp k (key x) ≡ Less → AllByRecursion (λ j. cmp k j ≡ Less) (map key (xs ++ x ∷ []))
  below_all k [] x h l = (l, tt)
  below_all k (y ∷ ys) x h l = (h.0, below_all k ys x h.1 l)

  -- one more behind all others
  pub last_in_order : (xs : List X) (x : X) → IsStrictlySortedBy cmp (map key xs) → AllByRecursion (λ j. cmp j (key x) ≡ Less) (map key xs) → IsStrictlySortedBy cmp (map key (xs ++ x ∷ []))
  unfolding IsStrictlySortedBy
  last_in_order [] x s l = (tt, tt)
  last_in_order (y ∷ ys) x s l = (below_all (key y) ys x s.0 l.0, last_in_order ys x s.1 l.1)
