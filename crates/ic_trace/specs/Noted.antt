-- An event as it is noted among the known ones.
use Rattle.std.specs.Prelude.{◌≡◌, ℕ, List, [], ◌∷◌, ◌++◌, length, Some, None}
use Rattle.ic_name.specs.Events.{Event, Pair}
use Rattle.ic_path.specs.Orders.{IsIn}
use Rattle.ic_trace.specs.declared.known.Known.{Known}
use Rattle.ic_trace.specs.declared.known.EventTable.{EventTable}
use Rattle.ic_trace.specs.Known.{AreNumbered, AreNumbersOf, IsNumberOf, IsRankAbove}
use Rattle.ic_trace.specs.Pasts.{PastView, AreCausesNamed}

-- each direct cause of the standing event of a name has a number
abbrev pub AreCausesKnown : PastView → Pair → List Known → Type 0
AreCausesKnown p n known = (names : List Pair) → AreCausesNamed p n (Some names) → (q : Pair) → IsIn q names → ¬ (IsNumberOf known q.lead None)

-- the numbers of the direct causes of the standing event of a name
pub record AreNumbersOfCauses (p : PastView) (n : Pair) (known : List Known) (numbers : List ℕ) : Type 0 where
  pub names : List Pair
  pub causes : AreCausesNamed p n (Some names)
  pub numbers_are : AreNumbersOf known names numbers

-- the standing event of a name is the last of the known ones, with its direct causes and its rank
pub record IsNoted (p : PastView) (n : Pair) (known : List Known) (e : Event) (number : ℕ) (t : EventTable) : Type 0 where
  pub noted : Known
  pub event : noted.event ≡ e
  pub causes : AreNumbersOfCauses p n known noted.causes.items
  pub rank : IsRankAbove known noted.causes.items noted.rank
  pub grown : t.known.items ≡ known ++ noted ∷ []
  pub numbered : AreNumbered t
  pub last : number ≡ length known
