-- Listed events that were fired, each in its turn.
use Rattle.std.proofs.Common.{◌≡◌, List, [], ◌∷◌, ◌++◌, reverse, inl, inr, sym, ap, subst, ◌∙◌, append_assoc}
use Rattle.ic_name.specs.Events.{Event, Pair, pair}
use Rattle.ic_path.specs.Orders.{IsIn, Alike}
use Rattle.ic_path.proofs.Alikes.{alike_back, alike-cons}
use Rattle.ic_path.proofs.Picks.{none_in, in-cons_cases}
use Rattle.ic_theory.specs.Starts.{Start}
use Rattle.ic_theory.proofs.Normal.{active-alike}
use Rattle.ic_undo.specs.Absorbing.{IsLeastListed, AreLeastInTurn}
use Rattle.ic_undo.proofs.Backs.{reverse_more}

-- the listed event with the least lead is that in any order of the set
pub least-alike : (s : Start) {es fs : List Event} (names : List Pair) (e : Event) → Alike es fs → IsLeastListed s es names e → IsLeastListed s fs names e
least-alike s names e a l = record { active = active-alike s a l.active; listed = l.listed; least = λ f h i. l.least f (active-alike s (alike_back a) h) i }

-- and each is in its turn
pub in_turn-alike : (s : Start) {es fs : List Event} (names : List Pair) (came : List Event) → Alike es fs → AreLeastInTurn s es names came → AreLeastInTurn s fs names came
in_turn-alike s names [] a t = tt
in_turn-alike s names (e ∷ came) a t = (least-alike s names e a t.0, in_turn-alike s names came (alike-cons e a) t.1)

-- one event more, when the others stand, too
pub in_turn_more : (s : Start) (es : List Event) (names : List Pair) (came : List Event) (e : Event) → AreLeastInTurn s es names came → IsLeastListed s (reverse came ++ es) names e → AreLeastInTurn s es names (came ++ e ∷ [])
in_turn_more s es names [] e t l = (l, tt)
in_turn_more s es names (x ∷ came) e t l =
    let same : reverse (x ∷ came) ++ es ≡ reverse came ++ x ∷ es = ap (λ xs. xs ++ es) (reverse_more x came) ∙ append_assoc (reverse came) (x ∷ []) es in
    (t.0, in_turn_more s (x ∷ es) names came e t.1 (subst (λ xs. IsLeastListed s xs names e) same l))

-- each of them is listed
pub came_listed : (s : Start) (es : List Event) (names : List Pair) (came : List Event) → AreLeastInTurn s es names came → (e : Event) → IsIn e came → IsIn (pair e) names
came_listed s es names [] t e i = absurd (none_in i)
came_listed s es names (x ∷ came) t e i = elim (in-cons_cases i) [
  | inl q ↦ subst (λ (y : Event). IsIn (pair y) names) (sym q) t.0.listed
  | inr j ↦ came_listed s (x ∷ es) names came t.1 e j
]
