-- Something that stands can always be undone.
use Rattle.std.proofs.Common.{◌≡◌, ◌+◌, List, [], ◌∷◌, map, refl, subst}
use Rattle.ic_name.specs.Events.{Event}
use Rattle.ic_name.specs.declared.lines.Call.TheVariants.{Undo}
use Rattle.ic_name.specs.declared.lines.Line.{Line}
use Rattle.ic_name.specs.declared.lines.Reply.TheVariants.{Undone}
use Rattle.ic_path.specs.Orders.{Pick, here, there, Alike}
use Rattle.ic_theory.specs.Starts.{Start, IsProper}
use Rattle.ic_theory.specs.Causes.{IsCause, IsDependent}
use Rattle.ic_theory.specs.Firings.{IsFired}
use Rattle.ic_theory.specs.Machine.{Standing, State, events, MachineStep, undone, IsHistory}
use Rattle.ic_theory.proofs.Future.{in_alike}
use Rattle.ic_theory.proofs.Machines.{history_kept}
use Rattle.ic_theory.proofs.Normal.{last_free}
use Rattle.ic_theory.proofs.Ranks.{sound_order, cause_included, same_set}
use Rattle.ic_path.proofs.Alikes.{alike_back}

-- a standing event, and what stands beside it
record Found (e : Event) (xs : List Standing) : Type 0 where
  standing : Standing
  others : List Standing
  picked : Pick standing xs others
  is : standing.event ≡ e

found : (e : Event) (xs : List Standing) {rest : List Event} → Pick e (map (λ x. x.event) xs) rest → Found e xs
found e [] k = elim k [ ]
found e (x ∷ xs) here = record { standing = x; others = xs; picked = here; is = refl }
found e (x ∷ xs) (there k) = let f = found e xs k in record { standing = f.standing; others = x ∷ f.others; picked = there f.picked; is = f.is }

-- the latest event of a firing of what stands can be undone
pub something_undone : (s : Start) → IsProper s → {lines : List Line} {st : State} → IsHistory s lines st → (st.standing ≡ [] → ⊥) → (x : Standing) × (rest : List Standing) × Pick x st.standing rest × MachineStep s st (Undo x.line) Undone (record { standing = rest; lines = st.lines + 1 })
something_undone s ok {st = st} h n = by_order o.0 o.1 o.2
  where
    o : (order : List Event) × Alike (events st) order × IsFired s order
    o = sound_order s ok (events st) (history_kept s ok h).sound

    by_order : (order : List Event) → Alike (events st) order → IsFired s order → (x : Standing) × (rest : List Standing) × Pick x st.standing rest × MachineStep s st (Undo x.line) Undone (record { standing = rest; lines = st.lines + 1 })
    by_order [] a f = absurd (n (none_stands st.standing a))
      where
        none_stands : (xs : List Standing) → Alike (map (λ x. x.event) xs) [] → xs ≡ []
        none_stands [] a = refl
        none_stands (x ∷ xs) a = elim (in_alike (_, here) a).1 [ ]
    by_order (e ∷ es) a f =
        let p = in_alike (es, here) (alike_back a) in
        let w = found e st.standing p.1 in
        let free : (g : Event) → IsDependent s (events st) w.standing.event g → ⊥ =
        (λ g d. last_free s ok f g (in_alike d.0 a) (cause_included s (same_set a) (subst (λ x. IsCause s (events st) g x) w.is d.1))) in
        (w.standing, w.others, w.picked, undone w.picked refl free)
