-- Moves keep the standing set.
use Rattle.std.proofs.Common.{◌≡◌, ℕ, ◌+◌, ◌≤◌, Bool, true, false, List, [], ◌∷◌, ◌++◌, inl, refl, sym, arith, subst}
use Rattle.std.specs.Prelude.{if◌then◌else◌}
use Rattle.ic_name.specs.Names.{Name}
use Rattle.ic_name.specs.Events.{Event}
use Rattle.ic_name.specs.Same.{same_name}
use Rattle.ic_name.proofs.SameFacts.{same_name_true, same_name_self}
use Rattle.ic_path.specs.Orders.{Pick, here, there, Alike, none, more}
use Rattle.ic_theory.specs.Starts.{Start, IsProper}
use Rattle.ic_path.specs.Orders.{IsIn}
use Rattle.ic_theory.specs.Firings.{nothing}
use Rattle.ic_theory.specs.Letters.{Letter, Fire, Undo, Runs, stops, fires, undoes, Move, swaps, fire_undo, undo_fire, AreEquivalent, same, forth, back}
use Rattle.ic_theory.proofs.Future.{one_partner, in_rest}
use Rattle.ic_theory.proofs.Normal.{normal}

-- how many events of the list the name leads
abbrev leads : Name → List Event → ℕ
leads n [] = 0
leads n (e ∷ es) = (if same_name n e.lead then 1 else 0) + leads n es

-- how many letters fire an event that the name leads
abbrev fired_times : Name → List Letter → ℕ
fired_times n [] = 0
fired_times n (Fire e ∷ ls) = (if same_name n e.lead then 1 else 0) + fired_times n ls
fired_times n (Undo e ∷ ls) = fired_times n ls

-- how many undo one
abbrev undone_times : Name → List Letter → ℕ
undone_times n [] = 0
undone_times n (Fire e ∷ ls) = undone_times n ls
undone_times n (Undo e ∷ ls) = (if same_name n e.lead then 1 else 0) + undone_times n ls

-- one less where one is taken out
leads-pick : (n : Name) {e : Event} {es rest : List Event} → Pick e es rest → leads n es ≡ (if same_name n e.lead then 1 else 0) + leads n rest
leads-pick n here = refl
leads-pick n (there k) = let ih = leads-pick n k in omega arith

-- what stands is what stood, with what was fired and without what was undone
runs_count : {s : Start} {es fs : List Event} {ls : List Letter} (n : Name) → Runs s es ls fs → leads n fs + undone_times n ls ≡ leads n es + fired_times n ls
runs_count n stops = refl
runs_count n (fires a r) = let ih = runs_count n r in omega arith
runs_count n (undoes k d r) = let ih = runs_count n r in let p = leads-pick n k in omega arith

-- the firings are those of both parts of a list
fired-append : (n : Name) (ls ms : List Letter) → fired_times n (ls ++ ms) ≡ fired_times n ls + fired_times n ms
fired-append n [] ms = omega arith
fired-append n (Fire e ∷ ls) ms = let ih = fired-append n ls ms in omega arith
fired-append n (Undo e ∷ ls) ms = fired-append n ls ms

-- and so are the undos
undone-append : (n : Name) (ls ms : List Letter) → undone_times n (ls ++ ms) ≡ undone_times n ls + undone_times n ms
undone-append n [] ms = omega arith
undone-append n (Fire e ∷ ls) ms = undone-append n ls ms
undone-append n (Undo e ∷ ls) ms = let ih = undone-append n ls ms in omega arith

-- neighbours that change places fire the same
swap_fired : (n : Name) (x y : Letter) (ls : List Letter) → fired_times n (x ∷ y ∷ ls) ≡ fired_times n (y ∷ x ∷ ls)
swap_fired n (Fire e) (Fire f) ls = omega arith
swap_fired n (Fire e) (Undo f) ls = refl
swap_fired n (Undo e) (Fire f) ls = refl
swap_fired n (Undo e) (Undo f) ls = refl

-- and undo the same
swap_undone : (n : Name) (x y : Letter) (ls : List Letter) → undone_times n (x ∷ y ∷ ls) ≡ undone_times n (y ∷ x ∷ ls)
swap_undone n (Fire e) (Fire f) ls = refl
swap_undone n (Fire e) (Undo f) ls = refl
swap_undone n (Undo e) (Fire f) ls = refl
swap_undone n (Undo e) (Undo f) ls = omega arith

-- a move keeps the difference of firings and undos
move_counts : {s : Start} {ls ms : List Letter} (n : Name) → Move s ls ms → fired_times n ls + undone_times n ms ≡ fired_times n ms + undone_times n ls
move_counts n (swaps b d x y c) =
    let p = fired-append n b (x ∷ y ∷ d) in let q = fired-append n b (y ∷ x ∷ d) in
    let u = undone-append n b (x ∷ y ∷ d) in let v = undone-append n b (y ∷ x ∷ d) in
    let f = swap_fired n x y d in let g = swap_undone n x y d in omega arith
move_counts n (fire_undo b d e) =
    let p = fired-append n b (Fire e ∷ Undo e ∷ d) in let q = fired-append n b d in
    let u = undone-append n b (Fire e ∷ Undo e ∷ d) in let v = undone-append n b d in omega arith
move_counts n (undo_fire b d e) =
    let p = fired-append n b (Undo e ∷ Fire e ∷ d) in let q = fired-append n b d in
    let u = undone-append n b (Undo e ∷ Fire e ∷ d) in let v = undone-append n b d in omega arith

-- and so do many moves
counts_kept : {s : Start} {ls ms : List Letter} (n : Name) → AreEquivalent s ls ms → fired_times n ls + undone_times n ms ≡ fired_times n ms + undone_times n ls
counts_kept n same = refl
counts_kept n (forth m a b p) = let x = move_counts n m in let y = counts_kept n p in omega arith
counts_kept n (back m a b p) = let x = move_counts n m in let y = counts_kept n p in omega arith

-- a name that leads an event is some event's lead
leader : (n : Name) (es : List Event) → 1 ≤ leads n es → (f : Event) × IsIn f es × (n ≡ f.lead)
leader n [] h = absurd (omega arith)
leader n (e ∷ es) h = go (same_name n e.lead) refl (leader n es)
  where
    go : (b : Bool) → same_name n e.lead ≡ b → (1 ≤ leads n es → (f : Event) × IsIn f es × (n ≡ f.lead)) → (f : Event) × IsIn f (e ∷ es) × (n ≡ f.lead)
    go true i f = (e, (es, here), same_name_true n e.lead i)
    go false i f = let h' = rw i at h in let r = f (omega (arith, h')) in (r.0, (_, there r.1.1), r.2)

-- an event is led by its lead
lead_self : (e : Event) → ◌≡◌ {A = ℕ} (if same_name e.lead e.lead then 1 else 0) 1
lead_self e = rw (same_name_self e.lead) refl

-- lists whose events have the same leads, and are told by them, have the same events
alike_by : (fs gs : List Event) → ((n : Name) → leads n fs ≡ leads n gs) → ((e f : Event) → IsIn e fs → IsIn f gs → e.lead ≡ f.lead → e ≡ f) → Alike fs gs
alike_by [] [] c u = none
alike_by [] (g ∷ gs) c u = let h = c g.lead in let i = lead_self g in absurd (omega arith)
alike_by (e ∷ es) gs c u =
    let h = c e.lead in
    let i = lead_self e in
    let r = leader e.lead gs (omega arith) in
    let same_event : e ≡ r.0 = u e r.0 (es, here) r.1 r.2 in
    let k : IsIn e gs = subst (λ x. IsIn x gs) (sym same_event) r.1 in
    more k.1 (alike_by es k.0 (λ n. let x = c n in let y = leads-pick n k.1 in omega arith) (λ a b i j. u a b (_, there i.1) (in_rest k.1 j.1)))

-- equivalent legal lists lead to one standing set
pub one_standing : (s : Start) → IsProper s → {fs gs : List Event} {ls ms : List Letter} → Runs s [] ls fs → Runs s [] ms gs → AreEquivalent s ls ms → Alike fs gs
one_standing s ok {fs} {gs} r q p =
    let x = (normal s ok nothing r).0 in
    let y = (normal s ok nothing q).0 in
    alike_by fs gs (λ n. let a = runs_count n r in let b = runs_count n q in let c = counts_kept n p in omega arith)
    (λ e f i j h. one_partner s ok e f x y i.1 j.1 e.lead (inl refl) (inl h))
