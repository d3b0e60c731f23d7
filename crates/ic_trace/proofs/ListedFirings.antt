-- Lists of events as firings.
use Rattle.std.proofs.Common.{◌≡◌, ℕ, ◌+◌, ◌<◌, Bool, true, false, List, [], ◌∷◌, ◌++◌, length, take, drop, get_or, refl, sym, ap, arith, subst, ◌∙◌}
use Rattle.std.proofs.lemmas.List.{length-take-le, take-append-drop}
use Rattle.ic_name.specs.Events.{Event}
use Rattle.ic_theory.specs.CausalOrders.{IsCausalOrder}
use Rattle.ic_theory.specs.Firings.{IsFired, fired, then_fired}
use Rattle.ic_theory.specs.Active.{IsActive}
use Rattle.ic_theory.specs.Starts.{Start, IsProper}
use Rattle.ic_theory.proofs.Future.{earlier, last_active}
use Rattle.ic_theory.proofs.Sound.{fired_sound, sound_fired}
use Rattle.ic_path.specs.Orders.{here, Alike, more}
use Rattle.ic_path.proofs.Alikes.{alike_back, alike_then}
use Rattle.ic_theory.proofs.Normal.{active-alike}
use Rattle.ic_trace.specs.Pasts.{PastView, Fires}
use Rattle.ic_path.proofs.ListPlaces.{seen_more}

-- an event more at the end is fired last
pub fired_end : (done xs : List Event) (x : Event) → then_fired done (xs ++ x ∷ []) ≡ x ∷ then_fired done xs
fired_end done [] x = refl
fired_end done (y ∷ xs) x = fired_end (y ∷ done) xs x

-- the events before those of a list, fired with them, are a firing
fired_before : {s : Start} (done xs : List Event) → IsFired s (then_fired done xs) → IsFired s done
fired_before done [] f = f
fired_before done (x ∷ xs) f = earlier (fired_before (x ∷ done) xs f)

-- those of a first part, fired one after another, are the firing before the next
fired_apart : (done xs : List Event) (ys : List Event) → then_fired done (xs ++ ys) ≡ then_fired (then_fired done xs) ys
fired_apart done [] ys = refl
fired_apart done (x ∷ xs) ys = fired_apart (x ∷ done) xs ys

-- in a causal order each event is active behind those before it
pub causal_active : (s : Start) → IsProper s → (list : List Event) (i : ℕ) (x d : Event) → i < length list → x ≡ get_or list i d → IsCausalOrder s list → IsActive s (then_fired [] (take i list)) x
causal_active s ok list i x d h e order =
    let all = sound_fired s ok (then_fired [] list) order.0 order.1 in
    let next = ap (then_fired []) (seen_more list i x d h e) ∙ fired_end [] (take i list) x in
    let split =
    ap (then_fired []) (sym (take-append-drop (i + 1) list)) ∙ fired_apart [] (take (i + 1) list) (drop (i + 1) list)
    ∙ ap (λ done. then_fired done (drop (i + 1) list)) next in
    last_active (fired_before (x ∷ then_fired [] (take i list)) (drop (i + 1) list) (subst (IsFired s) split all))

-- as many events are fired as there are
length-fired : (done xs : List Event) → length (then_fired done xs) ≡ length done + length xs
length-fired done [] = omega arith
length-fired done (x ∷ xs) = let more = length-fired (x ∷ done) xs in omega arith

-- so fewer than there are, before the last
pub few_fired : (list : List Event) (i : ℕ) → i < length list → length (then_fired [] (take i list)) ≡ i
few_fired list i h = let fired = length-fired [] (take i list) in let long = length-take-le i list (omega (arith, h)) in omega (arith, fired, long)

-- an event that is fired in a past, seen as a firing
pub fires_more : {s : Start} {old new : PastView} (list : List Event) (i : ℕ) (x d : Event) → i < length list → x ≡ get_or list i d → old.start ≡ s
    → IsFired s (then_fired [] (take i list)) → Alike old.events (then_fired [] (take i list)) → (yes : Bool) → yes ≡ true → Fires old x yes new
    → IsFired s (then_fired [] (take (i + 1) list)) × (new.start ≡ s) × Alike new.events (then_fired [] (take (i + 1) list))
fires_more list i x d h e start fired_so standing false is f = absurd cc
fires_more {s} {old} {new} list i x d h e start fired_so standing true is f =
    let next : then_fired [] (take (i + 1) list) ≡ x ∷ then_fired [] (take i list) = ap (then_fired []) (seen_more list i x d h e) ∙ fired_end [] (take i list) x in
    let active : IsActive s old.events x = subst (λ t. IsActive t old.events x) start f.0 in (
      subst (IsFired s) (sym next) (fired fired_so (active-alike s standing active)),
      f.1.start ∙ start,
      subst (Alike new.events) (sym next) (alike_then (alike_back f.1.events) (more here standing)),
    )

-- an event that isn't fired, in no causal order
pub fires_not : {s : Start} {old : PastView} (new : PastView) → IsProper s → (list : List Event) (i : ℕ) (x d : Event) → i < length list → x ≡ get_or list i d → old.start ≡ s
    → Alike old.events (then_fired [] (take i list)) → (yes : Bool) → yes ≡ false → Fires old x yes new → IsCausalOrder s list → ⊥
fires_not new ok list i x d h e start standing true is f order = absurd cc
fires_not {s} {old} new ok list i x d h e start standing false is f order =
    f.0 (subst (λ t. IsActive t old.events x) (sym start) (active-alike s (alike_back standing) (causal_active s ok list i x d h e order)))

-- a firing is a causal order
pub fired_causal : (s : Start) → IsProper s → (xs : List Event) → IsFired s (then_fired [] xs) → IsCausalOrder s xs
fired_causal s ok xs f = fired_sound s ok (then_fired [] xs) f
