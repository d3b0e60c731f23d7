-- Steps along a list, one more at its end.
use Rattle.std.proofs.Common.{◌≡◌, ℕ, ◌+◌, ◌<◌, ◌≤◌, List, [], ◌∷◌, ◌++◌, length, take, refl, sym, ap, ◌∙◌, subst, get_or}
use Rattle.std.proofs.lemmas.List.{take_more, take_all}
use Rattle.ic_name.specs.Events.{Event}
use Rattle.ic_theory.specs.Starts.{Start, IsProper}
use Rattle.ic_theory.specs.Firings.{AreAfterCauses, then_fired}
use Rattle.ic_theory.specs.Sound.{IsSound}
use Rattle.ic_theory.specs.Nets.{Net, IsSameNet, net_of}
use Rattle.ic_theory.specs.Steps.{Meets, plain_step, steps, AreDefined}
use Rattle.ic_theory.proofs.Runs.{one_net, fired_steps, defined_fired}
use Rattle.ic_theory.proofs.Sound.{fired_sound}

-- one event more
steps_more : (n : Net) (es : List Event) (e : Event) → steps n (es ++ e ∷ []) ≡ plain_step (steps n es) e
steps_more n [] e = refl
steps_more n (x ∷ es) e = steps_more (plain_step n x) es e

defined_more : (n : Net) (es : List Event) (e : Event) → AreDefined n es → Meets (steps n es) e → AreDefined n (es ++ e ∷ [])
defined_more n [] e h m = (m, tt)
defined_more n (x ∷ es) e h m = (h.0, defined_more (plain_step n x) es e h.1 m)

-- what the events in front of a place leave
pub record IsAt (n : Net) (es : List Event) (place : ℕ) (now : Net) : Type 0 where
  pub defined : AreDefined n (take place es)
  pub stepped : IsSameNet now (steps n (take place es))

pub none_yet : (n now : Net) (es : List Event) → IsSameNet now n → IsAt n es 0 now
none_yet n now es h = record { defined = tt; stepped = h }

-- the event at a place makes its step
pub one_more : (n now next : Net) (es : List Event) (place : ℕ) (e : Event) → place < length es → IsAt n es place now → get_or es place e ≡ e → Meets now e → IsSameNet next (plain_step now e) → IsAt n es (place + 1) next
one_more n now next es place e lt h is m s =
    let same : now ≡ steps n (take place es) = one_net h.stepped in
    let longer : take (place + 1) es ≡ take place es ++ e ∷ [] = take_more es place e lt ∙ ap (λ x. take place es ++ x ∷ []) is in
    record {
      defined = subst (AreDefined n) (sym longer) (defined_more n (take place es) e h.defined (subst (λ x. Meets x e) same m));
      stepped = subst (λ xs. IsSameNet next (steps n xs)) (sym longer) (subst (IsSameNet next) (ap (λ x. plain_step x e) same ∙ sym (steps_more n (take place es) e)) s);
    }

-- what holds once all events were replayed
pub record IsWhole (s : Start) (es : List Event) (now : Net) : Type 0 where
  pub sound : IsSound s (then_fired [] es)
  pub causal : AreAfterCauses s (then_fired [] es) (then_fired [] es)
  pub left : IsSameNet now (net_of s (then_fired [] es))

pub all_replayed : (s : Start) → IsProper s → (es : List Event) (place : ℕ) (now : Net) → length es ≤ place → IsAt (net_of s []) es place now → IsWhole s es now
all_replayed s ok es place now le h =
    let all : take place es ≡ es = take_all place es le in
    let firing = defined_fired s ok es (subst (AreDefined (net_of s [])) all h.defined) in
    let sound = fired_sound s ok (then_fired [] es) firing in
    let ends = (fired_steps s ok es firing).1 in
    record {
      sound = sound.0;
      causal = sound.1;
      left = subst (IsSameNet now) (ap (steps (net_of s [])) all ∙ ends) h.stepped;
    }
