-- States of the machine that are the same up to order.
use Rattle.std.proofs.Common.{◌+◌, List, ◌∷◌, refl, sym, ap, subst, ◌∙◌}
use Rattle.ic_name.specs.Events.{Event}
use Rattle.ic_path.specs.Orders.{here, Alike, more}
use Rattle.ic_path.proofs.Alikes.{alike_self, alike_back, alike_then, alike-map}
use Rattle.ic_theory.specs.Starts.{Start}
use Rattle.ic_theory.specs.Causes.{IsCause}
use Rattle.ic_theory.specs.Machine.{Standing, State, AreSame, events, noted}
use Rattle.ic_theory.proofs.Ranks.{same_set, cause_included}

-- a state is the same as itself
pub same_self : (st : State) → AreSame st st
same_self st = record { standing = alike_self st.standing; lines = refl }

-- either way round
pub same_back : {st tt : State} → AreSame st tt → AreSame tt st
same_back same = record { standing = alike_back same.standing; lines = sym same.lines }

-- and by a third
pub same_then : {st tt uu : State} → AreSame st tt → AreSame tt uu → AreSame st uu
same_then same next = record { standing = alike_then same.standing next.standing; lines = same.lines ∙ next.lines }

-- a line more in both
pub same_noted : {st tt : State} → AreSame st tt → AreSame (noted st) (noted tt)
same_noted same = record { standing = same.standing; lines = ap (λ n. n + 1) same.lines }

-- the events are the same
pub same_events : {st tt : State} → AreSame st tt → Alike (events st) (events tt)
same_events same = alike-map (λ (x : Standing). x.event) same.standing

-- and have the same causes
pub cause-alike : (s : Start) {es fs : List Event} {e c : Event} → Alike es fs → IsCause s es e c → IsCause s fs e c
cause-alike s a k = cause_included s (same_set a) k

-- an event more in both
pub same_fired : {st tt : State} (e : Event) → AreSame st tt
    → AreSame (record { standing = record { event = e; line = st.lines } ∷ st.standing; lines = st.lines + 1 }) (record { standing = record { event = e; line = tt.lines } ∷ tt.standing; lines = tt.lines + 1 })
same_fired {st} {tt} e same = record {
  standing = subst (λ n. Alike (record { event = e; line = st.lines } ∷ st.standing) (record { event = e; line = n } ∷ tt.standing)) same.lines (more here same.standing);
  lines = ap (λ n. n + 1) same.lines;
}
