-- Undos as they are read.
use Rattle.std.proofs.Common.{◌≡◌, ℕ, [], ◌∷◌, ◌++◌, sym, ap, subst, ◌∙◌, append-nil, append_assoc, Some, None, true, false, arith}
use Rattle.ic_name.specs.Events.{Pair, pair}
use Rattle.ic_path.specs.Orders.{here, IsIn}
use Rattle.ic_path.proofs.Alikes.{alike_then, alike_back, alike_more, alike-in, alike_pick}
use Rattle.ic_trace.specs.Pasts.{PastView, Undoes}
use Rattle.ic_set.proofs.KeptRanks.{in_whole}
use Rattle.ic_theory.specs.Letters as theory
use Rattle.ic_trace.specs.declared.known.EventTable.{EventTable}
use Rattle.ic_trace.specs.declared.lists.Letter.TheVariants.{Undo}
use Rattle.ic_trace.specs.declared.reading.Step.TheVariants as step
use Rattle.ic_trace.specs.Known.{event_at, IsNumberOf, AreKnown}
use Rattle.ic_trace.specs.Readings.{IsFollowed, IsAccepted, IsRefused}
use Rattle.ic_trace.proofs.ByNumber.{event_in}
use Rattle.ic_trace.proofs.KnownEvents.{led_once, lead_numbered}

-- an undo is refused where its event doesn't stand, or something depends on it
pub undo_refused : (p new : PastView) (n : Pair) → Undoes p n false new → IsRefused p (Undo n)
undo_refused p new n h (theory.Fire e) q es r = cc
undo_refused p new n h (theory.Undo e) q es (theory.undoes {rest = rest} k free r) = let same : pair e ≡ n = cc in let d = h.0 e (rest, k) same in free d.0 d.1.0 d.1.1

module _ (old new : PastView) (t : EventTable) (f : IsFollowed old t) (n : Pair) (u : Undoes old n true new) where
  -- the event stood
  stood : IsIn u.0 old.events
  stood = alike-in u.3.events (new.events, here)

  -- and is known
  pub undone_known : ¬ (IsNumberOf t.known.items n.lead None)
  undone_known none = lead_numbered t.known.items (in_whole f.part stood) (subst (λ (p : Pair). IsNumberOf t.known.items p.lead None) (sym u.1) none)

  -- it is undone
  pub accepted_undo : (i : ℕ) → IsNumberOf t.known.items n.lead (Some i) → IsAccepted old t.known.items (Undo n) (step.Undo i) new t
  accepted_undo i h =
      let w = u.3 in
      let same : event_at t.known.items i ≡ u.0 = led_once old.start f.known.sound (event_in t.known.items i h.0) (in_whole f.part stood) (h.1 ∙ sym (ap (λ p. p.lead) u.1)) in
      let p = alike_pick w.events here in
      let part = f.part in
      record {
        followed = record {
          known = subst (λ s. AreKnown s t.known.items) w.start f.known;
          numbered = f.numbered;
          part = record { others = part.others ++ u.0 ∷ []; alike = rw (append_assoc part.others (u.0 ∷ []) new.events) (alike_then (alike_more part.others w.events) part.alike) };
        };
        more = [];
        one = omega arith;
        grown = sym (append-nil t.known.items);
        inside = h.0;
        name = ap (λ x. Undo (pair x)) same ∙ ap Undo u.1;
        start = sym w.start;
        after = p.0;
        runs = rw same (theory.undoes p.1 (λ x i c. u.2 x (i, c)) theory.stops);
        alike = alike_back p.2;
      }
