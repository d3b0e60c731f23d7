-- Moves that are made one after the other.
use Rattle.std.proofs.Common.{◌≡◌, ◌↔◌, ℕ, ◌+◌, Bool, false, List, [], ◌∷◌, ◌++◌, map, take, drop, refl, sym, ap, ◌∙◌, append_assoc, append-nil}
use Rattle.std.specs.Prelude.{IsTrue}
use Rattle.std.proofs.lemmas.List.{take-append-drop, take-map}
use Rattle.ic_name.specs.Events.{Event}
use Rattle.ic_theory.specs.Starts.{Start, IsProper}
use Rattle.ic_theory.specs.Firings.{nothing}
use Rattle.ic_theory.specs.Letters as theory
use Rattle.ic_theory.specs.Nets.{IsSameNet, net_of}
use Rattle.ic_theory.proofs.AnyOrder.{net-alike}
use Rattle.ic_trace.specs.declared.lists.Letter.{Letter}
use Rattle.ic_trace.specs.declared.moving.Move.{Move}
use Rattle.ic_trace.specs.Cursors.{Does}
use Rattle.ic_trace.specs.Letters.{named, Leaves, IsLegal, IsFirstRefused}
use Rattle.ic_trace.specs.Moves.{Makes, MakeInTurn, ends, goes_on, Lead}
use Rattle.ic_trace.specs.Readings.{IsTraceOf, letters_in}
use Rattle.ic_trace.specs.declared.reading.Trace.{Trace}
use Rattle.ic_trace.proofs.Equivalences.{led_leave}
use Rattle.ic_trace.proofs.LegalMoves.{turns_legal}
use Rattle.ic_trace.proofs.OneList.{one_legal}
use Rattle.ic_trace.proofs.Places.{makes_one}
use Rattle.ic_trace.proofs.Runs.{runs_parted, runs_fired}
use Rattle.ic_trace.proofs.Swapped.{fired_is_sound}

module _ (s : Start) where
  -- moves, and then others
  pub turns_on : {ms ns : List Move} {ls ks js : List theory.Letter} → MakeInTurn s ls ms ks → MakeInTurn s ks ns js → MakeInTurn s ls (ms ++ ns) js
  turns_on ends q = q
  turns_on (goes_on m t) q = goes_on m (turns_on t q)

  -- what no moves make
  none_made : {ls ks : List theory.Letter} → MakeInTurn s ls [] ks → ls ≡ ks
  none_made ends = refl

  -- the first of moves that are made, and the others
  first_made : {m : Move} {ms : List Move} {ls ks : List theory.Letter} → MakeInTurn s ls (m ∷ ms) ks → (js : List theory.Letter) × Makes s m ls js × MakeInTurn s js ms ks
  first_made (goes_on m t) = (_, m, t)

  -- how far the moves have been made: to this list, and on from it as from the first one
  pub record AreMade (ls : List theory.Letter) (done left : List Move) (now : List theory.Letter) : Type 0 where
    pub made : MakeInTurn s ls done now
    pub only : (js : List theory.Letter) → MakeInTurn s ls (done ++ left) js → MakeInTurn s now left js

  pub made_none : (ls : List theory.Letter) (ms : List Move) → AreMade ls [] ms ls
  made_none ls ms = record { made = ends; only = λ js t. t }

  -- one move more
  pub made_more : {ls now next : List theory.Letter} {done left : List Move} {m : Move} → AreMade ls done (m ∷ left) now → Makes s m now next → AreMade ls (done ++ m ∷ []) left next
  made_more {ls} {now} {next} {done} {left} {m} a h = record {
    made = turns_on a.made (goes_on h ends);
    only = λ js t.
        let t' : MakeInTurn s ls (done ++ m ∷ left) js = rw (append_assoc done (m ∷ []) left) at t in
        let f = first_made (a.only js t') in
        rw (makes_one h f.1) f.2;
  }

  -- a front of a legal list is legal
  pub front_legal : (k : ℕ) (xs : List Letter) → IsLegal s xs → IsLegal s (take k xs)
  front_legal k xs l =
      let r : theory.Runs s [] (take k l.1.0 ++ drop k l.1.0) l.0 = rw (take-append-drop k l.1.0) l.1.1 in
      let p = runs_parted s (take k l.1.0) r in
      (p.between, (take k l.1.0, p.first, sym (take-map named k l.1.0) ∙ ap (take k) l.1.2))

  -- no moves lead from a list that isn't legal
  pub none_lead : {xs ys : List Letter} {ms : List Move} {i : ℕ} → IsFirstRefused s xs i → ¬ (Lead s xs ms ys)
  none_lead {xs} {i = i} h w = h.refused (front_legal (i + 1) xs (w.2.0, (w.0, w.2.1, w.4)))

  module _ (ok : IsProper s) (xs ys : List Letter) (trace : Trace) (is : IsTraceOf s xs trace) where
    -- the letters of the list
    first : List theory.Letter
    first = letters_in trace.known.items trace.steps.items

    -- moves that lead from the list begin with its letters
    pub lead_first : {ms : List Move} → (w : Lead s xs ms ys) → MakeInTurn s (letters_in trace.known.items trace.steps.items) ms w.1
    lead_first {ms} w = let e : w.0 ≡ letters_in trace.known.items trace.steps.items = one_legal s ok w.2 (is.standing, is.runs) (w.4 ∙ sym is.names) in rw e at w.3

    -- none do beyond a move that isn't lawful
    pub refused_lead : {done left : List Move} {m : Move} {now : List theory.Letter} (next : List theory.Letter) → AreMade (letters_in trace.known.items trace.steps.items) done (m ∷ left) now → Does s m now false next → ¬ (Lead s xs (done ++ m ∷ left) ys)
    refused_lead next a n w = let f = first_made (a.only w.1 (lead_first w)) in n f.0 f.1

    -- and where all were made, the last list tells
    pub all_lead : {ms : List Move} {now : List theory.Letter} (answer : Bool) → AreMade (letters_in trace.known.items trace.steps.items) ms [] now → IsTrue answer ↔ (map named now ≡ ys) → IsTrue answer ↔ Lead s xs ms ys
    all_lead {ms} {now} answer a w = (
      λ t. (letters_in trace.known.items trace.steps.items, now, (is.standing, is.runs), a.made, is.names, w.0 t),
      λ l. let t : MakeInTurn s (letters_in trace.known.items trace.steps.items) (ms ++ []) l.1 = rw (append-nil ms) (lead_first l) in
          let e = none_made (a.only l.1 t) in
          w.1 (ap (map named) e ∙ l.5),
    )

  module _ (ok : IsProper s) {xs ys : List Letter} {ms : List Move} (w : Lead s xs ms ys) where
    -- what moves lead to is legal
    pub lead_legal : IsLegal s ys
    lead_legal = let l = turns_legal s ok w.3 w.2 in (l.0, (w.1, l.1, w.5))

    -- and leaves the same net
    pub lead_nets : {es fs : List Event} → Leaves s xs es → Leaves s ys fs → IsSameNet (net_of s es) (net_of s fs)
    lead_nets x y = net-alike s ok (fired_is_sound s ok (runs_fired s ok nothing x.1)) (led_leave s ok w x y)
