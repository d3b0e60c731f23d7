-- Events that a bench undoes, undone in turn by the machine.
use Rattle.std.proofs.Common.{◌≡◌, ◌+◌, ◌≤◌, List, [], ◌∷◌, ◌++◌, length, map, reverse, refl, sym, ap, subst, append_assoc, append-nil, arith, ◌∙◌}
use Rattle.ic_name.specs.Events.{Event}
use Rattle.ic_name.specs.declared.limits.TheConstants.{MAX_LINES}
use Rattle.ic_name.specs.declared.lines.Line.{Line}
use Rattle.ic_name.specs.declared.lines.Call.TheVariants.{Undo}
use Rattle.ic_name.specs.declared.lines.Reply.TheVariants.{Undone}
use Rattle.ic_path.specs.Orders.{here, IsIn, Alike}
use Rattle.ic_path.proofs.Picks.{in_first}
use Rattle.ic_path.proofs.Alikes.{alike_back, alike_pick, alike_then, alike_more, alike_past, alike-map, alike-in}
use Rattle.ic_path.proofs.InLists.{map_cases, in_behind}
use Rattle.ic_theory.specs.Causes.{IsDependent}
use Rattle.ic_theory.specs.Future.{Includes}
use Rattle.ic_theory.specs.Machine.{Standing, State, events, MachineStep, undone, IsHistory, goes_on}
use Rattle.ic_theory.proofs.Ranks.{cause_included}
use Rattle.ic_roster.specs.Rosters.{Stander, HaveOwnLines}
use Rattle.ic_set.specs.Views.{standing, events_of}
use Rattle.ic_journal.specs.Views.{BenchView, set_of}
use Rattle.ic_journal.specs.Benches.{fired_in}
use Rattle.ic_journal.proofs.MachineSteps.{fired_events}
use Rattle.ic_journal.specs.Undone.{undoing, AreFree}
use Rattle.ic_undo.proofs.Backs.{reverse_more, apart}
use Rattle.ic_answer.specs.Unwinding.{AreUndoneInTurn, none, more}
use Rattle.std.proofs.lemmas.List.{map-append}

module _ (v : BenchView) (own : HaveOwnLines v.events) (order : List Stander) (free : AreFree v order) where
  -- some events of the order are undone, others are to be undone, and the rest is left
  record AreSplit (done xs left : List Stander) (st : State) : Type 0 where
    parts : order ≡ reverse xs ++ done
    all : Alike v.events (done ++ (xs ++ left))
    there : Alike (map fired_in (xs ++ left)) st.standing

  -- one more is undone
  next_split : (done xs left : List Stander) (x : Stander) (st : State) (rest : List Standing)
      → AreSplit done (x ∷ xs) left st → Alike (map fired_in (xs ++ left)) rest
      → AreSplit (x ∷ done) xs left (record { standing = rest; lines = st.lines + 1 })
  next_split done xs left x st rest h there = record {
    parts = h.parts ∙ ap (λ zs. zs ++ done) (reverse_more x xs) ∙ append_assoc (reverse xs) (x ∷ []) done;
    all = alike_then h.all (alike_past done (x ∷ []) (xs ++ left));
    there = there;
  }

  -- nothing that stands still depends on the next one
  none_on : (done xs left : List Stander) (x : Stander) (st : State) → AreSplit done (x ∷ xs) left st → (f : Event)
      → IsDependent v.start (events st) x.event f → ⊥
  none_on done xs left x st h f d =
      let found = map_cases (λ (y : Stander). y.event) (x ∷ xs ++ left) (alike-in (alike_back stands) d.0) in
      let stood : IsIn found.0 v.events = alike-in (alike_back h.all) (in_behind done found.1) in
      let cause = cause_included v.start among (subst (λ e. IsDependent v.start (events st) x.event e) (sym found.2) d).1 in
      let gone : IsIn found.0 done = free.behind (reverse xs) done x found.0 parts stood cause in
      apart v own done (x ∷ xs ++ left) h.all found.0 gone found.1
    where
      stands : Alike (events_of (x ∷ xs ++ left)) (events st)
      stands = subst (λ es. Alike es (events st)) (fired_events (x ∷ xs ++ left)) (alike-map (λ (y : Standing). y.event) h.there)

      among : Includes (standing (set_of v)) (events st)
      among = record {
        others = events_of done;
        alike = alike_then (alike_more (events_of done) (alike_back stands))
            (subst (λ es. Alike es (standing (set_of v))) (map-append (λ (y : Stander). y.event) done (x ∷ xs ++ left)) (alike-map (λ (y : Stander). y.event) (alike_back h.all)));
      }

      parts : order ≡ reverse xs ++ x ∷ done
      parts = h.parts ∙ ap (λ zs. zs ++ done) (reverse_more x xs) ∙ append_assoc (reverse xs) (x ∷ []) done

  -- so they are undone one by one
  pub record EndsSo (ls : List Line) (xs left : List Stander) (st : State) : Type 0 where
    pub next : State
    pub did : AreUndoneInTurn v.start st (map fired_in xs) next
    pub history : IsHistory v.start (ls ++ map undoing xs) next
    pub there : Alike (map fired_in left) next.standing

  undone_all : (ls : List Line) (done xs left : List Stander) (st : State) → IsHistory v.start ls st
      → AreSplit done xs left st → st.lines + length xs ≤ MAX_LINES → EndsSo ls xs left st
  undone_all ls done [] left st history h few = record { next = st; did = none; history = subst (λ ks. IsHistory v.start ks st) (sym (append-nil ls)) history; there = h.there }
  undone_all ls done (x ∷ xs) left st history h few =
      let picked = alike_pick h.there here in
      let answers : MachineStep v.start st (Undo x.id.line) Undone (record { standing = picked.0; lines = st.lines + 1 }) = undone picked.1 refl (none_on done xs left x st h) in
      let further = undone_all (ls ++ undoing x ∷ []) (x ∷ done) xs left (record { standing = picked.0; lines = st.lines + 1 }) (goes_on history answers) (next_split done xs left x st picked.0 h picked.2) (omega (arith, few)) in
      record {
        next = further.next;
        did = more (alike-in h.there (in_first (fired_in x) (map fired_in (xs ++ left)))) (omega (arith, few)) answers further.did;
        history = subst (λ ks. IsHistory v.start ks further.next) (append_assoc ls (undoing x ∷ []) (map undoing xs)) further.history;
        there = further.there;
      }

  -- from the last one of the order on
  pub undone_in_turn : (ls : List Line) (xs left : List Stander) (st : State) → order ≡ reverse xs
      → Alike v.events (xs ++ left) → IsHistory v.start ls st → Alike (map fired_in v.events) st.standing
      → st.lines + length xs ≤ MAX_LINES → EndsSo ls xs left st
  undone_in_turn ls xs left st parts all history there few = undone_all ls [] xs left st history (record {
    parts = parts ∙ sym (append-nil (reverse xs));
    all = all;
    there = alike_then (alike-map fired_in (alike_back all)) there;
  }) few
