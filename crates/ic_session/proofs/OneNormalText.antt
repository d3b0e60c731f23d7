-- Reductions that end since no pair is active have one text, and leave one net and one journal, whoever made them.
use Rattle.std.proofs.Common.{◌≡◌, ℕ, ◌+◌, List, [], ◌∷◌, ◌++◌, length, length-append, reverse, refl, sym, ap, arith, ◌∙◌}
use Rattle.std.proofs.lemmas.List.{reverse-append}
use Rattle.std.specs.Prelude.{codes}
use Rattle.std.specs.Fmt.{decimal}
use Rattle.ic_name.specs.declared.lines.Line.{Line}
use Rattle.ic_path.specs.Orders.{Alike}
use Rattle.ic_path.proofs.Alikes.{alike-length}
use Rattle.ic_theory.specs.Starts.{Start, IsProper}
use Rattle.ic_theory.specs.Machine.{events}
use Rattle.ic_theory.specs.Machine as machine
use Rattle.ic_theory.proofs.NormalEnds.{normal_one}
use Rattle.ic_text.specs.NetText.{net_text}
use Rattle.ic_cause.specs.Journals.{journal_text}
use Rattle.ic_cause.proofs.OneJournal.{one_journal}
use Rattle.ic_journal.specs.declared.reducing.end.End.{End}
use Rattle.ic_journal.specs.declared.reducing.end.End.TheVariants.{Normal, Budget, Limit, Memory}
use Rattle.ic_journal.specs.Reducing.{IsNormal}
use Rattle.ic_work.specs.Firings.{AreFirings, none, fired, refused}
use Rattle.ic_work.specs.Sweeps.{IsSwept}
use Rattle.ic_work.proofs.FiringRuns.{Adds, firings_add, turns_add}
use Rattle.ic_command.specs.declared.command.Command.TheVariants.{Net, Journal, Reduce}
use Rattle.ic_command.specs.declared.request.Request.TheVariants.{Bench}
use Rattle.ic_answer.specs.Ends.{end_text}
use Rattle.ic_answer.specs.Texts.{reduced_text, wanting_after}
use Rattle.ic_answer.specs.CommandReplies.{RepliesToCommand}
use Rattle.ic_answer.specs.CommandReplies as told
use Rattle.ic_desk.specs.Desks.{State}
use Rattle.ic_desk.specs.ManyWorkers.{RepliesWith, as_one, swept}
use Rattle.ic_desk.specs.Replies.{of_bench}
use Rattle.ic_session.specs.Reductions.{EndsNormally}
use Rattle.ic_session.specs.States.{IsReached}
use Rattle.ic_session.specs.Wants.{Wants}
use Rattle.ic_session.proofs.FiredRuns.{reached_fired}
use Rattle.ic_session.proofs.OneQuery.{one_word}
use Rattle.ic_session.proofs.OneStep.{reached_next}
use Rattle.ic_session.proofs.OneTelling.{one_listed}
use Rattle.ic_session.proofs.SameStates.{reached_kept}
use Rattle.ic_session.proofs.Saying.{says}

-- the second byte of a text, and the third
abbrev second : List ℕ → ℕ
second [] = 0
second (a ∷ []) = 0
second (a ∷ b ∷ xs) = b

abbrev third : List ℕ → ℕ
third [] = 0
third (a ∷ xs) = second xs

-- the text of a reduction, read from its end
from_end : (n : ℕ) (end : List ℕ) → reverse (reduced_text n end) ≡ codes "\n" ++ (reverse end ++ reverse (codes "reduced " ++ decimal n ++ codes " "))
from_end n end =
    let front = codes "reduced " ++ decimal n ++ codes " " in
    reverse-append (front ++ end) (codes "\n") ∙ ap (λ xs. codes "\n" ++ xs) (reverse-append front end)

-- so the words of two ends begin with the same byte from the end
same_ends : (m n : ℕ) (xs ys : List ℕ) → reduced_text m xs ≡ reduced_text n ys
    → second (codes "\n" ++ (reverse xs ++ reverse (codes "reduced " ++ decimal m ++ codes " "))) ≡ second (codes "\n" ++ (reverse ys ++ reverse (codes "reduced " ++ decimal n ++ codes " ")))
same_ends m n xs ys e = ap second (sym (from_end m xs) ∙ ap reverse e ∙ from_end n ys)

never_budget : (m n : ℕ) → reduced_text m (codes "budget") ≡ reduced_text n (codes "normal") → ⊥
never_budget m n e = let bytes : ◌≡◌ {A = ℕ} 116 108 = same_ends m n (codes "budget") (codes "normal") e in absurd (omega (arith, bytes))

never_limit : (m n : ℕ) → reduced_text m (codes "limit") ≡ reduced_text n (codes "normal") → ⊥
never_limit m n e = let bytes : ◌≡◌ {A = ℕ} 116 108 = same_ends m n (codes "limit") (codes "normal") e in absurd (omega (arith, bytes))

never_wanting : (m n : ℕ) → wanting_after m ≡ reduced_text n (codes "normal") → ⊥
never_wanting m n e = let bytes : ◌≡◌ {A = ℕ} 102 100 = ap third e in absurd (omega (arith, bytes))

-- so many events more stand
counted : {n : ℕ} {st next : machine.State} → Adds n st next → length (events next) ≡ length (events st) + n
counted {st = st} k =
    let a = alike-length k.events in
    let b = length-append k.fresh (events st) in
    let c = k.count in
    omega (arith, a, b, c)

-- a reduction that ended so: what it says, what it fired, and what it leaves
record Ended (s : Start) (st : machine.State) (x : List ℕ) (next : machine.State) : Type 0 where
  fired : ℕ
  count : length (events next) ≡ length (events st) + fired
  reached : IsReached s st → IsReached s next
  normal : IsNormal s (events next)
  told : x ≡ reduced_text fired (codes "normal")

module _ (s : Start) where
  -- firings lead on to a state within the limit
  reached_firings : {lines : List Line} {n : ℕ} {st next : machine.State} → IsReached s st → AreFirings s lines n st next → IsReached s next
  reached_firings r none = r
  reached_firings r (fired few a h) = reached_firings (reached_next s r few a) h
  reached_firings r (refused few n a h) = reached_firings (reached_next s r few a) h

  -- one worker
  by_one : {most : ℕ} {st next : machine.State} {x : List ℕ} (n : ℕ) → RepliesToCommand s st (Reduce most) x next → x ≡ reduced_text n (codes "normal") → Ended s st x next
  by_one n (told.reduced_normal {n = m} f l g) e = record { fired = m; count = counted (turns_add f); reached = λ r. reached_fired s r f; normal = g; told = refl }
  by_one {most = most} n (told.reduced_budget f a) e = absurd (never_budget most n e)
  by_one n (told.reduced_limit {n = m} f l a) e = absurd (never_limit m n e)
  by_one n (told.reduced_memory {n = m} f l) e = absurd (never_wanting m n e)
  by_one n told.reduce_memory e = absurd (never_wanting 0 n e)
  by_one n (told.memory w) e = absurd w

  -- a sweep
  by_sweep : {most m : ℕ} {st next : machine.State} (end : End) (n : ℕ) → IsSwept s st most m end next → end_text m end ≡ reduced_text n (codes "normal") → Ended s st (end_text m end) next
  by_sweep {m = m} Normal n h e = record {
    fired = m;
    count = (
        let a = counted (firings_add h.firings) in
        let b = counted (turns_add h.rest.0) in
        let c = h.together in
        omega (arith, a, b, c)
        );
    reached = λ r. reached_fired s (reached_firings r h.firings) h.rest.0;
    normal = h.rest.2;
    told = refl;
  }
  by_sweep {m = m} Budget n h e = absurd (never_budget m n e)
  by_sweep {m = m} Limit n h e = absurd (never_limit m n e)
  by_sweep {m = m} Memory n h e = absurd (never_wanting m n e)

  -- any number of workers
  by_workers : {workers most : ℕ} {st next : State} {x : List ℕ} (n : ℕ) → RepliesWith workers s st (Bench (Reduce most)) x next → x ≡ reduced_text n (codes "normal")
      → Ended s st.bench x next.bench
  by_workers n (as_one (of_bench a)) e = by_one n a e
  by_workers n (swept {end = end} many h) e = by_sweep end n h e

  ended : {workers most : ℕ} {st next : State} {x : List ℕ} → EndsNormally s workers most st x next → Ended s st.bench x next.bench
  ended h = by_workers h.fired h.reply h.normal

-- the same events stand in the end
one_set : (s : Start) → IsProper s → {st tt next after : machine.State} {x y : List ℕ} → IsReached s st → IsReached s tt
    → Ended s st x next → Ended s tt y after → Alike (events next) (events after)
one_set s ok h k a b = normal_one s ok (reached_kept s ok (a.reached h)).sound (reached_kept s ok (b.reached k)).sound a.normal b.normal

-- where the same events stood before, the text is one
pub one_text : (s : Start) (st tt next after : State) (workers others most many : ℕ) (x y : List ℕ) → IsProper s → IsReached s st.bench → IsReached s tt.bench
    → Alike (events st.bench) (events tt.bench) → EndsNormally s workers most st x next → EndsNormally s others many tt y after → x ≡ y
one_text s st tt next after workers others most many x y ok h k same p q =
    let a = ended s p in
    let b = ended s q in
    let before = alike-length same in
    let behind = alike-length (one_set s ok h k a b) in
    let m = a.count in
    let n = b.count in
    let one : a.fired ≡ b.fired = omega (arith, before, behind, m, n) in
    one_word a.told b.told (ap (λ i. reduced_text i (codes "normal")) one)

-- the net that is told of after it is one
pub one_net : (s : Start) (st tt next after : State) (workers others most many : ℕ) (x y : List ℕ) → IsProper s → IsReached s st.bench → IsReached s tt.bench
    → EndsNormally s workers most st x next → EndsNormally s others many tt y after → (m n : machine.State) (a b : List ℕ)
    → RepliesToCommand s next.bench Net a m → RepliesToCommand s after.bench Net b n → ¬ (Wants a) → ¬ (Wants b) → a ≡ b
one_net s st tt next after workers others most many x y ok h k p q m n a b asked again w v =
    let c = ended s p in
    let d = ended s q in
    let one = one_set s ok h k c d in
    let i = says asked w in
    let j = says again v in
    one_word i.3 j.3 (ap (net_text s.names) (one_listed s one (reached_kept s ok (c.reached h)).sound ok i.0 j.0 i.1 j.1 i.2 j.2))

-- so is the journal
pub one_journal_text : (s : Start) (st tt next after : State) (workers others most many : ℕ) (x y : List ℕ) → IsProper s → IsReached s st.bench → IsReached s tt.bench
    → EndsNormally s workers most st x next → EndsNormally s others many tt y after → (m n : machine.State) (a b : List ℕ)
    → RepliesToCommand s next.bench Journal a m → RepliesToCommand s after.bench Journal b n → ¬ (Wants a) → ¬ (Wants b) → a ≡ b
one_journal_text s st tt next after workers others most many x y ok h k p q m n a b asked again w v =
    let c = ended s p in
    let d = ended s q in
    let one = one_set s ok h k c d in
    let i = says asked w in
    let j = says again v in
    one_word i.2 j.2 (ap journal_text (one_journal s one (reached_kept s ok (c.reached h)).sound i.0 j.0 i.1 j.1))
