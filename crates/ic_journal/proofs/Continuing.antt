-- Histories that go on, put together.
use Rattle.std.proofs.Common.{◌≡◌, ℕ, ◌+◌, List, [], ◌∷◌, ◌++◌, inl, inr, refl, sym, ◌∙◌, ap, arith, append-nil, append_assoc}
use Rattle.ic_name.specs.Events.{Event}
use Rattle.ic_name.specs.declared.lines.Call.TheVariants.{Fire}
use Rattle.ic_name.specs.declared.lines.Line.{Line}
use Rattle.ic_name.specs.declared.lines.Reply.{Reply}
use Rattle.ic_path.specs.Orders.{Pick, IsIn, here, there}
use Rattle.ic_path.proofs.InLists.{in-append_cases}
use Rattle.ic_journal.specs.Views.{BenchView}
use Rattle.ic_journal.specs.Calls.{Steps}
use Rattle.ic_journal.specs.Continuing.{IsFire, fired_by, fired_lines, Continues}

-- nothing is picked from no lines
no_pick : {x : Line} {rest : List Line} → Pick x [] rest → ⊥
no_pick p = elim p [ ]

-- of lines in two parts as many say Fired as of both parts
fired_lines-append : (xs ys : List Line) → fired_lines (xs ++ ys) ≡ fired_lines xs + fired_lines ys
fired_lines-append [] ys = omega arith
fired_lines-append (x ∷ xs) ys = let rest = fired_lines-append xs ys in omega arith

-- a history that is the same
pub still_continues : (old new : BenchView) → new.lines ≡ old.lines → Continues old 0 new
still_continues old new same = record { added = []; lines = same ∙ sym (append-nil old.lines); fires = λ l i. absurd (no_pick i.1); count = refl }

-- one line
one_line : (e : Event) (r : Reply) (l : Line) → IsIn l (record { call = Fire e; reply = r } ∷ []) → IsFire l.call
one_line e r l (rest, here) = tt
one_line e r l (rest, there p) = absurd (no_pick p)

-- a call to fire an event
pub step_continues : (old new : BenchView) (e : Event) (r : Reply) → Steps old (Fire e) r new → Continues old (fired_by r) new
step_continues old new e r steps = record { added = record { call = Fire e; reply = r } ∷ []; lines = steps.lines; fires = one_line e r; count = omega arith }

-- one after the other
pub then_continues : (old mid new : BenchView) (n m : ℕ) → Continues old n mid → Continues mid m new → Continues old (n + m) new
then_continues old mid new n m h k = record {
  added = h.added ++ k.added;
  lines = k.lines ∙ ap (λ (xs : List Line). xs ++ k.added) h.lines ∙ append_assoc old.lines h.added k.added;
  fires = λ l i. elim (in-append_cases h.added i) [ inl j ↦ h.fires l j | inr j ↦ k.fires l j ];
  count = (let parts = fired_lines-append h.added k.added in let a = h.count in let b = k.count in omega arith);
}
