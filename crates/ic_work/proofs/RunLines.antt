-- Lines that the passes settle with: where all were added by runs of firings, they are calls to fire events.
use Rattle.std.proofs.Common.{◌≡◌, ℕ, zero, suc, ◌+◌, ◌<◌, Bool, true, false, if◌then◌else◌, List, [], ◌∷◌, length, map, Option, None, Some, cond, nat_lt, sym, ap, subst, arith, get_or, eq-eqb, refl}
use Rattle.std.specs.Prelude.{All, slice_get, slice_index, nat_eq}
use Rattle.std.proofs.lemmas.List.Elements.{All-head, All-tail, All-nil, All-cons}
use Rattle.ic_name.specs.Names.{Name}
use Rattle.ic_name.specs.declared.lines.Line.{Line}
use Rattle.ic_path.specs.Orders.{Pick, here, there, IsIn}
use Rattle.ic_journal.specs.Continuing.{IsFire}
use Rattle.ic_journal.specs.Interaction.{Interaction}
use Rattle.ic_journal.specs.PairNote.{PairNote}
use Rattle.ic_journal.specs.Limit.{Limit}
use Rattle.ic_journal.specs.Kept.{event_kept}
use Rattle.ic_journal.specs.Noted.{line_in}
use Rattle.ic_journal.specs.Notes.{firing_of, line_read}
use Rattle.ic_shared.specs.declared.receipts.RunReceipt.{RunReceipt}
use Rattle.ic_shared.specs.Passes.{PassView, Told, told_by, told_in, columns}
use Rattle.ic_shared.specs.Settles.{owned, AreFor, Settles}
use Rattle.ic_work.specs.Workers.{AreFires}

-- the call of a line that has a number
abbrev fires : ℕ × Line → Type 0
fires l = IsFire l.1.call

-- the firing of an active pair is a call to fire its event
firing_fires : (ns : List Name) (limit : Option Limit) (i : Interaction) (lead other : Bool) (line : Line)
    → if lead then (if other then Some (line_in ns (firing_of limit i)) else None) else None ≡ Some line → IsFire line.call
firing_fires ns None i true true line read = let same : line_in ns (firing_of None i) ≡ line = cc in subst (λ (l : Line). IsFire l.call) same tt
firing_fires ns (Some limit) i true true line read = let same : line_in ns (firing_of (Some limit) i) ≡ line = cc in subst (λ (l : Line). IsFire l.call) same tt
firing_fires ns limit i true false line read = absurd (cc (read))
firing_fires ns limit i false other line read = absurd (cc (read))

-- so is the line that a note tells
note_fires : (ns : List Name) (note : PairNote) (line : Line) → line_read ns note ≡ Some line → IsFire line.call
note_fires ns note line read = firing_fires ns note.limit (event_kept note.kinds note.places) (nat_lt note.places.lead.place (length ns)) (nat_lt note.places.other.place (length ns)) line read

module _ (ns : List Name) where
  -- what is told is told by receipts of runs
  abbrev AreRan : List Told → Type 0
  AreRan xs = (rs : List RunReceipt) × (xs ≡ map (told_in ns) rs)

  -- both columns of a pass that only runs added to
  columns_ran : (passes : List PassView) → All AreFires passes → All AreRan (columns ns passes)
  columns_ran [] all = All-nil AreRan
  columns_ran (pass ∷ passes) all =
      All-cons AreRan (map told_by pass.receipts) (map (told_in ns) pass.ran ∷ columns ns passes) ([], ap (map told_by) (All-head AreFires pass passes all))
      (All-cons AreRan (map (told_in ns) pass.ran) (columns ns passes) (pass.ran, refl) (columns_ran passes (All-tail AreFires pass passes all)))

  -- the lines that receipts of runs are for are firings
  for_ran : (ls : List (ℕ × Line)) (rs : List RunReceipt) → AreFor ls (map (told_in ns) rs) → All fires ls
  for_ran [] [] h = All-nil fires
  for_ran [] (r ∷ rs) h = absurd h
  for_ran (l ∷ ls) [] h = absurd h
  for_ran (l ∷ ls) (r ∷ rs) h = All-cons fires l ls (note_fires ns r.note l.1 (ap (λ (z : Told). z.line) h.0)) (for_ran ls rs h.1)

-- of the owned lines the first one is the owner's
first_fires : (b o : ℕ) (l : Line) (os : List ℕ) (ls : List Line) → All fires (owned o b (o ∷ os) (l ∷ ls)) → IsFire l.call
first_fires b o l os ls h =
    let e : nat_eq o o ≡ true = eq-eqb o o refl in
    All-head fires (b, l) (owned o (b + 1) os ls)
    (subst (λ (v : Bool). All fires (cond v ((b, l) ∷ owned o (b + 1) os ls) (owned o (b + 1) os ls))) e h)

-- the others are those behind
others_fire : (p b o : ℕ) (l : Line) (os : List ℕ) (ls : List Line) → All fires (owned p b (o ∷ os) (l ∷ ls)) → All fires (owned p (b + 1) os ls)
others_fire p b o l os ls h = by (nat_eq o p) h
  where
    by : (v : Bool) → All fires (cond v ((b, l) ∷ owned p (b + 1) os ls) (owned p (b + 1) os ls)) → All fires (owned p (b + 1) os ls)
    by true i = All-tail fires (b, l) (owned p (b + 1) os ls) i
    by false i = i

-- each line has an owner, whose lines are calls to fire events
owned_fire : (n b : ℕ) (os : List ℕ) (ls : List Line) {l : Line} {rest : List Line} → length os ≡ length ls → ((k : ℕ) → k < length os → slice_index os k < n)
    → ((p : ℕ) → p < n → All fires (owned p b os ls)) → Pick l ls rest → IsFire l.call
owned_fire n b [] [] e within own k = elim k [ ]
owned_fire n b [] (l ∷ ls) e within own k = absurd (omega arith)
owned_fire n b (o ∷ os) [] e within own k = elim k [ ]
owned_fire n b (o ∷ os) (l ∷ ls) e within own here = first_fires b o l os ls (own o (within 0 (omega arith)))
owned_fire n b (o ∷ os) (l ∷ ls) e within own (there k) =
    owned_fire n (b + 1) os ls (omega arith) (λ j h. within (suc j) (omega arith)) (λ p h. others_fire p b o l os ls (own p h)) k

-- an item is at each place
item_at : {A : Type 0} (xs : List A) (i : ℕ) (d : A) → i < length xs → slice_get xs i ≡ Some (get_or xs i d)
item_at [] i d h = absurd (omega arith)
item_at (x ∷ xs) zero d h = refl
item_at (x ∷ xs) (suc i) d h = item_at xs i d (omega arith)

-- the lines are calls to fire events
pub lines_fire : (ns : List Name) (base : ℕ) (added : List Line) (passes : List PassView) → Settles base added (columns ns passes) → All AreFires passes → (l : Line) → IsIn l added → IsFire l.call
lines_fire ns base added passes h all l i = owned_fire (length (columns ns passes)) base h.0 added h.1 h.3 own i.1
  where
    own : (p : ℕ) → p < length (columns ns passes) → All fires (owned p base h.0 added)
    own p lt =
        let xs = get_or (columns ns passes) p [] in
        let ran = columns_ran ns passes all p [] lt in
        for_ran ns (owned p base h.0 added) ran.0 (subst (AreFor (owned p base h.0 added)) ran.1 (h.2 p xs (item_at (columns ns passes) p [] lt)))
