-- Events that rest on a line, through their direct causes.
use Rattle.std.proofs.Common.{◌≡◌, ◌≢◌, ℕ, List, [], inl, inr, refl, sym, subst}
use Rattle.std.specs.List.Sorted.{IsStrictlySortedBy}
use Rattle.ic_name.specs.declared.ids.EventId.{EventId}
use Rattle.ic_path.specs.Orders.{IsIn}
use Rattle.ic_path.specs.Rings.{HasEachOnce}
use Rattle.ic_path.proofs.OnceLists.{each_once_so}
use Rattle.ic_path.proofs.Picks.{none_in, in_others}
use Rattle.ic_roster.specs.Rosters.{Stander, HaveOwnLines}
use Rattle.ic_set.specs.Orders.{AreInOrder}
use Rattle.ic_set.specs.Sets.{IsStandingSet}
use Rattle.ic_set.proofs.Namings.{same_stander}
use Rattle.ic_journal.specs.Views.{BenchView, set_of}
use Rattle.ic_undo.specs.Resting.{IsRestingId}
use Rattle.ic_undo.specs.Undone.{RestsOn, itself, through}

-- events that were fired in one line are one
pub same_line : (ss : List Stander) (x y : Stander) → HaveOwnLines ss → IsIn x ss → IsIn y ss → x.id.line ≡ y.id.line → x ≡ y
same_line ss x y own i j e = elim (in_others i.1 j) [ inl s ↦ sym s | inr r ↦ absurd (own.lines x y i.0 i.1 r (sym e)) ]

-- where no standing event was fired in the line, none rests on it
none_rests : {v : BenchView} {line : ℕ} {x : Stander} → ((y : Stander) → IsIn y v.events → y.id.line ≢ line) → IsIn x v.events → RestsOn v line x → ⊥
none_rests none i (itself e) = none _ i e
none_rests none i (through j r c) = none_rests none j r

-- so no ids are those of events that do
pub no_ids_in_order : (v : BenchView) (line : ℕ) → ((y : Stander) → IsIn y v.events → y.id.line ≢ line) → AreInOrder (set_of v) (RestsOn v line) []
unfolding IsStrictlySortedBy
no_ids_in_order v line none = record {
  order = [];
  each = record {
    each = λ x i. absurd (none_rests none i.0 i.1);
    only = λ x i. absurd (none_in i);
    once = λ x rest k i. none_in (rest, k);
  };
  canonical = λ rank r. tt;
  named = refl;
}

-- the ids of the events that rest on the line, in order
pub resting_in_order : (v : BenchView) (set : IsStandingSet (set_of v)) (line : ℕ) (ids : List EventId) → HasEachOnce (IsRestingId v line) ids
    → (ordered : List EventId) → AreInOrder (set_of v) (λ x. IsIn x.id ids) ordered → AreInOrder (set_of v) (RestsOn v line) ordered
resting_in_order v set line ids h ordered a = record { order = a.order; each = each_once_so to from a.each; canonical = a.canonical; named = a.named }
  where
    to : (x : Stander) → IsIn x v.events × IsIn x.id ids → IsIn x v.events × RestsOn v line x
    to x (i, j) = let y = h.only x.id j in (i, subst (RestsOn v line) (same_stander v.events y.0 x set.own_lines y.1 i (inl y.2)) y.3)

    from : (x : Stander) → IsIn x v.events × RestsOn v line x → IsIn x v.events × IsIn x.id ids
    from x (i, r) = (i, h.each x.id (x, i, refl, r))
