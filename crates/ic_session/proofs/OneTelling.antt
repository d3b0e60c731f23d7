-- What is told of a set of events is determined, in whatever order the set is listed.
use Rattle.std.proofs.Common.{◌≡◌, ℕ, List, reverse, sym, ◌∙◌}
use Rattle.std.proofs.lemmas.Cmp.{on_total}
use Rattle.ic_name.specs.Names.{name_cmp}
use Rattle.ic_name.specs.Events.{Event}
use Rattle.ic_name.proofs.NameOrder.{name_cmp_total}
use Rattle.ic_path.specs.Orders.{Alike}
use Rattle.ic_path.proofs.Alikes.{alike_back, alike-in}
use Rattle.ic_theory.specs.Starts.{Start, IsProper}
use Rattle.ic_theory.specs.Nets.{net_of, IsSameNet}
use Rattle.ic_theory.specs.Listed.{ListedNet, IsListing, shown}
use Rattle.ic_theory.specs.Sound.{IsSound}
use Rattle.ic_theory.proofs.AnyOrder.{net-alike}
use Rattle.ic_theory.proofs.Normal.{active-alike}
use Rattle.ic_text.proofs.OneListing.{one_listing}
use Rattle.ic_path.proofs.StrictOrders.{sorted_same}
use Rattle.ic_cause.proofs.OneJournal.{canonical_same}
use Rattle.ic_answer.specs.Standing.{AreActive, HasRank, AreCauses}
use Rattle.ic_answer.specs.Unwinding.{RestsOn, itself, through, AreLastFirst}
use Rattle.ic_session.proofs.SortedLists.{sorted_by, each_same, alike-reversed, reversed_same}
use Rattle.ic_theory.proofs.Restored.{rank-alike}
use Rattle.ic_theory.proofs.SameStates.{cause-alike}

module _ (s : Start) {es fs : List Event} (a : Alike es fs) where
  -- an event that rests on another one does so still
  pub rests-alike : {e f : Event} → RestsOn s es e f → RestsOn s fs e f
  rests-alike itself = itself
  rests-alike (through i r k) = through (alike-in a i) (rests-alike r) (cause-alike s a k)

module _ (s : Start) {es fs : List Event} (a : Alike es fs) (sound : IsSound s es) where
  -- one listing of the net
  pub one_listed : IsProper s → (l m : ListedNet) → IsListing l → IsListing m → IsSameNet (shown l) (net_of s es) → IsSameNet (shown m) (net_of s fs) → l ≡ m
  one_listed ok l m b c e f =
      let n = net-alike s ok sound a in
      one_listing l m b c (record {
        kinds = λ x. e.kinds x ∙ n.kinds x ∙ sym (f.kinds x);
        partners = λ p. e.partners p ∙ n.partners p ∙ sym (f.partners p);
        rings = e.rings ∙ n.rings ∙ sym f.rings;
        profile = e.profile ∙ n.profile ∙ sym f.profile;
      })

  -- one list of active pairs
  pub one_active : (xs ys : List Event) → AreActive s es xs → AreActive s fs ys → xs ≡ ys
  one_active xs ys h k =
      sorted_same (on_total (λ (e : Event). e.lead) name_cmp_total) xs ys
      (each_same xs ys (λ e i. active-alike s a i) (λ e i. active-alike s (alike_back a) i) h.each k.each)
      (sorted_by (λ (e : Event). e.lead) name_cmp xs h.by_lead)
      (sorted_by (λ (e : Event). e.lead) name_cmp ys k.by_lead)

  -- one rank of an event
  pub one_rank : (e : Event) (m n : ℕ) → HasRank s es e m → HasRank s fs e n → m ≡ n
  one_rank e m n h k = h sound.rank sound.ranked ∙ sym (k sound.rank (rank-alike s sound.rank a sound.ranked))

  -- one list of causes of an event
  pub one_causes : (e : Event) (xs ys : List Event) → AreCauses s es e xs → AreCauses s fs e ys → xs ≡ ys
  one_causes e xs ys h k = canonical_same s a sound xs ys (each_same xs ys (λ c i. cause-alike s a i) (λ c i. cause-alike s (alike_back a) i) h.each k.each) h.canonical k.canonical

  -- one list, the last first, of the events with a property that is the same for both
  pub one_last_first : {P Q : Event → Type 0} (xs ys : List Event) → ((e : Event) → P e → Q e) → ((e : Event) → Q e → P e)
      → AreLastFirst s es P xs → AreLastFirst s fs Q ys → xs ≡ ys
  one_last_first xs ys to from h k =
      reversed_same xs ys (canonical_same s a sound (reverse xs) (reverse ys)
      (alike-reversed xs ys (each_same xs ys (λ e i. (alike-in a i.0, to e i.1)) (λ e i. (alike-in (alike_back a) i.0, from e i.1)) h.each k.each))
      h.backwards k.backwards)
