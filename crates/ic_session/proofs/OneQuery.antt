-- Commands that change nothing have one answer.
use Rattle.std.proofs.Common.{◌≡◌, ℕ, List, refl, sym, ap, subst, ◌∙◌}
use Rattle.ic_name.specs.Events.{Event, Pair}
use Rattle.ic_path.proofs.Alikes.{alike-in}
use Rattle.ic_theory.specs.Starts.{Start, IsProper}
use Rattle.ic_theory.specs.Nets.{net_of, IsSameNet}
use Rattle.ic_theory.specs.Listed.{ListedNet, IsListing, shown}
use Rattle.ic_theory.specs.Machine.{Standing, State, events}
use Rattle.ic_text.specs.NetText.{net_text}
use Rattle.ic_cause.specs.Journals.{Ranked, IsJournal, journal_text}
use Rattle.ic_cause.proofs.OneJournal.{one_journal}
use Rattle.ic_answer.specs.CommandReplies.{IsNamed}
use Rattle.ic_answer.specs.Standing.{AreActive, HasRank, AreCauses}
use Rattle.ic_session.specs.States.{IsReached}
use Rattle.ic_theory.specs.Machine.{AreSame}
use Rattle.ic_answer.specs.Texts.{active_text, why_text}
use Rattle.ic_session.proofs.OneEvent.{standing_once}
use Rattle.ic_session.proofs.OneTelling.{one_listed, one_active, one_rank, one_causes}
use Rattle.ic_session.proofs.SameStates.{reached_kept}
use Rattle.ic_session.proofs.Saying.{WhySays, no_event, why}
use Rattle.ic_theory.proofs.SameStates.{same_back, same_events}

-- two states that are the same, left as they are
pub left_same : {st tt next after : State} → AreSame st tt → next ≡ st → after ≡ tt → AreSame next after
left_same {st} {tt} {next} {after} same e f = subst (λ z. AreSame z after) (sym e) (subst (λ z. AreSame st z) (sym f) same)

-- equal texts under two names
pub one_word : {x y v w : List ℕ} → x ≡ v → y ≡ w → v ≡ w → x ≡ y
one_word e f same = e ∙ same ∙ sym f

-- where an event of the name stands here, one stands there
pub named_too : {st tt : State} {p : Pair} {x : Standing} → AreSame st tt → IsNamed st p x → IsNamed tt p x
named_too same h = record { stands = alike-in same.standing h.stands; name = h.name }

module _ (s : Start) (ok : IsProper s) {st tt : State} (h : IsReached s st) (k : IsReached s tt) (same : AreSame st tt) where
  -- one event of the name stands
  pub named_once : {p : Pair} (x y : Standing) → IsNamed st p x → IsNamed tt p y → x ≡ y
  named_once x y i j = standing_once (reached_kept s ok h) same i.stands j.stands (ap (λ (q : Pair). q.lead) (i.name ∙ sym j.name))

  -- the printed net
  pub one_net : (l m : ListedNet) → IsListing l → IsListing m → IsSameNet (shown l) (net_of s (events st)) → IsSameNet (shown m) (net_of s (events tt)) → net_text s.names l ≡ net_text s.names m
  one_net l m a b e f = ap (net_text s.names) (one_listed s (same_events same) (reached_kept s ok h).sound ok l m a b e f)

  -- the active pairs
  pub one_active_text : (es fs : List Event) → AreActive s (events st) es → AreActive s (events tt) fs → active_text es ≡ active_text fs
  one_active_text es fs a b = ap active_text (one_active s (same_events same) (reached_kept s ok h).sound es fs a b)

  -- the journal
  pub one_journal_text : (xs ys : List Ranked) → IsJournal s (events st) xs → IsJournal s (events tt) ys → journal_text xs ≡ journal_text ys
  one_journal_text xs ys a b = ap journal_text (one_journal s (same_events same) (reached_kept s ok h).sound xs ys a b)

  -- the rank and the causes of an event
  pub one_why : {p : Pair} {x y : List ℕ} → WhySays s st p x → WhySays s tt p y → x ≡ y
  one_why (no_event n e) (no_event m f) = one_word e f refl
  one_why (no_event n e) (why {y = z} i r c f) = absurd (n z (named_too (same_back same) i))
  one_why (why {y = z} i r c e) (no_event n f) = absurd (n z (named_too same i))
  one_why {p} (why {y = z} {r = m} {cs = cs} i r c e) (why {y = w} {r = n} {cs = ds} j q d f) =
      let one : w ≡ z = sym (named_once z w i j) in
      let sound = (reached_kept s ok h).sound in
      let rank = one_rank s (same_events same) sound z.event m n r (subst (λ (v : Standing). HasRank s (events tt) v.event n) one q) in
      let causes = one_causes s (same_events same) sound z.event cs ds c (subst (λ (v : Standing). AreCauses s (events tt) v.event ds) one d) in
      one_word e f (ap (λ number. why_text p number cs) rank ∙ ap (why_text p n) causes)
