-- Places of events by their leads.
use Rattle.std.proofs.Common.{◌≡◌, ◌≢◌, ◌↔◌, ◌==◌, ℕ, zero, suc, Bool, true, false, IsTrue, List, [], ◌∷◌, ◌++◌, Option, Some, None, IfSome, length, slice_get, inl, inr, refl, sym, ap, subst, eq-eqb, ◌∙◌}
use Rattle.std.specs.Option.{is_some}
use Rattle.std.specs.Prelude.{IfNone, if◌then◌else◌}
use Rattle.std.proofs.lemmas.Bool.{eqb-true}
use Rattle.std.proofs.lemmas.Option.{slice_get_within, get_or_from_slice_get}
use Rattle.ic_name.specs.Names.{Name}
use Rattle.ic_name.specs.Events.{Event}
use Rattle.ic_names.specs.Tables.{StandsAt, IsAbsent, IsTable, GrowsUpTo}
use Rattle.ic_names.proofs.Growing.{grown_keeps}
use Rattle.ic_slots.specs.Slots.{slot_of, Gives, Keeps}
use Rattle.ic_path.specs.Orders.{IsIn}
use Rattle.ic_path.proofs.Picks.{none_in, contains-in}
use Rattle.ic_journal.proofs.FiredLines.{first_behind}
use Rattle.ic_undo.specs.Marks.{ArePlaces}
use Rattle.ic_undo.proofs.Places.{parts}

-- what stands at a place is in the list
pub in_at : {X : Type 0} (xs : List X) (p : ℕ) (x : X) → slice_get xs p ≡ Some x → IsIn x xs
in_at xs p x h = contains-in x xs (p, slice_get_within xs p x h, get_or_from_slice_get xs p x x h)

-- what stands at a place stands there still where more comes behind
still_at : {X : Type 0} (xs ys : List X) (p : ℕ) (x : X) → slice_get xs p ≡ Some x → slice_get (xs ++ ys) p ≡ Some x
still_at [] ys p x h = cc
still_at (y ∷ xs) ys zero x h = h
still_at (y ∷ xs) ys (suc p) x h = still_at xs ys p x h

-- no events have no places
pub places_none : (leads : List Name) → ArePlaces [] leads []
places_none leads = record { each = λ e i. absurd (none_in i); only = λ k p h. cc }

-- one event more, whose lead is entered at a place and has that of the event there
pub places_more : (es : List Event) (e : Event) (old new : List Name) (n : Name) (k : ℕ) (at more : List (Option ℕ)) → n ≡ e.lead → ArePlaces es old at → GrowsUpTo old n new → StandsAt new n k → Gives k (Some (length es)) at more
    → ArePlaces (es ++ e ∷ []) new more
places_more es e old new n k at more is h grown stands put = record {
  each = λ f i. elim (parts es i) [
    | inl j ↦ (let p = h.each f j in kept f.lead p.0 p.1 (grown_keeps old new n f.lead p.0 grown p.2) p.3 (p.0 == k) refl)
    | inr r ↦ elim r [ inl q ↦ (k, length es, subst (λ m. StandsAt new m k) (is ∙ ap (λ (x : Event). x.lead) (sym q)) stands, here) | inr j ↦ absurd (none_in j) ]
  ];
  only = λ j p now. back j p (j == k) refl (sym (put j) ∙ now);
}
  where
    given : (j : ℕ) (b : Bool) → j == k ≡ b → slot_of more j ≡ (if b then Some (length es) else slot_of at j)
    given j b t = put j ∙ ap (λ c. if c then Some (length es) else slot_of at j) t

    here : slot_of more k ≡ Some (length es)
    here = given k true (eq-eqb k k refl)

    kept : (m : Name) (j p : ℕ) → StandsAt new m j → slot_of at j ≡ Some p → (b : Bool) → j == k ≡ b → (i : ℕ) × (q : ℕ) × StandsAt new m i × (slot_of more i ≡ Some q)
    kept m j p s o true t = (j, length es, s, given j true t)
    kept m j p s o false t = (j, p, s, given j false t ∙ o)

    back : (j p : ℕ) (b : Bool) → j == k ≡ b → (if b then Some (length es) else slot_of at j) ≡ Some p → (f : Event) × (slice_get (es ++ e ∷ []) p ≡ Some f) × StandsAt new f.lead j
    back j p true t s =
        let q : length es ≡ p = cc in
        (e, subst (λ i. slice_get (es ++ e ∷ []) i ≡ Some e) q (first_behind es e []), subst (λ m. StandsAt new m j) is (subst (λ i. StandsAt new n i) (sym (eqb-true j k t)) stands))
    back j p false t s = let f = h.only j p s in (f.0, still_at es (e ∷ []) p f.0 f.1, grown_keeps old new n f.0.lead j grown f.2)

-- room for more places leaves them as they are
pub places_kept : (es : List Event) (leads : List Name) (at more : List (Option ℕ)) → ArePlaces es leads at → Keeps at more → ArePlaces es leads more
places_kept es leads at more h same = record {
  each = λ e i. (let p = h.each e i in (p.0, p.1, p.2, same p.0 ∙ p.3));
  only = λ k p now. h.only k p (sym (same k) ∙ now);
}

module _ (es : List Event) (leads : List Name) (at : List (Option ℕ)) (h : ArePlaces es leads at) (n : Name) where
  -- no event has a lead that isn't in the table
  pub absent_lead : IsAbsent leads n → (e : Event) → IsIn e es → e.lead ≢ n
  absent_lead absent e i same = let p = h.each e i in absent p.0 p.2.within (p.2.named ∙ same)

  -- nor one under whose place no place is found
  pub none_led : IsTable leads → (k : ℕ) → StandsAt leads n k → (r : Option ℕ) → r ≡ slot_of at k → IfNone r ((e : Event) → IsIn e es → e.lead ≢ n)
  none_led table k stands (Some p) is = tt
  none_led table k stands None is = λ e i same.
      let p = h.each e i in
      let q : p.0 ≡ k = table.once p.0 k p.2.within stands.within (p.2.named ∙ same ∙ sym stands.named) in
      let there : slot_of at k ≡ Some p.1 = subst (λ j. slot_of at j ≡ Some p.1) q p.3 in
      absurd cc

-- whether one is found tells whether an event is in the list that is in it where one of its lead is
pub led_tells : (es : List Event) (x : Event) (n : Name) (r : Option ℕ) → n ≡ x.lead → ((e : Event) → IsIn e es → e.lead ≡ x.lead → IsIn x es)
    → IfSome r (λ p. (e : Event) × (slice_get es p ≡ Some e) × (e.lead ≡ n)) → IfNone r ((e : Event) → IsIn e es → e.lead ≢ n) → IsTrue (is_some r) ↔ IsIn x es
led_tells es x n None same inside found absent = (λ t. absurd cc, λ i. absurd (absent x i (sym same)))
led_tells es x n (Some p) same inside found absent = (λ t. inside found.0 (in_at es p found.0 found.1) (found.2 ∙ same), λ i. refl)
