-- Slots of which no two hold values of one number.
use Rattle.std.proofs.Common.{◌≡◌, ◌≢◌, ◌⊎◌, ℕ, List, [], Option, Some, None, inl, inr, refl, sym, ap, ◌∙◌}
use Rattle.std.specs.Prelude.{option_map}
use Rattle.std.proofs.lemmas.Bool.{cases_eq}
use Rattle.ic_roster.specs.Slots.{slot_at, HoldsOneMore, number_at, HaveOwnNumbers}

module _ {T : Type 0} (f : T → ℕ) where
  -- two values of one number are in one slot
  pub one_owner : (xs : List (Option T)) → HaveOwnNumbers f xs → (j k : ℕ) (x y : T) → slot_at xs j ≡ Some x → slot_at xs k ≡ Some y → f x ≡ f y → j ≡ k
  one_owner xs own j k x y h g e = own j k (f y) (ap (option_map f) h ∙ ap Some e) (ap (option_map f) g)

  -- no slot has a number that no value has
  none_of_number : (xs : List (Option T)) (n : ℕ) → ((k : ℕ) (x : T) → slot_at xs k ≡ Some x → f x ≢ n) → (k : ℕ) → number_at f xs k ≢ Some n
  none_of_number xs n none k h = by (slot_at xs k) refl
    where
      by : (o : Option T) → slot_at xs k ≡ o → ⊥
      by None e = let m : None ≡ Some n = sym (ap (option_map f) e) ∙ h in absurd cc
      by (Some x) e = let m : Some (f x) ≡ Some n = sym (ap (option_map f) e) ∙ h in none k x e cc

  -- slots of the same numbers have their own, too
  pub own_same : (xs ys : List (Option T)) → ((k : ℕ) → number_at f ys k ≡ number_at f xs k) → HaveOwnNumbers f xs → HaveOwnNumbers f ys
  own_same xs ys same own j k n h g = own j k n (sym (same j) ∙ h) (sym (same k) ∙ g)

  -- a value of a new number is entered
  pub own_entered : (old new : List (Option T)) (key : ℕ) (x : T) → HaveOwnNumbers f old → HoldsOneMore old new key x → ((k : ℕ) (y : T) → slot_at old k ≡ Some y → f y ≢ f x) → HaveOwnNumbers f new
  own_entered old new key x own more fresh j k n h g = by (cases_eq j key) (cases_eq k key)
    where
      was : (i : ℕ) → i ≢ key → number_at f new i ≡ Some n → number_at f old i ≡ Some n
      was i other e = sym (ap (option_map f) (more.others i other)) ∙ e

      apart : (i : ℕ) → i ≡ key → number_at f new i ≡ Some n → (l : ℕ) → number_at f old l ≢ Some n
      apart i is e =
          let m : Some (f x) ≡ Some n = sym (ap (option_map f) more.filled) ∙ ap (number_at f new) (sym is) ∙ e in
          let s : f x ≡ n = cc in
          none_of_number old n (λ l y held t. fresh l y held (t ∙ sym s))

      by : (j ≡ key) ⊎ (j ≢ key) → (k ≡ key) ⊎ (k ≢ key) → j ≡ k
      by (inl a) (inl b) = a ∙ sym b
      by (inl a) (inr d) = absurd (apart j a h k (was k d g))
      by (inr d) (inl b) = absurd (apart k b g j (was j d h))
      by (inr c) (inr d) = own j k n (was j c h) (was k d g)

  -- a value is taken out
  pub own_taken : (old new : List (Option T)) (key : ℕ) (x : T) → HaveOwnNumbers f old → HoldsOneMore new old key x → HaveOwnNumbers f new
  own_taken old new key x own more j k n h g = own j k n (was j (cases_eq j key) h) (was k (cases_eq k key) g)
    where
      was : (i : ℕ) → (i ≡ key) ⊎ (i ≢ key) → number_at f new i ≡ Some n → number_at f old i ≡ Some n
      was i (inl is) e = let m : None ≡ Some n = sym (ap (option_map f) more.vacant) ∙ ap (number_at f new) (sym is) ∙ e in absurd cc
      was i (inr other) e = ap (option_map f) (more.others i other) ∙ e

  -- there are no numbers where there are no slots
  pub own_none : (xs : List (Option T)) → xs ≡ [] → HaveOwnNumbers f xs
  own_none xs none j k n = rw none (λ h. absurd cc)
