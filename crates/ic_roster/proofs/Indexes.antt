-- What an index tells of the values in the slots, and what entering and taking a value does to it.
use Rattle.std.proofs.Common.{◌≡◌, ◌≢◌, ℕ, List, Option, Some, None, refl, sym, ap, ◌∙◌}
use Rattle.std.specs.Prelude.{option_map}
use Rattle.ic_slots.specs.Slots.{slot_of, Gives, Keeps}
use Rattle.ic_roster.specs.Slots.{slot_at, HoldsOneMore, number_at, IsIndexOf}
use Rattle.ic_roster.proofs.Inverses.{inverse_entered, inverse_taken, inverse_one, inverse_same}

module _ {T : Type 0} (f : T → ℕ) where
  -- the index has the slot of what a slot holds
  pub indexed : (xs : List (Option T)) (index : List (Option ℕ)) → IsIndexOf f xs index → (k : ℕ) (x : T) → slot_at xs k ≡ Some x → slot_of index (f x) ≡ Some k
  indexed xs index both k x h = (both (f x) k).1 (ap (option_map f) h)

  -- the slot that the index has under a number holds a value of that number
  pub holder : (xs : List (Option T)) (index : List (Option ℕ)) → IsIndexOf f xs index → (n k : ℕ) → slot_of index n ≡ Some k → (x : T) × (slot_at xs k ≡ Some x) × (f x ≡ n)
  holder xs index both n k found = by (slot_at xs k) refl
    where
      by : (o : Option T) → slot_at xs k ≡ o → (x : T) × (slot_at xs k ≡ Some x) × (f x ≡ n)
      by None e = let m : None ≡ Some n = sym (ap (option_map f) e) ∙ (both n k).0 found in absurd cc
      by (Some x) e =
          let m : Some (f x) ≡ Some n = sym (ap (option_map f) e) ∙ (both n k).0 found in
          (x, e, cc)

  -- what the slot under a number holds has that number
  pub held_number : (xs : List (Option T)) (index : List (Option ℕ)) → IsIndexOf f xs index → (n k : ℕ) (x : T) → slot_of index n ≡ Some k → slot_at xs k ≡ Some x → f x ≡ n
  held_number xs index both n k x found h =
      let d = holder xs index both n k found in
      let e : Some d.0 ≡ Some x = sym d.1 ∙ h in
      let same : d.0 ≡ x = cc in
      ap f (sym same) ∙ d.2

  -- no slot is vacant that the index has
  pub not_vacant : (xs : List (Option T)) (index : List (Option ℕ)) → IsIndexOf f xs index → (n k : ℕ) → slot_of index n ≡ Some k → slot_at xs k ≡ None → ⊥
  not_vacant xs index both n k found h = let d = holder xs index both n k found in let e : Some d.0 ≡ None = sym d.1 ∙ h in cc

  -- no value has a number that the index lacks
  pub none_numbered : (xs : List (Option T)) (index : List (Option ℕ)) → IsIndexOf f xs index → (n : ℕ) → slot_of index n ≡ None → (k : ℕ) (x : T) → slot_at xs k ≡ Some x → f x ≢ n
  none_numbered xs index both n lacks k x h e = let m : None ≡ Some k = sym lacks ∙ ap (slot_of index) (sym e) ∙ indexed xs index both k x h in cc

  -- the index lacks a number that no value has
  pub lacks_number : (xs : List (Option T)) (index : List (Option ℕ)) → IsIndexOf f xs index → (n : ℕ) → ((k : ℕ) (x : T) → slot_at xs k ≡ Some x → f x ≢ n) → slot_of index n ≡ None
  lacks_number xs index both n none = by (slot_of index n) refl
    where
      by : (o : Option ℕ) → slot_of index n ≡ o → slot_of index n ≡ None
      by None h = h
      by (Some k) h = let d = holder xs index both n k h in absurd (none k d.0 d.1 d.2)

  -- two values of one number are in one slot
  pub one_slot : (xs : List (Option T)) (index : List (Option ℕ)) → IsIndexOf f xs index → (j k : ℕ) (x y : T) → slot_at xs j ≡ Some x → slot_at xs k ≡ Some y → f x ≡ f y → j ≡ k
  one_slot xs index both j k x y h g e = inverse_one (slot_of index) (number_at f xs) both j k (f y) (ap (option_map f) h ∙ ap Some e) (ap (option_map f) g)

  -- an index that has the same is one, too
  pub index_kept : (xs : List (Option T)) (index index' : List (Option ℕ)) → IsIndexOf f xs index → Keeps index index' → IsIndexOf f xs index'
  index_kept xs index index' both keeps = inverse_same (slot_of index) (slot_of index') (number_at f xs) both keeps

  -- a value of a new number is entered
  pub index_entered : (old new : List (Option T)) (index index' : List (Option ℕ)) (k : ℕ) (x : T) → IsIndexOf f old index → HoldsOneMore old new k x → slot_of index (f x) ≡ None → Gives (f x) (Some k) index index' → IsIndexOf f new index'
  index_entered old new index index' k x both more lacks gives =
      inverse_entered (slot_of index) (slot_of index') (number_at f old) (number_at f new) (f x) k both lacks
      (ap (option_map f) more.vacant) (ap (option_map f) more.filled) (λ j d. ap (option_map f) (more.others j d)) gives

  -- a value is taken out
  pub index_taken : (old new : List (Option T)) (index index' : List (Option ℕ)) (k : ℕ) (x : T) → IsIndexOf f old index → HoldsOneMore new old k x → Gives (f x) None index index' → IsIndexOf f new index'
  index_taken old new index index' k x both more gives =
      inverse_taken (slot_of index) (slot_of index') (number_at f old) (number_at f new) (f x) k both
      (ap (option_map f) more.filled) (ap (option_map f) more.vacant) (λ j d. ap (option_map f) (sym (more.others j d))) gives
