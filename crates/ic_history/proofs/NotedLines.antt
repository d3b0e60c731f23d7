-- Kept lines as they are seen.
use Rattle.std.proofs.Common.{◌≡◌, ◌≢◌, zero, suc, ℕ, List, [], ◌∷◌, ◌++◌, length, map, option_map, slice_get, get_or, Option, None, Some, true, false, ltb, ltb-true, ltb-false, refl, sym, ap, subst, arith, ◌∙◌, ◌<◌, ◌↔◌, All}
use Rattle.std.proofs.lemmas.List.{map-append, length-map, get_or_push, get_or_append_left}
use Rattle.std.proofs.lemmas.Option.{same_Some, slice_get-get_or, slice_get-map, slice_get_read, slice_get_past, slice_get_within, get_or_from_slice_get}
use Rattle.ic_name.specs.Names.{Name}
use Rattle.ic_name.specs.Events.{Event}
use Rattle.ic_roster.specs.declared.interaction.Interaction.{Interaction}
use Rattle.ic_history.specs.declared.kept.KeptLine.{KeptLine}
use Rattle.ic_history.specs.declared.kept.KeptLine.TheVariants as kept
use Rattle.ic_history.specs.declared.kept.Kinds.{Kinds}
use Rattle.ic_history.specs.declared.kept.Places.{Places}
use Rattle.ic_history.specs.Kept.{line_of, inactive_at, IsPlaced}
use Rattle.ic_history.specs.Noted.{NotedLine, Fired, NotActive, line_in, IsLineNamed, AreLinesNamed}

-- the line that is read at a place stands there
pub line_found : (ls read : List KeptLine) (k : ℕ) (l : KeptLine) → read ≡ ls → true ≡ ltb k (length read) → l ≡ get_or read k l → slice_get ls k ≡ Some l
line_found ls read k l same in_range is = subst (λ (xs : List KeptLine). slice_get xs k ≡ Some l) same (slice_get_read read _ k l refl (ltb-true _ _ (sym in_range)) is)

-- where no line is read at a place none stands there
none_found : (ls read : List KeptLine) (k : ℕ) → read ≡ ls → false ≡ ltb k (length read) → slice_get ls k ≡ None
none_found ls read k same past = subst (λ (xs : List KeptLine). slice_get xs k ≡ None) same (slice_get_past read k (ltb-false _ _ (sym past)))

-- nor as lines are seen
pub none_noted : (inactive : List Event) (ls read : List KeptLine) (k : ℕ) → read ≡ ls → false ≡ ltb k (length read) → slice_get (map (line_of inactive) ls) k ≡ None
none_noted inactive ls read k same past = slice_get-map (line_of inactive) ls k ∙ ap (option_map (line_of inactive)) (none_found ls read k same past)

-- nor by the names
pub none_read : (names : List Name) (inactive : List Event) (ls read : List KeptLine) (k : ℕ) → read ≡ ls → false ≡ ltb k (length read) → slice_get (map (line_in names) (map (line_of inactive) ls)) k ≡ None
none_read names inactive ls read k same past =
    slice_get-map (line_in names) (map (line_of inactive) ls) k ∙ ap (option_map (line_in names)) (none_noted inactive ls read k same past)

module _ (inactive : List Event) (ls : List KeptLine) (k : ℕ) (l : KeptLine) (found : slice_get ls k ≡ Some l) where
  -- and so it does as it is seen
  pub line_noted : slice_get (map (line_of inactive) ls) k ≡ Some (line_of inactive l)
  line_noted = slice_get-map (line_of inactive) ls k ∙ ap (option_map (line_of inactive)) found

-- where lines are named the one at a place is
pub noted_named : (names : List Name) (ls : List NotedLine) (k : ℕ) (l : NotedLine) → slice_get ls k ≡ Some l → AreLinesNamed names ls → IsLineNamed names l
noted_named names ls k l at all = subst (IsLineNamed names) (get_or_from_slice_get ls k l l at) (all k l (slice_get_within ls k l at))

module _ (names : List Name) (inactive : List Event) (ls : List KeptLine) (k : ℕ) (l : KeptLine) (found : slice_get ls k ≡ Some l) where
  -- and by the names
  pub line_read : slice_get (map (line_in names) (map (line_of inactive) ls)) k ≡ Some (line_in names (line_of inactive l))
  line_read = slice_get-map (line_in names) (map (line_of inactive) ls) k ∙ ap (option_map (line_in names)) (line_noted inactive ls k l found)

  -- where lines are named it is
  pub line_named : AreLinesNamed names (map (line_of inactive) ls) → IsLineNamed names (line_of inactive l)
  line_named all = noted_named names (map (line_of inactive) ls) k (line_of inactive l) (line_noted inactive ls k l found) all

-- what stands at a place of a list's images is the image of what stands there
pub image_at : {A B : Type 0} (f : A → B) (xs : List A) (k : ℕ) (y : B) → slice_get (map f xs) k ≡ Some y → (x : A) × (slice_get xs k ≡ Some x) × (f x ≡ y)
image_at f [] k y at = absurd (cc (at))
image_at f (x ∷ xs) zero y at = (x, refl, cc)
image_at f (x ∷ xs) (suc k) y at = image_at f xs k y at

-- a line that is seen as a firing is kept as one
kept_firing : (inactive : List Event) (l : KeptLine) (i : Interaction) → line_of inactive l ≡ Fired i → (kinds : Kinds) × (places : Places) × (l ≡ kept.Fired kinds places)
kept_firing inactive (kept.Fired kinds places) i same = (kinds, places, refl)
kept_firing inactive (kept.Limited limit kinds places) i same = absurd cc
kept_firing inactive (kept.NotActive place) i same = absurd cc
kept_firing inactive (kept.Undone line) i same = absurd cc
kept_firing inactive (kept.NotStanding line) i same = absurd cc
kept_firing inactive (kept.Held line by) i same = absurd cc

-- so where none is kept at a place none is seen there
pub no_firing : (inactive : List Event) (ls : List KeptLine) (k : ℕ) (l : KeptLine) → slice_get ls k ≡ Some l → ((kinds : Kinds) (places : Places) → l ≢ kept.Fired kinds places) → (i : Interaction) → slice_get (map (line_of inactive) ls) k ≢ Some (Fired i)
no_firing inactive ls k l found other i seen =
    let firing = kept_firing inactive l i (same_Some (line_of inactive l) (Fired i) (sym (line_noted inactive ls k l found) ∙ seen)) in
    other firing.0 firing.1 firing.2

-- a line with its place in a list of events is seen as it was where the list goes on
still_noted : (inactive more : List Event) (l : KeptLine) → IsPlaced inactive l → line_of (inactive ++ more) l ≡ line_of inactive l
still_noted inactive more (kept.Fired kinds places) placed = refl
still_noted inactive more (kept.Limited limit kinds places) placed = refl
still_noted inactive more (kept.NotActive place) placed = ap NotActive (get_or_append_left inactive more _ place placed)
still_noted inactive more (kept.Undone line) placed = refl
still_noted inactive more (kept.NotStanding line) placed = refl
still_noted inactive more (kept.Held line by) placed = refl

-- and so are lines
lines_still_noted : (inactive more : List Event) (ls : List KeptLine) → All (IsPlaced inactive) ls → map (line_of (inactive ++ more)) ls ≡ map (line_of inactive) ls
lines_still_noted inactive more [] placed = refl
lines_still_noted inactive more (l ∷ ls) placed =
    let first = still_noted inactive more l (placed 0 l (omega arith)) in
    let rest = lines_still_noted inactive more ls (λ k d h. placed (suc k) d (omega (arith, h))) in
    λ u. first u ∷ rest u

-- an event more, with a line that tells its place
pub inactive_noted : (inactive : List Event) (ls : List KeptLine) (r : Event) (place : ℕ) → All (IsPlaced inactive) ls → length inactive ≡ place → map (line_of (inactive ++ r ∷ [])) (ls ++ kept.NotActive place ∷ []) ≡ map (line_of inactive) ls ++ NotActive r ∷ []
inactive_noted inactive ls r place placed count =
    let last : inactive_at (inactive ++ r ∷ []) place ≡ r = get_or_push inactive r _ place count in
    map-append (line_of (inactive ++ r ∷ [])) ls (kept.NotActive place ∷ []) ∙ ap (λ xs. xs ++ NotActive (inactive_at (inactive ++ r ∷ []) place) ∷ []) (lines_still_noted inactive (r ∷ []) ls placed) ∙ ap (λ x. map (line_of inactive) ls ++ NotActive x ∷ []) last

-- a line that is read within a history stands at its place
pub line_within : (inactive : List Event) (ls : List KeptLine) (k : ℕ) (l : KeptLine) → k < length (map (line_of inactive) ls) → l ≡ get_or ls k l → slice_get ls k ≡ Some l
line_within inactive ls k l within is =
    let count = length-map ls (line_of inactive) in
    let low : k < length ls = omega (arith, count, within) in
    slice_get-get_or ls k l low ∙ ap Some (sym is)

-- what stands at two places is one where what was found there is
pub found_same : {A P : Type 0} (x y : Option A) (a b : A) → x ≡ Some a → y ≡ Some b → P ↔ (a ≡ b) → P ↔ (x ≡ y)
found_same x y a b at_x at_y same = (λ p. at_x ∙ ap Some (same.0 p) ∙ sym at_y, λ e. same.1 (same_Some a b (sym at_x ∙ e ∙ at_y)))
