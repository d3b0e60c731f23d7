-- A table of events with one event more.
use Rattle.std.proofs.Common.{◌≡◌, ◌≢◌, ℕ, ◌+◌, ◌<◌, Bool, true, false, cond, List, [], ◌∷◌, ◌++◌, length, ◌⊎◌, inl, inr, Option, Some, None, refl, sym, ap, arith, subst, ◌∙◌}
use Rattle.std.proofs.lemmas.Bool.{cases_eq}
use Rattle.std.proofs.lemmas.List.{length_push}
use Rattle.std.specs.Ordering.{is_eq}
use Rattle.std.specs.declared.cmp.Ordering.{Ordering}
use Rattle.std.specs.declared.cmp.Ordering.TheVariants.{Less, Equal, Greater}
use Rattle.std.specs.BTreeMap.{BTreeMap, get, Updates}
use Rattle.ic_name.specs.Names.{Name, name_cmp}
use Rattle.ic_name.proofs.NameOrder.{name_tied, name_tied_itself}
use Rattle.ic_trace.specs.declared.known.Known.{Known}
use Rattle.ic_trace.specs.Known.{event_at, IsNumberOf}
use Rattle.ic_trace.proofs.ByNumber.{event_at-append, event_at-last}

-- names that are tied are one
tied_is_one : (a b : Name) → is_eq (name_cmp a b) ≡ true → a ≡ b
tied_is_one a b h = go (name_cmp a b) refl h
  where
    go : (o : Ordering) → name_cmp a b ≡ o → is_eq o ≡ true → a ≡ b
    go Less e t = cc
    go Equal e t = name_tied a b e
    go Greater e t = cc

-- and names that aren't, two
untied_are_two : (a b : Name) → is_eq (name_cmp a b) ≡ false → a ≢ b
untied_are_two a b h e = let t = name_tied_itself b in let u : is_eq (name_cmp b b) ≡ false = rw e at h in let v : is_eq (name_cmp b b) ≡ true = ap is_eq t in cc

module _ (ks : List Known) (k : Known) where
  -- a name that doesn't lead the new event has the number that it had
  other_number : (n : Name) → k.event.lead ≢ n → (o : Option ℕ) → IsNumberOf ks n o → IsNumberOf (ks ++ k ∷ []) n o
  other_number n apart (Some i) h = let l = length_push ks k in (let a = h.0 in omega arith, ap (λ e. e.lead) (event_at-append ks (k ∷ []) i h.0) ∙ h.1)
  other_number n apart None h = λ i inside same. by i same (cases_eq i (length ks)) (let l = length_push ks k in omega arith)
    where
      by : (i : ℕ) → (event_at (ks ++ k ∷ []) i).lead ≡ n → (i ≡ length ks) ⊎ (i ≢ length ks) → i < length ks + 1 → ⊥
      by i same (inl e) inside = let s : (event_at (ks ++ k ∷ []) (length ks)).lead ≡ n = rw e at same in apart (sym (ap (λ e. e.lead) (event_at-last ks k)) ∙ s)
      by i same (inr ne) inside = let b : i < length ks = omega arith in h i b (sym (ap (λ e. e.lead) (event_at-append ks (k ∷ []) i b)) ∙ same)

  -- each event is found by its lead
  pub renumbered : (m m' : BTreeMap Name ℕ) → ((n : Name) → IsNumberOf ks n (get name_cmp m n)) → Updates name_cmp m m' k.event.lead (Some (length ks)) → (n : Name) → IsNumberOf (ks ++ k ∷ []) n (get name_cmp m' n)
  renumbered m m' was new n = subst (λ o. IsNumberOf (ks ++ k ∷ []) n o) (sym (new.0 n)) (by (is_eq (name_cmp k.event.lead n)) refl)
    where
      by : (b : Bool) → is_eq (name_cmp k.event.lead n) ≡ b → IsNumberOf (ks ++ k ∷ []) n (cond b (Some (length ks)) (get name_cmp m n))
      by true e = let l = length_push ks k in (omega arith, ap (λ e. e.lead) (event_at-last ks k) ∙ tied_is_one k.event.lead n e)
      by false e = other_number n (untied_are_two k.event.lead n e) (get name_cmp m n) (was n)
