-- Entries with one entry more.
use Rattle.std.proofs.Common.{◌≡◌, ℕ, ◌+◌, ◌^◌, ◌<◌, ◌≤◌, List, [], ◌∷◌, ◌++◌, length, Option, None, sym, ◌∙◌, ap, subst, arith, ◌⊎◌, inl, inr}
use Rattle.std.proofs.lemmas.Bool.{cases_lt}
use Rattle.ic_name.specs.Names.{Name, IsName, start_name, child_name}
use Rattle.ic_names.specs.declared.entry.Origin.{Origin}
use Rattle.ic_names.specs.declared.entry.Origin.TheVariants.{Start, Child}
use Rattle.ic_names.specs.declared.entry.Entry.{Entry}
use Rattle.ic_names.specs.Keys.{key_of}
use Rattle.ic_names.specs.Blocks.{anchor_of, block_of}
use Rattle.ic_names.specs.Tables.{name_at, StandsAt, IsAbsent, IsPlaceOf}
use Rattle.ic_names.specs.Rows.{AreRows, name_from, origin_of, IsBefore, entry_at, child_at, start_at}
use Rattle.ic_names.proofs.Grown.{child_not_start, child_not_self, child_same, name_at-old, name_at-new, stands_old, absent_still, Turns, place_grows, table_grows, from_still}

-- an entry says what it said, but for the places of children
pub record IsSameEntry (e f : Entry) : Type 0 where
  pub origin : origin_of e ≡ origin_of f
  pub key : e.key.0 ≡ f.key.0
  pub block : e.block.0 ≡ f.block.0
  pub anchor : e.anchor ≡ f.anchor
  pub four : length e.children ≡ length f.children

-- the second entries are the first with one for the name behind them, of which they say where it stands
pub record Grows (ns : List Name) (es es' : List Entry) (ss ss' : List (Option ℕ)) (n : Name) : Type 0 where
  pub longer : length es' ≡ length es + 1
  pub old : (k : ℕ) → k < length es → IsSameEntry (entry_at es' k) (entry_at es k)
  pub from : name_from ns (origin_of (entry_at es' (length es))) ≡ n
  pub before : IsBefore (length es) (origin_of (entry_at es' (length es)))
  pub key : (entry_at es' (length es)).key.0 ≡ key_of n
  pub block : (entry_at es' (length es)).block.0 ≡ block_of n
  pub anchor : StandsAt (ns ++ n ∷ []) (anchor_of n) (entry_at es' (length es)).anchor
  pub four : length (entry_at es' (length es)).children ≡ 4
  pub none : (d : ℕ) → d < 4 → child_at es' (length es) d ≡ None
  pub children : (k d : ℕ) → k < length es → d < 4 → Turns (child_name (name_at ns k) d) n (length es) (child_at es k d) (child_at es' k d)
  pub starts : (k : ℕ) → Turns (start_name k) n (length es) (start_at ss k) (start_at ss' k)

-- the parent of a name that is there is there
pub parent_there : (ns : List Name) (o : Origin) (k d : ℕ) (m : Name) → IsBefore k o → name_from ns o ≡ child_name m d → (p : ℕ) × (p < k) × (name_at ns p ≡ m)
parent_there ns (Start s) k d m before e = absurd (child_not_start m d s (sym e))
parent_there ns (Child c p) k d m before e = (p, before.0, (child_same (name_at ns p) m c d e).0)

-- a name that is new has no children yet
no_children : {ns : List Name} {es : List Entry} {ss : List (Option ℕ)} (n : Name) (d : ℕ) → AreRows ns es ss → length ns ≡ length es → IsAbsent ns n → IsAbsent (ns ++ n ∷ []) (child_name n d)
no_children {ns} {es} {ss} n d rows same absent = absent_still ns n (child_name n d) before (λ e. child_not_self n d (sym e))
  where
    before : IsAbsent ns (child_name n d)
    before k within named =
        let inside : k < length es = omega arith in
        let parent = parent_there ns (origin_of (entry_at es k)) k d n (rows.parents k inside) (sym (rows.named k inside) ∙ named) in
        absent parent.0 (omega (arith, parent.1)) parent.2

pub rows_grow : (ns : List Name) (es es' : List Entry) (ss ss' : List (Option ℕ)) (n : Name) → AreRows ns es ss → length ns ≡ length es → IsName n → IsAbsent ns n → length ns + 1 < 2 ^ 32 → Grows ns es es' ss ss' n → AreRows (ns ++ n ∷ []) es' ss'
rows_grow ns es es' ss ss' n rows same is absent few grows = record {
  table = table_grows ns n rows.table is absent there few;
  named = named;
  parents = parents;
  keys = keys;
  anchors = anchors;
  blocks = blocks;
  four = four;
  children = children;
  starts = λ k. place_grows ns n (start_name k) (length es) (start_at ss k) (start_at ss' k) (sym same) (grows.starts k) (rows.starts k);
}
  where
    there : (m : Name) (d : ℕ) → n ≡ child_name m d → (p : ℕ) × (p < length ns) × (name_at ns p ≡ m)
    there m d e =
        let parent = parent_there ns (origin_of (entry_at es' (length es))) (length es) d m grows.before (grows.from ∙ e) in
        (parent.0, omega (arith, parent.1), parent.2)

    split : (k : ℕ) → k < length es' → (k < length es) ⊎ (k ≡ length es)
    split k h = by (cases_lt k (length es))
      where
        by : (k < length es) ⊎ (length es ≤ k) → (k < length es) ⊎ (k ≡ length es)
        by (inl low) = inl low
        by (inr high) = inr (omega (arith, grows.longer))

    named : (k : ℕ) → k < length es' → name_at (ns ++ n ∷ []) k ≡ name_from (ns ++ n ∷ []) (origin_of (entry_at es' k))
    named k h = by (split k h)
      where
        by : (k < length es) ⊎ (k ≡ length es) → name_at (ns ++ n ∷ []) k ≡ name_from (ns ++ n ∷ []) (origin_of (entry_at es' k))
        by (inl low) =
            let origin = (grows.old k low).origin in
            name_at-old ns n k (omega arith) ∙ rows.named k low ∙ sym (from_still ns n (origin_of (entry_at es k)) k (rows.parents k low) (omega arith)) ∙ ap (λ o. name_from (ns ++ n ∷ []) o) (sym origin)
        by (inr e) = subst (λ j. name_at (ns ++ n ∷ []) j ≡ name_from (ns ++ n ∷ []) (origin_of (entry_at es' j))) (sym e)
            (name_at-new ns n (length es) same ∙ sym grows.from ∙ sym (from_still ns n (origin_of (entry_at es' (length es))) (length es) grows.before (omega arith)))

    parents : (k : ℕ) → k < length es' → IsBefore k (origin_of (entry_at es' k))
    parents k h = by (split k h)
      where
        by : (k < length es) ⊎ (k ≡ length es) → IsBefore k (origin_of (entry_at es' k))
        by (inl low) = subst (λ o. IsBefore k o) (sym (grows.old k low).origin) (rows.parents k low)
        by (inr e) = subst (λ j. IsBefore j (origin_of (entry_at es' j))) (sym e) grows.before

    keys : (k : ℕ) → k < length es' → (entry_at es' k).key.0 ≡ key_of (name_at (ns ++ n ∷ []) k)
    keys k h = by (split k h)
      where
        by : (k < length es) ⊎ (k ≡ length es) → (entry_at es' k).key.0 ≡ key_of (name_at (ns ++ n ∷ []) k)
        by (inl low) = (grows.old k low).key ∙ rows.keys k low ∙ ap (λ m. key_of m) (sym (name_at-old ns n k (omega arith)))
        by (inr e) = subst (λ j. (entry_at es' j).key.0 ≡ key_of (name_at (ns ++ n ∷ []) j)) (sym e)
            (grows.key ∙ ap (λ m. key_of m) (sym (name_at-new ns n (length es) same)))

    anchors : (k : ℕ) → k < length es' → StandsAt (ns ++ n ∷ []) (anchor_of (name_at (ns ++ n ∷ []) k)) (entry_at es' k).anchor
    anchors k h = by (split k h)
      where
        by : (k < length es) ⊎ (k ≡ length es) → StandsAt (ns ++ n ∷ []) (anchor_of (name_at (ns ++ n ∷ []) k)) (entry_at es' k).anchor
        by (inl low) = rw (name_at-old ns n k (omega arith), (grows.old k low).anchor) (stands_old ns n (anchor_of (name_at ns k)) (entry_at es k).anchor (rows.anchors k low))
        by (inr e) = subst (λ j. StandsAt (ns ++ n ∷ []) (anchor_of (name_at (ns ++ n ∷ []) j)) (entry_at es' j).anchor) (sym e)
            (rw (name_at-new ns n (length es) same) grows.anchor)

    blocks : (k : ℕ) → k < length es' → (entry_at es' k).block.0 ≡ block_of (name_at (ns ++ n ∷ []) k)
    blocks k h = by (split k h)
      where
        by : (k < length es) ⊎ (k ≡ length es) → (entry_at es' k).block.0 ≡ block_of (name_at (ns ++ n ∷ []) k)
        by (inl low) = (grows.old k low).block ∙ rows.blocks k low ∙ ap (λ m. block_of m) (sym (name_at-old ns n k (omega arith)))
        by (inr e) = subst (λ j. (entry_at es' j).block.0 ≡ block_of (name_at (ns ++ n ∷ []) j)) (sym e)
            (grows.block ∙ ap (λ m. block_of m) (sym (name_at-new ns n (length es) same)))

    four : (k : ℕ) → k < length es' → length (entry_at es' k).children ≡ 4
    four k h = by (split k h)
      where
        by : (k < length es) ⊎ (k ≡ length es) → length (entry_at es' k).children ≡ 4
        by (inl low) = (grows.old k low).four ∙ rows.four k low
        by (inr e) = subst (λ j. length (entry_at es' j).children ≡ 4) (sym e) grows.four

    children : (k d : ℕ) → k < length es' → d < 4 → IsPlaceOf (ns ++ n ∷ []) (child_name (name_at (ns ++ n ∷ []) k) d) (child_at es' k d)
    children k d h small = by (split k h)
      where
        by : (k < length es) ⊎ (k ≡ length es) → IsPlaceOf (ns ++ n ∷ []) (child_name (name_at (ns ++ n ∷ []) k) d) (child_at es' k d)
        by (inl low) = rw (name_at-old ns n k (omega arith))
            (place_grows ns n (child_name (name_at ns k) d) (length es) (child_at es k d) (child_at es' k d) (sym same) (grows.children k d low small) (rows.children k d low small))
        by (inr e) = subst (λ j. IsPlaceOf (ns ++ n ∷ []) (child_name (name_at (ns ++ n ∷ []) j) d) (child_at es' j d)) (sym e)
            (rw (name_at-new ns n (length es) same, grows.none d small) (no_children n d rows same absent))
