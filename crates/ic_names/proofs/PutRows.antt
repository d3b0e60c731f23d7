-- Entries after a name has been put behind the others.
use Rattle.std.proofs.Common.{◌≡◌, ◌≢◌, ℕ, zero, suc, ◌+◌, ◌^◌, ◌<◌, ◌≤◌, List, [], ◌∷◌, ◌++◌, length, get_or, set, Option, Some, None, refl, sym, ◌∙◌, ap, subst, arith, length-append, ◌⊎◌, inl, inr, get_or-set_same, get_or-set_other, ◌-◌, take, replicate, Bool, true, false, cond}
use Rattle.std.proofs.lemmas.List.{get_or_append_left, get_or_push, length-set, take_all, get_or-append_right, get_or-replicate, get_or_past, length-replicate, get_or_read}
use Rattle.std.proofs.lemmas.List.Elements.{All-nil, All-push}
use Rattle.std.proofs.lemmas.Bool.{cases_eq, cases_lt}
use Rattle.ic_name.specs.declared.limits.TheConstants.{MAX_START_AGENTS, MAX_DEPTH}
use Rattle.ic_name.specs.Names.{Name, IsName, depth, start_name, child_name}
use Rattle.ic_names.specs.declared.entry.Origin.{Origin}
use Rattle.ic_names.specs.declared.entry.Origin.TheVariants.{Start, Child}
use Rattle.ic_names.specs.declared.entry.Entry.{Entry}
use Rattle.ic_names.specs.declared.key.NameKey.{NameKey}
use Rattle.ic_names.specs.declared.block.Block.{Block}
use Rattle.ic_names.specs.Keys.{key_of}
use Rattle.ic_names.specs.Blocks.{anchor_of, block_of}
use Rattle.ic_names.specs.Tables.{name_at, StandsAt, IsAbsent}
use Rattle.ic_names.specs.Rows.{AreRows, name_from, origin_of, IsBefore, entry_at, child_at, start_at, names_of}
use Rattle.ic_names.proofs.RowNames.{names_of-length, names_of-push, names_of-set}
use Rattle.ic_names.proofs.Grown.{stands_new, child_not_start, child_same, Turns, placed, kept}
use Rattle.ic_names.proofs.GrownRows.{IsSameEntry, Grows, rows_grow}

-- the entry of a new name of this origin, to stand behind these names
pub record IsNewEntry (ns : List Name) (e : Entry) (o : Origin) (n : Name) : Type 0 where
  pub origin : origin_of e ≡ o
  pub key : e.key.0 ≡ key_of n
  pub block : e.block.0 ≡ block_of n
  pub anchor : StandsAt (ns ++ n ∷ []) (anchor_of n) e.anchor
  pub children : e.children ≡ None ∷ None ∷ None ∷ None ∷ []

pub new_entry : {ns : List Name} (e : Entry) (k : NameKey) (b : Block) (a p : ℕ) (o : Origin) (n : Name) → e ≡ record { key = k; block = b; children = None ∷ None ∷ None ∷ None ∷ []; anchor = a; parent = p } → k.0 ≡ key_of n → b.0 ≡ block_of n → StandsAt (ns ++ n ∷ []) (anchor_of n) a → origin_of e ≡ o → IsNewEntry ns e o n
new_entry {ns} e k b a p o n is key block anchor origin = record {
  origin = origin;
  key = ap (λ x. x.key.0) is ∙ key;
  block = ap (λ x. x.block.0) is ∙ block;
  anchor = subst (λ x. StandsAt (ns ++ n ∷ []) (anchor_of n) x) (sym (ap (λ x. x.anchor) is)) anchor;
  children = ap (λ x. x.children) is;
}

-- the anchor of a start agent's name is the name itself, behind the others
pub start_anchor : (ns : List Name) (number place : ℕ) → place ≡ length ns → StandsAt (ns ++ start_name number ∷ []) (anchor_of (start_name number)) place
start_anchor ns number place e = stands_new ns (start_name number) place e

-- none of four places is one
none_of_four : (d : ℕ) → let four : List (Option ℕ) = None ∷ None ∷ None ∷ None ∷ [] in get_or four d None ≡ None
none_of_four zero = refl
none_of_four (suc zero) = refl
none_of_four (suc (suc zero)) = refl
none_of_four (suc (suc (suc zero))) = refl
none_of_four (suc (suc (suc (suc d)))) = refl

-- one entry says the same twice
same_entry : (e f : Entry) → e ≡ f → IsSameEntry e f
same_entry e f h = record {
  origin = ap origin_of h;
  key = ap (λ x. x.key.0) h;
  block = ap (λ x. x.block.0) h;
  anchor = ap (λ x. x.anchor) h;
  four = ap (λ x. length x.children) h;
}

-- an entry that was there
entry_at-old : (es : List Entry) (e : Entry) (k : ℕ) → k < length es → entry_at (es ++ e ∷ []) k ≡ entry_at es k
entry_at-old es e k h = get_or_append_left es (e ∷ []) _ k h

-- the entry behind
entry_at-new : (es : List Entry) (e : Entry) → entry_at (es ++ e ∷ []) (length es) ≡ e
entry_at-new es e = get_or_push es e _ (length es) refl

start_grows : {ns : List Name} (es : List Entry) (ss : List (Option ℕ)) (number i : ℕ) (o : Option ℕ) (e : Entry) → IsNewEntry ns e (Start number) (start_name number) → number < length ss → i ≡ number → o ≡ Some (length es) → Grows ns es (es ++ e ∷ []) ss (set ss i o) (start_name number)
start_grows {ns} es ss number i o e new inside same place = record {
  longer = omega (arith, length-append es (e ∷ []));
  old = λ k h. same_entry _ _ (entry_at-old es e k h);
  from = ap (λ f. name_from ns (origin_of f)) (entry_at-new es e) ∙ ap (λ g. name_from ns g) new.origin;
  before = subst (λ g. IsBefore (length es) g) (sym (ap origin_of (entry_at-new es e) ∙ new.origin)) tt;
  key = ap (λ f. f.key.0) (entry_at-new es e) ∙ new.key;
  block = ap (λ f. f.block.0) (entry_at-new es e) ∙ new.block;
  anchor = rw (entry_at-new es e) new.anchor;
  four = ap (λ f. length f.children) (entry_at-new es e) ∙ ap length new.children;
  none = λ d h. ap (λ f. get_or f.children d None) (entry_at-new es e) ∙ ap (λ cs. get_or cs d None) new.children ∙ none_of_four d;
  children = λ k d h small. kept (child_not_start (name_at ns k) d number) (ap (λ f. get_or f.children d None) (entry_at-old es e k h));
  starts = starts;
}
  where
    starts : (k : ℕ) → Turns (start_name k) (start_name number) (length es) (start_at ss k) (start_at (set ss i o) k)
    starts k = by (cases_eq k number)
      where
        by : (k ≡ number) ⊎ (k ≡ number → ⊥) → Turns (start_name k) (start_name number) (length es) (start_at ss k) (start_at (set ss i o) k)
        by (inl e) = placed (ap (λ j. start_name j) e) (ap (λ j. start_at (set ss i o) j) (e ∙ sym same) ∙ get_or-set_same ss i o None (omega arith) ∙ place)
        by (inr ne) = kept (λ h. ne (ap (λ m. m.start) h)) (get_or-set_other ss i k o None (λ h. ne (h ∙ same)))

-- the name of a start agent behind the others
pub put_start_names : (es ls : List Entry) (number : ℕ) (e : Entry) → ls ≡ es ++ e ∷ [] → origin_of e ≡ Start number → names_of ls ≡ names_of es ++ start_name number ∷ []
put_start_names es ls number e pushed origin = ap (λ l. names_of l) pushed ∙ names_of-push es e ∙ ap (λ g. names_of es ++ name_from (names_of es) g ∷ []) origin

pub start_proper : (k : ℕ) → k < MAX_START_AGENTS → IsName (start_name k)
start_proper k h = record { starts = h; digit = All-nil (λ d. d < 4); shallow = omega arith }

pub put_start_rows : (es ls : List Entry) (ss : List (Option ℕ)) (number i : ℕ) (o : Option ℕ) (e : Entry) → AreRows (names_of es) es ss → ls ≡ es ++ e ∷ [] → IsNewEntry (names_of es) e (Start number) (start_name number) → number < MAX_START_AGENTS → IsAbsent (names_of es) (start_name number) → length (names_of es) + 1 < 2 ^ 32 → number < length ss → i ≡ number → o ≡ Some (length es) → AreRows (names_of ls) ls (set ss i o)
put_start_rows es ls ss number i o e rows pushed new proper absent few inside same place =
    let grown = rows_grow (names_of es) es (es ++ e ∷ []) ss (set ss i o) (start_name number) rows (names_of-length es) (start_proper number proper) absent few (start_grows es ss number i o e new inside same place) in
    let names = put_start_names es (es ++ e ∷ []) number e refl new.origin in
    subst (λ l. AreRows (names_of l) l (set ss i o)) (sym pushed) (subst (λ ns. AreRows ns (es ++ e ∷ []) (set ss i o)) (sym names) grown)

-- the entry of the parent after the child has been put behind the others
pub record IsParentEntry (f q : Entry) (d k : ℕ) : Type 0 where
  pub origin : origin_of f ≡ origin_of q
  pub key : f.key.0 ≡ q.key.0
  pub block : f.block.0 ≡ q.block.0
  pub anchor : f.anchor ≡ q.anchor
  pub children : f.children ≡ set q.children d (Some k)

pub parent_written : (q r : Entry) (i d k : ℕ) (o : Option ℕ) → q ≡ r → i ≡ d → o ≡ Some k → IsParentEntry (record { key = q.key; block = q.block; children = set q.children i o; anchor = q.anchor; parent = q.parent }) r d k
parent_written q r i d k o same at is = record {
  origin = ap origin_of same;
  key = ap (λ x. x.key.0) same;
  block = ap (λ x. x.block.0) same;
  anchor = ap (λ x. x.anchor) same;
  children = ap (λ x. set x.children i o) same ∙ ap (λ j. set r.children j o) at ∙ ap (λ x. set r.children d x) is;
}

-- the entry of the parent, as it is read behind the push
pub parent_read : (es ls : List Entry) (p : ℕ) (e q : Entry) → ls ≡ es ++ e ∷ [] → p < length es → q ≡ get_or ls p q → q ≡ entry_at es p
parent_read es ls p e q pushed inside is =
    let longer = ap length pushed in
    get_or_read ls p q (omega (arith, length-append es (e ∷ []))) is _ ∙ ap (λ l. entry_at l p) pushed ∙ entry_at-old es e p inside

child_grows : {ns : List Name} (es : List Entry) (ss : List (Option ℕ)) (p d : ℕ) (e f : Entry) → AreRows ns es ss → length ns ≡ length es → p < length es → d < 4 → IsNewEntry ns e (Child d p) (child_name (name_at ns p) d) → IsParentEntry f (entry_at es p) d (length es) → Grows ns es (set (es ++ e ∷ []) p f) ss ss (child_name (name_at ns p) d)
child_grows {ns} es ss p d e f rows all inside small new parent = record {
  longer = length-set (es ++ e ∷ []) p f ∙ longer;
  old = old;
  from = ap (λ g. name_from ns g) (ap origin_of behind ∙ new.origin);
  before = subst (λ g. IsBefore (length es) g) (sym (ap origin_of behind ∙ new.origin)) (inside, small);
  key = ap (λ x. x.key.0) behind ∙ new.key;
  block = ap (λ x. x.block.0) behind ∙ new.block;
  anchor = rw behind new.anchor;
  four = ap (λ x. length x.children) behind ∙ ap length new.children;
  none = λ c h. ap (λ x. get_or x.children c None) behind ∙ ap (λ cs. get_or cs c None) new.children ∙ none_of_four c;
  children = children;
  starts = λ k. kept (λ h. child_not_start (name_at ns p) d k (sym h)) refl;
}
  where
    longer : length (es ++ e ∷ []) ≡ length es + 1
    longer = omega (arith, length-append es (e ∷ []))

    behind : entry_at (set (es ++ e ∷ []) p f) (length es) ≡ e
    behind = get_or-set_other (es ++ e ∷ []) p (length es) f _ (λ h. omega arith) ∙ entry_at-new es e

    here : entry_at (set (es ++ e ∷ []) p f) p ≡ f
    here = get_or-set_same (es ++ e ∷ []) p f _ (omega (arith, length-append es (e ∷ [])))

    there : (k : ℕ) → k < length es → k ≢ p → entry_at (set (es ++ e ∷ []) p f) k ≡ entry_at es k
    there k h ne = get_or-set_other (es ++ e ∷ []) p k f _ ne ∙ entry_at-old es e k h

    old : (k : ℕ) → k < length es → IsSameEntry (entry_at (set (es ++ e ∷ []) p f) k) (entry_at es k)
    old k h = by (cases_eq k p)
      where
        by : (k ≡ p) ⊎ (k ≡ p → ⊥) → IsSameEntry (entry_at (set (es ++ e ∷ []) p f) k) (entry_at es k)
        by (inl at) = subst (λ j. IsSameEntry (entry_at (set (es ++ e ∷ []) p f) j) (entry_at es j)) (sym at) (record {
          origin = ap origin_of here ∙ parent.origin;
          key = ap (λ x. x.key.0) here ∙ parent.key;
          block = ap (λ x. x.block.0) here ∙ parent.block;
          anchor = ap (λ x. x.anchor) here ∙ parent.anchor;
          four = ap (λ x. length x.children) here ∙ ap length parent.children ∙ length-set _ d _;
        })
        by (inr ne) = same_entry _ _ (there k h ne)

    children : (k c : ℕ) → k < length es → c < 4 → Turns (child_name (name_at ns k) c) (child_name (name_at ns p) d) (length es) (child_at es k c) (child_at (set (es ++ e ∷ []) p f) k c)
    children k c h low = by (cases_eq k p) (cases_eq c d)
      where
        parents : child_name (name_at ns k) c ≡ child_name (name_at ns p) d → (k ≡ p) × (c ≡ d)
        parents same =
            let parts = child_same (name_at ns k) (name_at ns p) c d same in
            (rows.table.once k p (omega arith) (omega arith) parts.0, parts.1)

        by : (k ≡ p) ⊎ (k ≡ p → ⊥) → (c ≡ d) ⊎ (c ≡ d → ⊥) → Turns (child_name (name_at ns k) c) (child_name (name_at ns p) d) (length es) (child_at es k c) (child_at (set (es ++ e ∷ []) p f) k c)
        by (inl at) (inl digit) =
            let four = rows.four p inside in
            placed (ap (λ j. child_name (name_at ns j) c) at ∙ ap (λ b. child_name (name_at ns p) b) digit)
            (ap (λ j. child_at (set (es ++ e ∷ []) p f) j c) at ∙ ap (λ b. child_at (set (es ++ e ∷ []) p f) p b) digit ∙ ap (λ x. get_or x.children d None) here ∙ ap (λ cs. get_or cs d None) parent.children ∙ get_or-set_same (entry_at es p).children d (Some (length es)) None (omega arith))
        by (inl at) (inr other) = kept (λ same. other (parents same).1)
            (ap (λ j. child_at (set (es ++ e ∷ []) p f) j c) at ∙ ap (λ x. get_or x.children c None) here ∙ ap (λ cs. get_or cs c None) parent.children ∙ get_or-set_other (entry_at es p).children d c (Some (length es)) None other ∙ ap (λ j. child_at es j c) (sym at))
        by (inr ne) digit = kept (λ same. ne (parents same).0) (ap (λ x. get_or x.children c None) (there k h ne))

-- the name of a child behind the others
pub put_child_names : (es ls : List Entry) (p d : ℕ) (e f : Entry) → ls ≡ es ++ e ∷ [] → p < length es → origin_of e ≡ Child d p → origin_of f ≡ origin_of (entry_at es p) → names_of (set ls p f) ≡ names_of es ++ child_name (name_at (names_of es) p) d ∷ []
put_child_names es ls p d e f pushed inside origin parent =
    ap (λ l. names_of (set l p f)) pushed
    ∙ names_of-set (es ++ e ∷ []) p f (parent ∙ ap origin_of (sym (entry_at-old es e p inside)))
    ∙ names_of-push es e ∙ ap (λ g. names_of es ++ name_from (names_of es) g ∷ []) origin

pub child_proper : (n : Name) (d : ℕ) → IsName n → d < 4 → depth n < MAX_DEPTH → IsName (child_name n d)
child_proper n d is small shallow = record {
  starts = is.starts;
  digit = All-push (λ c. c < 4) n.digits d is.digit small;
  shallow = omega (arith, length-append n.digits (d ∷ []));
}

pub put_child_rows : (es ls : List Entry) (ss : List (Option ℕ)) (p d : ℕ) (e f : Entry) → AreRows (names_of es) es ss → ls ≡ es ++ e ∷ [] → p < length es → d < 4 → depth (name_at (names_of es) p) < MAX_DEPTH → IsNewEntry (names_of es) e (Child d p) (child_name (name_at (names_of es) p) d) → IsParentEntry f (entry_at es p) d (length es) → IsAbsent (names_of es) (child_name (name_at (names_of es) p) d) → length (names_of es) + 1 < 2 ^ 32 → AreRows (names_of (set ls p f)) (set ls p f) ss
put_child_rows es ls ss p d e f rows pushed inside small shallow new parent absent few =
    let ns = names_of es in
    let n = child_name (name_at ns p) d in
    let proper = child_proper (name_at ns p) d (rows.table.proper p (start_name 0) (omega (arith, names_of-length es))) small shallow in
    let grown = rows_grow ns es (set (es ++ e ∷ []) p f) ss ss n rows (names_of-length es) proper absent few (child_grows es ss p d e f rows (names_of-length es) inside small new parent) in
    let names = put_child_names es (es ++ e ∷ []) p d e f refl inside new.origin parent.origin in
    subst (λ l. AreRows (names_of (set l p f)) (set l p f) ss) (sym pushed) (subst (λ ns. AreRows ns (set (es ++ e ∷ []) p f) ss) (sym names) grown)

-- places that are written none stay none
pub start_at-resized : (ss : List (Option ℕ)) (n k : ℕ) → length ss ≤ n → start_at (take n ss ++ replicate (n - length ss) None) k ≡ start_at ss k
start_at-resized ss n k h = rw (take_all n ss h) (by (cases_lt k (length ss)) (cases_lt k n))
  where
    by : (k < length ss) ⊎ (length ss ≤ k) → (k < n) ⊎ (n ≤ k) → start_at (ss ++ replicate (n - length ss) None) k ≡ start_at ss k
    by (inl low) c = get_or_append_left ss (replicate (n - length ss) None) None k low
    by (inr high) (inl low) = get_or-append_right ss (replicate (n - length ss) None) (length ss) k None refl high ∙ get_or-replicate (n - length ss) (k - length ss) None None (omega arith) ∙ sym (get_or_past ss k None high)
    by (inr high) (inr past) = get_or_past (ss ++ replicate (n - length ss) None) k None (omega (arith, length-append ss (replicate (n - length ss) None), let empty : Option ℕ = None in length-replicate (n - length ss) empty)) ∙ sym (get_or_past ss k None high)

pub start_at-after : (ok : Bool) (ss ss' : List (Option ℕ)) (n len : ℕ) (o : Option ℕ) → ss' ≡ cond ok (take n ss ++ replicate (n - len) o) ss → len ≡ length ss → o ≡ None → len < n → (k : ℕ) → start_at ss' k ≡ start_at ss k
start_at-after true ss ss' n len o is all e more k =
    ap (λ xs. start_at xs k) (is ∙ ap (λ l. take n ss ++ replicate (n - l) o) all ∙ ap (λ x. take n ss ++ replicate (n - length ss) x) e) ∙ start_at-resized ss n k (omega arith)
start_at-after false ss ss' n len o is all e more k = ap (λ xs. start_at xs k) is

pub rows_resized : {ns : List Name} (es : List Entry) (ss ss' : List (Option ℕ)) → AreRows ns es ss → ((k : ℕ) → start_at ss' k ≡ start_at ss k) → AreRows ns es ss'
rows_resized es ss ss' rows same = record {
  table = rows.table;
  named = rows.named;
  parents = rows.parents;
  keys = rows.keys;
  anchors = rows.anchors;
  blocks = rows.blocks;
  four = rows.four;
  children = rows.children;
  starts = λ k. rw (same k) (rows.starts k);
}
