-- The wires between free names, entered one by one, and their lines.
use Rattle.std.proofs.Common.{◌≡◌, ℕ, true, false, List, [], ◌∷◌, ◌++◌, ◌+◌, ◌<◌, length, get_or, take, map, refl, ap, ◌∙◌, sym}
use Rattle.std.specs.Prelude.{Option, Some, None}
use Rattle.std.specs.Borrow.{Bor}
use Rattle.std.specs.BTreeMap.{insert_entry}
use Rattle.std.specs.Cmp.Lexicographic.{slice_cmp, slice_partial_cmp, lists_agrees}
use Rattle.std.specs.List.{cons_option, filter_map, fold}
use Rattle.std.specs.Ordering.{is_lt, is_some_and, match_ordering, nat_cmp}
use Rattle.std.specs.declared.cmp.Ordering.{Ordering}
use Rattle.std.specs.declared.cmp.Ordering.TheVariants.{Less, Equal, Greater}
use Rattle.std.proofs.lemmas.List.{map_more}
use Rattle.std.proofs.lemmas.List.Elements.{filter_map-append}
use Rattle.std.proofs.lemmas.List.Sums.{fold-append}
use Rattle.ic_name.specs.declared.ports.Port.{Port}
use Rattle.ic_name.specs.declared.ports.Port.TheVariants as port
use Rattle.ic_text.specs.Lines.{lent_texts, with_free_wire}
use Rattle.ic_text.specs.NetText.{free_wire, free_wires, name_text}
use Rattle.ic_name.specs.Names.{Name}
use Rattle.ic_net.specs.Placed.{free_at}
use Rattle.ic_net.specs.declared.sheet.placed.PlacedPort.{PlacedPort}

-- the map of texts that are lent orders them as the definition does
pub lent_insert : (es : List (Bor (List ℕ) × Bor (List ℕ))) (k v : Bor (List ℕ)) → map lent_texts (insert_entry (λ x y. slice_cmp nat_cmp x.now y.now) es k v) ≡ insert_entry (slice_cmp nat_cmp) (map lent_texts es) k.now v.now
lent_insert [] k v = refl
lent_insert (e ∷ es) k v = by_order (slice_cmp nat_cmp k.now e.0.now) (lent_insert es k v) where
  by_order : (o : Ordering) → map lent_texts (insert_entry (λ x y. slice_cmp nat_cmp x.now y.now) es k v) ≡ insert_entry (slice_cmp nat_cmp) (map lent_texts es) k.now v.now
      → map lent_texts (match_ordering o ((k, v) ∷ e ∷ es) ((e.0, v) ∷ es) (e ∷ insert_entry (λ x y. slice_cmp nat_cmp x.now y.now) es k v)) ≡ match_ordering o ((k.now, v.now) ∷ map lent_texts (e ∷ es)) ((e.0.now, v.now) ∷ map lent_texts es) (lent_texts e ∷ insert_entry (slice_cmp nat_cmp) (map lent_texts es) k.now v.now)
  by_order Less h = refl
  by_order Equal h = refl
  by_order Greater h = ap (λ t. lent_texts e ∷ t) h

-- the test `<` of texts
pub text_lt : (near far : List ℕ) → is_some_and is_lt (slice_partial_cmp (λ x y. Some (nat_cmp x y)) near far) ≡ is_lt (slice_cmp nat_cmp near far)
text_lt near far = ap (is_some_and is_lt) (lists_agrees (λ x y. refl) near far)

-- a loose name with the lesser text enters its wire
pub free_entered : (names : List (List ℕ)) (es : List (List ℕ × List ℕ)) (j m : ℕ) (p : Port) (near far : List ℕ) → p ≡ port.Name m → near ≡ name_text names j → far ≡ name_text names m → is_lt (slice_cmp nat_cmp near far) ≡ true → insert_entry (slice_cmp nat_cmp) es near far ≡ with_free_wire names es (j, p)
free_entered names es j m p near far partner n f less =
    let less' : is_lt (slice_cmp nat_cmp (name_text names j) (name_text names m)) ≡ true = rw (n, f) at less in
    let wire : free_wire names (j, port.Name m) ≡ Some (name_text names j, name_text names m) = rw less' refl in
    let enter = λ (o : Option (List ℕ × List ℕ)). fold (λ es x. insert_entry (slice_cmp nat_cmp) es x.0 x.1) es (cons_option o []) in
    rw (n, f, partner) (sym (ap enter wire))

-- one with the greater text enters none
pub free_passed : (names : List (List ℕ)) (es : List (List ℕ × List ℕ)) (j m : ℕ) (p : Port) (near far : List ℕ) → p ≡ port.Name m → near ≡ name_text names j → far ≡ name_text names m → is_lt (slice_cmp nat_cmp near far) ≡ false → es ≡ with_free_wire names es (j, p)
free_passed names es j m p near far partner n f less =
    let less' : is_lt (slice_cmp nat_cmp (name_text names j) (name_text names m)) ≡ false = rw (n, f) at less in
    let wire : free_wire names (j, port.Name m) ≡ None = rw less' refl in
    let enter = λ (o : Option (List ℕ × List ℕ)). fold (λ es x. insert_entry (slice_cmp nat_cmp) es x.0 x.1) es (cons_option o []) in
    rw partner (sym (ap enter wire))

-- one loose name more
pub free_wires_more : (names : List (List ℕ)) (fs : List (ℕ × Port)) (f : ℕ × Port) → free_wires names (fs ++ f ∷ []) ≡ with_free_wire names (free_wires names fs) f
free_wires_more names fs f = ap (fold _ []) (filter_map-append (free_wire names) fs (f ∷ [])) ∙ fold-append _ [] (filter_map (free_wire names) fs) (filter_map (free_wire names) (f ∷ []))

-- a turn of the loop over loose names
pub free_turn : (ns : List Name) (names : List (List ℕ)) (fs : List (ℕ × PlacedPort)) (i : ℕ) (d : ℕ × PlacedPort) (es es' : List (List ℕ × List ℕ)) → i < length fs
    → es ≡ free_wires names (map (free_at ns) (take i fs)) → es' ≡ with_free_wire names es (free_at ns (get_or fs i d)) → es' ≡ free_wires names (map (free_at ns) (take (i + 1) fs))
free_turn ns names fs i d es es' within so_far entered =
    let shown = free_at ns in
    let f = get_or fs i d in
    entered ∙ ap (λ x. with_free_wire names x (shown f)) so_far ∙ sym (ap (free_wires names) (map_more shown fs i d within) ∙ free_wires_more names (map shown (take i fs)) (shown f))
