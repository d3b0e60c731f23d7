-- Names by slots and others: what stays found.
use Rattle.std.proofs.Common.{◌≡◌, ℕ, suc, ◌+◌, ◌<◌, Bool, true, false, cond, nat_eq, List, [], ◌∷◌, ◌++◌, length, get_or, Option, Some, None, refl, sym, ap, ◌∙◌, arith, length-append}
use Rattle.std.proofs.lemmas.List.{get_or-map}
use Rattle.std.proofs.Math.ListN.{get_or-append}
use Rattle.std.specs.Prelude.{is_some, IfSome}
use Rattle.std.proofs.Math.Seq.{get_or-append_seam}
use Rattle.std.proofs.lemmas.Bool.{eq-eqb, eqb-true, false_from_ne_true}
use Rattle.std.specs.Str.{bytes_eq}
use Rattle.std.proofs.lemmas.Slice.Eq.{bytes_eq-Decides}
use Rattle.ic_text.proofs.Distinct.{bytes_eq_comm}
use Rattle.ic_slots.specs.Slots.{slot_of, Gives}
use Rattle.ic_text.specs.Names.{Entry, enter, place}
use Rattle.ic_text.specs.NameSlots.{slot_for, texts, text_at, found, IsKept, Finds}
use Rattle.ic_text.proofs.Table.{next_some, next_none, texts_are, is_new, length_names}
use Rattle.ic_text.specs.Table.{name_of, names_of}
use Rattle.ic_text.specs.declared.seen.Seen.{Seen}

-- a name that has occurred keeps the texts
texts_kept : (x : List ℕ) (o i : ℕ) (ns : List Entry) → place x ns ≡ Some i → texts (enter x o ns) ≡ texts ns
texts_kept x o i [] h = absurd cc
texts_kept x o i (n ∷ ns) h = by_test (bytes_eq x n.text) refl (λ j. texts_kept x o j ns)
  where
    by_test : (t : Bool) → bytes_eq x n.text ≡ t → ((j : ℕ) → place x ns ≡ Some j → texts (enter x o ns) ≡ texts ns) → texts (enter x o (n ∷ ns)) ≡ texts (n ∷ ns)
    by_test true e ih = rw e refl
    by_test false e ih =
        let k = next_some (place x ns) i (rw e at h) in
        rw e (ap (λ (ts : List (List ℕ)). n.text ∷ ts) (ih k.0 k.1))

-- where the texts are the same, each name has its place
place_by_texts : (y : List ℕ) (ns ms : List Entry) → texts ns ≡ texts ms → place y ns ≡ place y ms
place_by_texts y [] [] h = refl
place_by_texts y [] (m ∷ ms) h = absurd cc
place_by_texts y (n ∷ ns) [] h = absurd cc
place_by_texts y (n ∷ ns) (m ∷ ms) h =
    let e : n.text ≡ m.text = cc in
    let r = place_by_texts y ns ms cc in
    rw (e, r) refl

-- as many texts as names
length_texts : (ns : List Entry) → length (texts ns) ≡ length ns
length_texts [] = refl
length_texts (n ∷ ns) = ap suc (length_texts ns)

-- what is found of a name goes by the texts
found_by_texts : (y : List ℕ) (ns ms : List Entry) (h w : Option ℕ) → texts ns ≡ texts ms → found y ns h w ≡ found y ms h w
found_by_texts y ns ms None w e = refl
found_by_texts y ns ms (Some j) w e = ap (λ (ts : List (List ℕ)). cond (bytes_eq y (get_or ts j [])) (Some j) w) e

-- one more occurrence of a name
pub finds_again : (x : List ℕ) (o i : ℕ) (ns : List Entry) (slots : List (Option ℕ)) (other : List ℕ → Option ℕ) → place x ns ≡ Some i → Finds ns slots other → Finds (enter x o ns) slots other
finds_again x o i ns slots other h f =
    let e = texts_kept x o i ns h in
    let l : length (enter x o ns) ≡ length ns = sym (length_texts (enter x o ns)) ∙ ap length e ∙ length_texts ns in
    record {
      some = f.some;
      held = λ k j g. rw l (f.held k j g);
      others = f.others;
      all = λ y. found_by_texts y (enter x o ns) ns _ _ e ∙ f.all y ∙ sym (place_by_texts y (enter x o ns) ns e);
    }

-- a new name's text comes last
pub texts_more : (x : List ℕ) (o : ℕ) (ns : List Entry) → place x ns ≡ None → texts (enter x o ns) ≡ texts ns ++ x ∷ []
texts_more x o [] h = refl
texts_more x o (n ∷ ns) h = by_test (bytes_eq x n.text) refl (texts_more x o ns)
  where
    by_test : (t : Bool) → bytes_eq x n.text ≡ t → (place x ns ≡ None → texts (enter x o ns) ≡ texts ns ++ x ∷ []) → texts (enter x o (n ∷ ns)) ≡ texts (n ∷ ns) ++ x ∷ []
    by_test true e ih = absurd (let k = rw e at h in cc)
    by_test false e ih = rw e (ap (λ (ts : List (List ℕ)). n.text ∷ ts) (ih (next_none (place x ns) (rw e at h))))

-- where a name comes last, what a slot held finds what it found
found_kept : (x y : List ℕ) (ns ms : List Entry) (h w : Option ℕ) → texts ms ≡ texts ns ++ x ∷ [] → ((i : ℕ) → h ≡ Some i → i < length ns) → found y ms h w ≡ found y ns h w
found_kept x y ns ms None w e k = refl
found_kept x y ns ms (Some j) w e k =
    let b : j < length (texts ns) = rw (length_texts ns) (k j refl) in
    ap (λ (t : List ℕ). cond (bytes_eq y t) (Some j) w) (ap (λ (ts : List (List ℕ)). get_or ts j []) e ∙ get_or-append (texts ns) (x ∷ []) [] j b)

-- the text of the name that comes last
last_text : (x : List ℕ) (ns ms : List Entry) → texts ms ≡ texts ns ++ x ∷ [] → text_at ms (length ns) ≡ x
last_text x ns ms e =
    ap (λ (ts : List (List ℕ)). get_or ts (length ns) []) e
    ∙ ap (λ (k : ℕ). get_or (texts ns ++ x ∷ []) k []) (sym (length_texts ns))
    ∙ get_or-append_seam (texts ns) x [] []

-- one name more
one_more : (x : List ℕ) (ns ms : List Entry) → texts ms ≡ texts ns ++ x ∷ [] → length ms ≡ length ns + 1
one_more x ns ms e =
    let a = length_texts ms in
    let b = length_texts ns in
    let c = ap length e in
    let d = length-append (texts ns) (x ∷ []) in
    omega (arith, a, b, c, d)

-- a slot that is given a number
given : (k n j : ℕ) (slots slots' : List (Option ℕ)) → Gives k (Some n) slots slots' → (t : Bool) → nat_eq j k ≡ t → slot_of slots' j ≡ cond t (Some n) (slot_of slots j)
given k n j slots slots' g t e = g j ∙ ap (λ (b : Bool). cond b (Some n) (slot_of slots j)) e

-- names that are the same come to one slot
one_slot : (x y : List ℕ) (l : ℕ) → nat_eq (slot_for y l) (slot_for x l) ≡ false → bytes_eq x y ≡ false
one_slot x y l h = false_from_ne_true (bytes_eq x y) (λ e.
    let q = (bytes_eq-Decides x y).0 e in
    let r : nat_eq (slot_for y l) (slot_for x l) ≡ true = eq-eqb _ _ (ap (λ (w : List ℕ). slot_for w l) (sym q)) in
    absurd (let m = sym r ∙ h in cc))

-- a new name, whose number was kept
pub finds_more : (x : List ℕ) (ns ms : List Entry) (slots slots' : List (Option ℕ)) (other other' : List ℕ → Option ℕ) → place x ns ≡ None → texts ms ≡ texts ns ++ x ∷ [] → ((y : List ℕ) → place y ms ≡ cond (bytes_eq x y) (Some (length ns)) (place y ns)) → Finds ns slots other → IsKept (slot_of slots (slot_for x (length slots))) (slot_for x (length slots)) x (length ns) slots slots' other other' → Finds ms slots' other'
finds_more x ns ms slots slots' other other' new e places f kept = by_held (slot_of slots (slot_for x (length slots))) refl kept
  where
    more : length ms ≡ length ns + 1
    more = one_more x ns ms e

    home : List ℕ → ℕ
    home y = slot_for y (length slots)

    in_slot : slot_of slots (home x) ≡ None → Gives (home x) (Some (length ns)) slots slots' → length slots' ≡ length slots → ((y : List ℕ) → other' y ≡ other y) → Finds ms slots' other'
    in_slot empty g l o = record {
      some = rw l f.some;
      held = λ j i h. held_by j i (nat_eq j (home x)) refl h;
      others = λ y h. o y ∙ others_by y (nat_eq (home y) (home x)) refl (rw l at h);
      all = λ y. ap (λ (k : ℕ). found y ms (slot_of slots' (slot_for y k)) (other' y)) l ∙ all_by y (nat_eq (home y) (home x)) refl;
    }
      where
        held_by : (j i : ℕ) (t : Bool) → nat_eq j (home x) ≡ t → slot_of slots' j ≡ Some i → i < length ms
        held_by j i true q h = let r : length ns ≡ i = let s = sym (given (home x) (length ns) j slots slots' g true q) ∙ h in cc in omega (arith, r, more)
        held_by j i false q h = let r = f.held j i (sym (given (home x) (length ns) j slots slots' g false q) ∙ h) in omega (arith, r, more)

        others_by : (y : List ℕ) (t : Bool) → nat_eq (home y) (home x) ≡ t → slot_of slots' (home y) ≡ None → other y ≡ None
        others_by y true q h = absurd (let s = sym (given (home x) (length ns) (home y) slots slots' g true q) ∙ h in cc)
        others_by y false q h = f.others y (sym (given (home x) (length ns) (home y) slots slots' g false q) ∙ h)

        all_by : (y : List ℕ) (t : Bool) → nat_eq (home y) (home x) ≡ t → found y ms (slot_of slots' (home y)) (other' y) ≡ place y ms
        all_by y true q =
            let same : slot_of slots (home y) ≡ None = ap (slot_of slots) (eqb-true _ _ q) ∙ empty in
            let none : other' y ≡ None = o y ∙ f.others y same in
            let gone : place y ns ≡ None = sym (f.all y) ∙ ap (λ (w : Option ℕ). found y ns w (other y)) same in
            ap (λ (w : Option ℕ). found y ms w (other' y)) (given (home x) (length ns) (home y) slots slots' g true q)
            ∙ ap (λ (t : List ℕ). cond (bytes_eq y t) (Some (length ns)) (other' y)) (last_text x ns ms e)
            ∙ ap (λ (b : Bool). cond b (Some (length ns)) (other' y)) (bytes_eq_comm y x)
            ∙ ap (λ (w : Option ℕ). cond (bytes_eq x y) (Some (length ns)) w) (none ∙ sym gone)
            ∙ sym (places y)
        all_by y false q =
            let apart = one_slot x y (length slots) q in
            ap (λ (w : Option ℕ). found y ms w (other' y)) (given (home x) (length ns) (home y) slots slots' g false q)
            ∙ ap (λ (w : Option ℕ). found y ms (slot_of slots (home y)) w) (o y)
            ∙ found_kept x y ns ms (slot_of slots (home y)) (other y) e (f.held (home y))
            ∙ f.all y
            ∙ sym (places y ∙ ap (λ (b : Bool). cond b (Some (length ns)) (place y ns)) apart)

    among : (j : ℕ) → slot_of slots (home x) ≡ Some j → slots' ≡ slots → ((y : List ℕ) → other' y ≡ cond (bytes_eq x y) (Some (length ns)) (other y)) → Finds ms slots' other'
    among j taken same o = rw same (record {
      some = f.some;
      held = λ k i h. let r = f.held k i h in omega (arith, r, more);
      others = λ y h. others_by y (bytes_eq x y) refl h;
      all = λ y. all_by y (bytes_eq x y) refl;
    })
      where
        others_by : (y : List ℕ) (t : Bool) → bytes_eq x y ≡ t → slot_of slots (home y) ≡ None → other' y ≡ None
        others_by y true q h = absurd (let r = ap (λ (w : List ℕ). slot_of slots (home w)) ((bytes_eq-Decides x y).0 q) in let s = sym taken ∙ r ∙ h in cc)
        others_by y false q h = o y ∙ ap (λ (b : Bool). cond b (Some (length ns)) (other y)) q ∙ f.others y h

        apart : bytes_eq x (text_at ns j) ≡ false
        apart = false_from_ne_true (bytes_eq x (text_at ns j)) (λ q.
            let r : place x ns ≡ Some j =
            sym (f.all x) ∙ ap (λ (w : Option ℕ). found x ns w (other x)) taken
            ∙ ap (λ (b : Bool). cond b (Some j) (other x)) q in
            absurd (let s = sym r ∙ new in cc))

        all_by : (y : List ℕ) (t : Bool) → bytes_eq x y ≡ t → found y ms (slot_of slots (home y)) (other' y) ≡ place y ms
        all_by y true q =
            let r : slot_of slots (home y) ≡ Some j = sym (ap (λ (w : List ℕ). slot_of slots (home w)) ((bytes_eq-Decides x y).0 q)) ∙ taken in
            let a : bytes_eq y (text_at ns j) ≡ false = ap (λ (w : List ℕ). bytes_eq w (text_at ns j)) (sym ((bytes_eq-Decides x y).0 q)) ∙ apart in
            found_kept x y ns ms (slot_of slots (home y)) (other' y) e (f.held (home y))
            ∙ ap (λ (w : Option ℕ). found y ns w (other' y)) r
            ∙ ap (λ (b : Bool). cond b (Some j) (other' y)) a
            ∙ o y
            ∙ ap (λ (b : Bool). cond b (Some (length ns)) (other y)) q
            ∙ sym (places y ∙ ap (λ (b : Bool). cond b (Some (length ns)) (place y ns)) q)
        all_by y false q =
            found_kept x y ns ms (slot_of slots (home y)) (other' y) e (f.held (home y))
            ∙ ap (λ (w : Option ℕ). found y ns (slot_of slots (home y)) w) (o y ∙ ap (λ (b : Bool). cond b (Some (length ns)) (other y)) q)
            ∙ f.all y
            ∙ sym (places y ∙ ap (λ (b : Bool). cond b (Some (length ns)) (place y ns)) q)

    by_held : (h : Option ℕ) → slot_of slots (home x) ≡ h → IsKept h (home x) x (length ns) slots slots' other other' → Finds ms slots' other'
    by_held None h k = in_slot h k.0 k.1 k.2
    by_held (Some j) h k = among j h k.0 k.1

-- what is found is the name's place
pub looks : (x : List ℕ) (ss ns : List Seen) (slots : List (Option ℕ)) (other : List ℕ → Option ℕ) (l k : ℕ) (held r : Option ℕ) → Finds (names_of ns) slots other → ss ≡ ns → l ≡ length slots → k ≡ slot_for x l → held ≡ slot_of slots k → r ≡ found x (names_of ss) held (other x) → place x (names_of ns) ≡ r
looks x ss ns slots other l k held r f e a b c d =
    sym (d ∙ ap (λ (w : List Seen). found x (names_of w) held (other x)) e ∙ ap (λ (w : Option ℕ). found x (names_of ns) w (other x)) (c ∙ ap (slot_of slots) (b ∙ ap (slot_for x) a)) ∙ f.all x)

-- a new name, whose number was kept in a slot or among the others
pub finds_new : (x : List ℕ) (o : ℕ) (ns : List Seen) (s : Seen) (l k n : ℕ) (slots slots' : List (Option ℕ)) (other other' : List ℕ → Option ℕ) → place x (names_of ns) ≡ None → name_of s ≡ record { text = x; first = o; times = 1 } → Finds (names_of ns) slots other → l ≡ length slots → k ≡ slot_for x l → n ≡ length ns → IsKept (slot_of slots k) k x n slots slots' other other' → Finds (names_of (ns ++ s ∷ [])) slots' other'
finds_new x o ns s l k n slots slots' other other' new e f a b c kept =
    let m = is_new x ns new in
    let w = m.more o s e in
    let t = sym (ap (λ (ms : List Entry). texts ms) w) ∙ texts_more x o (names_of ns) new in
    let q : k ≡ slot_for x (length slots) = b ∙ ap (slot_for x) a in
    let z : n ≡ length (names_of ns) = c ∙ sym (length_names ns) in
    finds_more x (names_of ns) (names_of (ns ++ s ∷ [])) slots slots' other other' new t
    (λ y. sym (ap (place y) w) ∙ m.places o y ∙ ap (λ (i : ℕ). cond (bytes_eq x y) (Some i) (place y (names_of ns))) (sym (length_names ns)))
    f (rw (q, z) at kept)

-- the text that a number has
text_of : (ns : List Seen) (j : ℕ) (d : Seen) → j < length ns → text_at (names_of ns) j ≡ (get_or ns j d).text.now
text_of ns j d h = ap (λ (ts : List (List ℕ)). get_or ts j []) (texts_are ns) ∙ get_or-map (λ n. n.text.now) ns j d [] h

-- what a slot with a number finds
pub found_at : (x : List ℕ) (ns : List Seen) (held w : Option ℕ) (j : ℕ) (d : Seen) (b : Bool) → held ≡ Some j → j < length ns → b ≡ bytes_eq (get_or ns j d).text.now x → found x (names_of ns) held w ≡ cond b (Some j) w
found_at x ns held w j d b e h t =
    ap (λ (o : Option ℕ). found x (names_of ns) o w) e
    ∙ ap (λ (y : List ℕ). cond (bytes_eq x y) (Some j) w) (text_of ns j d h)
    ∙ ap (λ (c : Bool). cond c (Some j) w) (bytes_eq_comm x (get_or ns j d).text.now ∙ sym t)

-- a number that is kept among the others
pub keeps_among : (held g : Option ℕ) (k : ℕ) (x : List ℕ) (n : ℕ) (slots : List (Option ℕ)) (other other' : List ℕ → Option ℕ) → g ≡ held → is_some g ≡ true → ((y : List ℕ) → other' y ≡ cond (bytes_eq x y) (Some n) (other y)) → IsKept held k x n slots slots other other'
keeps_among None g k x n slots other other' e h o = absurd (let s = sym (ap is_some e) ∙ h in cc)
keeps_among (Some j) g k x n slots other other' e h o = (refl, o)

-- a number that a slot holds
pub held_within : (ns : List Seen) (slots : List (Option ℕ)) (other : List ℕ → Option ℕ) (k : ℕ) → Finds (names_of ns) slots other → IfSome (slot_of slots k) (λ i. i < length ns)
held_within ns slots other k f = by_held (slot_of slots k) refl
  where
    by_held : (h : Option ℕ) → slot_of slots k ≡ h → IfSome h (λ i. i < length ns)
    by_held None e = tt
    by_held (Some i) e = rw (sym (length_names ns)) (f.held k i e)
