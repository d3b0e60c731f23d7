-- A table that grows by a name and its ancestors.
use Rattle.std.proofs.Common.{◌≡◌, ℕ, ◌+◌, ◌≤◌, List, [], ◌∷◌, ◌++◌, length, drop, refl, sym, ◌∙◌, ap, subst, arith, append_assoc, append-nil, length-append}
use Rattle.std.proofs.lemmas.List.{take-append-drop, get_or_append_left}
use Rattle.std.proofs.lemmas.List.Elements.{All-nil, All-push}
use Rattle.ic_name.specs.Names.{Name, start_name}
use Rattle.ic_names.specs.Tables.{StandsAt, IsTable, Enters, was, is_new, IsUpTo, GrowsUpTo}
use Rattle.ic_names.proofs.Fronted.{front_name}

-- an ancestor of a name
pub front_up_to : (n : Name) (i : ℕ) → IsUpTo (front_name n i) n
front_up_to n i = record { start = refl; behind = drop i n.digits; digits = sym (take-append-drop i n.digits) }

-- nothing more
pub grows_none : (old : List Name) (n : Name) → GrowsUpTo old n old
grows_none old n = record { more = []; behind = sym (append-nil old); each = All-nil (λ m. IsUpTo m n) }

-- one ancestor more, or none
pub grows_more : (old mid new : List Name) (n m : Name) → GrowsUpTo old n mid → IsUpTo m n → Enters mid m new → GrowsUpTo old n new
grows_more old mid new n m grown up (was k stands same) = subst (λ ns. GrowsUpTo old n ns) (sym same) grown
grows_more old mid new n m grown up (is_new absent more) = record {
  more = grown.more ++ m ∷ [];
  behind = more ∙ ap (λ ns. ns ++ m ∷ []) grown.behind ∙ append_assoc old grown.more (m ∷ []);
  each = All-push (λ a. IsUpTo a n) grown.more m grown.each up;
}

-- at most one name more
pub enters_length : (old : List Name) (n : Name) (new : List Name) → Enters old n new → length new ≤ length old + 1
enters_length old n new (was k stands same) = omega (arith, ap length same)
enters_length old n new (is_new absent more) = omega (arith, ap length more, length-append old (n ∷ []))

-- with more names behind, what stood stands
pub stands_longer : (ns more : List Name) (m : Name) (k : ℕ) → StandsAt ns m k → StandsAt (ns ++ more) m k
stands_longer ns more m k stands =
    let low = stands.within in
    record { within = omega (arith, length-append ns more); named = get_or_append_left ns more (start_name 0) k low ∙ stands.named }

pub entered_keeps : (old new : List Name) (n m : Name) (k : ℕ) → Enters old n new → StandsAt old m k → StandsAt new m k
entered_keeps old new n m k (was j there same) stands = subst (λ ns. StandsAt ns m k) (sym same) stands
entered_keeps old new n m k (is_new absent more) stands = subst (λ ns. StandsAt ns m k) (sym more) (stands_longer old (n ∷ []) m k stands)

pub grown_keeps : (old new : List Name) (n m : Name) (k : ℕ) → GrowsUpTo old n new → StandsAt old m k → StandsAt new m k
grown_keeps old new n m k grown stands = subst (λ ns. StandsAt ns m k) (sym grown.behind) (stands_longer old grown.more m k stands)

-- a name of a table has one place
pub one_place : (ns : List Name) (n : Name) (j k : ℕ) → IsTable ns → StandsAt ns n j → StandsAt ns n k → j ≡ k
one_place ns n j k table a b = table.once j k a.within b.within (a.named ∙ sym b.named)
