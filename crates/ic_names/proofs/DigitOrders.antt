-- The order of digits, by anchors and blocks.
use Rattle.std.proofs.Common.{◌≡◌, ◌≢◌, ℕ, ◌<◌, List, [], ◌∷◌, ◌++◌, length, drop, refl, sym, ◌∙◌, ap, arith}
use Rattle.std.specs.declared.cmp.Ordering.{Ordering}
use Rattle.std.specs.declared.cmp.Ordering.TheVariants.{Less, Equal, Greater}
use Rattle.std.specs.Ordering.{nat_cmp, ordering_then}
use Rattle.std.specs.Cmp.Lexicographic.{slice_cmp}
use Rattle.std.proofs.lemmas.Cmp.{tied_itself, nat_list_cmp_total}
use Rattle.std.proofs.lemmas.List.{length-drop, take-append-drop}
use Rattle.std.proofs.lemmas.List.Elements.{All-drop}
use Rattle.ic_name.specs.Names.{Name, depth}
use Rattle.ic_name.proofs.NameOrder.{name_tied}
use Rattle.ic_names.specs.Keys.{IsProper}
use Rattle.ic_names.specs.Blocks.{anchor_depth, anchor_of, block_of}
use Rattle.ic_names.proofs.Fronts.{number_order}
use Rattle.ic_names.proofs.KeyOrders.{tied_order}
use Rattle.ic_names.proofs.Blocks.{anchor_deep}

-- three orders in a chain
then_assoc : (a b c : Ordering) → ordering_then (ordering_then a b) c ≡ ordering_then a (ordering_then b c)
then_assoc Less b c = refl
then_assoc Equal b c = refl
then_assoc Greater b c = refl

-- a chain that its first order decides
then_untied : (a b : Ordering) → a ≢ Equal → ordering_then a b ≡ a
then_untied Less b h = refl
then_untied Equal b h = absurd (h refl)
then_untied Greater b h = refl

-- lists in two parts, of which the first ones are of one length
slice_cmp-append : (xs ys us vs : List ℕ) → length xs ≡ length ys → slice_cmp nat_cmp (xs ++ us) (ys ++ vs) ≡ ordering_then (slice_cmp nat_cmp xs ys) (slice_cmp nat_cmp us vs)
slice_cmp-append [] [] us vs h = refl
slice_cmp-append [] (y ∷ ys) us vs h = absurd (omega arith)
slice_cmp-append (x ∷ xs) [] us vs h = absurd (omega arith)
slice_cmp-append (x ∷ xs) (y ∷ ys) us vs h =
    ap (λ o. ordering_then (nat_cmp x y) o) (slice_cmp-append xs ys us vs (omega arith)) ∙ sym (then_assoc (nat_cmp x y) (slice_cmp nat_cmp xs ys) (slice_cmp nat_cmp us vs))

-- the digits behind the anchor
abbrev tail_of : Name → List ℕ
tail_of n = drop (anchor_depth n) n.digits

-- names of one depth have anchors of one depth
pub anchors_deep : (a b : Name) → depth a ≡ depth b → depth (anchor_of a) ≡ depth (anchor_of b)
anchors_deep a b deep = anchor_deep a ∙ omega (arith, deep) ∙ sym (anchor_deep b)

-- the order of digits is that of the anchors, and then of what is behind them
parts_order : (a b : Name) → depth a ≡ depth b → slice_cmp nat_cmp a.digits b.digits ≡ ordering_then (slice_cmp nat_cmp (anchor_of a).digits (anchor_of b).digits) (slice_cmp nat_cmp (tail_of a) (tail_of b))
parts_order a b deep =
    ap (λ xs. slice_cmp nat_cmp xs b.digits) (sym (take-append-drop (anchor_depth a) a.digits))
    ∙ ap (λ ys. slice_cmp nat_cmp ((anchor_of a).digits ++ tail_of a) ys) (sym (take-append-drop (anchor_depth b) b.digits))
    ∙ slice_cmp-append (anchor_of a).digits (anchor_of b).digits (tail_of a) (tail_of b) (anchors_deep a b deep)

-- where the anchors differ, they decide
pub anchors_decide : (a b : Name) → a.start ≡ b.start → depth a ≡ depth b → anchor_of a ≢ anchor_of b → slice_cmp nat_cmp (anchor_of a).digits (anchor_of b).digits ≡ slice_cmp nat_cmp a.digits b.digits
anchors_decide a b start deep apart =
    let untied = then_untied _ (slice_cmp nat_cmp (tail_of a) (tail_of b)) (λ tied. apart (name_tied (anchor_of a) (anchor_of b) (sym (tied_order (anchor_of a) (anchor_of b) (anchors_deep a b deep) start) ∙ tied))) in
    sym (parts_order a b deep ∙ untied)

-- where they are one, the blocks do
pub blocks_decide : (a b : Name) → IsProper a → IsProper b → depth a ≡ depth b → anchor_of a ≡ anchor_of b → nat_cmp (block_of a) (block_of b) ≡ slice_cmp nat_cmp a.digits b.digits
blocks_decide a b is_a is_b deep same =
    let tied : slice_cmp nat_cmp (anchor_of a).digits (anchor_of b).digits ≡ Equal = ap (λ n. slice_cmp nat_cmp (anchor_of a).digits n.digits) (sym same) ∙ tied_itself nat_list_cmp_total (anchor_of a).digits in
    let long : length (tail_of a) ≡ length (tail_of b) = omega (arith, length-drop (anchor_depth a) a.digits, length-drop (anchor_depth b) b.digits, deep) in
    number_order (tail_of a) (tail_of b) (All-drop (λ d. d < 4) (anchor_depth a) a.digits is_a.digit) (All-drop (λ d. d < 4) (anchor_depth b) b.digits is_b.digit) long
    ∙ sym (parts_order a b deep ∙ ap (λ o. ordering_then o (slice_cmp nat_cmp (tail_of a) (tail_of b))) tied)
