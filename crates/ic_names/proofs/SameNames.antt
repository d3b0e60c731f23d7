-- Whether two names are one, by anchors and blocks.
use Rattle.std.proofs.Common.{◌≡◌, ℕ, ◌+◌, ◌-◌, ◌*◌, ◌/◌, ◌<◌, ◌≤◌, ◌↔◌, take, drop, sym, ◌∙◌, ap, arith}
use Rattle.std.proofs.lemmas.List.{length-take-le, take-take, drop-take}
use Rattle.std.proofs.lemmas.List.Elements.{All-take}
use Rattle.ic_name.specs.Names.{Name, depth}
use Rattle.ic_name.proofs.NameOrder.{name_tied}
use Rattle.ic_names.specs.Keys.{IsProper}
use Rattle.ic_names.specs.Blocks.{anchor_depth, anchor_of, number_of, block_of}
use Rattle.ic_names.proofs.Fronts.{nat_tied}
use Rattle.ic_names.proofs.KeyOrders.{tied_order}
use Rattle.ic_names.proofs.Fronted.{front_name}
use Rattle.ic_names.proofs.DigitOrders.{blocks_decide}

-- an ancestor has a start number and digits as the name has them
front_proper : (n : Name) (k : ℕ) → IsProper n → IsProper (front_name n k)
front_proper n k is = record { starts = is.starts; digit = All-take (λ d. d < 4) k n.digits is.digit }

-- its depth
front_deep : (n : Name) (k : ℕ) → k ≤ depth n → depth (front_name n k) ≡ k
front_deep n k low = length-take-le k n.digits low

front_anchored : (n : Name) (k first : ℕ) → k ≤ depth n → first ≡ (k - 1) / 32 * 32 → anchor_depth (front_name n k) ≡ first
front_anchored n k first low is = omega (arith, front_deep n k low)

-- its anchor
front_anchor : (n : Name) (k first : ℕ) → k ≤ depth n → first ≡ (k - 1) / 32 * 32 → anchor_of (front_name n k) ≡ front_name n first
front_anchor n k first low is =
    ap (λ i. record { start = n.start; digits = take i (take k n.digits) }) (front_anchored n k first low is)
    ∙ ap (λ ds. record { start = n.start; digits = ds }) (take-take first k n.digits (omega arith))

-- its block
front_block : (n : Name) (k first : ℕ) → k ≤ depth n → first ≡ (k - 1) / 32 * 32 → block_of (front_name n k) ≡ number_of (take (k - first) (drop first n.digits))
front_block n k first low is =
    let sum : k ≡ first + (k - first) = omega arith in
    ap (λ i. number_of (drop i (take k n.digits))) (front_anchored n k first low is)
    ∙ ap (λ i. number_of (drop first (take i n.digits))) sum ∙ ap number_of (drop-take first (k - first) n.digits)

-- names of one depth, one anchor and one block are one name
one_name : (a b : Name) → IsProper a → IsProper b → depth a ≡ depth b → anchor_of a ≡ anchor_of b → block_of a ≡ block_of b → a ≡ b
one_name a b is_a is_b deep anchors blocks =
    let start : a.start ≡ b.start = ap (λ m. m.start) anchors in
    name_tied a b (sym (tied_order a b deep start) ∙ sym (blocks_decide a b is_a is_b deep anchors) ∙ nat_tied _ _ blocks)

-- so where the blocks are one, the names are one if the anchors are, and only then
pub anchors_same : (m n up : Name) (k first : ℕ) → IsProper m → IsProper n → k ≡ depth m → k ≤ depth n → first ≡ (k - 1) / 32 * 32
    → block_of m ≡ number_of (take (k - first) (drop first n.digits)) → up ≡ anchor_of m → (m ≡ front_name n k) ↔ (up ≡ front_name n first)
anchors_same m n up k first is_m is_n deep low is block above = (down, back)
  where
    down : m ≡ front_name n k → up ≡ front_name n first
    down e = above ∙ ap anchor_of e ∙ front_anchor n k first low is

    back : up ≡ front_name n first → m ≡ front_name n k
    back e = one_name m (front_name n k) is_m (front_proper n k is_n) (sym deep ∙ sym (front_deep n k low)) (sym above ∙ e ∙ sym (front_anchor n k first low is)) (block ∙ sym (front_block n k first low is))
