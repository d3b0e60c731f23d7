-- Where the names of entries come from.
use Rattle.std.proofs.Common.{◌≡◌, ◌≢◌, ℕ, suc, ◌-◌, ◌<◌, [], ◌∷◌, length-append, refl, ◌∙◌, ap, arith}
use Rattle.std.proofs.lemmas.List.Elements.{All-nil, All-push}
use Rattle.ic_name.specs.declared.limits.TheConstants.{MAX_START_AGENTS}
use Rattle.ic_name.specs.Names.{Name, depth, start_name, child_name}
use Rattle.ic_names.specs.declared.entry.Origin.TheVariants.{Start, Child}
use Rattle.ic_names.specs.declared.entry.Entry.{Entry}
use Rattle.ic_names.specs.Keys.{IsProper, key_of, depth_in, start_in}
use Rattle.ic_names.specs.Blocks.{block_of, last_of}
use Rattle.ic_names.specs.Rows.{origin_from, origin_of}
use Rattle.ic_names.proofs.KeyOrders.{key_depth, key_start_number}
use Rattle.ic_names.proofs.Blocks.{block-child_last}

-- the entry of a name without digits
pub told_start : (e : Entry) (n : Name) (s : ℕ) → IsProper n → e.key.0 ≡ key_of n → depth n ≡ 0 → n.start ≡ s → origin_of e ≡ Start s
told_start e n s is key none start =
    let deep : depth_in e.key.0 ≡ 0 = ap depth_in key ∙ key_depth n is ∙ none in
    let number : start_in e.key.0 ≡ s = ap start_in key ∙ key_start_number n is ∙ start in
    ap (λ d. origin_from d (start_in e.key.0) (last_of e.block.0) e.parent) deep ∙ ap (λ k. Start k) number

-- the entry of a name with digits
pub told_child : (e : Entry) (n : Name) (d p : ℕ) → IsProper n → e.key.0 ≡ key_of n → depth n ≢ 0 → last_of e.block.0 ≡ d → e.parent ≡ p → origin_of e ≡ Child d p
told_child e n d p is key some digit parent =
    let one : depth n ≡ suc (depth n - 1) = omega (arith, some) in
    let deep : depth_in e.key.0 ≡ suc (depth n - 1) = ap depth_in key ∙ key_depth n is ∙ one in
    ap (λ k. origin_from k (start_in e.key.0) (last_of e.block.0) e.parent) deep ∙ (λ i. Child (digit i) (parent i))

-- a start agent's name has a start number and digits as names have them
start_proper : (k : ℕ) → k < MAX_START_AGENTS → IsProper (start_name k)
start_proper k low = record { starts = low; digit = All-nil (λ d. d < 4) }

-- and so has a child's
child_proper : (n : Name) (d : ℕ) → IsProper n → d < 4 → IsProper (child_name n d)
child_proper n d is small = record { starts = is.starts; digit = All-push (λ c. c < 4) n.digits d is.digit small }

-- the entry of a start agent's name
pub start_told : (e : Entry) (number : ℕ) → number < MAX_START_AGENTS → e.key.0 ≡ key_of (start_name number) → origin_of e ≡ Start number
start_told e number low key = told_start e (start_name number) number (start_proper number low) key refl refl

-- the entry of a child
pub child_told : (e : Entry) (n : Name) (d p : ℕ) → IsProper n → d < 4 → e.key.0 ≡ key_of (child_name n d) → e.block.0 ≡ block_of (child_name n d) → e.parent ≡ p → origin_of e ≡ Child d p
child_told e n d p is small key block parent =
    let some : depth (child_name n d) ≢ 0 = λ none. omega (arith, length-append n.digits (d ∷ []), none) in
    told_child e (child_name n d) d p (child_proper n d is small) key some (ap last_of block ∙ block-child_last n d small) parent
