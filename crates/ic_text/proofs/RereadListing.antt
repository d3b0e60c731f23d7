-- What a listing of the net of a printed text keeps of the net that was printed.
use Rattle.std.proofs.Common.{◌≡◌, ℕ, suc, ◌+◌, ◌<◌, ◌≤◌, Bool, true, false, List, [], ◌∷◌, length, ◌⊎◌, inl, inr, refl, sym, ap, subst, ◌∙◌, arith, Option, Some}
use Rattle.std.specs.Prelude.{cond, not, IsSome, slice_index_or}
use Rattle.std.specs.List.{position_or_len}
use Rattle.std.specs.Str.{bytes_eq}
use Rattle.std.proofs.lemmas.Bool.{cases_lt}
use Rattle.std.proofs.lemmas.Slice.Eq.{bytes_eq-Decides}
use Rattle.ic_name.specs.declared.ports.Port.{Port}
use Rattle.ic_name.specs.declared.ports.Port.TheVariants.{Of}
use Rattle.ic_name.specs.declared.ports.Port.TheVariants as port
use Rattle.ic_theory.specs.Links.{degree}
use Rattle.ic_theory.specs.Firings.{nothing}
use Rattle.ic_theory.specs.Listed.{ListedNet, IsListing, free_among, shown}
use Rattle.ic_theory.specs.Nets.{IsSameNet, net_of}
use Rattle.ic_theory.specs.Starts.{Start, net_shape, start_links}
use Rattle.ic_theory.proofs.Loose.{has_partner, partners_back}
use Rattle.ic_text.specs.Grammar.{Denotes}
use Rattle.ic_text.proofs.Proper.{proper}
use Rattle.ic_text.specs.NetText.{name_text, net_text}
use Rattle.ic_text.specs.Printable.{IsFreeName, IsWired, IsPrintable}
use Rattle.ic_text.specs.Reread.{IsReread, reread_port}
use Rattle.ic_text.proofs.DenotedNet.{denoted_net}
use Rattle.ic_text.proofs.FreeNames.{is_there}
use Rattle.ic_theory.proofs.ListTests.{the_one}

-- a text that is in the list is the one with its number
text_there : (x : List ℕ) (ys : List (List ℕ)) → position_or_len (bytes_eq x) ys < length ys → slice_index_or ys (position_or_len (bytes_eq x) ys) [] ≡ x
text_there x [] h = absurd (omega (arith, h))
text_there x (y ∷ ys) h = go (bytes_eq x y) refl h (text_there x ys)
  where
    go : (b : Bool) → bytes_eq x y ≡ b → cond (not b) (1 + position_or_len (bytes_eq x) ys) 0 < length (y ∷ ys) → (position_or_len (bytes_eq x) ys < length ys → slice_index_or ys (position_or_len (bytes_eq x) ys) [] ≡ x)
        → slice_index_or (y ∷ ys) (cond (not b) (1 + position_or_len (bytes_eq x) ys) 0) [] ≡ x
    go true e k ih = sym ((bytes_eq-Decides x y).0 e)
    go false e k ih = let f : 1 + position_or_len (bytes_eq x) ys ≡ suc (position_or_len (bytes_eq x) ys) = omega arith in rw f (ih (omega (arith, k)))

-- the net read is that of the start, is printable with its names, and has the partners and the free names' texts of the net printed
pub record IsRereadListing (names : List (List ℕ)) (l : ListedNet) (s : Start) (m : ListedNet) : Type 0 where
  pub reread : IsReread names l s
  pub same : IsSameNet (shown m) (net_of s [])
  pub printed : IsPrintable names l
  pub printable : IsPrintable s.names m
  pub partners : (p q : Port) → (shown l).partner p ≡ Some q → (shown m).partner (reread_port names l s p) ≡ Some (reread_port names l s q)
  pub no_others : (x y : Port) → (shown m).partner x ≡ Some y → (p : Port) × (q : Port) × ((shown l).partner p ≡ Some q) × (x ≡ reread_port names l s p) × (y ≡ reread_port names l s q)
  pub texts : (j : ℕ) (q : Port) → (shown l).partner (port.Name j) ≡ Some q → name_text s.names (position_or_len (bytes_eq (name_text names j)) s.names) ≡ name_text names j

module _ (names : List (List ℕ)) (l m : ListedNet) (s : Start) (ok : IsPrintable names l) (d : Denotes (net_text names l) s) (h : IsListing m) (same : IsSameNet (shown m) (net_of s [])) where
  is : IsReread names l s
  is = denoted_net names l s ok d

  -- partners stay partners
  partners : (p q : Port) → (shown l).partner p ≡ Some q → (shown m).partner (reread_port names l s p) ≡ Some (reread_port names l s q)
  partners p q e = same.partners (reread_port names l s p) ∙ is.partners p q e

  -- and no others come
  no_others : (x y : Port) → (shown m).partner x ≡ Some y → (p : Port) × (q : Port) × ((shown l).partner p ≡ Some q) × (x ≡ reread_port names l s p) × (y ≡ reread_port names l s q)
  no_others x y e =
      let r = is.no_others x y (sym (same.partners x) ∙ e) in
      let there_is : ◌≡◌ {A = Option Port} (Some y) (Some (reread_port names l s r.1)) = sym e ∙ ap (shown m).partner r.3 ∙ partners r.0 r.1 r.2 in
      (r.0, r.1, r.2, r.3, cc)

  -- the net is wired
  wired : IsWired (shown m)
  wired p q e =
      let r = partners_back s (proper (net_text names l) s d) [] nothing p q (sym (same.partners p) ∙ e) in
      (r.0, same.partners q ∙ r.1)

  -- the number of a free name is below their count
  number_low : (k : ℕ) (y : Port) → (shown m).partner (port.Name k) ≡ Some y → k < length s.names
  number_low k y e = go (cases_lt k (length s.names))
    where
      one : degree net_shape (start_links s) (port.Name k) ≡ 1
      one = (has_partner s (proper (net_text names l) s d) [] nothing (port.Name k) y (sym (same.partners (port.Name k)) ∙ e)).0

      go : (k < length s.names) ⊎ (length s.names ≤ k) → k < length s.names
      go (inl lt) = lt
      go (inr le) = let z = (proper (net_text names l) s d).no_others k le in absurd (omega (arith, one, z))

  -- each free name keeps its text
  texts : (j : ℕ) (q : Port) → (shown l).partner (port.Name j) ≡ Some q → name_text s.names (position_or_len (bytes_eq (name_text names j)) s.names) ≡ name_text names j
  texts j q e = text_there (name_text names j) s.names (number_low _ _ (partners (port.Name j) q e))

  -- a free name of the net read, and the one that it was
  record Was (k : ℕ) : Type 0 where
    number : ℕ
    partner : Port
    partners : (shown l).partner (port.Name number) ≡ Some partner
    is : k ≡ position_or_len (bytes_eq (name_text names number)) s.names
    text : name_text s.names k ≡ name_text names number

  was : (k : ℕ) → IsSome (free_among k m.frees) → Was k
  was k i = let o = the_one (free_among k m.frees) i in let r = no_others (port.Name k) o.0 o.1 in go r.0 r.1 r.2 r.3
    where
      go : (p q : Port) → (shown l).partner p ≡ Some q → port.Name k ≡ reread_port names l s p → Was k
      go (Of n i) q e f = cc
      go (port.Name j) q e f =
          let g : k ≡ position_or_len (bytes_eq (name_text names j)) s.names = cc in
          record { number = j; partner = q; partners = e; is = g; text = ap (name_text s.names) g ∙ texts j q e }

  -- the net is printable
  printable : IsPrintable s.names m
  printable = record {
    listing = h;
    wired = wired;
    free = λ k i. (let w = was k i in subst IsFreeName (sym w.text) (ok.free w.number (is_there _ w.partner w.partners)));
    apart = λ i j a b e. (let v = was i a in let w = was j b in
        let f : name_text names v.number ≡ name_text names w.number = sym v.text ∙ e ∙ w.text in
        v.is ∙ ap (λ x. position_or_len (bytes_eq x) s.names) f ∙ sym w.is);
  }

  pub reread_listing : IsRereadListing names l s m
  reread_listing = record { reread = is; same = same; printed = ok; printable = printable; partners = partners; no_others = no_others; texts = texts }
