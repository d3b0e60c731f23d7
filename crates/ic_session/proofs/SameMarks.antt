-- Marks of the same events under the same names.
use Rattle.std.proofs.Common.{◌≡◌, ℕ, suc, List, ◌∷◌, length, ◌⊎◌, inl, inr, sym, ap, subst, ◌∙◌, arith}
use Rattle.ic_path.specs.Orders.{Pick, here, IsIn, Alike}
use Rattle.ic_path.proofs.Alikes.{alike_back}
use Rattle.ic_path.proofs.Picks.{in_first, in_more, in_picked, in_others, in-cons_cases, length-pick, picks_swap, two_picks}
use Rattle.ic_desk.specs.Desks.{Noted, NoneNoted, IsNoted, Puts, replaced, added}

-- no two marks have one name
abbrev pub AreNamedApart : List Noted → Type 0
AreNamedApart ms = (x : Noted) (rest : List Noted) → Pick x ms rest → NoneNoted rest x.name

-- a mark of the same name and events is there
pub record HasLike (ms : List Noted) (x : Noted) : Type 0 where
  pub like : Noted
  pub there : IsIn like ms
  pub name : like.name ≡ x.name
  pub events : Alike x.events like.events

-- as many marks, each of which has one like it among the others
pub record AreSameMarks (ms ns : List Noted) : Type 0 where
  pub many : length ms ≡ length ns
  pub to : (x : Noted) → IsIn x ms → HasLike ns x
  pub from : (y : Noted) → IsIn y ns → HasLike ms y

-- the other way round
pub turned : {ms ns : List Noted} → AreSameMarks ms ns → AreSameMarks ns ms
turned same = record { many = sym same.many; to = same.from; from = same.to }

-- marks of one name are one
pub one_named : {ms : List Noted} → AreNamedApart ms → (x y : Noted) → IsIn x ms → IsIn y ms → x.name ≡ y.name → x ≡ y
one_named apart x y i j e = elim (in_others j.1 i) [ inl same ↦ same | inr k ↦ absurd (apart y j.0 j.1 x k e) ]

-- where the marks are the same, the marks of one name have the same events
pub one_mark : {ms ns : List Noted} → AreSameMarks ms ns → AreNamedApart ns → {name : List ℕ} {x y : Noted}
    → IsNoted ms name x → IsNoted ns name y → Alike x.events y.events
one_mark same apart {x = x} {y = y} a b =
    let h = same.to x a.there in
    let one : h.like ≡ y = one_named apart h.like y h.there b.there (h.name ∙ a.named ∙ sym b.named) in
    subst (λ (z : Noted). Alike x.events z.events) one h.events

-- and a name that none has on one side none has on the other
pub none_like : {ms ns : List Noted} → AreSameMarks ms ns → {name : List ℕ} → NoneNoted ms name → NoneNoted ns name
none_like same none y i e = let h = same.from y i in none h.like h.there (h.name ∙ e)

-- ---- a mark that is put in

-- names are apart in what is left
apart_rest : {ms rest : List Noted} {x : Noted} → AreNamedApart ms → Pick x ms rest → AreNamedApart rest
apart_rest apart k y others j z i = let c = picks_swap k j in apart y c.ys c.first z (in_picked c.second i)

-- and with one more of another name
apart_more : {ms : List Noted} (x : Noted) → NoneNoted ms x.name → AreNamedApart ms → AreNamedApart (x ∷ ms)
apart_more {ms} x none apart y rest k = by (two_picks k here)
  where
    by : ((y ≡ x) × (rest ≡ ms)) ⊎ ((others : List Noted) × Pick x rest others × Pick y ms others)
        → NoneNoted rest y.name
    by (inl e) z i f = none z (subst (λ zs. IsIn z zs) e.1 i) (f ∙ ap (λ (w : Noted). w.name) e.0)
    by (inr p) z i f = elim (in_others p.1 i) [
      | inl e ↦ none y (_, p.2) (sym f ∙ ap (λ (w : Noted). w.name) e)
      | inr j ↦ apart y p.0 p.2 z j f
    ]

pub put_apart : {ms new : List Noted} {x : Noted} → AreNamedApart ms → Puts ms x new → AreNamedApart new
put_apart {x = x} apart (replaced {y = y} {rest = rest} k e) =
    apart_more x (λ z i f. apart y rest k z i (f ∙ sym e)) (apart_rest apart k)
put_apart {x = x} apart (added none few) = apart_more x none apart

-- what holds of all marks, and of the one that is put in, holds of all then
pub put_all : {P : Noted → Type 0} {ms new : List Noted} {x : Noted} → ((y : Noted) → IsIn y ms → P y) → P x
    → Puts ms x new → (y : Noted) → IsIn y new → P y
put_all {P} each one (replaced k e) y i =
    elim (in-cons_cases i) [ inl same ↦ subst P (sym same) one | inr j ↦ each y (in_picked k j) ]
put_all {P} each one (added none few) y i =
    elim (in-cons_cases i) [ inl same ↦ subst P (sym same) one | inr j ↦ each y j ]

-- a mark that is like the one put in is there, and like the others those were
like_put : {ms ns : List Noted} (x y : Noted) → x.name ≡ y.name → Alike x.events y.events
    → ((z : Noted) → IsIn z ms → HasLike ns z) → (z : Noted) → IsIn z (x ∷ ms) → HasLike (y ∷ ns) z
like_put {ns = ns} x y e alike each z i = elim (in-cons_cases i) [
  | inl same ↦ (let put : HasLike (y ∷ ns) x =
      record { like = y; there = in_first y ns; name = sym e; events = alike } in
      subst (λ w. HasLike (y ∷ ns) w) (sym same) put)
  | inr j ↦ (let h = each z j in record { like = h.like; there = in_more y h.there; name = h.name; events = h.events })
]

-- what is left of the same marks without those of one name
rest_like : {ms ns left others : List Noted} {x y : Noted} → AreNamedApart ms → Pick x ms left → Pick y ns others
    → x.name ≡ y.name → ((z : Noted) → IsIn z ms → HasLike ns z)
    → (z : Noted) → IsIn z left → HasLike others z
rest_like {x = x} {y = y} apart k l e each z i =
    let h = each z (in_picked k i) in
    elim (in_others l h.there) [
      | inl same ↦ absurd (apart x _ k z i (sym h.name ∙ ap (λ (w : Noted). w.name) same ∙ sym e))
      | inr j ↦ record { like = h.like; there = j; name = h.name; events = h.events }
    ]

-- the same mark put among the same marks
pub same_put : {ms ns new other : List Noted} {x y : Noted} → AreNamedApart ms → AreNamedApart ns
    → AreSameMarks ms ns → x.name ≡ y.name → Alike x.events y.events
    → Puts ms x new → Puts ns y other → AreSameMarks new other
same_put {x = x} {y = y} apart own same e alike (replaced {y = a} k f) (replaced {y = b} l g) =
    let names : a.name ≡ b.name = f ∙ e ∙ sym g in
    let one = length-pick k in
    let two = length-pick l in
    let many = same.many in
    record {
      many = omega (arith, one, two, many);
      to = like_put x y e alike (rest_like apart k l names same.to);
      from = like_put y x (sym e) (alike_back alike) (rest_like own l k (sym names) same.from);
    }
same_put apart own same e alike (replaced {y = a} k f) (added none few) =
    absurd (none_like (turned same) none a (_, k) (f ∙ e))
same_put apart own same e alike (added none few) (replaced {y = b} l g) =
    absurd (none_like same none b (_, l) (g ∙ sym e))
same_put {x = x} {y = y} apart own same e alike (added none few) (added lack less) = record {
  many = ap suc same.many;
  to = like_put x y e alike same.to;
  from = like_put y x (sym e) (alike_back alike) same.from;
}
