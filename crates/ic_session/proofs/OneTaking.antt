-- The next lines of a session ask for one thing.
use Rattle.std.proofs.Common.{◌≡◌, ◌<◌, ℕ, List, [], ◌∷◌, ◌++◌, length, inl, inr, refl, sym, ap, subst, arith, ◌∙◌, length-append}
use Rattle.std.specs.Global.{Vec}
use Rattle.ic_name.specs.Events.{Pair}
use Rattle.ic_path.proofs.Picks.{none_in, in-cons_cases}
use Rattle.ic_command.specs.declared.asked.Asked.{Asked}
use Rattle.ic_command.specs.declared.asked.Asked.TheVariants as asked
use Rattle.ic_command.specs.declared.request.Request.{Request}
use Rattle.ic_command.specs.declared.request.Request.TheVariants as request
use Rattle.ic_command.specs.Asked.{IsAsked}
use Rattle.ic_command.specs.Listed.{IsListed}
use Rattle.ic_session.specs.InputLines.{TextLine}
use Rattle.ic_session.specs.NextRequest.{AreListed, none, more, OneListsNone, Takes, alone, listed, unlisted, wanting}
use Rattle.ic_session.proofs.OneRequests.{one_asked, one_listed}

-- requests that ask for the same: one, or to absorb the same events
pub data AskTheSame : Request → Request → Type 0 where
  one : {r : Request} → AskTheSame r r
  lists : {xs ys : Vec Pair} → xs.items ≡ ys.items → AskTheSame (request.Absorb xs) (request.Absorb ys)

-- two equally long fronts of one list are one
fronts : {X : Type 0} (xs ys us vs : List X) → length xs ≡ length ys → xs ++ us ≡ ys ++ vs → (xs ≡ ys) × (us ≡ vs)
fronts [] [] us vs long same = (refl, same)
fronts [] (y ∷ ys) us vs long same = absurd (omega (arith, long))
fronts (x ∷ xs) [] us vs long same = absurd (omega (arith, long))
fronts (x ∷ xs) (y ∷ ys) us vs long same =
    let first : x ≡ y = cc in
    let rest : xs ++ us ≡ ys ++ vs = cc in
    let more = fronts xs ys us vs (omega (arith, long)) rest in
    ((λ i. first i ∷ more.0 i), more.1)

-- lines list the same events
lines_once : {ls ks : List TextLine} {ps qs : List Pair} → ls ≡ ks → AreListed ls ps → AreListed ks qs → ps ≡ qs
lines_once same none none = refl
lines_once same none (more h a) = cc
lines_once same (more h a) none = cc
lines_once same (more {line = l} {ls = ls} {p = p} {ps = ps} h a) (more {line = k} {ls = ks} {p = q} {ps = qs} j b) =
    let first : l ≡ k = cc in
    let rest : ls ≡ ks = cc in
    let head : p ≡ q = one_listed k.bytes (subst (λ (x : TextLine). IsListed x.bytes p) first h) j in
    let tail = lines_once rest a b in
    λ i. head i ∷ tail i

-- not all of them do where one lists none
all_list : {ls : List TextLine} {ps : List Pair} → AreListed ls ps → OneListsNone ls → ⊥
all_list none (l, i, n) = none_in i
all_list (more {line = k} {p = p} h a) (l, i, n) = elim (in-cons_cases i) [ inl same ↦ n p (subst (λ (x : TextLine). IsListed x.bytes p) (sym same) h) | inr j ↦ all_list a (l, j, n) ]

-- so many lines aren't wanting where they are there
there_are : {X : Type 0} {n : ℕ} (first ls all : List X) → all ≡ first ++ ls → n ≡ length first → length all < n → ⊥
there_are first ls all same many few = let l = ap length same ∙ length-append first ls in omega (arith, many, few, l)

-- a line asks for one thing
asked_once : {l k : TextLine} {xs ys : List TextLine} {a b : Asked} → ◌≡◌ {A = List TextLine} (l ∷ xs) (k ∷ ys) → IsAsked l.bytes a → IsAsked k.bytes b → a ≡ b
asked_once {l} {k} {a = a} {b = b} same h j = let first : l ≡ k = cc in one_asked a b (subst (λ (x : TextLine). IsAsked x.bytes a) first h) j

-- what is taken is one request, and the same lines are left
pub takes_once : {ls ks left others : List TextLine} {q r : Request} → ls ≡ ks → Takes ls q left → Takes ks r others → AskTheSame q r × (left ≡ others)
takes_once same (alone {ls = xs} {r = q} h) (alone {ls = ys} {r = r} j) =
    let e : asked.Alone q ≡ asked.Alone r = asked_once same h j in
    let request : q ≡ r = cc in
    let rest : xs ≡ ys = cc in
    (subst (λ x. AskTheSame q x) request one, rest)
takes_once same (alone {r = q} h) (listed {first = g} j b) = let e : asked.Alone q ≡ asked.Absorb (length g) = asked_once same h j in cc
takes_once same (alone {r = q} h) (unlisted {first = g} j b) = let e : asked.Alone q ≡ asked.Absorb (length g) = asked_once same h j in cc
takes_once same (alone {r = q} h) (wanting {n = n} j b) = let e : asked.Alone q ≡ asked.Absorb n = asked_once same h j in cc
takes_once same (listed {first = f} h a) (alone {r = r} j) = let e : asked.Absorb (length f) ≡ asked.Alone r = asked_once same h j in cc
takes_once same (listed {first = f} {ls = xs} h a) (listed {first = g} {ls = ys} j b) =
    let e : asked.Absorb (length f) ≡ asked.Absorb (length g) = asked_once same h j in
    let rest : f ++ xs ≡ g ++ ys = cc in
    let many : length f ≡ length g = cc in
    let parts = fronts f g xs ys many rest in
    (lists (lines_once parts.0 a b), parts.1)
takes_once same (listed {first = f} {ls = xs} h a) (unlisted {first = g} {ls = ys} j n) =
    let e : asked.Absorb (length f) ≡ asked.Absorb (length g) = asked_once same h j in
    let rest : f ++ xs ≡ g ++ ys = cc in
    let many : length f ≡ length g = cc in
    let parts = fronts f g xs ys many rest in
    absurd (all_list a (subst OneListsNone (sym parts.0) n))
takes_once same (listed {first = f} {ls = xs} h a) (wanting {ls = ys} {n = n} j few) =
    let e : asked.Absorb n ≡ asked.Absorb (length f) = sym (asked_once same h j) in
    let rest : ys ≡ f ++ xs = cc in
    let many : n ≡ length f = cc in
    absurd (there_are f xs ys rest many few)
takes_once same (unlisted {first = f} h a) (alone {r = r} j) = let e : asked.Absorb (length f) ≡ asked.Alone r = asked_once same h j in cc
takes_once same (unlisted {first = f} {ls = xs} h n) (listed {first = g} {ls = ys} j b) =
    let e : asked.Absorb (length f) ≡ asked.Absorb (length g) = asked_once same h j in
    let rest : f ++ xs ≡ g ++ ys = cc in
    let many : length f ≡ length g = cc in
    let parts = fronts f g xs ys many rest in
    absurd (all_list b (subst OneListsNone parts.0 n))
takes_once same (unlisted {first = f} {ls = xs} h a) (unlisted {first = g} {ls = ys} j b) =
    let e : asked.Absorb (length f) ≡ asked.Absorb (length g) = asked_once same h j in
    let rest : f ++ xs ≡ g ++ ys = cc in
    let many : length f ≡ length g = cc in
    (one, (fronts f g xs ys many rest).1)
takes_once same (unlisted {first = f} {ls = xs} h a) (wanting {ls = ys} {n = n} j few) =
    let e : asked.Absorb n ≡ asked.Absorb (length f) = sym (asked_once same h j) in
    let rest : ys ≡ f ++ xs = cc in
    let many : n ≡ length f = cc in
    absurd (there_are f xs ys rest many few)
takes_once same (wanting {n = n} h few) (alone {r = r} j) = let e : asked.Absorb n ≡ asked.Alone r = asked_once same h j in cc
takes_once same (wanting {ls = xs} {n = n} h few) (listed {first = g} {ls = ys} j b) =
    let e : asked.Absorb n ≡ asked.Absorb (length g) = asked_once same h j in
    let rest : xs ≡ g ++ ys = cc in
    let many : n ≡ length g = cc in
    absurd (there_are g ys xs rest many few)
takes_once same (wanting {ls = xs} {n = n} h few) (unlisted {first = g} {ls = ys} j b) =
    let e : asked.Absorb n ≡ asked.Absorb (length g) = asked_once same h j in
    let rest : xs ≡ g ++ ys = cc in
    let many : n ≡ length g = cc in
    absurd (there_are g ys xs rest many few)
takes_once same (wanting h few) (wanting j less) = (one, refl)
