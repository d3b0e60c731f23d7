-- What is still to come of a text at each place of its reading.
use Rattle.std.proofs.Common.{◌≡◌, ℕ, ◌+◌, List, [], ◌∷◌, ◌++◌, length, Option, Some, None, refl, sym, ap, subst, ◌∙◌, length-append, append_assoc}
use Rattle.ic_name.specs.declared.kinds.Kind.{Kind}
use Rattle.ic_name.specs.declared.kinds.Kind.TheVariants.{Gamma, Delta, Eps}
use Rattle.ic_name.specs.declared.ports.Port.{Port}
use Rattle.ic_name.specs.declared.rules.Profile.{Profile}
use Rattle.ic_name.specs.declared.rules.Profile.TheVariants.{Classic, Straight}
use Rattle.ic_text.specs.declared.builder.Phase.{Phase}
use Rattle.ic_text.specs.declared.builder.Phase.TheVariants as phases
use Rattle.ic_text.specs.declared.builder.Frame.{Frame}
use Rattle.ic_text.specs.Sides.{Side}
use Rattle.ic_text.specs.Sides as sides
use Rattle.ic_text.specs.Tokens.{Token, symbol, name, opening, closing, comma, equals, semicolon, profile, stray, digit, bad}
use Rattle.ic_text.specs.Names.{Entry, enter, number}
use Rattle.ic_text.specs.Grammar.{Fork, gamma, delta, kind_of, Term, named, eps, fork, Equation, spell, equation_tokens, text_of, port_of, root, behind, links, text_links}
use Rattle.std.proofs.lemmas.List.{append-nil}
use Rattle.ic_text.proofs.Steps.{some_is, step_adds}
use Rattle.ic_text.specs.Reading.{State, frame, put, put_at, put_on, put_in, put_symbol, put_name, put_profile, put_profile_on, put_profile_in, push_open, mark, mark_at, mark_on, mark_in, with_stack, with_side, step}

-- the profile, the terms and the equations to come; a place that has its profile or its terms already passes over them
abbrev pub Rest : List Frame → Type 0
Rest [] = Profile × Term × List Equation
Rest (f ∷ fs) = Term × Term × Rest fs

-- their tokens
abbrev pub pend_at : Phase → Term → Term → List Token → List Token
pend_at phases.Opening s t below = opening ∷ spell s (comma ∷ spell t (closing ∷ below))
pend_at phases.First s t below = spell s (comma ∷ spell t (closing ∷ below))
pend_at phases.Comma s t below = comma ∷ spell t (closing ∷ below)
pend_at phases.Second s t below = spell t (closing ∷ below)
pend_at phases.Closing s t below = closing ∷ below

-- the same outside all parentheses
abbrev pub pend_on : Side → Profile → Term → List Equation → List Token
pend_on sides.Beginning p t es = text_of p es
pend_on sides.Heading p t es = semicolon ∷ equation_tokens es
pend_on sides.Left p t es = equation_tokens es
pend_on (sides.Equals l) p t es = equals ∷ spell t (semicolon ∷ equation_tokens es)
pend_on (sides.Right l) p t es = spell t (semicolon ∷ equation_tokens es)
pend_on sides.Semicolon p t es = semicolon ∷ equation_tokens es

-- the same of a whole place
abbrev pub pend : (fs : List Frame) → Side → Rest fs → List Token
pend [] x r = pend_on x r.0 r.1 r.2
pend (f ∷ fs) x r = pend_at f.phase r.0 r.1 (pend fs x r.2)

-- their links
abbrev pub rest_on : (List ℕ → ℕ) → ℕ → Side → Term → List Equation → List (Port × Port)
rest_on N n sides.Beginning t es = text_links N n es
rest_on N n sides.Heading t es = text_links N n es
rest_on N n sides.Left t es = text_links N n es
rest_on N n (sides.Equals l) t es = (l, root N n t) ∷ links N n t (text_links N (behind t n) es)
rest_on N n (sides.Right l) t es = (l, root N n t) ∷ links N n t (text_links N (behind t n) es)
rest_on N n sides.Semicolon t es = text_links N n es

-- the links of a second argument, and what is below
abbrev pub second : (List ℕ → ℕ) → ℕ → ℕ → Term → (ℕ → List (Port × Port)) → List (Port × Port)
second N n a t below = (port_of a 2, root N n t) ∷ links N n t (below (behind t n))

-- the same within parentheses
abbrev pub rest_at : (List ℕ → ℕ) → ℕ → Phase → ℕ → Term → Term → (ℕ → List (Port × Port)) → List (Port × Port)
rest_at N n phases.Opening a s t below = (port_of a 1, root N n s) ∷ links N n s (second N (behind s n) a t below)
rest_at N n phases.First a s t below = (port_of a 1, root N n s) ∷ links N n s (second N (behind s n) a t below)
rest_at N n phases.Comma a s t below = second N n a t below
rest_at N n phases.Second a s t below = second N n a t below
rest_at N n phases.Closing a s t below = below n

-- the same of a whole place
abbrev pub rest_links : (List ℕ → ℕ) → ℕ → (fs : List Frame) → Side → Rest fs → List (Port × Port)
rest_links N n [] x r = rest_on N n x r.1 r.2
rest_links N n (f ∷ fs) x r = rest_at N n f.phase f.agent r.0 r.1 (λ m. rest_links N m fs x r.2)

-- the profile in the end, by the one to come and the one that has been read
abbrev pub over_profile : Profile → Profile → Profile
over_profile Classic q = q
over_profile Straight q = Straight

-- the same outside all parentheses
abbrev pub profile_on : Side → Profile → Profile → Profile
profile_on sides.Beginning p q = over_profile p q
profile_on _ p q = q

-- the same of a whole place
abbrev pub rest_profile : (fs : List Frame) → Side → Rest fs → Profile → Profile
rest_profile [] x r q = profile_on x r.0 q
rest_profile (f ∷ fs) x r q = rest_profile fs x r.2 q

-- what comes at a place is what comes behind a token, and that token
pub record Comes (N : List ℕ → ℕ) (n : ℕ) (s : State) (ts : List Token) (js : List (Port × Port)) (q : Profile) : Type 0 where
  pub rest : Rest s.stack
  pub tokens : pend s.stack s.side rest ≡ ts
  pub joins : s.joins ++ rest_links N n s.stack s.side rest ≡ js
  pub profile : rest_profile s.stack s.side rest s.profile ≡ q

-- a state by its parts
abbrev mk : List Kind → List (Port × Port) → List Entry → List Frame → Side → Profile → State
mk ks js ns fs x q = record { kinds = ks; joins = js; seen = ns; stack = fs; side = x; profile = q }

-- what comes where a term was put is that term and what comes behind it
record Back (N : List ℕ → ℕ) (n : ℕ) (tm : Term) (s m : State) (r : Rest m.stack) : Type 0 where
  before : Rest s.stack
  added : List (Port × Port)
  joined : m.joins ≡ s.joins ++ added
  spelled : pend s.stack s.side before ≡ spell tm (pend m.stack m.side r)
  linked : rest_links N n s.stack s.side before ≡ added ++ links N n tm (rest_links N (behind tm n) m.stack m.side r)
  kept : rest_profile s.stack s.side before s.profile ≡ rest_profile m.stack m.side r m.profile

-- within parentheses
back_at : (N : List ℕ → ℕ) (n : ℕ) (tm : Term) (ks : List Kind) (js : List (Port × Port)) (ns : List Entry) (a : ℕ) (p : Phase) (fs : List Frame) (x : Side) (q : Profile) (m : State)
    → put_at p a fs (root N n tm) (mk ks js ns (frame a p ∷ fs) x q) ≡ Some m → (r : Rest m.stack) → Back N n tm (mk ks js ns (frame a p ∷ fs) x q) m r
back_at N n tm ks js ns a phases.First fs x q m e =
    let s = mk ks js ns (frame a phases.First ∷ fs) x q in
    let made = mk ks (js ++ (port_of a 1, root N n tm) ∷ []) ns (frame a phases.Comma ∷ fs) x q in
    subst (λ (y : State). (r : Rest y.stack) → Back N n tm s y r) (some_is made m e)
    (λ r. record { before = (tm, r.1, r.2); added = (port_of a 1, root N n tm) ∷ []; joined = refl; spelled = refl; linked = refl; kept = refl })
back_at N n tm ks js ns a phases.Second fs x q m e =
    let s = mk ks js ns (frame a phases.Second ∷ fs) x q in
    let made = mk ks (js ++ (port_of a 2, root N n tm) ∷ []) ns (frame a phases.Closing ∷ fs) x q in
    subst (λ (y : State). (r : Rest y.stack) → Back N n tm s y r) (some_is made m e)
    (λ r. record { before = (r.0, tm, r.2); added = (port_of a 2, root N n tm) ∷ []; joined = refl; spelled = refl; linked = refl; kept = refl })
back_at N n tm ks js ns a phases.Opening fs x q m e = absurd cc
back_at N n tm ks js ns a phases.Comma fs x q m e = absurd cc
back_at N n tm ks js ns a phases.Closing fs x q m e = absurd cc

-- outside all parentheses
back_on : (N : List ℕ → ℕ) (n : ℕ) (tm : Term) (ks : List Kind) (js : List (Port × Port)) (ns : List Entry) (x : Side) (q : Profile) (m : State)
    → put_on x (root N n tm) (mk ks js ns [] x q) ≡ Some m → (r : Rest m.stack) → Back N n tm (mk ks js ns [] x q) m r
back_on N n tm ks js ns sides.Beginning q m e =
    let s = mk ks js ns [] sides.Beginning q in
    let made = mk ks js ns [] (sides.Equals (root N n tm)) q in
    subst (λ (y : State). (r : Rest y.stack) → Back N n tm s y r) (some_is made m e)
    (λ r. record { before = (Classic, r.1, record { left = tm; right = r.1 } ∷ r.2); added = []; joined = sym (append-nil js); spelled = refl; linked = refl; kept = refl })
back_on N n tm ks js ns sides.Left q m e =
    let s = mk ks js ns [] sides.Left q in
    let made = mk ks js ns [] (sides.Equals (root N n tm)) q in
    subst (λ (y : State). (r : Rest y.stack) → Back N n tm s y r) (some_is made m e)
    (λ r. record { before = (r.0, r.1, record { left = tm; right = r.1 } ∷ r.2); added = []; joined = sym (append-nil js); spelled = refl; linked = refl; kept = refl })
back_on N n tm ks js ns (sides.Right l) q m e =
    let s = mk ks js ns [] (sides.Right l) q in
    let made = mk ks (js ++ (l, root N n tm) ∷ []) ns [] sides.Semicolon q in
    subst (λ (y : State). (r : Rest y.stack) → Back N n tm s y r) (some_is made m e)
    (λ r. record { before = (r.0, tm, r.2); added = (l, root N n tm) ∷ []; joined = refl; spelled = refl; linked = refl; kept = refl })
back_on N n tm ks js ns sides.Heading q m e = absurd cc
back_on N n tm ks js ns (sides.Equals l) q m e = absurd cc
back_on N n tm ks js ns sides.Semicolon q m e = absurd cc

-- by the open symbols
back_in : (N : List ℕ → ℕ) (n : ℕ) (tm : Term) (ks : List Kind) (js : List (Port × Port)) (ns : List Entry) (fs : List Frame) (x : Side) (q : Profile) (m : State)
    → put_in fs (root N n tm) (mk ks js ns fs x q) ≡ Some m → (r : Rest m.stack) → Back N n tm (mk ks js ns fs x q) m r
back_in N n tm ks js ns [] x q m e = back_on N n tm ks js ns x q m e
back_in N n tm ks js ns (f ∷ fs) x q m e = back_at N n tm ks js ns f.agent f.phase fs x q m e

-- in a state
put_back : (N : List ℕ → ℕ) (n : ℕ) (tm : Term) (s m : State) → put (root N n tm) s ≡ Some m → (r : Rest m.stack) → Back N n tm s m r
put_back N n tm s m e = back_in N n tm s.kinds s.joins s.seen s.stack s.side s.profile m e

-- what comes where a term was put
comes_put : (N : List ℕ → ℕ) (n : ℕ) (tm : Term) (s m : State) (r : Rest m.stack) → Back N n tm s m r
    → Comes N n s (spell tm (pend m.stack m.side r)) (m.joins ++ links N n tm (rest_links N (behind tm n) m.stack m.side r)) (rest_profile m.stack m.side r m.profile)
comes_put N n tm s m r b = record {
  rest = b.before;
  tokens = b.spelled;
  joins =
      ap (λ (js : List (Port × Port)). s.joins ++ js) b.linked
      ∙ sym (append_assoc s.joins b.added (links N n tm (rest_links N (behind tm n) m.stack m.side r)))
      ∙ ap (λ (js : List (Port × Port)). js ++ links N n tm (rest_links N (behind tm n) m.stack m.side r)) (sym b.joined);
  profile = b.kept;
}

-- what comes before a mark is the mark and what comes behind it
record BackMark (N : List ℕ → ℕ) (n : ℕ) (t : Token) (s m : State) (r : Rest m.stack) : Type 0 where
  before : Rest s.stack
  spelled : pend s.stack s.side before ≡ t ∷ pend m.stack m.side r
  linked : s.joins ++ rest_links N n s.stack s.side before ≡ m.joins ++ rest_links N n m.stack m.side r
  kept : rest_profile s.stack s.side before s.profile ≡ rest_profile m.stack m.side r m.profile

-- within parentheses
mark_at_back : (N : List ℕ → ℕ) (n : ℕ) (t : Token) (ks : List Kind) (js : List (Port × Port)) (ns : List Entry) (a : ℕ) (p : Phase) (fs : List Frame) (x : Side) (q : Profile) (m : State)
    → with_stack (mark_at p t a fs) (mk ks js ns (frame a p ∷ fs) x q) ≡ Some m → (r : Rest m.stack) → BackMark N n t (mk ks js ns (frame a p ∷ fs) x q) m r
mark_at_back N n opening ks js ns a phases.Opening fs x q m e =
    let s = mk ks js ns (frame a phases.Opening ∷ fs) x q in
    subst (λ (y : State). (r : Rest y.stack) → BackMark N n opening s y r) (some_is (mk ks js ns (frame a phases.First ∷ fs) x q) m e)
    (λ r. record { before = r; spelled = refl; linked = refl; kept = refl })
mark_at_back N n comma ks js ns a phases.Comma fs x q m e =
    let s = mk ks js ns (frame a phases.Comma ∷ fs) x q in
    subst (λ (y : State). (r : Rest y.stack) → BackMark N n comma s y r) (some_is (mk ks js ns (frame a phases.Second ∷ fs) x q) m e)
    (λ r. record { before = r; spelled = refl; linked = refl; kept = refl })
mark_at_back N n closing ks js ns a phases.Closing fs x q m e =
    let s = mk ks js ns (frame a phases.Closing ∷ fs) x q in
    subst (λ (y : State). (r : Rest y.stack) → BackMark N n closing s y r) (some_is (mk ks js ns fs x q) m e)
    (λ r. record { before = (eps, eps, r); spelled = refl; linked = refl; kept = refl })
mark_at_back N n t ks js ns a phases.Opening fs x q m e = absurd cc
mark_at_back N n t ks js ns a phases.First fs x q m e = absurd cc
mark_at_back N n t ks js ns a phases.Comma fs x q m e = absurd cc
mark_at_back N n t ks js ns a phases.Second fs x q m e = absurd cc
mark_at_back N n t ks js ns a phases.Closing fs x q m e = absurd cc

-- outside all parentheses
mark_on_back : (N : List ℕ → ℕ) (n : ℕ) (t : Token) (ks : List Kind) (js : List (Port × Port)) (ns : List Entry) (x : Side) (q : Profile) (m : State)
    → with_side (mark_on x t) (mk ks js ns [] x q) ≡ Some m → (r : Rest m.stack) → BackMark N n t (mk ks js ns [] x q) m r
mark_on_back N n equals ks js ns (sides.Equals l) q m e =
    let s = mk ks js ns [] (sides.Equals l) q in
    subst (λ (y : State). (r : Rest y.stack) → BackMark N n equals s y r) (some_is (mk ks js ns [] (sides.Right l) q) m e)
    (λ r. record { before = r; spelled = refl; linked = refl; kept = refl })
mark_on_back N n semicolon ks js ns sides.Heading q m e =
    let s = mk ks js ns [] sides.Heading q in
    subst (λ (y : State). (r : Rest y.stack) → BackMark N n semicolon s y r) (some_is (mk ks js ns [] sides.Left q) m e)
    (λ r. record { before = r; spelled = refl; linked = refl; kept = refl })
mark_on_back N n semicolon ks js ns sides.Semicolon q m e =
    let s = mk ks js ns [] sides.Semicolon q in
    subst (λ (y : State). (r : Rest y.stack) → BackMark N n semicolon s y r) (some_is (mk ks js ns [] sides.Left q) m e)
    (λ r. record { before = r; spelled = refl; linked = refl; kept = refl })
mark_on_back N n t ks js ns sides.Beginning q m e = absurd cc
mark_on_back N n t ks js ns sides.Heading q m e = absurd cc
mark_on_back N n t ks js ns sides.Left q m e = absurd cc
mark_on_back N n t ks js ns (sides.Equals l) q m e = absurd cc
mark_on_back N n t ks js ns (sides.Right l) q m e = absurd cc
mark_on_back N n t ks js ns sides.Semicolon q m e = absurd cc

-- by the open symbols
mark_in_back : (N : List ℕ → ℕ) (n : ℕ) (t : Token) (ks : List Kind) (js : List (Port × Port)) (ns : List Entry) (fs : List Frame) (x : Side) (q : Profile) (m : State)
    → mark_in fs t (mk ks js ns fs x q) ≡ Some m → (r : Rest m.stack) → BackMark N n t (mk ks js ns fs x q) m r
mark_in_back N n t ks js ns [] x q m e = mark_on_back N n t ks js ns x q m e
mark_in_back N n t ks js ns (f ∷ fs) x q m e = mark_at_back N n t ks js ns f.agent f.phase fs x q m e

-- the names are numbered so in the end
abbrev pub Agrees : (List ℕ → ℕ) → Token → List Entry → Type 0
Agrees N (name x) ns = N x ≡ number x ns
Agrees N _ ns = Unit {0}

-- one kind more
more_kinds : (ks : List Kind) (k : Kind) → length (ks ++ k ∷ []) ≡ length ks + 1
more_kinds ks k = length-append ks (k ∷ [])

-- what comes behind a fork's symbol
push_back : (N : List ℕ → ℕ) (f : Fork) (ks : List Kind) (js : List (Port × Port)) (ns : List Entry) (fs : List Frame) (x : Side) (pr : Profile) (m1 : State)
    → put (port_of (length ks) 0) (mk (ks ++ kind_of f ∷ []) js ns fs x pr) ≡ Some m1
    → (m : State) → m ≡ record m1 { stack = frame (length ks) phases.Opening ∷ m1.stack } → length m.kinds ≡ length ks + 1
    → (ts : List Token) (ls : List (Port × Port)) (q : Profile) → Comes N (length m.kinds) m ts ls q → Comes N (length ks) (mk ks js ns fs x pr) (symbol (kind_of f) ∷ ts) ls q
push_back N f ks js ns fs x pr m1 e m e2 len ts ls q c =
    let n = length ks in
    let made : State = record m1 { stack = frame n phases.Opening ∷ m1.stack } in
    let c1 : Comes N (n + 1) made ts ls q = subst (λ (k : ℕ). Comes N k made ts ls q) len (subst (λ (y : State). Comes N (length m.kinds) y ts ls q) e2 c) in
    let r = c1.rest in
    let tm = fork f r.0 r.1 in
    let b = put_back N n tm (mk (ks ++ kind_of f ∷ []) js ns fs x pr) m1 e r.2 in
    let d = comes_put N n tm (mk (ks ++ kind_of f ∷ []) js ns fs x pr) m1 r.2 b in
    record { rest = d.rest; tokens = d.tokens ∙ ap (λ (w : List Token). symbol (kind_of f) ∷ w) c1.tokens; joins = d.joins ∙ c1.joins; profile = d.profile ∙ c1.profile }

-- what comes behind a symbol
symbol_back : (N : List ℕ → ℕ) (k : Kind) (s m : State) → put_symbol k s ≡ Some m → length m.kinds ≡ length s.kinds + 1
    → (ts : List Token) (ls : List (Port × Port)) (q : Profile) → Comes N (length m.kinds) m ts ls q → Comes N (length s.kinds) s (symbol k ∷ ts) ls q
symbol_back N Eps s m e len ts ls q c =
    let n = length s.kinds in
    let p = open_eps (put (port_of n 0) (record s { kinds = s.kinds ++ Eps ∷ [] })) m e in
    let c1 : Comes N (n + 1) m ts ls q = subst (λ (k : ℕ). Comes N k m ts ls q) len c in
    let b = put_back N n eps (record s { kinds = s.kinds ++ Eps ∷ [] }) m p c1.rest in
    let d = comes_put N n eps (record s { kinds = s.kinds ++ Eps ∷ [] }) m c1.rest b in
    record { rest = d.rest; tokens = d.tokens ∙ ap (λ (w : List Token). symbol Eps ∷ w) c1.tokens; joins = d.joins ∙ c1.joins; profile = d.profile ∙ c1.profile }
  where
    open_eps : (o : Option State) (y : State) → push_open Eps (length s.kinds) o ≡ Some y → o ≡ Some y
    open_eps None y h = absurd cc
    open_eps (Some z) y h = h
symbol_back N Gamma s m e len ts ls q c =
    let p = open_fork (put (port_of (length s.kinds) 0) (record s { kinds = s.kinds ++ Gamma ∷ [] })) m e in
    push_back N gamma s.kinds s.joins s.seen s.stack s.side s.profile p.0 p.1 m p.2 len ts ls q c
  where
    open_fork : (o : Option State) (y : State) → push_open Gamma (length s.kinds) o ≡ Some y → (z : State) × (o ≡ Some z) × (y ≡ record z { stack = frame (length s.kinds) phases.Opening ∷ z.stack })
    open_fork None y h = absurd cc
    open_fork (Some z) y h = (z, refl, sym (some_is _ y h))
symbol_back N Delta s m e len ts ls q c =
    let p = open_fork (put (port_of (length s.kinds) 0) (record s { kinds = s.kinds ++ Delta ∷ [] })) m e in
    push_back N delta s.kinds s.joins s.seen s.stack s.side s.profile p.0 p.1 m p.2 len ts ls q c
  where
    open_fork : (o : Option State) (y : State) → push_open Delta (length s.kinds) o ≡ Some y → (z : State) × (o ≡ Some z) × (y ≡ record z { stack = frame (length s.kinds) phases.Opening ∷ z.stack })
    open_fork None y h = absurd cc
    open_fork (Some z) y h = (z, refl, sym (some_is _ y h))

-- what comes behind a name
name_back : (N : List ℕ → ℕ) (x : List ℕ) (o : ℕ) (s m : State) → N x ≡ number x s.seen → put_name x o s ≡ Some m → length m.kinds ≡ length s.kinds
    → (ts : List Token) (ls : List (Port × Port)) (q : Profile) → Comes N (length m.kinds) m ts ls q → Comes N (length s.kinds) s (name x ∷ ts) ls q
name_back N x o s m agrees e len ts ls q c =
    let n = length s.kinds in
    let s1 : State = record s { seen = enter x o s.seen } in
    let e1 : put (root N n (named x)) s1 ≡ Some m = rw agrees e in
    let c1 : Comes N n m ts ls q = subst (λ (k : ℕ). Comes N k m ts ls q) len c in
    let b = put_back N n (named x) s1 m e1 c1.rest in
    let d = comes_put N n (named x) s1 m c1.rest b in
    record { rest = d.rest; tokens = d.tokens ∙ ap (λ (w : List Token). name x ∷ w) c1.tokens; joins = d.joins ∙ c1.joins; profile = d.profile ∙ c1.profile }

-- what comes behind a mark
mark_back : (N : List ℕ → ℕ) (t : Token) (s m : State) → mark t s ≡ Some m → length m.kinds ≡ length s.kinds
    → (ts : List Token) (ls : List (Port × Port)) (q : Profile) → Comes N (length m.kinds) m ts ls q → Comes N (length s.kinds) s (t ∷ ts) ls q
mark_back N t s m e len ts ls q c =
    let n = length s.kinds in
    let c1 : Comes N n m ts ls q = subst (λ (k : ℕ). Comes N k m ts ls q) len c in
    let b = mark_in_back N n t s.kinds s.joins s.seen s.stack s.side s.profile m e c1.rest in
    record { rest = b.before; tokens = b.spelled ∙ ap (λ (w : List Token). t ∷ w) c1.tokens; joins = b.linked ∙ c1.joins; profile = b.kept ∙ c1.profile }

-- what comes behind the profile, outside all parentheses
profile_on_back : (N : List ℕ → ℕ) (n : ℕ) (ks : List Kind) (js : List (Port × Port)) (ns : List Entry) (x : Side) (pr : Profile) (m : State) → put_profile_on x (mk ks js ns [] x pr) ≡ Some m
    → (ts : List Token) (ls : List (Port × Port)) (q : Profile) → Comes N n m ts ls q → Comes N n (mk ks js ns [] x pr) (profile ∷ ts) ls q
profile_on_back N n ks js ns sides.Beginning pr m e ts ls q c =
    let made = mk ks js ns [] sides.Heading Straight in
    let c1 : Comes N n made ts ls q = subst (λ (y : State). Comes N n y ts ls q) (sym (some_is made m e)) c in
    record { rest = (Straight, c1.rest.1, c1.rest.2); tokens = ap (λ (w : List Token). profile ∷ w) c1.tokens; joins = c1.joins; profile = c1.profile }
profile_on_back N n ks js ns sides.Heading pr m e ts ls q c = absurd cc
profile_on_back N n ks js ns sides.Left pr m e ts ls q c = absurd cc
profile_on_back N n ks js ns (sides.Equals l) pr m e ts ls q c = absurd cc
profile_on_back N n ks js ns (sides.Right l) pr m e ts ls q c = absurd cc
profile_on_back N n ks js ns sides.Semicolon pr m e ts ls q c = absurd cc

-- by the open symbols
profile_in_back : (N : List ℕ → ℕ) (n : ℕ) (ks : List Kind) (js : List (Port × Port)) (ns : List Entry) (fs : List Frame) (x : Side) (pr : Profile) (m : State)
    → put_profile_in fs (mk ks js ns fs x pr) ≡ Some m
    → (ts : List Token) (ls : List (Port × Port)) (q : Profile) → Comes N n m ts ls q → Comes N n (mk ks js ns fs x pr) (profile ∷ ts) ls q
profile_in_back N n ks js ns [] x pr m e = profile_on_back N n ks js ns x pr m e
profile_in_back N n ks js ns (f ∷ fs) x pr m e = absurd cc

-- in a state
profile_back : (N : List ℕ → ℕ) (s m : State) → put_profile s ≡ Some m → length m.kinds ≡ length s.kinds
    → (ts : List Token) (ls : List (Port × Port)) (q : Profile) → Comes N (length m.kinds) m ts ls q → Comes N (length s.kinds) s (profile ∷ ts) ls q
profile_back N s m e len ts ls q c =
    profile_in_back N (length s.kinds) s.kinds s.joins s.seen s.stack s.side s.profile m e ts ls q (subst (λ (k : ℕ). Comes N k m ts ls q) len c)

-- what comes before a token is the token and what comes behind it
pub step_back : (N : List ℕ → ℕ) (s m : State) (o : ℕ) (t : Token) → Agrees N t s.seen → step s o t ≡ Some m
    → (ts : List Token) (ls : List (Port × Port)) (q : Profile) → Comes N (length m.kinds) m ts ls q → Comes N (length s.kinds) s (t ∷ ts) ls q
unfolding step
step_back N s m o (symbol k) a e = symbol_back N k s m e (ap length (step_adds s m o (symbol k) e).kinds ∙ more_kinds s.kinds k)
step_back N s m o (name x) a e = name_back N x o s m a e (ap length (step_adds s m o (name x) e).kinds)
step_back N s m o opening a e = mark_back N opening s m e (ap length (step_adds s m o opening e).kinds)
step_back N s m o closing a e = mark_back N closing s m e (ap length (step_adds s m o closing e).kinds)
step_back N s m o comma a e = mark_back N comma s m e (ap length (step_adds s m o comma e).kinds)
step_back N s m o equals a e = mark_back N equals s m e (ap length (step_adds s m o equals e).kinds)
step_back N s m o semicolon a e = mark_back N semicolon s m e (ap length (step_adds s m o semicolon e).kinds)
step_back N s m o profile a e = profile_back N s m e (ap length (step_adds s m o profile e).kinds)
step_back N s m o stray a e = mark_back N stray s m e (ap length (step_adds s m o stray e).kinds)
step_back N s m o digit a e = mark_back N digit s m e (ap length (step_adds s m o digit e).kinds)
step_back N s m o bad a e = mark_back N bad s m e (ap length (step_adds s m o bad e).kinds)
