-- What a text may go on with is taken.
use Rattle.std.proofs.Common.{◌≡◌, ℕ, List, [], ◌∷◌, ◌++◌, length, Some, refl, ap, subst, ◌∙◌}
use Rattle.ic_name.specs.declared.kinds.Kind.{Kind}
use Rattle.ic_name.specs.declared.kinds.Kind.TheVariants.{Gamma, Delta, Eps}
use Rattle.ic_name.specs.declared.ports.Port.{Port}
use Rattle.ic_name.specs.declared.ports.Port.TheVariants as ports
use Rattle.ic_name.specs.declared.rules.Profile.{Profile}
use Rattle.ic_name.specs.declared.rules.Profile.TheVariants.{Classic, Straight}
use Rattle.ic_text.specs.declared.builder.Phase.{Phase}
use Rattle.ic_text.specs.declared.builder.Phase.TheVariants as phases
use Rattle.ic_text.specs.declared.builder.Frame.{Frame}
use Rattle.ic_text.specs.Sides.{Side}
use Rattle.ic_text.specs.Sides as sides
use Rattle.ic_text.specs.Tokens.{Token, symbol, name, opening, closing, comma, equals, semicolon, profile}
use Rattle.ic_text.specs.Names.{Entry, enter, number}
use Rattle.ic_text.specs.Grammar.{gamma, delta, Term, named, eps, fork, Equation, spell, equation_tokens, text_of, port_of}
use Rattle.ic_text.specs.Reading.{State, frame, put_on, put_in, push_open, step}
use Rattle.ic_text.proofs.Spelling.{head_is, tail_is}
use Rattle.ic_text.proofs.Pending.{Rest, pend, pend_at, pend_on}

-- a state by its parts
abbrev mk : List Kind → List (Port × Port) → List Entry → List Frame → Side → Profile → State
mk ks js ns fs x q = record { kinds = ks; joins = js; seen = ns; stack = fs; side = x; profile = q }

-- a token is taken, and the rest may follow
pub record Forth (s : State) (o : ℕ) (t : Token) (ts : List Token) : Type 0 where
  pub after : State
  pub went : step s o t ≡ Some after
  pub rest : Rest after.stack
  pub tokens : pend after.stack after.side rest ≡ ts

-- a term may come, and then what is below
record Holds (js : List (Port × Port)) (fs : List Frame) (x : Side) (below : List Token) : Type 0 where
  stack : List Frame
  side : Port → Side
  joins : Port → List (Port × Port)
  put_is : (root : Port) (ks : List Kind) (ns : List Entry) (q : Profile) → put_in fs root (mk ks js ns fs x q) ≡ Some (mk ks (joins root) ns stack (side root) q)
  rest : Rest stack
  behind : (root : Port) → pend stack (side root) rest ≡ below

-- the first token of a term is taken
forth_term : (ks : List Kind) (js : List (Port × Port)) (ns : List Entry) (fs : List Frame) (x : Side) (q : Profile) (below : List Token) → Holds js fs x below
    → (tm : Term) (o : ℕ) (t : Token) (ts : List Token) → spell tm below ≡ t ∷ ts → Forth (mk ks js ns fs x q) o t ts
unfolding step
forth_term ks js ns fs x q below h (named y) o t ts e =
    let root = ports.Name (number y ns) in
    subst (λ (u : Token). Forth (mk ks js ns fs x q) o u ts) (head_is (name y) t below ts e)
    (record { after = mk ks (h.joins root) (enter y o ns) h.stack (h.side root) q; went = h.put_is root ks (enter y o ns) q; rest = h.rest; tokens = h.behind root ∙ tail_is (name y) t below ts e })
forth_term ks js ns fs x q below h eps o t ts e =
    let root = port_of (length ks) 0 in
    subst (λ (u : Token). Forth (mk ks js ns fs x q) o u ts) (head_is (symbol Eps) t below ts e)
    (record {
      after = mk (ks ++ Eps ∷ []) (h.joins root) ns h.stack (h.side root) q;
      went = ap (push_open Eps (length ks)) (h.put_is root (ks ++ Eps ∷ []) ns q);
      rest = h.rest;
      tokens = h.behind root ∙ tail_is (symbol Eps) t below ts e;
    })
forth_term ks js ns fs x q below h (fork gamma a b) o t ts e =
    let root = port_of (length ks) 0 in
    let more = opening ∷ spell a (comma ∷ spell b (closing ∷ below)) in
    subst (λ (u : Token). Forth (mk ks js ns fs x q) o u ts) (head_is (symbol Gamma) t more ts e)
    (record {
      after = mk (ks ++ Gamma ∷ []) (h.joins root) ns (frame (length ks) phases.Opening ∷ h.stack) (h.side root) q;
      went = ap (push_open Gamma (length ks)) (h.put_is root (ks ++ Gamma ∷ []) ns q);
      rest = (a, b, h.rest);
      tokens = ap (λ (w : List Token). opening ∷ spell a (comma ∷ spell b (closing ∷ w))) (h.behind root) ∙ tail_is (symbol Gamma) t more ts e;
    })
forth_term ks js ns fs x q below h (fork delta a b) o t ts e =
    let root = port_of (length ks) 0 in
    let more = opening ∷ spell a (comma ∷ spell b (closing ∷ below)) in
    subst (λ (u : Token). Forth (mk ks js ns fs x q) o u ts) (head_is (symbol Delta) t more ts e)
    (record {
      after = mk (ks ++ Delta ∷ []) (h.joins root) ns (frame (length ks) phases.Opening ∷ h.stack) (h.side root) q;
      went = ap (push_open Delta (length ks)) (h.put_is root (ks ++ Delta ∷ []) ns q);
      rest = (a, b, h.rest);
      tokens = ap (λ (w : List Token). opening ∷ spell a (comma ∷ spell b (closing ∷ w))) (h.behind root) ∙ tail_is (symbol Delta) t more ts e;
    })

-- within parentheses
forth_at : (ks : List Kind) (js : List (Port × Port)) (ns : List Entry) (a : ℕ) (p : Phase) (fs : List Frame) (x : Side) (q : Profile) (u v : Term) (w : Rest fs) (o : ℕ) (t : Token) (ts : List Token)
    → pend_at p u v (pend fs x w) ≡ t ∷ ts → Forth (mk ks js ns (frame a p ∷ fs) x q) o t ts
unfolding step
forth_at ks js ns a phases.First fs x q u v w o t ts e =
    forth_term ks js ns (frame a phases.First ∷ fs) x q (comma ∷ spell v (closing ∷ pend fs x w))
    (record { stack = frame a phases.Comma ∷ fs; side = λ _. x; joins = λ root. js ++ (port_of a 1, root) ∷ []; put_is = λ root ks ns q. refl; rest = (u, v, w); behind = λ _. refl })
    u o t ts e
forth_at ks js ns a phases.Second fs x q u v w o t ts e =
    forth_term ks js ns (frame a phases.Second ∷ fs) x q (closing ∷ pend fs x w)
    (record { stack = frame a phases.Closing ∷ fs; side = λ _. x; joins = λ root. js ++ (port_of a 2, root) ∷ []; put_is = λ root ks ns q. refl; rest = (u, v, w); behind = λ _. refl })
    v o t ts e
forth_at ks js ns a phases.Opening fs x q u v w o t ts e =
    subst (λ (y : Token). Forth (mk ks js ns (frame a phases.Opening ∷ fs) x q) o y ts) (head_is opening t _ ts e)
    (record { after = mk ks js ns (frame a phases.First ∷ fs) x q; went = refl; rest = (u, v, w); tokens = tail_is opening t _ ts e })
forth_at ks js ns a phases.Comma fs x q u v w o t ts e =
    subst (λ (y : Token). Forth (mk ks js ns (frame a phases.Comma ∷ fs) x q) o y ts) (head_is comma t _ ts e)
    (record { after = mk ks js ns (frame a phases.Second ∷ fs) x q; went = refl; rest = (u, v, w); tokens = tail_is comma t _ ts e })
forth_at ks js ns a phases.Closing fs x q u v w o t ts e =
    subst (λ (y : Token). Forth (mk ks js ns (frame a phases.Closing ∷ fs) x q) o y ts) (head_is closing t _ ts e)
    (record { after = mk ks js ns fs x q; went = refl; rest = w; tokens = tail_is closing t _ ts e })

-- outside all parentheses, where an equation may begin
forth_left : (ks : List Kind) (js : List (Port × Port)) (ns : List Entry) (x : Side) (q : Profile) → ((root : Port) (s : State) → put_on x root s ≡ put_on sides.Left root s)
    → (p : Profile) (u : Term) (es : List Equation) (o : ℕ) (t : Token) (ts : List Token) → equation_tokens es ≡ t ∷ ts → Forth (mk ks js ns [] x q) o t ts
forth_left ks js ns x q same p u [] o t ts e = absurd cc
forth_left ks js ns x q same p u (f ∷ es) o t ts e =
    forth_term ks js ns [] x q (equals ∷ spell f.right (semicolon ∷ equation_tokens es))
    (record { stack = []; side = λ root. sides.Equals root; joins = λ root. js; put_is = λ root ks ns q. same root (mk ks js ns [] x q); rest = (p, f.right, es); behind = λ _. refl })
    f.left o t ts e

-- where nothing has been read, by the profile to come
forth_first : (ks : List Kind) (js : List (Port × Port)) (ns : List Entry) (q p : Profile) (u : Term) (es : List Equation) (o : ℕ) (t : Token) (ts : List Token)
    → text_of p es ≡ t ∷ ts → Forth (mk ks js ns [] sides.Beginning q) o t ts
unfolding step
forth_first ks js ns q Classic u es o t ts e = forth_left ks js ns sides.Beginning q (λ root s. refl) Classic u es o t ts e
forth_first ks js ns q Straight u es o t ts e =
    subst (λ (y : Token). Forth (mk ks js ns [] sides.Beginning q) o y ts) (head_is profile t _ ts e)
    (record { after = mk ks js ns [] sides.Heading Straight; went = refl; rest = (Straight, u, es); tokens = tail_is profile t _ ts e })

-- outside all parentheses
forth_on : (ks : List Kind) (js : List (Port × Port)) (ns : List Entry) (x : Side) (q p : Profile) (u : Term) (es : List Equation) (o : ℕ) (t : Token) (ts : List Token)
    → pend_on x p u es ≡ t ∷ ts → Forth (mk ks js ns [] x q) o t ts
unfolding step
forth_on ks js ns sides.Beginning q p u es o t ts e = forth_first ks js ns q p u es o t ts e
forth_on ks js ns sides.Left q p u es o t ts e = forth_left ks js ns sides.Left q (λ root s. refl) p u es o t ts e
forth_on ks js ns (sides.Right l) q p u es o t ts e =
    forth_term ks js ns [] (sides.Right l) q (semicolon ∷ equation_tokens es)
    (record { stack = []; side = λ root. sides.Semicolon; joins = λ root. js ++ (l, root) ∷ []; put_is = λ root ks ns q. refl; rest = (p, u, es); behind = λ _. refl })
    u o t ts e
forth_on ks js ns (sides.Equals l) q p u es o t ts e =
    subst (λ (y : Token). Forth (mk ks js ns [] (sides.Equals l) q) o y ts) (head_is equals t _ ts e)
    (record { after = mk ks js ns [] (sides.Right l) q; went = refl; rest = (p, u, es); tokens = tail_is equals t _ ts e })
forth_on ks js ns sides.Heading q p u es o t ts e =
    subst (λ (y : Token). Forth (mk ks js ns [] sides.Heading q) o y ts) (head_is semicolon t _ ts e)
    (record { after = mk ks js ns [] sides.Left q; went = refl; rest = (p, u, es); tokens = tail_is semicolon t _ ts e })
forth_on ks js ns sides.Semicolon q p u es o t ts e =
    subst (λ (y : Token). Forth (mk ks js ns [] sides.Semicolon q) o y ts) (head_is semicolon t _ ts e)
    (record { after = mk ks js ns [] sides.Left q; went = refl; rest = (p, u, es); tokens = tail_is semicolon t _ ts e })

-- by the open symbols
forth_in : (ks : List Kind) (js : List (Port × Port)) (ns : List Entry) (fs : List Frame) (x : Side) (q : Profile) (r : Rest fs) (o : ℕ) (t : Token) (ts : List Token)
    → pend fs x r ≡ t ∷ ts → Forth (mk ks js ns fs x q) o t ts
forth_in ks js ns [] x q r o t ts e = forth_on ks js ns x q r.0 r.1 r.2 o t ts e
forth_in ks js ns (f ∷ fs) x q r o t ts e = forth_at ks js ns f.agent f.phase fs x q r.0 r.1 r.2 o t ts e

-- in a state
pub forth : (s : State) (r : Rest s.stack) (o : ℕ) (t : Token) (ts : List Token) → pend s.stack s.side r ≡ t ∷ ts → Forth s o t ts
forth s r o t ts e = forth_in s.kinds s.joins s.seen s.stack s.side s.profile r o t ts e
