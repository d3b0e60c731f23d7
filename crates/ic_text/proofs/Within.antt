-- What has been read stays within the limits.
use Rattle.std.proofs.Common.{◌≡◌, ℕ, ◌+◌, ◌≤◌, ◌<◌, List, [], ◌∷◌, ◌++◌, length, Option, Some, None, Ok, refl, ap, arith, length-append}
use Rattle.ic_name.specs.declared.kinds.Kind.{Kind}
use Rattle.ic_name.specs.declared.kinds.Kind.TheVariants.{Gamma, Delta, Eps}
use Rattle.ic_name.specs.declared.ports.Port.{Port}
use Rattle.ic_text.specs.Tokens.{Token, symbol, name, opening, closing, comma, equals, semicolon, profile, stray, digit, bad}
use Rattle.ic_text.specs.Grammar.{port_of}
use Rattle.ic_text.specs.declared.builder.Phase.{Phase}
use Rattle.ic_text.specs.declared.builder.Phase.TheVariants as phases
use Rattle.ic_text.specs.declared.builder.Frame.{Frame}
use Rattle.ic_text.specs.Sides.{Side}
use Rattle.ic_text.specs.Sides as sides
use Rattle.ic_text.specs.Reading.{State, initial, put, put_at, put_on, put_in, put_profile_on, put_profile_in, push_open, mark_at, mark_on, mark_in, with_stack, with_side, step, advance, IsWithin}
use Rattle.ic_text.proofs.Steps.{some_is, step_adds, advance_ok, agents_fit, names_fit}
use Rattle.ic_text.proofs.Sound.{twice_step}

-- the links of a state that went on
go_on : (n : ℕ) (s s' : State) → length s.joins ≤ n → Some s ≡ Some s' → length s'.joins ≤ n
go_on n s s' h e = omega (arith, h, ap (λ (x : State). length x.joins) (some_is s s' e))

-- a term within parentheses
put_at_adds : (p : Phase) (n : ℕ) (fs : List Frame) (root : Port) (s s' : State) → put_at p n fs root s ≡ Some s' → length s'.joins ≤ length s.joins + 1
put_at_adds phases.First n fs root s s' e = go_on (length s.joins + 1) _ s' (omega (arith, length-append s.joins ((port_of n 1, root) ∷ []))) e
put_at_adds phases.Second n fs root s s' e = go_on (length s.joins + 1) _ s' (omega (arith, length-append s.joins ((port_of n 2, root) ∷ []))) e
put_at_adds phases.Opening n fs root s s' e = absurd cc
put_at_adds phases.Comma n fs root s s' e = absurd cc
put_at_adds phases.Closing n fs root s s' e = absurd cc

-- a term outside all parentheses
put_on_adds : (x : Side) (root : Port) (s s' : State) → put_on x root s ≡ Some s' → length s'.joins ≤ length s.joins + 1
put_on_adds sides.Beginning root s s' e = go_on (length s.joins + 1) _ s' (omega arith) e
put_on_adds sides.Heading root s s' e = absurd cc
put_on_adds sides.Left root s s' e = go_on (length s.joins + 1) _ s' (omega arith) e
put_on_adds (sides.Right left) root s s' e = go_on (length s.joins + 1) _ s' (omega (arith, length-append s.joins ((left, root) ∷ []))) e
put_on_adds (sides.Equals left) root s s' e = absurd cc
put_on_adds sides.Semicolon root s s' e = absurd cc

-- a term, by the open symbols
put_in_adds : (fs : List Frame) (root : Port) (s s' : State) → put_in fs root s ≡ Some s' → length s'.joins ≤ length s.joins + 1
put_in_adds [] root s s' e = put_on_adds s.side root s s' e
put_in_adds (f ∷ fs) root s s' e = put_at_adds f.phase f.agent fs root s s' e

-- the profile outside all parentheses
put_profile_on_adds : (x : Side) (s s' : State) → put_profile_on x s ≡ Some s' → length s'.joins ≤ length s.joins + 1
put_profile_on_adds sides.Beginning s s' e = go_on (length s.joins + 1) _ s' (omega arith) e
put_profile_on_adds sides.Heading s s' e = absurd cc
put_profile_on_adds sides.Left s s' e = absurd cc
put_profile_on_adds (sides.Equals left) s s' e = absurd cc
put_profile_on_adds (sides.Right left) s s' e = absurd cc
put_profile_on_adds sides.Semicolon s s' e = absurd cc

-- the profile, by the open symbols
put_profile_in_adds : (fs : List Frame) (s s' : State) → put_profile_in fs s ≡ Some s' → length s'.joins ≤ length s.joins + 1
put_profile_in_adds [] s s' e = put_profile_on_adds s.side s s' e
put_profile_in_adds (f ∷ fs) s s' e = absurd cc

-- other open symbols
with_stack_adds : (o : Option (List Frame)) (s s' : State) → with_stack o s ≡ Some s' → length s'.joins ≤ length s.joins + 1
with_stack_adds None s s' e = absurd cc
with_stack_adds (Some fs) s s' e = go_on (length s.joins + 1) _ s' (omega arith) e

-- another side
with_side_adds : (o : Option Side) (s s' : State) → with_side o s ≡ Some s' → length s'.joins ≤ length s.joins + 1
with_side_adds None s s' e = absurd cc
with_side_adds (Some x) s s' e = go_on (length s.joins + 1) _ s' (omega arith) e

-- a mark, by the open symbols
mark_in_adds : (fs : List Frame) (t : Token) (s s' : State) → mark_in fs t s ≡ Some s' → length s'.joins ≤ length s.joins + 1
mark_in_adds [] t s s' e = with_side_adds (mark_on s.side t) s s' e
mark_in_adds (f ∷ fs) t s s' e = with_stack_adds (mark_at f.phase t f.agent fs) s s' e

-- an open symbol more
open_adds : (k : Kind) (n m : ℕ) (o : Option State) (s' : State) → ((s : State) → o ≡ Some s → length s.joins ≤ m) → push_open k n o ≡ Some s' → length s'.joins ≤ m
open_adds k n m None s' h e = absurd cc
open_adds Eps n m (Some s) s' h e = go_on m s s' (h s refl) e
open_adds Gamma n m (Some s) s' h e = go_on m _ s' (h s refl) e
open_adds Delta n m (Some s) s' h e = go_on m _ s' (h s refl) e

-- a token makes at most one link
step_links : (s s' : State) (o : ℕ) (t : Token) → step s o t ≡ Some s' → length s'.joins ≤ length s.joins + 1
unfolding step
step_links s s' o (symbol k) e =
    let s1 : State = record s { kinds = s.kinds ++ k ∷ [] } in
    open_adds k (length s.kinds) (length s.joins + 1) (put (port_of (length s.kinds) 0) s1) s' (λ m f. put_in_adds s.stack (port_of (length s.kinds) 0) s1 m f) e
step_links s s' o (name x) e = put_in_adds s.stack _ _ s' e
step_links s s' o opening e = mark_in_adds s.stack opening s s' e
step_links s s' o closing e = mark_in_adds s.stack closing s s' e
step_links s s' o comma e = mark_in_adds s.stack comma s s' e
step_links s s' o equals e = mark_in_adds s.stack equals s s' e
step_links s s' o semicolon e = mark_in_adds s.stack semicolon s s' e
step_links s s' o profile e = put_profile_in_adds s.stack s s' e
step_links s s' o stray e = mark_in_adds s.stack stray s s' e
step_links s s' o digit e = mark_in_adds s.stack digit s s' e
step_links s s' o bad e = mark_in_adds s.stack bad s s' e

-- nothing is within the limits
pub within_start : IsWithin initial 0
within_start = record { agents = omega arith; names = omega arith; joins = omega arith; twice = λ x. omega arith }

-- later there are more bytes
pub within_later : (s : State) (m n : ℕ) → IsWithin s m → m ≤ n → IsWithin s n
within_later s m n h le = record { agents = h.agents; names = omega (arith, h.names); joins = omega (arith, h.joins); twice = h.twice }

-- one token more
pub within_next : (s s' : State) (at n : ℕ) (t : Token) → advance s at t ≡ Ok s' → IsWithin s at → at < n → IsWithin s' n
within_next s s' at n t e h lt =
    let a = advance_ok s s' at t e in
    record {
      agents = agents_fit s s' at t e h.agents;
      names = omega (arith, names_fit s s' at t e, h.names);
      joins = omega (arith, step_links s s' at t a.0, h.joins);
      twice = λ x. rw ((step_adds s s' at t a.0).seen) (twice_step s at t a.1 h.twice x);
    }
