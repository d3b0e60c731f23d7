-- A text that is read to its end makes a start.
use Rattle.std.proofs.Common.{◌≡◌, ℕ, suc, ◌≤◌, true, false, List, [], ◌∷◌, length, map, Option, Some, None, Ok, option_map, eqb, refl, sym, ap, arith}
use Rattle.std.specs.Prelude.{nat_lt, count_by, find, reverse}
use Rattle.std.proofs.lemmas.Bool.{eqb-true}
use Rattle.std.proofs.lemmas.Bool.Decides.{nat_tests}
use Rattle.ic_name.specs.declared.ids.Link.{Link}
use Rattle.ic_theory.specs.Starts.{Start}
use Rattle.ic_start.specs.Links.{AreNumbered}
use Rattle.ic_start.specs.Starts.{join_of, IsStart, start_of}
use Rattle.ic_text.specs.declared.grammar.limits.TheConstants.{MAX_TEXT, MAX_FREE_NAMES}
use Rattle.ic_text.specs.Tokens.{items, between}
use Rattle.ic_text.proofs.Proper.{proper}
use Rattle.ic_text.specs.declared.builder.Frame.{Frame}
use Rattle.ic_text.specs.Sides.{Side}
use Rattle.ic_text.specs.Names.{Entry, is_free, is_reserved_free}
use Rattle.ic_text.specs.Table.{first_of}
use Rattle.ic_text.specs.Reading.{State, initial, run, is_at_rest, finish, IsWithin}
use Rattle.ic_text.proofs.StartLinks.{are_start_links}
use Rattle.ic_text.proofs.Sound.{sound_tokens}

-- no entry has no place
none_of : (o : Option Entry) → option_map first_of o ≡ None → o ≡ None
none_of None e = refl
none_of (Some n) e = absurd cc

-- as many texts as entries
length_texts : (ns : List Entry) → length (map {B = List ℕ} (λ n. n.text) ns) ≡ length ns
length_texts [] = refl
length_texts (n ∷ ns) = ap suc (length_texts ns)

-- no symbol is open, and an equation may begin
pub rests : (fs : List Frame) (n : ℕ) (x : Side) → n ≡ length fs → eqb n 0 ≡ true → is_at_rest [] x ≡ true → is_at_rest (reverse fs) x ≡ true
rests [] n x e h r = r
rests (f ∷ fs) n x e h r = absurd (omega (arith, e, eqb-true n 0 h))

-- the start of what was read, where nothing is wrong at the end
pub finishes : (len : ℕ) (s : State) (links : List Link) (names : List (List ℕ)) → is_at_rest s.stack s.side ≡ true → option_map first_of (find is_reserved_free s.seen) ≡ None
    → count_by is_free s.seen ≤ MAX_FREE_NAMES → map join_of links ≡ s.joins → names ≡ map (λ n. n.text) s.seen
    → finish len s ≡ Ok (start_of s.kinds links names s.profile)
unfolding finish
finishes len s links names rest none few joins texts =
    let n = none_of (find is_reserved_free s.seen) none in
    let f : nat_lt MAX_FREE_NAMES (count_by is_free s.seen) ≡ false = grind (arith, nat_tests) in
    let made : ◌≡◌ {A = Start} (record { kinds = s.kinds; joins = s.joins; names = map (λ n. n.text) s.seen; profile = s.profile }) (start_of s.kinds links names s.profile) =
    λ i. record { kinds = s.kinds; joins = (sym joins) i; names = (sym texts) i; profile = s.profile } in
    rw (rest, n, f) (ap (λ (t : Start). Ok t) made)

-- the parts of that start are those of one
pub makes_start : (text : List ℕ) (s : State) (links : List Link) (names : List (List ℕ)) → run initial (items between 0 text) ≡ Ok s → IsWithin s (length text) → length text ≤ MAX_TEXT
    → finish (length text) s ≡ Ok (start_of s.kinds links names s.profile) → AreNumbered 0 links → names ≡ map (λ n. n.text) s.seen
    → IsStart s.kinds links names s.profile
makes_start text s links names read within short end numbered texts =
    let d = sound_tokens (items between 0 text) s (length text) (start_of s.kinds links names s.profile) read end in
    let p = proper text (start_of s.kinds links names s.profile) (record { profile = d.profile; equations = d.equations; grammar = d.grammar; allowed = d.allowed; start = d.start }) in
    record {
      few_agents = within.agents;
      few_names = omega (arith, ap length texts, length_texts s.seen, within.names, short);
      placed = are_start_links s.kinds links names s.profile numbered p;
      proper = p;
    }
