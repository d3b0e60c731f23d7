-- Lists as they are read letter by letter.
use Rattle.std.proofs.Common.{◌≡◌, ℕ, ◌+◌, ◌<◌, ◌≤◌, List, [], ◌∷◌, ◌++◌, inl, inr, length, map, take, refl, sym, ap, arith, subst, ◌∙◌, length-append}
use Rattle.std.proofs.lemmas.List.{map-append, length-map}
use Rattle.ic_name.specs.Events.{Event}
use Rattle.ic_name.specs.declared.limits.TheConstants.{MAX_LINES}
use Rattle.ic_path.specs.Orders.{none}
use Rattle.ic_path.proofs.Alikes.{alike_then, alike_back, alike_more, alike-length}
use Rattle.ic_path.proofs.Picks.{in_first, in_more, in-cons_cases, none_in, length-pick}
use Rattle.ic_trace.specs.Pasts.{PastView}
use Rattle.ic_path.proofs.InLists.{in-append_cases}
use Rattle.ic_theory.specs.Starts.{Start, IsProper}
use Rattle.ic_theory.specs.Firings.{nothing}
use Rattle.ic_theory.specs.Letters as theory
use Rattle.ic_trace.specs.declared.known.Known.{Known}
use Rattle.ic_trace.specs.declared.known.EventTable.{EventTable}
use Rattle.ic_trace.specs.declared.lists.Letter.{Letter}
use Rattle.ic_trace.specs.declared.reading.Step.{Step}
use Rattle.ic_trace.specs.declared.reading.Step.TheVariants as step
use Rattle.ic_trace.specs.declared.reading.Trace.{Trace}
use Rattle.ic_trace.specs.Known.{AreKnown, AreNumbered}
use Rattle.ic_trace.specs.Letters.{named, IsLegal, IsFirstRefused}
use Rattle.ic_trace.specs.Readings.{IsFollowed, number_of, letter_in, letters_in, AreInside, IsAccepted, IsRefused, IsReadUpTo, IsTraceOf}
use Rattle.ic_trace.proofs.ByNumber.{event_at-append}
use Rattle.ic_trace.proofs.OneList.{one_left}
use Rattle.ic_trace.proofs.Runs.{runs_on, runs_parted, runs-alike}
use Rattle.ic_trace.proofs.Swapped.{fired_is_sound}

-- a letter is the same in a longer table
letter_stays : (ks more : List Known) (x : Step) → number_of x < length ks → letter_in (ks ++ more) x ≡ letter_in ks x
letter_stays ks more (step.Fire i) h = ap theory.Fire (event_at-append ks more i h)
letter_stays ks more (step.Undo i) h = ap theory.Undo (event_at-append ks more i h)

letters_stay : (ks more : List Known) (xs : List Step) → AreInside ks xs → letters_in (ks ++ more) xs ≡ letters_in ks xs
letters_stay ks more [] h = refl
letters_stay ks more (x ∷ xs) h = λ i. letter_stays ks more x (h x (in_first x xs)) i ∷ letters_stay ks more xs (λ y m. h y (in_more x m)) i

-- no more events stand than letters were read
runs_length : {s : Start} {es fs : List Event} {ls : List theory.Letter} → theory.Runs s es ls fs → length fs ≤ length es + length ls
runs_length theory.stops = omega arith
runs_length (theory.fires a r) = let h = runs_length r in omega arith
runs_length (theory.undoes k n r) = let h = runs_length r in let l = length-pick k in omega arith

-- a list by names that ends in a letter
record Ends (ls : List theory.Letter) (zs : List Letter) (y : Letter) : Type 0 where
  front : List theory.Letter
  last : theory.Letter
  is : ls ≡ front ++ last ∷ []
  names : map named front ≡ zs
  name : named last ≡ y

ends_in : (ls : List theory.Letter) (zs : List Letter) (y : Letter) → map named ls ≡ zs ++ y ∷ [] → Ends ls zs y
ends_in [] [] y e = cc
ends_in [] (z ∷ zs) y e = cc
ends_in (l ∷ []) [] y e = record { front = []; last = l; is = refl; names = refl; name = cc }
ends_in (l ∷ m ∷ ls) [] y e = cc
ends_in (l ∷ ls) (z ∷ zs) y e =
    let first : named l ≡ z = cc in
    let others : map named ls ≡ zs ++ y ∷ [] = cc in
    let r = ends_in ls zs y others in
    record { front = l ∷ r.front; last = r.last; is = ap (λ ms. l ∷ ms) r.is; names = (λ i. first i ∷ r.names i); name = r.name }

module _ (s : Start) where
  -- nothing has been read yet
  pub read_none : (p : PastView) (t : EventTable) → p.start ≡ s → IsFollowed p t → p.events ≡ [] → t.known.items ≡ [] → IsReadUpTo s [] p t []
  read_none p t start f e n = record {
    start = start;
    followed = f;
    few = rw n (omega arith);
    inside = λ x i. absurd (none_in i);
    standing = [];
    runs = theory.stops;
    names = refl;
    alike = rw e none;
  }

  -- a letter more has been read
  pub read_more : {xs : List Letter} {p p' : PastView} {t t' : EventTable} {steps : List Step} {y : Letter} {x : Step} → IsReadUpTo s xs p t steps → IsAccepted p t.known.items y x p' t' → IsReadUpTo s (xs ++ y ∷ []) p' t' (steps ++ x ∷ [])
  read_more {xs} {p} {p'} {t} {t'} {steps} {y} {x} h a =
      let ks = t.known.items in
      let stay : letters_in t'.known.items steps ≡ letters_in ks steps = rw a.grown (letters_stay ks a.more steps h.inside) in
      let split : letters_in t'.known.items (steps ++ x ∷ []) ≡ letters_in ks steps ++ letter_in t'.known.items x ∷ [] = map-append (letter_in t'.known.items) steps (x ∷ []) ∙ ap (λ ls. ls ++ letter_in t'.known.items x ∷ []) stay in
      let r : theory.Runs s p.events (letter_in t'.known.items x ∷ []) a.after = rw h.start at a.runs in
      let q = runs-alike s r (alike_back h.alike) in
      let longer : length t'.known.items ≡ length ks + length a.more = rw a.grown (length-append ks a.more) in
      record {
        start = a.start ∙ h.start;
        followed = a.followed;
        few = (let one = a.one in let few = h.few in let longest = length-append xs (y ∷ []) in omega (arith, longer, one, few, longest));
        inside = λ z i. elim (in-append_cases steps i) [ inl j ↦ (let l = h.inside z j in omega arith) | inr j ↦ elim (in-cons_cases j) [ inl e ↦ rw e a.inside | inr n ↦ absurd (none_in n) ] ];
        standing = q.0;
        runs = rw split (runs_on s h.runs q.1);
        names = rw (split, map-append named (letters_in ks steps) (letter_in t'.known.items x ∷ [])) (λ i. h.names i ++ a.name i ∷ []);
        alike = alike_then (alike_back q.2) a.alike;
      }

  -- fewer events are known than there may be lines
  pub few_known : {xs : List Letter} {p : PastView} {t : EventTable} {steps : List Step} → IsReadUpTo s xs p t steps → length xs < MAX_LINES → length t.known.items < MAX_LINES
  few_known h l = let few = h.few in omega (arith, few, l)

  -- fewer events stand than there may be lines
  pub few_stand : {xs : List Letter} {p : PastView} {t : EventTable} {steps : List Step} → IsReadUpTo s xs p t steps → length xs < MAX_LINES → length p.events < MAX_LINES
  few_stand {xs} {p} {t} {steps} h l =
      let r = runs_length h.runs in
      let a = alike-length h.alike in
      let n = ap length h.names in
      let m = length-map (letters_in t.known.items steps) named in
      omega arith

  module _ (ok : IsProper s) where
    -- a letter that is refused is the first one
    pub refused_first : (xs : List Letter) (i : ℕ) {p : PastView} {t : EventTable} {steps : List Step} (y : Letter) → i < length xs → take (i + 1) xs ≡ take i xs ++ y ∷ [] → IsReadUpTo s (take i xs) p t steps → IsRefused p y → IsFirstRefused s xs i
    refused_first xs i {p} {t} {steps} y inside next h refusal = record {
      inside = inside;
      before = (h.standing, (letters_in t.known.items steps, h.runs, h.names));
      refused = λ l. refuse (rw next at l);
    }
      where
        refuse : IsLegal s (take i xs ++ y ∷ []) → ⊥
        refuse l =
            let e = ends_in l.1.0 (take i xs) y l.1.2 in
            let r : theory.Runs s [] (e.front ++ e.last ∷ []) l.0 = rw e.is at l.1.1 in
            let parts = runs_parted s e.front r in
            let a = one_left s ok e.front (letters_in t.known.items steps) parts.first h.runs (e.names ∙ sym h.names) in
            let q = runs-alike s parts.second (alike_then a h.alike) in
            refusal e.last e.name q.0 (subst (λ z. theory.Runs z p.events (e.last ∷ []) q.0) (sym h.start) q.1)

  -- a list that has been read to its end
  pub read_all : (xs : List Letter) {p : PastView} {t : EventTable} {steps : List Step} (trace : Trace) → IsReadUpTo s xs p t steps → trace.known.items ≡ t.known.items → trace.steps.items ≡ steps → IsTraceOf s xs trace
  read_all xs {p} {t} {steps} trace h known same =
      let f = h.followed in
      let k : AreKnown s t.known.items = subst (λ z. AreKnown z t.known.items) h.start f.known in
      record {
        known = rw known k;
        inside = rw (known, same) h.inside;
        standing = h.standing;
        runs = rw (known, same) h.runs;
        names = rw (known, same) h.names;
        part = rw known (record { others = f.part.others; alike = alike_then (alike_more f.part.others h.alike) f.part.alike });
      }

-- a table of no events
pub followed_none : (p : PastView) (t : EventTable) → IsProper p.start → p.events ≡ [] → t.known.items ≡ [] → AreNumbered t → IsFollowed p t
followed_none p t ok e n numbered = record {
  known = rw n (record { sound = fired_is_sound p.start ok nothing; each = λ k i. absurd (none_in i); ranks = λ k i. absurd (none_in i) });
  numbered = numbered;
  part = rw (n, e) (record { others = []; alike = none });
}
