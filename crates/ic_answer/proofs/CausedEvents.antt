-- All standing events with their ranks and direct causes, as the machine has them.
use Rattle.std.proofs.Common.{◌≡◌, ℕ, ◌+◌, ◌<◌, ◌≤◌, List, [], ◌∷◌, ◌++◌, length, map, take, get_or, refl, sym, ap, subst, arith, ◌∙◌, append-nil, append_assoc}
use Rattle.std.specs.Prelude.{All, codes}
use Rattle.std.specs.Fmt.{decimal}
use Rattle.std.specs.List.{flat_map}
use Rattle.std.specs.List.Sorted.{IsStrictlySortedBy}
use Rattle.std.proofs.lemmas.List.{take_more, take_all, get_or-map, flat_map_more, length-map}
use Rattle.std.proofs.lemmas.List.Elements.{All-nil, All-push}
use Rattle.ic_name.specs.Events.{pair}
use Rattle.ic_name.specs.NameTexts.{pair_text}
use Rattle.ic_name.specs.declared.ids.EventId.{EventId}
use Rattle.ic_path.specs.Orders.{IsIn, Alike}
use Rattle.ic_path.proofs.Alikes.{alike_back, alike_then, alike-map}
use Rattle.ic_path.proofs.EachOnce.{each_once_alike}
use Rattle.ic_theory.specs.Causes.{canonical_cmp}
use Rattle.ic_theory.specs.Machine.{State, events}
use Rattle.ic_theory.proofs.Restored.{rank-alike}
use Rattle.ic_roster.specs.Rosters.{Stander}
use Rattle.ic_set.specs.Orders.{AreInOrder, IsAny}
use Rattle.ic_set.specs.Views.{events_of, standing}
use Rattle.ic_path.proofs.OnceLists.{pick_at}
use Rattle.ic_journal.specs.Views.{BenchView, set_of}
use Rattle.ic_journal.specs.Benches.{IsAt, IsBench}
use Rattle.ic_journal.proofs.MachineSteps.{events_at}
use Rattle.ic_command.specs.declared.question.Question.TheVariants.{Causes}
use Rattle.ic_answer.specs.BenchQuestions.{Informs, InformsOf, causes}
use Rattle.ic_answer.specs.Caused.{Caused, IsCaused, AddsCaused, cause_word, caused_line, causes_text}

-- the lines of the first events are at the end of the text
pub record HasFirst (v : BenchView) (st : State) (head : List ℕ) (order : List Stander) (i : ℕ) (text : List ℕ) : Type 0 where
  pub lines : List Caused
  pub named : map (λ y. y.event) lines ≡ events_of (take i order)
  pub each : All (IsCaused v.start (events st)) lines
  pub text_is : text ≡ head ++ flat_map caused_line lines

-- whichever the events under the ids are
abbrev pub HasCaused : BenchView → List EventId → List ℕ → ℕ → List ℕ → Type 0
HasCaused v ids head i text = (st : State) → IsAt v st → (order : List Stander) → ((x : Stander) → IsIn x order → IsIn x v.events) → map (λ x. x.id) order ≡ ids → HasFirst v st head order i text

-- no line yet
pub none_caused : (v : BenchView) (ids : List EventId) (head : List ℕ) → HasCaused v ids head 0 head
none_caused v ids head st at order fit named = record { lines = []; named = refl; each = All-nil (IsCaused v.start (events st)); text_is = sym (append-nil head) }

-- the events of a list with one more
caused_push : (ys : List Caused) (y : Caused) → map (λ w. w.event) (ys ++ y ∷ []) ≡ map (λ w. w.event) ys ++ y.event ∷ []
caused_push [] y = refl
caused_push (w ∷ ws) y = ap (λ us. w.event ∷ us) (caused_push ws y)

events_push : (ys : List Stander) (y : Stander) → events_of (ys ++ y ∷ []) ≡ events_of ys ++ y.event ∷ []
events_push [] y = refl
events_push (w ∷ ws) y = ap (λ us. w.event ∷ us) (events_push ws y)

-- a line more
pub more_caused : (v : BenchView) (ids : List EventId) (head old new : List ℕ) (i : ℕ) (d : EventId) → i < length ids → HasCaused v ids head i old
    → ((st : State) → IsAt v st → (x : Stander) → IsIn x v.events → x.id ≡ get_or ids i d → AddsCaused v.start (events st) x.event old new) → HasCaused v ids head (i + 1) new
more_caused v ids head old new i d h had more st at order fit named = by order fit named
  where
    long : (xs : List Stander) → map (λ (x : Stander). x.id) xs ≡ ids → i < length xs
    long xs e = let n = ap length e in let m = length-map xs (λ (x : Stander). x.id) in omega arith

    by : (xs : List Stander) → ((x : Stander) → IsIn x xs → IsIn x v.events) → map (λ (x : Stander). x.id) xs ≡ ids → HasFirst v st head xs (i + 1) new
    by [] fit e = let n : 0 ≡ length ids = ap length e in absurd (omega arith)
    by (z ∷ zs) fit e =
        let l = long (z ∷ zs) e in
        let x = get_or (z ∷ zs) i z in
        let is : x.id ≡ get_or ids i d = sym (get_or-map (λ (y : Stander). y.id) (z ∷ zs) i z d l) ∙ ap (λ us. get_or us i d) e in
        let f = had st at (z ∷ zs) fit e in
        let a = more st at x (fit x (_, pick_at (z ∷ zs) i z l)) is in
        record {
          lines = f.lines ++ a.0 ∷ [];
          named = caused_push f.lines a.0 ∙ ap (λ us. us ++ a.0.event ∷ []) f.named ∙ ap (λ u. events_of (take i (z ∷ zs)) ++ u ∷ []) a.1
              ∙ sym (events_push (take i (z ∷ zs)) x) ∙ ap events_of (sym (take_more (z ∷ zs) i z l));
          each = All-push (IsCaused v.start (events st)) f.lines a.0 f.each a.2;
          text_is = a.3 ∙ ap (λ us. us ++ caused_line a.0) f.text_is ∙ flat_map_more caused_line head f.lines a.0;
        }

-- what is told of all
pub tells_causes : (v : BenchView) → IsBench v → (ids : List EventId) → AreInOrder (set_of v) IsAny ids → (head text : List ℕ) (i : ℕ) → length ids ≤ i
    → head ≡ codes "causes " ++ decimal (length ids) ++ codes "\n" → HasCaused v ids head i text → InformsOf v Causes text
tells_causes v b ids a head text i done head_is had st at = subst (λ t. Informs v.start st Causes t) (sym whole) (causes (record {
  alike = alike_then (alike_back (events_at v at)) (subst (λ es. Alike (standing (set_of v)) es) (sym named) (alike-map (λ (x : Stander). x.event) (each_once_alike v.events a.order (record { each = λ x h. h.0; only = λ x i. (i, tt); once = λ x rest k i. b.set.own_lines.lines x x rest k i refl }) a.each)));
  canonical = λ rank is. subst (λ es. IsStrictlySortedBy (canonical_cmp rank) es) (sym named) (a.canonical rank (rank-alike v.start rank (alike_back (events_at v at)) is));
  each = f.each;
}))
  where
    f : HasFirst v st head a.order i text
    f = had st at a.order (λ x k. (a.each.only x k).0) a.named

    long : length ids ≡ length a.order
    long = ap length (sym a.named) ∙ length-map a.order (λ (x : Stander). x.id)

    named : map (λ (y : Caused). y.event) f.lines ≡ events_of a.order
    named = f.named ∙ ap events_of (take_all i a.order (let l = long in omega arith))

    count : length ids ≡ length f.lines
    count = long ∙ sym (length-map a.order (λ (x : Stander). x.event)) ∙ ap length (sym named) ∙ length-map f.lines (λ (y : Caused). y.event)

    whole : text ≡ causes_text f.lines
    whole = f.text_is ∙ ap (λ us. us ++ flat_map caused_line f.lines) (head_is ∙ ap (λ n. codes "causes " ++ decimal n ++ codes "\n") count)

-- the parts of a line in another grouping
regroup : (o p q r c n w z : List ℕ) → ((((o ++ p) ++ (q ++ (r ++ (c ++ n)))) ++ w) ++ z) ≡ o ++ ((((((p ++ q) ++ r) ++ c) ++ n) ++ w) ++ z)
regroup o p q r c n w z = simp append_assoc

-- what was put into the text for one event
pub caused_put : (x : Caused) (k : ℕ) (old named counts head listed new : List ℕ) → named ≡ old ++ pair_text (pair x.event)
    → counts ≡ codes " rank " ++ (decimal x.rank ++ (codes " causes " ++ decimal k)) → k ≡ length x.causes → head ≡ named ++ counts
    → listed ≡ head ++ flat_map cause_word x.causes → new ≡ listed ++ codes "\n" → new ≡ old ++ caused_line x
caused_put x k old named counts head listed new n c m h l e =
    let counts_is : counts ≡ codes " rank " ++ (decimal x.rank ++ (codes " causes " ++ decimal (length x.causes))) = c ∙ ap (λ j. codes " rank " ++ (decimal x.rank ++ (codes " causes " ++ decimal j))) m in
    let head_is : head ≡ (old ++ pair_text (pair x.event)) ++ (codes " rank " ++ (decimal x.rank ++ (codes " causes " ++ decimal (length x.causes)))) = h ∙ ap (λ us. us ++ counts) n ∙ ap (λ us. (old ++ pair_text (pair x.event)) ++ us) counts_is in
    e ∙ ap (λ us. us ++ codes "\n") (l ∙ ap (λ us. us ++ flat_map cause_word x.causes) head_is)
    ∙ regroup old (pair_text (pair x.event)) (codes " rank ") (decimal x.rank) (codes " causes ") (decimal (length x.causes)) (flat_map cause_word x.causes) (codes "\n")
