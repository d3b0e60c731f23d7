-- Agents that are numbered in a row, with their partners moved along.
use Rattle.std.proofs.Common.{◌≡◌, ◌≢◌, ℕ, zero, suc, ◌+◌, ◌<◌, Bool, true, false, List, [], ◌∷◌, length, map, refl, sym, ap, subst, ◌∙◌, arith, Some}
use Rattle.std.specs.Prelude.{All, if◌then◌else◌, option_map}
use Rattle.std.specs.List.{AllByRecursion}
use Rattle.std.specs.Cmp.{nat_cmp_is}
use Rattle.std.specs.declared.cmp.Ordering.{Ordering}
use Rattle.std.specs.declared.cmp.Ordering.TheVariants.{Less, Equal, Greater}
use Rattle.std.specs.Ordering.{nat_cmp, ordering_then}
use Rattle.std.specs.List.Sorted.{IsStrictlySortedBy}
use Rattle.std.proofs.lemmas.Bool.{ne_eqb}
use Rattle.std.proofs.lemmas.List.{length-map}
use Rattle.ic_name.specs.Names.{Name, name_cmp, start_name}
use Rattle.ic_name.specs.Kinds.{arity}
use Rattle.ic_name.specs.Same.{same_name}
use Rattle.ic_name.specs.declared.ports.Port.{Port}
use Rattle.ic_name.proofs.SameFacts.{same_name_true, same_name_self}
use Rattle.ic_theory.specs.Orders.{IsIn}
use Rattle.ic_theory.proofs.Picks.{in_first, in_more}
use Rattle.ic_theory.specs.Born.{named}
use Rattle.ic_theory.specs.Listed.{NetAgent, agent_among}
use Rattle.ic_theory.specs.Nets.{kind_among}
use Rattle.ic_text.specs.Reread.{line_of}
use Rattle.ic_text.proofs.Owners.{later_name, later_sorted}
use Rattle.ic_text.proofs.AgentLines.{line_first, line_later}
use Rattle.ic_theory.proofs.InLists.{map_agrees}

-- an agent with the number k as name
abbrev pub image_at : (Port → Port) → ℕ → NetAgent → NetAgent
image_at r k a = record { name = start_name k; kind = a.kind; partners = map r a.partners }

-- agents numbered from k on
abbrev pub images : (Port → Port) → ℕ → List NetAgent → List NetAgent
images r k [] = []
images r k (a ∷ as') = image_at r k a ∷ images r (k + 1) as'

-- agents numbered by their lines are numbered in a row
pub images_lines : (r : Port → Port) (k : ℕ) (as' : List NetAgent) → IsStrictlySortedBy name_cmp (map (λ a. a.name) as') → images r k as' ≡ map (λ a. image_at r (k + line_of as' a.name) a) as'
images_lines r k [] s = refl
images_lines r k (b ∷ bs) s =
    let first : image_at r k b ≡ image_at r (k + line_of (b ∷ bs) b.name) b = ap (λ (i : ℕ). image_at r i b) (sym (line_first b bs b.name k (same_name_self b.name))) in
    let others : map (λ a. image_at r ((k + 1) + line_of bs a.name) a) bs ≡ map (λ a. image_at r (k + line_of (b ∷ bs) a.name) a) bs =
    map_agrees _ _ bs (λ a i. ap (λ (j : ℕ). image_at r j a) (sym (line_later b bs a.name k (later_name b a bs s i)))) in
    let rest = images_lines r (k + 1) bs (later_sorted b bs s) ∙ others in
    λ u. first u ∷ rest u

-- they have the kinds of a start's agents
pub images_kind : (r : Port → Port) (k : ℕ) (as' : List NetAgent) (n : Name) → option_map (λ (a : NetAgent). a.kind) (agent_among n (images r k as')) ≡ kind_among n (named start_name k (map (λ a. a.kind) as'))
images_kind r k [] n = refl
images_kind r k (b ∷ bs) n = go (same_name n (start_name k)) (images_kind r (k + 1) bs n)
  where
    go : (t : Bool) → option_map (λ (a : NetAgent). a.kind) (agent_among n (images r (k + 1) bs)) ≡ kind_among n (named start_name (k + 1) (map (λ a. a.kind) bs))
        → option_map (λ (a : NetAgent). a.kind) (if t then Some (image_at r k b) else agent_among n (images r (k + 1) bs)) ≡ (if t then Some b.kind else kind_among n (named start_name (k + 1) (map (λ a. a.kind) bs)))
    go true ih = refl
    go false ih = ih

-- names of start agents are in order of their numbers
pub starts_cmp : (i j : ℕ) → name_cmp (start_name i) (start_name j) ≡ nat_cmp i j
starts_cmp i j = go (nat_cmp i j)
  where
    go : (o : Ordering) → ordering_then o Equal ≡ o
    go Less = refl
    go Equal = refl
    go Greater = refl

-- other numbers are other names
pub starts_apart : (i j : ℕ) → i ≢ j → same_name (start_name i) (start_name j) ≡ false
starts_apart i j h = rw (ne_eqb i j h) refl

-- the names from a greater number on are behind
images_above : (r : Port → Port) (j k : ℕ) (as' : List NetAgent) → j < k → AllByRecursion (λ n. name_cmp (start_name j) n ≡ Less) (map (λ a. a.name) (images r k as'))
images_above r j k [] h = tt
images_above r j k (b ∷ bs) h = (starts_cmp j k ∙ sym (nat_cmp_is j k Less h), images_above r j (k + 1) bs (omega arith))

-- so their names are in order
pub images_sorted : (r : Port → Port) (k : ℕ) (as' : List NetAgent) → IsStrictlySortedBy name_cmp (map (λ a. a.name) (images r k as'))
unfolding IsStrictlySortedBy
images_sorted r k [] = tt
images_sorted r k (b ∷ bs) = (images_above r k (k + 1) bs (omega arith), images_sorted r (k + 1) bs)

-- an agent that is found is found by its line
pub images_there : (r : Port → Port) (k : ℕ) (as' : List NetAgent) (n : Name) (a : NetAgent) → agent_among n as' ≡ Some a → agent_among (start_name (k + line_of as' n)) (images r k as') ≡ Some (image_at r (k + line_of as' n) a)
images_there r k [] n a h = cc
images_there r k (b ∷ bs) n a h = go (same_name n b.name) refl h (images_there r (k + 1) bs n a)
  where
    go : (t : Bool) → same_name n b.name ≡ t → (if t then Some b else agent_among n bs) ≡ Some a
        → (agent_among n bs ≡ Some a → agent_among (start_name ((k + 1) + line_of bs n)) (images r (k + 1) bs) ≡ Some (image_at r ((k + 1) + line_of bs n) a))
        → agent_among (start_name (k + line_of (b ∷ bs) n)) (images r k (b ∷ bs)) ≡ Some (image_at r (k + line_of (b ∷ bs) n) a)
    go true e f ih =
        let s : b ≡ a = cc in
        let first : agent_among (start_name k) (images r k (b ∷ bs)) ≡ Some (image_at r k b) = rw (same_name_self (start_name k)) refl in
        subst (λ (i : ℕ). agent_among (start_name i) (images r k (b ∷ bs)) ≡ Some (image_at r i a)) (sym (line_first b bs n k e)) (first ∙ ap (λ z. Some (image_at r k z)) s)
    go false e f ih =
        let other = starts_apart ((k + 1) + line_of bs n) k (λ g. omega (arith, g)) in
        let later : agent_among (start_name ((k + 1) + line_of bs n)) (images r k (b ∷ bs)) ≡ Some (image_at r ((k + 1) + line_of bs n) a) = rw other (ih f) in
        subst (λ (i : ℕ). agent_among (start_name i) (images r k (b ∷ bs)) ≡ Some (image_at r i a)) (sym (line_later b bs n k e)) later

-- an agent that is found among the numbered ones, by the one that it was
pub record Numbered (r : Port → Port) (k : ℕ) (as' : List NetAgent) (n : Name) (c : NetAgent) : Type 0 where
  pub agent : NetAgent
  pub listed : IsIn agent as'
  pub name : n ≡ start_name (k + line_of as' agent.name)
  pub is : c ≡ image_at r (k + line_of as' agent.name) agent

-- each was one
pub images_from : (r : Port → Port) (k : ℕ) (as' : List NetAgent) (n : Name) (c : NetAgent) → IsStrictlySortedBy name_cmp (map (λ a. a.name) as') → agent_among n (images r k as') ≡ Some c → Numbered r k as' n c
images_from r k [] n c s h = cc
images_from r k (b ∷ bs) n c s h = go (same_name n (start_name k)) refl h (images_from r (k + 1) bs n c (later_sorted b bs s))
  where
    go : (t : Bool) → same_name n (start_name k) ≡ t → (if t then Some (image_at r k b) else agent_among n (images r (k + 1) bs)) ≡ Some c
        → (agent_among n (images r (k + 1) bs) ≡ Some c → Numbered r (k + 1) bs n c) → Numbered r k (b ∷ bs) n c
    go true e f ih =
        let l = line_first b bs b.name k (same_name_self b.name) in
        let is : image_at r k b ≡ c = cc in
        record { agent = b; listed = in_first b bs; name = same_name_true n (start_name k) e ∙ ap start_name (sym l); is = sym is ∙ ap (λ (i : ℕ). image_at r i b) (sym l) }
    go false e f ih =
        let w = ih f in
        let l = line_later b bs w.agent.name k (later_name b w.agent bs s w.listed) in
        record { agent = w.agent; listed = in_more b w.listed; name = w.name ∙ ap start_name (sym l); is = w.is ∙ ap (λ (i : ℕ). image_at r i w.agent) (sym l) }

-- each has as many partners as it has ports
pub images_whole : (r : Port → Port) (k : ℕ) (as' : List NetAgent) → AllByRecursion (λ (a : NetAgent). length a.partners ≡ arity a.kind + 1) as' → AllByRecursion (λ (a : NetAgent). length a.partners ≡ arity a.kind + 1) (images r k as')
images_whole r k [] h = tt
images_whole r k (b ∷ bs) h = (length-map b.partners r ∙ h.0, images_whole r (k + 1) bs h.1)

-- what holds of each agent, by index
pub by_index : {X : Type 0} (P : X → Type 0) (xs : List X) → AllByRecursion P xs → All P xs
by_index P [] h k d lt = absurd (omega (arith, lt))
by_index P (x ∷ xs) h zero d lt = h.0
by_index P (x ∷ xs) h (suc k) d lt = by_index P xs h.1 k d (omega (arith, lt))
