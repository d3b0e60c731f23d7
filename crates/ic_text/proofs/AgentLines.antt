-- The links of the lines of agents, and the agents of a start by their lines.
use Rattle.std.proofs.Common.{◌≡◌, ℕ, ◌+◌, Bool, true, false, List, [], ◌∷◌, map, ◌⊎◌, inl, inr, refl, sym, ap, subst, ◌∙◌, arith, Some}
use Rattle.std.specs.Prelude.{cond, if◌then◌else◌, not}
use Rattle.std.specs.List.Sorted.{IsStrictlySortedBy}
use Rattle.ic_name.specs.Names.{Name, name_cmp, start_name}
use Rattle.ic_name.specs.Same.{same_name}
use Rattle.ic_name.specs.declared.kinds.Kind.{Kind}
use Rattle.ic_name.specs.declared.ports.Port.{Port}
use Rattle.ic_name.specs.declared.ports.Port.TheVariants as port
use Rattle.ic_name.proofs.SameFacts.{same_name_true, same_name_self}
use Rattle.ic_theory.specs.Orders.{IsIn}
use Rattle.ic_theory.proofs.Picks.{pick-map, in_first, in_more, in-cons_cases, none_in}
use Rattle.ic_theory.specs.Born.{named}
use Rattle.ic_theory.specs.Listed.{NetAgent, agent_among}
use Rattle.ic_text.specs.Grammar.{port_of}
use Rattle.ic_text.specs.NetText.{shown_ports, port_label}
use Rattle.ic_text.specs.Reread.{line_of}
use Rattle.ic_text.proofs.Elements.{in_before, map_cases}
use Rattle.ic_text.proofs.Owners.{later_name, later_sorted}
use Rattle.ic_text.proofs.PrintedJoins.{line_joins, agent_joins}
use Rattle.ic_theory.proofs.InLists.{in_behind, in-append_cases}

-- the first agent's line is the first
pub line_first : (b : NetAgent) (bs : List NetAgent) (n : Name) (k : ℕ) → same_name n b.name ≡ true → k + line_of (b ∷ bs) n ≡ k
line_first b bs n k e = rw e (omega arith)

-- the others follow it
pub line_later : (b : NetAgent) (bs : List NetAgent) (n : Name) (k : ℕ) → same_name n b.name ≡ false → k + line_of (b ∷ bs) n ≡ (k + 1) + line_of bs n
line_later b bs n k e = rw e (omega arith)

-- names with one line are one
pub line_one : (as' : List NetAgent) (m n : Name) (a b : NetAgent) → agent_among m as' ≡ Some a → agent_among n as' ≡ Some b → line_of as' m ≡ line_of as' n → m ≡ n
line_one [] m n a b f g h = cc
line_one (c ∷ cs) m n a b f g h = go (same_name m c.name) (same_name n c.name) refl refl f g h (λ f' g' h'. line_one cs m n a b f' g' h')
  where
    go : (s t : Bool) → same_name m c.name ≡ s → same_name n c.name ≡ t → (if s then Some c else agent_among m cs) ≡ Some a → (if t then Some c else agent_among n cs) ≡ Some b
        → cond (not s) (1 + line_of cs m) 0 ≡ cond (not t) (1 + line_of cs n) 0
        → (agent_among m cs ≡ Some a → agent_among n cs ≡ Some b → line_of cs m ≡ line_of cs n → m ≡ n) → m ≡ n
    go true true d e f g h ih = same_name_true m c.name d ∙ sym (same_name_true n c.name e)
    go false false d e f g h ih = ih f g (omega arith)
    go true false d e f g h ih = absurd (omega arith)
    go false true d e f g h ih = absurd (omega arith)

-- ---- links

-- each port of an agent that is found has a link to its label
pub join_there : (N : List ℕ → ℕ) (names : List (List ℕ)) (ws : List Port) (k : ℕ) (as' : List NetAgent) (n : Name) (a : NetAgent) (i : ℕ) → agent_among n as' ≡ Some a → IsIn i (shown_ports a.kind)
    → IsIn (port_of (k + line_of as' n) i, port.Name (N (port_label names ws a i))) (agent_joins N names ws k as')
join_there N names ws k [] n a i h c = cc
join_there N names ws k (b ∷ bs) n a i h c = go (same_name n b.name) refl h (λ f. join_there N names ws (k + 1) bs n a i f c)
  where
    here_is : IsIn i (shown_ports b.kind) → IsIn (port_of k i, port.Name (N (port_label names ws b i))) (line_joins N k (port_label names ws b) b.kind)
    here_is j = (_, pick-map (λ i. (port_of k i, port.Name (N (port_label names ws b i)))) j.1)

    go : (t : Bool) → same_name n b.name ≡ t → (if t then Some b else agent_among n bs) ≡ Some a
        → (agent_among n bs ≡ Some a → IsIn (port_of ((k + 1) + line_of bs n) i, port.Name (N (port_label names ws a i))) (agent_joins N names ws (k + 1) bs))
        → IsIn (port_of (k + line_of (b ∷ bs) n) i, port.Name (N (port_label names ws a i))) (agent_joins N names ws k (b ∷ bs))
    go true e f ih =
        let s : b ≡ a = cc in
        let first = in_before (agent_joins N names ws (k + 1) bs) (here_is (subst (λ (z : NetAgent). IsIn i (shown_ports z.kind)) (sym s) c)) in
        let moved = subst (λ (z : NetAgent). IsIn (port_of k i, port.Name (N (port_label names ws z i))) (agent_joins N names ws k (b ∷ bs))) s first in
        subst (λ (m : ℕ). IsIn (port_of m i, port.Name (N (port_label names ws a i))) (agent_joins N names ws k (b ∷ bs))) (sym (line_first b bs n k e)) moved
    go false e f ih =
        let later = in_behind (line_joins N k (port_label names ws b) b.kind) (ih f) in
        subst (λ (m : ℕ). IsIn (port_of m i, port.Name (N (port_label names ws a i))) (agent_joins N names ws k (b ∷ bs))) (sym (line_later b bs n k e)) later

-- a link of the agents' lines, by its port
pub record AgentJoin (N : List ℕ → ℕ) (names : List (List ℕ)) (ws : List Port) (k : ℕ) (as' : List NetAgent) (j : Port × Port) : Type 0 where
  pub agent : NetAgent
  pub listed : IsIn agent as'
  pub number : ℕ
  pub shown : IsIn number (shown_ports agent.kind)
  pub is : j ≡ (port_of (k + line_of as' agent.name) number, port.Name (N (port_label names ws agent number)))

-- each has one
pub agent_join : (N : List ℕ → ℕ) (names : List (List ℕ)) (ws : List Port) (k : ℕ) (as' : List NetAgent) {j : Port × Port} → IsStrictlySortedBy name_cmp (map (λ a. a.name) as')
    → IsIn j (agent_joins N names ws k as') → AgentJoin N names ws k as' j
agent_join N names ws k [] s i = absurd (none_in i)
agent_join N names ws k (b ∷ bs) {j} s i = go (in-append_cases (line_joins N k (port_label names ws b) b.kind) i) (λ c. agent_join N names ws (k + 1) bs (later_sorted b bs s) c)
  where
    go : IsIn j (line_joins N k (port_label names ws b) b.kind) ⊎ IsIn j (agent_joins N names ws (k + 1) bs) → (IsIn j (agent_joins N names ws (k + 1) bs) → AgentJoin N names ws (k + 1) bs j)
        → AgentJoin N names ws k (b ∷ bs) j
    go (inl c) ih =
        let r = map_cases (λ i. (port_of k i, port.Name (N (port_label names ws b i)))) (shown_ports b.kind) c in
        record {
          agent = b;
          listed = in_first b bs;
          number = r.0;
          shown = r.1;
          is = r.2 ∙ ap (λ (m : ℕ). (port_of m r.0, port.Name (N (port_label names ws b r.0)))) (sym (line_first b bs b.name k (same_name_self b.name)));
        }
    go (inr c) ih =
        let r = ih c in
        record {
          agent = r.agent;
          listed = in_more b r.listed;
          number = r.number;
          shown = r.shown;
          is = r.is ∙ ap (λ (m : ℕ). (port_of m r.number, port.Name (N (port_label names ws r.agent r.number)))) (sym (line_later b bs r.agent.name k (later_name b r.agent bs s r.listed)));
        }

-- ---- agents

-- each agent that is found is one of the start, by its line
pub agent_there : (k : ℕ) (as' : List NetAgent) (n : Name) (a : NetAgent) → agent_among n as' ≡ Some a → IsIn (start_name (k + line_of as' n), a.kind) (named start_name k (map (λ a. a.kind) as'))
agent_there k [] n a h = cc
agent_there k (b ∷ bs) n a h = go (same_name n b.name) refl h (λ f. agent_there (k + 1) bs n a f)
  where
    go : (t : Bool) → same_name n b.name ≡ t → (if t then Some b else agent_among n bs) ≡ Some a
        → (agent_among n bs ≡ Some a → IsIn (start_name ((k + 1) + line_of bs n), a.kind) (named start_name (k + 1) (map (λ a. a.kind) bs)))
        → IsIn (start_name (k + line_of (b ∷ bs) n), a.kind) (named start_name k (map (λ a. a.kind) (b ∷ bs)))
    go true e f ih =
        let s : b ≡ a = cc in
        let l : k + line_of (b ∷ bs) n ≡ k = line_first b bs n k e in
        let same : ◌≡◌ {A = Name × Kind} (start_name k, b.kind) (start_name (k + line_of (b ∷ bs) n), a.kind) = λ u. (start_name (sym l u), (s u).kind) in
        subst (λ z. IsIn z (named start_name k (map (λ a. a.kind) (b ∷ bs)))) same (in_first _ _)
    go false e f ih =
        let l : k + line_of (b ∷ bs) n ≡ (k + 1) + line_of bs n = line_later b bs n k e in
        subst (λ (m : ℕ). IsIn (start_name m, a.kind) (named start_name k (map (λ a. a.kind) (b ∷ bs)))) (sym l) (in_more (start_name k, b.kind) (ih f))

-- an agent of the start, by the agent of the list
pub record StartAgent (k : ℕ) (as' : List NetAgent) (x : Name × Kind) : Type 0 where
  pub agent : NetAgent
  pub listed : IsIn agent as'
  pub is : x ≡ (start_name (k + line_of as' agent.name), agent.kind)

-- each has one
pub start_agent : (k : ℕ) (as' : List NetAgent) {x : Name × Kind} → IsStrictlySortedBy name_cmp (map (λ a. a.name) as') → IsIn x (named start_name k (map (λ a. a.kind) as')) → StartAgent k as' x
start_agent k [] s i = absurd (none_in i)
start_agent k (b ∷ bs) {x} s i = go (in-cons_cases i) (λ c. start_agent (k + 1) bs (later_sorted b bs s) c)
  where
    go : (x ≡ (start_name k, b.kind)) ⊎ IsIn x (named start_name (k + 1) (map (λ a. a.kind) bs)) → (IsIn x (named start_name (k + 1) (map (λ a. a.kind) bs)) → StartAgent (k + 1) bs x) → StartAgent k (b ∷ bs) x
    go (inl e) ih = record { agent = b; listed = in_first b bs; is = e ∙ ap (λ (m : ℕ). (start_name m, b.kind)) (sym (line_first b bs b.name k (same_name_self b.name))) }
    go (inr c) ih =
        let r = ih c in
        record { agent = r.agent; listed = in_more b r.listed; is = r.is ∙ ap (λ (m : ℕ). (start_name m, r.agent.kind)) (sym (line_later b bs r.agent.name k (later_name b r.agent bs s r.listed))) }
