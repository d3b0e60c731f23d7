-- Agents that are entered one after the other.
use Rattle.std.proofs.Common.{◌≡◌, ℕ, List, [], ◌∷◌, ◌++◌, ◌⊎◌, inl, inr, refl, sym, ap, subst, ◌∙◌}
use Rattle.std.proofs.lemmas.List.{map-append}
use Rattle.ic_name.specs.Names.{Name}
use Rattle.ic_name.specs.declared.kinds.Kind.{Kind}
use Rattle.ic_name.specs.declared.ids.AgentId.{AgentId}
use Rattle.ic_names.specs.Tables.{name_at}
use Rattle.ic_path.specs.Orders.{here, IsIn, Alike}
use Rattle.ic_path.proofs.Picks.{none_in, pick_behind, pick_before}
use Rattle.ic_path.proofs.Alikes.{alike_self, alike_back, alike-in}
use Rattle.ic_theory.proofs.Future.{pick_part}
use Rattle.ic_path.proofs.InLists.{in-map}
use Rattle.ic_path.proofs.ListEnds.{in-end_cases}
use Rattle.ic_roster.specs.Rosters.{Member, IsNewName}
use Rattle.ic_set.specs.declared.entering.NewAgent.{NewAgent}
use Rattle.ic_set.specs.Views.{agent_of}
use Rattle.ic_set.specs.Entering.{named_in, agents_in, CanEnter, Enters}
use Rattle.ic_link.proofs.AddedInTurn.{one_more}

-- at first none is entered
pub enters_none : (ms : List Member) (serial : ℕ) → Enters ms [] serial [] ms
enters_none ms serial = record { entered = []; under = refl; named = refl; serials = λ m i. absurd (none_in i); alike = alike_self ms }

-- what was entered before or was there has another name than the next one
pub next_new : (old now : List Member) (front back : List (Name × Kind)) (x : Name × Kind) (serial : ℕ) (ids : List AgentId) → CanEnter old (front ++ x ∷ back) → Enters old front serial ids now → IsNewName now x.0
next_new old now front back x serial ids can h m i e = by (let j = alike-in (alike_back h.alike) i in pick_part h.entered old j.1)
  where
    by : IsIn m h.entered ⊎ IsIn m old → ⊥
    by (inl j) =
        let its = subst (IsIn (agent_of m)) h.named (in-map agent_of j) in
        can.apart x (agent_of m) (front ++ back) (pick_behind front here) (_, pick_before back its.1) e
    by (inr j) = can.new x (_, pick_behind front here) m j e

-- one more is entered
pub enters_more : (old now new : List Member) (front : List (Name × Kind)) (serial : ℕ) (ids : List AgentId) (m : Member) → Enters old front serial ids now → m.id.serial ≡ serial → Alike (m ∷ now) new
    → Enters old (front ++ agent_of m ∷ []) serial (ids ++ m.id ∷ []) new
enters_more old now new front serial ids m h s a = record {
  entered = h.entered ++ m ∷ [];
  under = map-append (λ (k : Member). k.id) h.entered (m ∷ []) ∙ ap (λ xs. xs ++ m.id ∷ []) h.under;
  named = map-append agent_of h.entered (m ∷ []) ∙ ap (λ xs. xs ++ agent_of m ∷ []) h.named;
  serials = λ k i. by k (in-end_cases i);
  alike = one_more h.entered old now new m h.alike a;
}
  where
    by : (k : Member) → (k ≡ m) ⊎ IsIn k h.entered → k.id.serial ≡ serial
    by k (inl e) = ap (λ (y : Member). y.id.serial) e ∙ s
    by k (inr i) = h.serials k i

-- the next one of all that are to be entered has a new name
pub next_can : (ns : List Name) (old now : List Member) (front back all : List NewAgent) (x : NewAgent) (serial : ℕ) (ids : List AgentId) → front ++ x ∷ back ≡ all → CanEnter old (agents_in ns all) → Enters old (agents_in ns front) serial ids now
    → IsNewName now (name_at ns x.name.place)
next_can ns old now front back all x serial ids e can h =
    let split = ap (agents_in ns) (sym e) ∙ map-append (named_in ns) front (x ∷ back) in
    next_new old now (agents_in ns front) (agents_in ns back) (named_in ns x) serial ids (subst (CanEnter old) split can) h

-- and comes behind those that are entered
pub next_enters : (ns : List Name) (old now new : List Member) (front : List NewAgent) (x : NewAgent) (serial : ℕ) (ids : List AgentId) (id : AgentId) → Enters old (agents_in ns front) serial ids now → id.serial ≡ serial
    → Alike (record { id = id; name = name_at ns x.name.place; kind = x.kind } ∷ now) new → Enters old (agents_in ns (front ++ x ∷ [])) serial (ids ++ id ∷ []) new
next_enters ns old now new front x serial ids id h s a =
    subst (λ es. Enters old es serial (ids ++ id ∷ []) new) (sym (map-append (named_in ns) front (x ∷ [])))
    (enters_more old now new (agents_in ns front) serial ids (record { id = id; name = name_at ns x.name.place; kind = x.kind }) h s a)
