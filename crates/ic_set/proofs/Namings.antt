-- The ids of agents and events as a naming.
use Rattle.std.proofs.Common.{◌≡◌, Bool, true, false, List, [], ◌∷◌, ◌⊎◌, inl, inr, Option, Some, None, refl, sym, ap, subst, eq-eqb, ◌∙◌}
use Rattle.std.specs.Prelude.{if◌then◌else◌, is_some}
use Rattle.std.proofs.lemmas.Bool.{eqb-true, and_from, and_parts}
use Rattle.ic_name.specs.Names.{Name, start_name}
use Rattle.ic_name.specs.Events.{Event}
use Rattle.ic_name.specs.Spots.{same_agent, same_event}
use Rattle.ic_name.specs.declared.ids.AgentId.{AgentId}
use Rattle.ic_name.specs.declared.ids.EventId.{EventId}
use Rattle.ic_name.specs.declared.kinds.Kind.TheVariants.{Eps}
use Rattle.ic_path.specs.Orders.{Pick, IsIn, Alike}
use Rattle.ic_path.proofs.Picks.{none_in, in_first, in_more, in_others, in-cons_cases}
use Rattle.ic_path.proofs.Alikes.{alike_back, alike_pick, alike-in}
use Rattle.ic_cause.specs.Naming.{Naming, TellsApart, Extends}
use Rattle.ic_roster.specs.Rosters.{Member, Stander, HaveOwnNames, HaveOwnLines}
use Rattle.ic_set.specs.Ids.{IsNaming}
use Rattle.ic_name.proofs.SameFacts.{same_event_true, same_event_self}

-- members of a list are one where one of them is no other than what the rest lacks
one_of : {X : Type 0} {xs : List X} {x y : X} → ((rest : List X) → Pick x xs rest → IsIn y rest → ⊥) → IsIn x xs → IsIn y xs → x ≡ y
one_of apart i j = elim (in_others i.1 j) [ inl e ↦ sym e | inr r ↦ absurd (apart i.0 i.1 r) ]

-- agents with one id or one name are one
pub same_member : (ms : List Member) (x y : Member) → HaveOwnNames ms → IsIn x ms → IsIn y ms → (x.id ≡ y.id) ⊎ (x.name ≡ y.name) → x ≡ y
same_member ms x y own i j (inl e) = one_of (λ rest k r. own.slots x y rest k r (ap (λ (a : AgentId). a.slot) (sym e))) i j
same_member ms x y own i j (inr e) = one_of (λ rest k r. own.names x y rest k r (sym e)) i j

-- events with one lead are one
pub same_lead : (ss : List Stander) (x y : Stander) → HaveOwnLines ss → IsIn x ss → IsIn y ss → x.event.lead ≡ y.event.lead → x ≡ y
same_lead ss x y own i j e = one_of (λ rest k r. own.leads x y rest k r (sym e)) i j

-- and so are events with one id or one name
pub same_stander : (ss : List Stander) (x y : Stander) → HaveOwnLines ss → IsIn x ss → IsIn y ss → (x.id ≡ y.id) ⊎ (x.event ≡ y.event) → x ≡ y
same_stander ss x y own i j (inl e) = one_of (λ rest k r. own.slots x y rest k r (ap (λ (d : EventId). d.slot) (sym e))) i j
same_stander ss x y own i j (inr e) = same_lead ss x y own i j (ap (λ (f : Event). f.lead) e)

-- each two members of a list are two of the other list
abbrev pub ArePairsOf : {X : Type 0} → List X → List X → Type 0
ArePairsOf {X} xs ys = (x y : X) (rest : List X) → Pick x xs rest → IsIn y rest → (others : List X) × Pick x ys others × IsIn y others

-- those of a list in another order
pairs_alike : {X : Type 0} {xs ys : List X} → Alike xs ys → ArePairsOf ys xs
pairs_alike a = λ x y rest k i. (let p = alike_pick (alike_back a) k in (p.0, p.1, alike-in p.2 i))

-- agents of a list whose agents have names of their own have them
pub own_names_from : {ms ns : List Member} → ArePairsOf ns ms → HaveOwnNames ms → HaveOwnNames ns
own_names_from f own = record {
  slots = λ x y rest k i. (let p = f x y rest k i in own.slots x y p.0 p.1 p.2);
  names = λ x y rest k i. (let p = f x y rest k i in own.names x y p.0 p.1 p.2);
}

-- and events of one whose events have lines of their own
pub own_lines_from : {ss ts : List Stander} → ArePairsOf ts ss → HaveOwnLines ss → HaveOwnLines ts
own_lines_from f own = record {
  slots = λ x y rest k i. (let p = f x y rest k i in own.slots x y p.0 p.1 p.2);
  lines = λ x y rest k i. (let p = f x y rest k i in own.lines x y p.0 p.1 p.2);
  leads = λ x y rest k i. (let p = f x y rest k i in own.leads x y p.0 p.1 p.2);
}

-- so in any order
pub own_names_alike : {ms ns : List Member} → Alike ms ns → HaveOwnNames ms → HaveOwnNames ns
own_names_alike a own = own_names_from (pairs_alike a) own

pub own_lines_alike : {ss ts : List Stander} → Alike ss ts → HaveOwnLines ss → HaveOwnLines ts
own_lines_alike a own = own_lines_from (pairs_alike a) own

-- ids of agents that pass the test are one
same_agent_true : (a b : AgentId) → same_agent a b ≡ true → a ≡ b
same_agent_true a b h =
    let parts = and_parts _ _ h in
    let s = eqb-true a.slot b.slot parts.0 in
    let n = eqb-true a.serial b.serial parts.1 in
    λ u. record { slot = s u; serial = n u }

-- and an agent's id passes
same_agent_self : (a : AgentId) → same_agent a a ≡ true
same_agent_self a = and_from _ _ (eq-eqb a.slot a.slot refl) (eq-eqb a.serial a.serial refl)

-- the first member of a list with the key
abbrev under : {K X : Type 0} → (X → K) → (K → K → Bool) → List X → K → Option X
under key same [] k = None
under key same (x ∷ xs) k = if same (key x) k then Some x else under key same xs k

module _ {K X : Type 0} (key : X → K) (same : K → K → Bool) (same_true : (j k : K) → same j k ≡ true → j ≡ k) (same_self : (k : K) → same k k ≡ true) where
  -- it is in the list, and has the key
  under_in : (xs : List X) (k : K) (x : X) → under key same xs k ≡ Some x → IsIn x xs × (key x ≡ k)
  under_in [] k x e = absurd cc
  under_in (y ∷ xs) k x e = by (same (key y) k) refl e (under_in xs k x)
    where
      by : (b : Bool) → same (key y) k ≡ b → (if b then Some y else under key same xs k) ≡ Some x → (under key same xs k ≡ Some x → IsIn x xs × (key x ≡ k)) → IsIn x (y ∷ xs) × (key x ≡ k)
      by true t e f = let s : y ≡ x = cc in subst (λ z. IsIn z (y ∷ xs) × (key z ≡ k)) s (in_first y xs, same_true (key y) k t)
      by false t e f = let r = f e in (in_more y r.0, r.1)

  -- the key of a member is found
  in_under : (xs : List X) (x : X) → IsIn x xs → under key same xs (key x) ≡ None → ⊥
  in_under [] x i e = none_in i
  in_under (y ∷ xs) x i e = by (same (key y) (key x)) refl e (in-cons_cases i) (in_under xs x)
    where
      by : (b : Bool) → same (key y) (key x) ≡ b → (if b then Some y else under key same xs (key x)) ≡ None → (x ≡ y) ⊎ IsIn x xs → (IsIn x xs → under key same xs (key x) ≡ None → ⊥) → ⊥
      by true t e c f = cc
      by false t e (inl s) f = let p : same (key y) (key x) ≡ true = subst (λ k. same (key y) k ≡ true) (ap key (sym s)) (same_self (key y)) in cc
      by false t e (inr j) f = f j e

  -- what is found under the key of a member is that member, where no other has its key
  under_own : (xs : List X) (x : X) → IsIn x xs → ((y : X) → IsIn y xs → key y ≡ key x → y ≡ x) → under key same xs (key x) ≡ Some x
  under_own xs x i own = by (under key same xs (key x)) refl
    where
      by : (o : Option X) → under key same xs (key x) ≡ o → under key same xs (key x) ≡ Some x
      by None e = absurd (in_under xs x i e)
      by (Some y) e = let f = under_in xs (key x) y e in e ∙ ap Some (own y f.0 f.1)

  -- what is found is a member with the key
  found_in : (xs : List X) (k : K) → is_some (under key same xs k) ≡ true → (x : X) × IsIn x xs × (key x ≡ k)
  found_in xs k h = by (under key same xs k) refl h
    where
      by : (o : Option X) → under key same xs k ≡ o → is_some o ≡ true → (x : X) × IsIn x xs × (key x ≡ k)
      by None e h = absurd cc
      by (Some x) e h = let f = under_in xs k x e in (x, f.0, f.1)

-- the agent under an id
abbrev agent_under : List Member → AgentId → Option Member
agent_under ms a = under (λ (m : Member). m.id) same_agent ms a

-- the event under an id
abbrev event_under : List Stander → EventId → Option Stander
event_under ss d = under (λ (x : Stander). x.id) same_event ss d

-- a name, whatever is found
abbrev name_found : Option Member → Name
name_found None = start_name 0
name_found (Some m) = m.name

-- an event, whatever is found
abbrev event_found : Option Stander → Event
event_found None = record { lead = start_name 0; lead_kind = Eps; other = start_name 0; other_kind = Eps }
event_found (Some x) = x.event

-- ids as the agents and events that they are found under
abbrev found_under : List Member → List Stander → Naming
found_under ms ss = record {
  agent = λ a. name_found (agent_under ms a);
  event = λ d. event_found (event_under ss d);
  has_agent = λ a. is_some (agent_under ms a);
  has_event = λ d. is_some (event_under ss d);
}

-- agents and events with ids of their own have a naming
pub naming_of : (ms : List Member) (ss : List Stander) → HaveOwnNames ms → HaveOwnLines ss → (n : Naming) × IsNaming ms ss n
naming_of ms ss own lines = (
  found_under ms ss,
  record {
    agents = λ m i. (let e = under_own (λ (m : Member). m.id) same_agent same_agent_true same_agent_self ms m i (λ y j s. same_member ms y m own j i (inl s)) in (ap is_some e, ap name_found e));
    no_other_agents = λ a h. found_in (λ (m : Member). m.id) same_agent same_agent_true same_agent_self ms a h;
    events = λ x i. (let e = under_own (λ (x : Stander). x.id) same_event same_event_true same_event_self ss x i (λ y j s. same_stander ss y x lines j i (inl s)) in (ap is_some e, ap event_found e));
    no_other_events = λ d h. found_in (λ (x : Stander). x.id) same_event same_event_true same_event_self ss d h;
  },
)

-- a naming tells apart what it holds
pub tells_apart : (ms : List Member) (ss : List Stander) (n : Naming) → HaveOwnNames ms → HaveOwnLines ss → IsNaming ms ss n → TellsApart n
tells_apart ms ss n own lines named = record {
  agents = λ a b h k e. (
      let x = named.no_other_agents a h in
      let y = named.no_other_agents b k in
      let same : x.0.name ≡ y.0.name = sym (named.agents x.0 x.1).1 ∙ ap n.agent x.2 ∙ e ∙ sym (ap n.agent y.2) ∙ (named.agents y.0 y.1).1 in
      sym x.2 ∙ ap (λ (m : Member). m.id) (same_member ms x.0 y.0 own x.1 y.1 (inr same)) ∙ y.2);
  events = λ d c h k e. (
      let x = named.no_other_events d h in
      let y = named.no_other_events c k in
      let same : x.0.event ≡ y.0.event = sym (named.events x.0 x.1).1 ∙ ap n.event x.2 ∙ e ∙ sym (ap n.event y.2) ∙ (named.events y.0 y.1).1 in
      sym x.2 ∙ ap (λ (z : Stander). z.id) (same_stander ss x.0 y.0 lines x.1 y.1 (inr same)) ∙ y.2);
}

-- a naming of more agents and events extends one of fewer
pub extends : (ms ms' : List Member) (ss ss' : List Stander) (n n' : Naming) → IsNaming ms ss n → IsNaming ms' ss' n' → ((m : Member) → IsIn m ms → IsIn m ms') → ((x : Stander) → IsIn x ss → IsIn x ss') → Extends n n'
extends ms ms' ss ss' n n' few more agents events = record {
  agents = λ a h. (
      let x = few.no_other_agents a h in
      let y = more.agents x.0 (agents x.0 x.1) in
      subst (λ b. (n'.has_agent b ≡ true) × (n'.agent b ≡ n.agent b)) x.2 (y.0, y.1 ∙ sym (few.agents x.0 x.1).1));
  events = λ d h. (
      let x = few.no_other_events d h in
      let y = more.events x.0 (events x.0 x.1) in
      subst (λ c. (n'.has_event c ≡ true) × (n'.event c ≡ n.event c)) x.2 (y.0, y.1 ∙ sym (few.events x.0 x.1).1));
}
