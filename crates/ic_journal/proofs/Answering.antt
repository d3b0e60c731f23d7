-- What a bench keeps through a call.
use Rattle.std.proofs.Common.{◌≡◌, ◌≢◌, ℕ, ◌+◌, ◌≤◌, ◌<◌, map, List, [], ◌∷◌, ◌++◌, ◌∙◌, length, ◌⊎◌, inl, inr, sym, ap, subst, arith, length-append}
use Rattle.std.proofs.lemmas.List.{length-map}
use Rattle.ic_name.specs.Names.{Name, child_name}
use Rattle.ic_name.specs.Events.{Event}
use Rattle.ic_name.specs.declared.kinds.Kind.{Kind}
use Rattle.ic_name.specs.declared.ids.AgentId.{AgentId}
use Rattle.ic_name.specs.declared.ids.EventId.{EventId}
use Rattle.ic_name.specs.declared.limits.TheConstants.{MAX_LINES}
use Rattle.ic_name.specs.declared.lines.Call.{Call}
use Rattle.ic_name.specs.declared.lines.Reply.{Reply}
use Rattle.ic_name.specs.declared.lines.Line.{Line}
use Rattle.ic_path.specs.Orders.{IsIn, none}
use Rattle.ic_path.proofs.Alikes.{alike_back, alike_then, alike-map, alike-in, alike-length}
use Rattle.ic_path.proofs.Picks.{none_in, length-pick, in_more, in-cons_cases, pick-map}
use Rattle.ic_theory.specs.Rules.{born_kinds}
use Rattle.ic_theory.specs.Born.{named, born_agents}
use Rattle.ic_theory.specs.Starts.{Start, IsProper}
use Rattle.ic_theory.specs.Machine.{State, initial, noted, MachineStep, not_active, deep, full, fired, not_standing, held, undone, IsHistory, begins, goes_on}
use Rattle.ic_theory.proofs.Machines.{history_kept, history_length}
use Rattle.ic_path.proofs.InLists.{in_behind, in-append_cases, map_cases}
use Rattle.ic_roster.specs.Rosters.{Member, Stander}
use Rattle.ic_set.specs.Views.{agent_of, AreChildren}
use Rattle.ic_set.specs.Changes.{IsSame, Admits, TakesOut}
use Rattle.ic_journal.specs.Views.{BenchView, set_of}
use Rattle.ic_journal.specs.Benches.{fired_in, IsAt, HaveOwnSerials, IsRunning, Opens}
use Rattle.ic_journal.specs.Calls.{Steps, Refuses}
use Rattle.ic_journal.proofs.MachineSteps.{noted_step}
use Rattle.ic_set.proofs.Admissions.{same_self}

-- a line more
pub length-noted : {X : Type 0} (old : List X) {new : List X} (x : X) → new ≡ old ++ x ∷ [] → length new ≡ length old + 1
length-noted old x e = ap length e ∙ length-append old (x ∷ [])

-- a step leads from what a bench keeps to what it keeps, as far as room and serial numbers go
pub running : (old new : BenchView) (call : Call) (answer : Reply) → IsRunning old → Steps old call answer new → length new.lines + new.room ≤ MAX_LINES → HaveOwnSerials new → IsRunning new
running old new call answer r s short serials = let next = s.step r.state r.at in record { state = next.0; at = next.2; short = short; serials = serials }

-- a name in a list of names by place is that of a place
named_place : (name : ℕ → Name) (k : ℕ) (kinds : List Kind) (a : Name × Kind) → IsIn a (named name k kinds) → (i : ℕ) × (a.0 ≡ name i)
named_place name k [] a i = absurd (none_in i)
named_place name k (x ∷ xs) a i = go (in-cons_cases i) (named_place name (k + 1) xs a)
  where
    go : (a ≡ (name k, x)) ⊎ IsIn a (named name (k + 1) xs) → (IsIn a (named name (k + 1) xs) → (i : ℕ) × (a.0 ≡ name i)) → (i : ℕ) × (a.0 ≡ name i)
    go (inl e) f = (k, ap (λ (y : Name × Kind). y.0) e)
    go (inr j) f = f j

-- no child has the name of a start agent
child_digits : (e : Event) (ids : List AgentId) (children : List Member) → AreChildren e ids children → (m : Member) → IsIn m children → m.name.digits ≡ [] → ⊥
child_digits e ids children are m i bare =
    let there : IsIn (agent_of m) (born_agents e) = subst (IsIn (agent_of m)) are.named (map agent_of i.0, pick-map agent_of i.1) in
    let place = named_place (child_name e.lead) 0 (born_kinds e.lead_kind e.other_kind) (agent_of m) there in
    let digits : e.lead.digits ++ place.0 ∷ [] ≡ [] = ap (λ (n : Name). n.digits) (sym place.1) ∙ bare in
    let count = length-append e.lead.digits (place.0 ∷ []) in
    let long = ap length digits in
    omega arith

-- the serial numbers of the agents that are there with an event more
pub more_serials : (old new : BenchView) (e : Event) (id : EventId) → IsRunning old → Admits (set_of old) e (length old.lines) id (set_of new) → HaveOwnSerials new
more_serials old new e id r t = record { start = start; born = born }
  where
    start : (m : Member) → IsIn m new.agents → m.name.digits ≡ [] → m.id.serial ≡ 0
    start m i bare = elim (in-append_cases t.children (alike-in (alike_back t.agents) i)) [ inl c ↦ absurd (child_digits e t.entry.born t.children t.born m c bare) | inr o ↦ r.serials.start m o bare ]

    own : (d : AgentId) → IsIn d t.entry.born → d.serial ≡ t.entry.id.line + 1
    own d i =
        let m = map_cases (λ (m : Member). m.id) t.children (subst (IsIn d) (sym t.born.under) i) in
        let serial = t.serials m.0 m.1 in
        let same = ap (λ (a : AgentId). a.serial) m.2 in
        let under = ap (λ (a : EventId). a.line) t.under in
        let line = t.in_line in
        omega arith

    born : (x : Stander) → IsIn x new.events → (d : AgentId) → IsIn d x.born → d.serial ≡ x.id.line + 1
    born x i d j = elim (in-cons_cases (alike-in (alike_back t.events) i)) [ inl q ↦ subst (λ (y : Stander). IsIn d y.born → d.serial ≡ y.id.line + 1) (sym q) (own d) j | inr o ↦ r.serials.born x o d j ]

-- those of the agents that are left
pub left_serials : (old new : BenchView) (d : EventId) → IsRunning old → TakesOut (set_of old) d (set_of new) → HaveOwnSerials new
left_serials old new d r t = record {
  start = λ m i. r.serials.start m (alike-in (alike_back t.agents) (in_behind t.children i));
  born = λ x i. r.serials.born x (alike-in (alike_back t.events) (in_more t.entry i));
}

-- those of the agents of the same set
same_serials : (old new : BenchView) → HaveOwnSerials old → IsSame (set_of old) (set_of new) → HaveOwnSerials new
same_serials old new h same = record {
  start = λ m i. h.start m (alike-in (alike_back same.agents) i);
  born = λ x i. h.born x (alike-in (alike_back same.events) i);
}

-- a step that is refused changes nothing that stands
pub refused : (old new : BenchView) (call : Call) (answer : Reply) → set_of new ≡ set_of old → new.lines ≡ old.lines ++ record { call = call; reply = answer } ∷ [] → old.room ≤ new.room + 1
    → ((st : State) → IsAt old st → MachineStep old.start st call answer (noted st)) → Refuses old call answer new
refused old new call answer same lines room answers = (noted_step old new call answer same lines room answers, rw same (same_self (set_of old)))

-- and what a bench keeps is kept
pub refused_running : (old new : BenchView) (call : Call) (answer : Reply) → IsRunning old → set_of new ≡ set_of old → new.lines ≡ old.lines ++ record { call = call; reply = answer } ∷ []
    → length new.lines + new.room ≤ MAX_LINES → ((st : State) → IsAt old st → MachineStep old.start st call answer (noted st)) → IsRunning new
refused_running old new call answer r same lines short answers =
    let next = answers r.state r.at in
    record {
      state = noted r.state;
      at = record { history = rw (ap (λ s. s.start) same, lines) (goes_on r.at.history next); standing = rw (ap (λ s. s.events) same) r.at.standing };
      short = short;
      serials = same_serials old new r.serials (rw same (same_self (set_of old)));
    }

-- each standing event was fired in a line that has been
pub lines_below : (old : BenchView) → IsProper old.start → IsRunning old → (x : Stander) → IsIn x old.events → x.id.line < length old.lines
lines_below old ok r x i =
    let b = (history_kept old.start ok r.at.history).below (fired_in x) (alike-in r.at.standing (map fired_in i.0, pick-map fired_in i.1)) in
    let n = history_length r.at.history in
    omega arith

-- so none was fired in the next line
pub next_line_new : (old : BenchView) → IsProper old.start → IsRunning old → (x : Stander) → IsIn x old.events → x.id.line ≢ length old.lines
next_line_new old ok r x i e = let b = lines_below old ok r x i in omega arith

-- no more events stand after a history than it has lines
few_standing : {s : Start} {lines : List Line} {st : State} → IsHistory s lines st → length st.standing ≤ st.lines
few_standing begins = omega arith
few_standing (goes_on h a) = few_answered a (few_standing h)
  where
    few_answered : {s : Start} {st next : State} {call : Call} {reply : Reply} → MachineStep s st call reply next → length st.standing ≤ st.lines → length next.standing ≤ next.lines
    few_answered (not_active n) few = omega arith
    few_answered (deep a d) few = omega arith
    few_answered (full a n f) few = omega arith
    few_answered (fired a n m) few = omega arith
    few_answered (not_standing n) few = omega arith
    few_answered (held i e j l) few = omega arith
    few_answered (undone k e n) few = let long = length-pick k in omega arith

-- nor more than there are lines
pub few_events : (old : BenchView) → IsRunning old → length old.events ≤ length old.lines
few_events old r =
    let few = few_standing r.at.history in
    let count = history_length r.at.history in
    let same = alike-length r.at.standing in
    let long = length-map old.events fired_in in
    omega arith

-- what a bench keeps, it keeps where its set is the same and only its room changes
pub same_running : (old new : BenchView) → IsRunning old → IsSame (set_of old) (set_of new) → new.lines ≡ old.lines → length new.lines + new.room ≤ MAX_LINES → IsRunning new
same_running old new r same lines short = record {
  state = r.state;
  at = record { history = rw (same.start, lines) r.at.history; standing = alike_then (alike_back (alike-map fired_in same.events)) r.at.standing };
  short = short;
  serials = same_serials old new r.serials same;
}

-- a bench on which no call has been made
pub opened : (s : Start) (v : BenchView) → Opens s v → IsRunning v
opened s v o = record {
  state = initial;
  at = record { history = rw o.lines begins; standing = rw o.events none };
  short = rw (o.lines, o.room) (omega arith);
  serials = record { start = λ m i bare. o.serials m i; born = λ x i. absurd (none_in (subst (IsIn x) o.events i)) };
}
