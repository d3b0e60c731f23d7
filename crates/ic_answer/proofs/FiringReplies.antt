-- What firing an event by its name answers.
use Rattle.std.proofs.Common.{◌≡◌, Err, length, map, codes, inl, refl, sym, ap, subst, ◌∙◌}
use Rattle.std.specs.declared.cmp.Ordering.TheVariants.{Less}
use Rattle.ic_name.specs.Names.{Name, name_cmp}
use Rattle.ic_name.specs.Events.{Event, Pair, event_of, pair}
use Rattle.ic_name.specs.declared.ids.AgentId.{AgentId}
use Rattle.ic_name.specs.declared.kinds.Kind.{Kind}
use Rattle.ic_name.specs.declared.limits.TheConstants.{MAX_LINES}
use Rattle.ic_name.specs.declared.lines.Call.TheVariants as call
use Rattle.ic_name.specs.declared.lines.Reply.TheVariants as reply
use Rattle.ic_path.specs.Orders.{IsIn, Alike}
use Rattle.ic_path.proofs.Alikes.{alike_back, alike_then, alike-in}
use Rattle.ic_path.proofs.InLists.{in-map, map_cases}
use Rattle.ic_theory.specs.Born.{born_agents}
use Rattle.ic_theory.specs.Starts.{start_agents}
use Rattle.ic_theory.specs.Sets.{agents}
use Rattle.ic_theory.specs.Machine.{State, events}
use Rattle.ic_theory.proofs.Future.{made_alike}
use Rattle.ic_theory.proofs.Machines.{history_length}
use Rattle.ic_roster.specs.Rosters.{Member, IsNewName}
use Rattle.ic_set.specs.declared.pairs.ActivePair.{ActivePair}
use Rattle.ic_set.specs.Pairs.{IsPairOf}
use Rattle.ic_set.specs.Views.{agent_of}
use Rattle.ic_set.proofs.Namings.{same_member}
use Rattle.ic_journal.specs.Views.{BenchView, set_of}
use Rattle.ic_journal.specs.Benches.{IsAt, IsBench}
use Rattle.ic_journal.specs.Calls.{Steps, FiresPair}
use Rattle.ic_journal.specs.declared.faults.PairFault.{PairFault}
use Rattle.ic_journal.specs.declared.faults.PairFault.TheVariants as pair_fault
use Rattle.ic_journal.specs.Proposals.{IsEventOf}
use Rattle.ic_journal.proofs.MachineSteps.{events_at}
use Rattle.ic_command.specs.declared.command.Command.TheVariants.{Fire}
use Rattle.ic_answer.specs.declared.refused.Refused.TheVariants as refused
use Rattle.ic_answer.specs.CommandReplies.{IsPresent, fire_unknown, fire_history_full, fired, fire_not_active, fire_deep, fire_full}
use Rattle.ic_answer.specs.Stepping.{refusal_of}
use Rattle.ic_answer.specs.Texts.{pair_line, refusal_text}
use Rattle.ic_answer.specs.Turns.{Tells, TurnsByCommand}
use Rattle.ic_answer.proofs.TurnSteps.{stepped, told_same, stays_for_memory}

-- the agents of a bench are those of the machine
agents_at : (v : BenchView) → IsBench v → (st : State) → IsAt v st → Alike (map agent_of v.agents) (agents v.start (events st))
agents_at v bench st at = alike_then bench.set.agents (made_alike born_agents (start_agents v.start) (events_at v at))

-- an agent whose name no agent of the bench has is none of the machine's
new_to_machine : (v : BenchView) → IsBench v → (n m : Name) (k : Kind) → m ≡ n → IsNewName v.agents n → (st : State) → IsAt v st → IsIn (m, k) (agents v.start (events st)) → ⊥
new_to_machine v bench n m k same new st at i =
    let found = map_cases agent_of v.agents (alike-in (alike_back (agents_at v bench st at)) i) in
    new found.0 found.1 (ap (λ (x : Name × Kind). x.0) found.2 ∙ same)

-- no event whose lead isn't there is fired
pub lead_unknown : (v : BenchView) (p : Pair) → IsBench v → IsNewName v.agents p.lead → Tells v (Fire p) (refusal_text refused.NotActive)
lead_unknown v p bench new = λ st at. fire_unknown (λ e h. new_to_machine v bench p.lead e.lead e.lead_kind (ap (λ (q : Pair). q.lead) h.name) new st at h.present.lead)

-- nor one whose other agent isn't there
pub other_unknown : (v : BenchView) (p : Pair) → IsBench v → IsNewName v.agents p.other → Tells v (Fire p) (refusal_text refused.NotActive)
other_unknown v p bench new = λ st at. fire_unknown (λ e h. new_to_machine v bench p.other e.other e.other_kind (ap (λ (q : Pair). q.other) h.name) new st at h.present.other)

-- an agent of the bench is one of the machine's
there : (v : BenchView) → IsBench v → (m : Member) → IsIn m v.agents → (st : State) → IsAt v st → IsIn (m.name, m.kind) (agents v.start (events st))
there v bench m i st at = alike-in (agents_at v bench st at) (in-map agent_of i)

-- an event of this name whose agents are there
abbrev pub IsProposed : BenchView → Pair → Event → Type 0
IsProposed v p e = (st : State) → IsAt v st → IsPresent v.start st p e

-- the event of two agents that were found by their names
pub proposed : (v : BenchView) (p : Pair) (e : Event) (a b : AgentId) (k l : Kind) → IsBench v → name_cmp p.lead p.other ≡ Less
    → IsIn (record { id = a; name = p.lead; kind = k }) v.agents → IsIn (record { id = b; name = p.other; kind = l }) v.agents → IsEventOf v a b e → IsProposed v p e
proposed v p e a b k l bench less i j h = λ st at. subst (λ (f : Event). IsPresent v.start st p f) (sym is) (record {
  present = record { lead = there v bench left i st at; other = there v bench right j st at; ordered = less };
  name = refl;
})
  where
    left : Member
    left = record { id = a; name = p.lead; kind = k }

    right : Member
    right = record { id = b; name = p.other; kind = l }

    first : h.left ≡ left
    first = same_member v.agents h.left left bench.set.own_names h.left_there i (inl h.left_id)

    second : h.right ≡ right
    second = same_member v.agents h.right right bench.set.own_names h.right_there j (inl h.right_id)

    of_both : event_of h.left.name h.left.kind h.right.name h.right.kind ≡ event_of p.lead k p.other l
    of_both = λ x. event_of (first x).name (first x).kind (second x).name (second x).kind

    in_order : event_of p.lead k p.other l ≡ record { lead = p.lead; lead_kind = k; other = p.other; other_kind = l }
    in_order = rw less refl

    is : e ≡ record { lead = p.lead; lead_kind = k; other = p.other; other_kind = l }
    is = h.event ∙ of_both ∙ in_order

-- the same, where the names that were looked for are those of the event
pub proposed_found : (v : BenchView) (p : Pair) (e : Event) (a b : AgentId) (n m : Name) (k l : Kind) → IsBench v → name_cmp p.lead p.other ≡ Less → n ≡ p.lead → m ≡ p.other
    → IsIn (record { id = a; name = n; kind = k }) v.agents → IsIn (record { id = b; name = m; kind = l }) v.agents → IsEventOf v a b e → IsProposed v p e
proposed_found v p e a b n m k l bench less first second i j h = proposed v p e a b k l bench less
    (subst (λ (x : Name). IsIn (record { id = a; name = x; kind = k }) v.agents) first i)
    (subst (λ (x : Name). IsIn (record { id = b; name = x; kind = l }) v.agents) second j)
    h

-- an event that is fired
pub fires : (old new : BenchView) (p : Pair) (e : Event) → IsProposed old p e → IsBench new → Steps old (call.Fire e) reply.Fired new → TurnsByCommand old (Fire p) (pair_line (codes "fired ") p) new
fires old new p e is bench steps = stepped old new (Fire p) _ (call.Fire e) reply.Fired bench steps (λ st next at few answers. fired (is st at) few answers)

-- one that isn't active
pub fires_not_active : (old new : BenchView) (p : Pair) (e : Event) → IsProposed old p e → IsBench new → Steps old (call.Fire e) reply.NotActive new → TurnsByCommand old (Fire p) (refusal_text refused.NotActive) new
fires_not_active old new p e is bench steps = stepped old new (Fire p) _ (call.Fire e) reply.NotActive bench steps (λ st next at few answers. fire_not_active (is st at) few answers)

-- one whose children's names would be too long
pub fires_deep : (old new : BenchView) (p : Pair) (e : Event) → IsProposed old p e → IsBench new → Steps old (call.Fire e) reply.Deep new → TurnsByCommand old (Fire p) (refusal_text refused.Deep) new
fires_deep old new p e is bench steps = stepped old new (Fire p) _ (call.Fire e) reply.Deep bench steps (λ st next at few answers. fire_deep (is st at) few answers)

-- one with which there would be too many agents
pub fires_full : (old new : BenchView) (p : Pair) (e : Event) → IsProposed old p e → IsBench new → Steps old (call.Fire e) reply.Full new → TurnsByCommand old (Fire p) (refusal_text refused.Full) new
fires_full old new p e is bench steps = stepped old new (Fire p) _ (call.Fire e) reply.Full bench steps (λ st next at few answers. fire_full (is st at) few answers)

-- and one for which the history has no line
pub tells_no_line : (v : BenchView) (p : Pair) (e : Event) → IsProposed v p e → length v.lines ≡ MAX_LINES → Tells v (Fire p) (refusal_text refused.HistoryFull)
tells_no_line v p e is full = λ st at. fire_history_full (is st at) (history_length at.history ∙ full)

-- the event of an active pair that was found by its name
pub of_pair : (v : BenchView) (p : Pair) (e : Event) (a : ActivePair) → IsBench v → IsPairOf (set_of v) e a → pair e ≡ p → IsProposed v p e
of_pair v p e a bench h named = λ st at. record {
  present = record { lead = there v bench _ h.lead st at; other = there v bench _ h.other st at; ordered = h.active.present.ordered };
  name = named;
}

-- a refused firing of an active pair
pub refuses_pair : (old new : BenchView) (p : Pair) (e : Event) → IsProposed old p e → IsBench new → (fault : PairFault) → FiresPair old e (Err fault) new → TurnsByCommand old (Fire p) (refusal_text (refusal_of fault)) new
refuses_pair old new p e is bench pair_fault.Deep h = fires_deep old new p e is bench h.0
refuses_pair old new p e is bench pair_fault.Full h = fires_full old new p e is bench h.0
refuses_pair old new p e is bench pair_fault.HistoryFull h = told_same old new (Fire p) (refusal_text refused.HistoryFull) h.1 (tells_no_line old p e is h.0)
refuses_pair old new p e is bench pair_fault.Memory h = stays_for_memory old new (Fire p) tt h.1
