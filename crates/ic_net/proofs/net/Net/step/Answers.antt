use Rattle.std.proofs.Common.{◌≡◌, ◌<◌, ◌+◌, ◌^◌, true, length, refl, sym, ap, arith, ◌∙◌, subst, cond, Some, None}
use Rattle.std.proofs.lemmas.List.{length-map}
use Rattle.std.specs.BTreeMap.{is_at}
use Rattle.std.specs.Prelude.{is_some}
use Rattle.ic_name.specs.Names.{Name, name_cmp, child_name}
use Rattle.ic_name.specs.declared.kinds.Kind.{Kind}
use Rattle.ic_theory.specs.Born.{named, born_agents}
use Rattle.ic_theory.specs.Rules.{born_ends}
use Rattle.ic_theory.specs.Nets.{kind_among}
use Rattle.ic_theory.specs.Listed.{ListedNet, shown}
use Rattle.ic_theory.specs.Steps.{Meets, without_pair, take_links}
use Rattle.ic_net.specs.Sheets.{listed_agent}
use Rattle.ic_net.specs.Rewirings.{wiring}
use Rattle.ic_net.specs.Tables.{agent_in, IsBlank}
use Rattle.ic_net.proofs.StepTables.{listed, fresh, lead_there, other_there, steps_to, step_is_net}
use Rattle.ic_net.proofs.net.Net.step.Goals as goal
use Rattle.ic_net.proofs.net.Net.step.Goals.{After-self-1}

pub put_children-requires-clause-fresh : goal.put_children-requires-clause-fresh
put_children-requires-clause-fresh c =
    let i = c.self.inside in
    let meets : Meets (shown (listed i.agents.entries i.frees.entries i.rings i.profile)) c.args.event.now = subst (λ (l : ListedNet). Meets (shown l) c.args.event.now) (sym c.self.view_is) (c.if-not-meets.ensures.0 refl) in
    rw c.lead.ensures (λ d h. fresh i.agents.entries i.frees.entries i.rings i.profile c.args.event.now c.self.invariant.reached meets d)

module _ (c : After-self-1) where
  -- the tables before the step
  abbrev before : ListedNet
  before = listed c.self.inside.agents.entries c.self.inside.frees.entries c.self.inside.rings c.self.inside.profile

  -- the event meets in them
  meets : Meets (shown before) c.args.event.now
  meets = subst (λ (l : ListedNet). Meets (shown l) c.args.event.now) (sym c.self.view_is) (c.if-not-meets.ensures.0 refl)

  -- the children are those of the rule
  children : named (child_name c.lead.result.now) 0 c.outcome-born.result.children.now ≡ born_agents c.args.event.now
  children = rw (c.lead.ensures, c.outcome-born.ensures.children, c.lead_kind.ensures, c.other_kind.ensures) refl

  -- other agents are as they were once these have come
  others : (x : Name) → kind_among x (born_agents c.args.event.now) ≡ None → agent_in c.put_children.new.agents.entries x ≡ agent_in c.self.inside.agents.entries x
  others x h = c.in_ok-put_children.ensures.others x (ap (kind_among x) children ∙ h)

  -- and these have their kinds
  born : (x : Name) (k : Kind) → kind_among x (born_agents c.args.event.now) ≡ Some k → IsBlank k (agent_in c.put_children.new.agents.entries x)
  born x k h = c.in_ok-put_children.ensures.born x k (ap (kind_among x) children ∙ h)

  -- the lead goes
  lead_goes : (x : Name) → agent_in c.remove.new.self.entries x ≡ cond (is_at (name_cmp c.args.event.now.lead) x) None (agent_in c.put_partners.new.agents.entries x)
  lead_goes x = c.remove.ensures.updates.0 x ∙ ap (λ n. cond (is_at (name_cmp n) x) None (agent_in c.put_partners.new.agents.entries x)) c.lead-2.ensures

  -- and then the other
  other_goes : (x : Name) → agent_in c.remove-2.new.self.entries x ≡ cond (is_at (name_cmp c.args.event.now.other) x) None (agent_in c.remove.new.self.entries x)
  other_goes x = c.remove-2.ensures.updates.0 x ∙ ap (λ n. cond (is_at (name_cmp n) x) None (agent_in c.remove.new.self.entries x)) c.other.ensures

  -- the partners that were written are those of the rule's links
  rewired : wiring (shown before).partner c.in_ok-writes.field-0
      ≡ take_links c.args.event.now (born_ends c.self.inside.profile c.args.event.now.lead_kind c.args.event.now.other_kind) (record { partner = without_pair c.args.event.now (shown before).partner; rings = c.self.inside.rings })
  rewired =
      subst (λ (l : ListedNet). wiring (shown l).partner c.in_ok-writes.field-0 ≡ take_links c.args.event.now (born_ends l.profile c.args.event.now.lead_kind c.args.event.now.other_kind) (record { partner = without_pair c.args.event.now (shown l).partner; rings = l.rings })) (sym c.self.view_is)
      (c.in_ok-writes.ensures.wiring ∙ rw (c.outcome-born.ensures.links, c.profile.ensures, c.lead_kind.ensures, c.other_kind.ensures) refl)

  -- the lead is found when it is taken out
  lead_found : is_some c.remove.result ≡ true
  lead_found =
      let i = c.self.inside in
      ap is_some (c.remove.ensures.value ∙ ap (agent_in c.put_partners.new.agents.entries) c.lead-2.ensures)
      ∙ lead_there i.agents.entries i.frees.entries i.rings i.profile c.args.event.now c.self.invariant.reached meets
      c.put_children.new.agents.entries c.put_partners.new.agents.entries c.remove.new.self.entries c.remove-2.new.self.entries c.put_partners.new.frees.entries c.in_ok-writes.field-0
      others born c.put_partners.ensures.kinds c.put_partners.ensures.partners lead_goes other_goes rewired

  -- and so is the other
  other_found : is_some c.remove-2.result ≡ true
  other_found =
      let i = c.self.inside in
      ap is_some (c.remove-2.ensures.value ∙ ap (agent_in c.remove.new.self.entries) c.other.ensures)
      ∙ other_there i.agents.entries i.frees.entries i.rings i.profile c.args.event.now c.self.invariant.reached meets
      c.put_children.new.agents.entries c.put_partners.new.agents.entries c.remove.new.self.entries c.remove-2.new.self.entries c.put_partners.new.frees.entries c.in_ok-writes.field-0
      others born c.put_partners.ensures.kinds c.put_partners.ensures.partners lead_goes other_goes rewired

  -- so there are two agents less
  few : length c.remove-2.new.self.entries < 2 ^ 32
  few =
      let count : c.agents.result ≡ length c.self.inside.agents.entries = c.agents.ensures ∙ ap (λ (l : ListedNet). length l.agents) (sym c.self.view_is) ∙ length-map c.self.inside.agents.entries listed_agent in
      let more = c.in_ok-put_children.ensures.count in
      let same = c.put_partners.ensures.agents in
      let one : length c.remove.new.self.entries + 1 ≡ length c.put_partners.new.agents.entries = rw lead_found at c.remove.ensures.len in
      let two : length c.remove-2.new.self.entries + 1 ≡ length c.remove.new.self.entries = rw other_found at c.remove-2.ensures.len in
      let bound = c.if-agents-born.false in
      omega arith

pub invariant_of-self-2 : goal.invariant_of-self-2
invariant_of-self-2 c =
    let i = c.self.inside in
    step_is_net i.agents.entries i.frees.entries i.rings i.profile c.args.event.now c.self.invariant.reached (meets c)
    c.put_children.new.agents.entries c.put_partners.new.agents.entries c.remove.new.self.entries c.remove-2.new.self.entries c.put_partners.new.frees.entries c.in_ok-writes.field-0
    (others c) (born c) c.put_partners.ensures.kinds c.put_partners.ensures.partners (lead_goes c) (other_goes c) (rewired c)
    c.remove-2.ensures.ordered c.put_partners.ensures.numbers (few c) (let same = c.put_partners.ensures.frees in let bound = c.self.invariant.few_frees in omega arith) c.in_ok-writes.ensures.few

pub returns-clause-stepped : goal.returns-clause-stepped
returns-clause-stepped c =
    let i = c.self.inside in
    rw (← c.self.view_is)
    (steps_to i.agents.entries i.frees.entries i.rings i.profile c.args.event.now c.self.invariant.reached (meets c)
    c.put_children.new.agents.entries c.put_partners.new.agents.entries c.remove.new.self.entries c.remove-2.new.self.entries c.put_partners.new.frees.entries c.in_ok-writes.field-0
    (others c) (born c) c.put_partners.ensures.kinds c.put_partners.ensures.partners (lead_goes c) (other_goes c) (rewired c))
