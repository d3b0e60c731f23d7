use Rattle.std.proofs.Common.{◌≡◌, ℕ, ◌<◌, ◌≤◌, ◌^◌, [], map, arith, sym, ap, length, ◌∙◌}
use Rattle.std.proofs.lemmas.List.{length-map}
use Rattle.std.specs.Prelude.{slice_index}
use Rattle.ic_name.specs.declared.ids.Spot.TheVariants as spots
use Rattle.ic_name.specs.declared.limits.TheConstants.{MAX_START_AGENTS}
use Rattle.ic_path.specs.Links.{degree}
use Rattle.ic_path.specs.FarEnds.{far}
use Rattle.ic_link.specs.Links.{shape}
use Rattle.ic_net.specs.FarTables.{HasFarEnds, agent_partner}
use Rattle.ic_start.specs.Starts.{join_of}
use Rattle.ic_net.specs.Sheets.{listed_agent}
use Rattle.ic_theory.specs.Firings.{nothing}
use Rattle.ic_net.proofs.StartNets.{few_ends, start_is_net, start_net_by, length-listed}
use Rattle.ic_net.proofs.net.Net.of_start.Goals as goal
use Rattle.ic_link.proofs.RowRings.{rings-le}

pub name_ends-requires-clause-few : goal.name_ends-requires-clause-few
name_ends-requires-clause-few c = few_ends c.args.start.now c.links-links.result.now c.lawful.ensures.proper c.links-links.ensures.joins c.links-links.ensures.placed

pub invariant_of-result : goal.invariant_of-result
invariant_of-result c =
    let few : length c.kinds.result.now ≤ MAX_START_AGENTS = rw c.kinds.ensures c.lawful.ensures.few_agents in
    let names : c.len-names.result ≡ length c.args.start.now.names = c.len-names.ensures ∙ ap length c.names.ensures in
    let times : length c.as_slice.result.now ≡ c.len-names.result = ap length c.as_slice.ensures.value ∙ c.in_ok-times.ensures.long in
    let short : length c.as_slice.result.now < 2 ^ 32 = let s = c.lawful.ensures.few_names in omega arith in
    let seldom : c.in_ok-table.table.rings < 2 ^ 63 =
    (let most = rings-le c.links-links.result.now in let r = c.in_ok-table.ensures.rings in let fits = c.lawful-2.ensures.few in omega arith) in
    let ends = c.as_slice-ends.result.now in
    let table : HasFarEnds c.agents-count.result c.len-names.result ends (far shape c.links-links.result.now) = rw c.as_slice-ends.ensures.value c.in_ok-table.ensures.ends in
    let counted : (j : ℕ) → j < c.len-names.result → slice_index c.as_slice.result.now j ≡ degree shape c.links-links.result.now (spots.Name j) = rw c.as_slice.ensures.value c.in_ok-times.ensures.counted in
    let same =
    start_net_by c.args.start.now c.links-links.result.now ends c.as_slice.result.now (record { agents = map listed_agent c.in_ok-agents.agents.entries; frees = c.in_ok-frees.frees.entries; rings = c.in_ok-table.table.rings; profile = c.profile.result }) c.kinds.result.now c.agents-count.result c.len-names.result c.kinds.ensures c.agents-count.ensures names
    c.lawful.ensures.proper c.links-links.ensures.joins c.links-links.ensures.placed table times counted c.in_ok-agents.ensures.listed c.in_ok-frees.ensures.listed c.in_ok-table.ensures.rings c.profile.ensures in
    start_is_net _ _ _ _ (agent_partner (length c.kinds.result.now) ends) c.kinds.result.now _ _ _ c.in_ok-agents.ensures.listed c.in_ok-agents.ensures.ordered c.in_ok-frees.ensures.listed c.in_ok-frees.ensures.ordered few short seldom
    (record { start = c.args.start.now; events = []; proper = c.lawful.ensures.proper; fired = nothing; net = same })

pub returns-clause-net : goal.returns-clause-net
returns-clause-net c =
    let ends = c.as_slice-ends.result.now in
    let times = c.as_slice.result.now in
    let names : c.len-names.result ≡ length c.args.start.now.names = c.len-names.ensures ∙ ap length c.names.ensures in
    let table : HasFarEnds c.agents-count.result c.len-names.result ends (far shape c.links-links.result.now) = rw c.as_slice-ends.ensures.value c.in_ok-table.ensures.ends in
    let long : length times ≡ c.len-names.result = ap length c.as_slice.ensures.value ∙ c.in_ok-times.ensures.long in
    let counted : (j : ℕ) → j < c.len-names.result → slice_index times j ≡ degree shape c.links-links.result.now (spots.Name j) = rw c.as_slice.ensures.value c.in_ok-times.ensures.counted in
    start_net_by c.args.start.now c.links-links.result.now ends times _ c.kinds.result.now c.agents-count.result c.len-names.result c.kinds.ensures c.agents-count.ensures names
    c.lawful.ensures.proper c.links-links.ensures.joins c.links-links.ensures.placed table long counted c.in_ok-agents.ensures.listed c.in_ok-frees.ensures.listed c.in_ok-table.ensures.rings c.profile.ensures

pub returns-clause-agents : goal.returns-clause-agents
returns-clause-agents c =
    ap length c.in_ok-agents.ensures.listed ∙ length-listed (agent_partner (length c.kinds.result.now) c.as_slice-ends.result.now) 0 c.kinds.result.now ∙ ap length c.kinds.ensures

pub returns-clause-few_rings : goal.returns-clause-few_rings
returns-clause-few_rings c =
    let joins : length c.links-links.result.now ≡ length c.args.start.now.joins = sym (length-map c.links-links.result.now join_of) ∙ ap length c.links-links.ensures.joins in
    let most = rings-le c.links-links.result.now in
    let r = c.in_ok-table.ensures.rings in
    omega arith
