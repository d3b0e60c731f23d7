-- The names under the ids of an active pair are those of its event.
use Rattle.ic_answer.proofs.StandingPairs.{name_there, name_found, pair_put}
use Rattle.ic_answer.proofs.reading.push_active.Goals as goal

pub returns-in_default : goal.returns-in_default
returns-in_default g c = λ e p. absurd (name_there c.args.bench.now c.lawful.ensures c.args.pair.now.lead e.lead e.lead_kind p.lead c.in_ok-lead.field-0 c.in_ok-lead.ensures c.in_default.is)

pub returns-in_default-2 : goal.returns-in_default-2
returns-in_default-2 g c = λ e p. absurd (name_there c.args.bench.now c.lawful.ensures c.args.pair.now.other e.other e.other_kind p.other c.in_ok-other.field-0 c.in_ok-other.ensures c.in_default-2.is)

pub returns : goal.returns
returns g c = λ e p.
    let v = c.args.bench.now in
    let l = name_found v c.lawful.ensures c.args.pair.now.lead e.lead e.lead_kind p.lead c.in_ok-lead.field-0 c.in-Some.lead c.in_ok-lead.ensures c.in-Some.is in
    let o = name_found v c.lawful.ensures c.args.pair.now.other e.other e.other_kind p.other c.in_ok-other.field-0 c.in-Some-2.other c.in_ok-other.ensures c.in-Some-2.is in
    pair_put e c.in-Some.lead c.in-Some-2.other c.args.text.now.items c.write_pair.new.out.items c.push.new.self.items l o c.in_ok-write_pair.ensures c.in_ok-push.ensures.items
