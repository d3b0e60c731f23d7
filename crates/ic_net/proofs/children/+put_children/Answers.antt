use Rattle.std.proofs.Common.{◌≡◌, ◌∷◌, suc, length, ap, refl, arith, rules}
use Rattle.ic_net.proofs.PutChildren.{still_fresh, put_others, put_born, taken_out}
use Rattle.ic_net.proofs.children.+put_children.Goals as goal

pub put_children-requires : goal.put_children-requires
put_children-requires t c =
    let parts : c.args.kinds.now ≡ c.in-Some.kind.now ∷ c.in-Some.rest.now = search rules in
    let long : length c.args.kinds.now ≡ suc (length c.in-Some.rest.now) = ap length parts in
    (search (rules, long), (omega arith, still_fresh c.args.agents.now.entries c.insert.new.self.entries c.args.lead.now c.in_ok-name.name c.args.digit c.in_ok-name.ensures _ c.in_ok-insert.ensures.updates.0 c.requires.fresh))

pub returns-in-Ok-clause-others : goal.returns-in-Ok-clause-others
returns-in-Ok-clause-others t c =
    let parts : c.args.kinds.now ≡ c.in-Some.kind.now ∷ c.in-Some.rest.now = search rules in
    put_others c.args.agents.now.entries c.insert.new.self.entries c.args.lead.now c.in_ok-name.name c.args.digit c.in_ok-name.ensures _ c.in_ok-insert.ensures.updates.0 c.in-Some.kind.now c.args.kinds.now c.in-Some.rest.now parts c.put_children.new.agents.entries c.in-Ok.ensures.others

pub returns-in-Ok-clause-born : goal.returns-in-Ok-clause-born
returns-in-Ok-clause-born t c =
    let parts : c.args.kinds.now ≡ c.in-Some.kind.now ∷ c.in-Some.rest.now = search rules in
    put_born c.args.agents.now.entries c.insert.new.self.entries c.args.lead.now c.in_ok-name.name c.args.digit c.in_ok-name.ensures _ c.in_ok-insert.ensures.updates.0 c.in-Some.kind.now c.args.kinds.now c.in-Some.rest.now parts c.put_children.new.agents.entries
    refl c.blank_partners-partners.ensures c.in-Ok.ensures.others c.in-Ok.ensures.born

pub returns-clause-unchanged : goal.returns-clause-unchanged
returns-clause-unchanged t c =
    taken_out c.args.agents.now.entries c.insert.new.self.entries c.args.lead.now c.in_ok-name.name c.args.digit c.in_ok-name.ensures _ c.in_ok-insert.ensures.updates.0
    c.put_children.new.agents.entries c.remove.new.self.entries c.in-Err.ensures.unchanged (c.requires.fresh c.args.digit (omega arith)) c.len.ensures.ordered c.remove.ensures.ordered c.in_ok-key.key c.in_ok-key.ensures c.remove.ensures.updates.0
