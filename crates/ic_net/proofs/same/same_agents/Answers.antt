use Rattle.std.proofs.Common.{◌≡◌, ◌∙◌, rules, length, map, sym}
use borrow.Author.Tests.{tests}
use Rattle.std.proofs.lemmas.List.{length-map}
use Rattle.std.proofs.lemmas.Iterator.{YieldsList-from_zip, same_from_all}
use Rattle.ic_net.specs.Sheets.{listed_agent}
use Rattle.ic_net.proofs.SameTables.{listed_rest}
use Rattle.ic_net.proofs.same.same_agents.Goals as goal

pub returns-then-len : goal.returns-then-len
returns-then-len c =
    let long : length c.args.left.now.entries ≡ length c.args.right.now.entries = sym c.len.ensures.len ∙ c.if-len.true ∙ c.len-2.ensures.len in
    let listed : length (map listed_agent c.args.left.now.entries) ≡ length (map listed_agent c.args.right.now.entries) = rw (length-map c.args.left.now.entries listed_agent, length-map c.args.right.now.entries listed_agent) long in
    same_from_all c.all.new.self _ _ _ _ c.all.ensures.ran (YieldsList-from_zip (listed_rest _ c.args.left.now.entries cc) (listed_rest _ c.args.right.now.entries cc)) listed (λ x q k. search (rules, tests)) (λ x q k. search (rules, tests))
