use Rattle.std.proofs.Common.{ap, ◌∙◌, arith}
use Rattle.ic_name.specs.declared.ids.Link.{Link}
use Rattle.ic_name.specs.declared.ids.LinkId.{LinkId}
use Rattle.ic_link.proofs.OnlyLink.{only_link}
use Rattle.ic_test_text.proofs.link.two_links.Goals as goal

pub put-requires-2 : goal.put-requires-2
put-requires-2 g c = λ m i e.
    let one = only_link c.empty-store.ensures c.in_ok-put.ensures m i in
    let first = ap (λ (l : Link). l.id.place) (one ∙ c.link.ensures) in
    let second = ap (λ (l : Link). l.id.place) c.link-2.ensures in
    let same = ap (λ (j : LinkId). j.place) e in
    omega (arith, first, second, same)
