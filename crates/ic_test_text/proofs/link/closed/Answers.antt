use Rattle.std.proofs.Common.{◌≡◌, ◌≢◌, false, rules, refl, sym, ap, ◌∙◌, subst}
use Rattle.ic_path.proofs.Alikes.{alike_then}
use Rattle.ic_name.specs.declared.ids.EventId.{EventId}
use Rattle.ic_name.specs.declared.ids.Link.{Link}
use Rattle.ic_name.specs.declared.ids.LinkId.{LinkId}
use Rattle.ic_name.specs.declared.ids.MakerId.TheVariants.{Start, Event}
use Rattle.ic_name.specs.Spots.{made_by}
use Rattle.ic_link.proofs.OnlyLink.{only_link}
use Rattle.ic_test_text.proofs.link.closed.Goals as goal

-- A start link and a link of an event have different ids.
start_or_event : (e : EventId) (a b m : Link) → a.id.maker ≡ Start → b.id.maker ≡ Event e → m ≡ a → m.id ≢ b.id
start_or_event e a b m s t one = λ same.
    let bad : Start ≡ Event e = sym s ∙ ap (λ (l : Link). l.id.maker) (sym one) ∙ ap (λ (j : LinkId). j.maker) same ∙ t in
    let no : ⊥ = cc in
    no

pub there_and_back-requires-clause-can : goal.there_and_back-requires-clause-can
there_and_back-requires-clause-can g c =
    let start = ap (λ (l : Link). l.id.maker) c.link.ensures in
    let event = ap (λ (l : Link). l.id.maker) c.link-closing.ensures in
    record {
      fresh = λ m i. start_or_event _ c.link.result c.link-closing.result m start event (only_link c.empty-store.ensures c.in_ok-put.ensures m i);
      room = c.has_room.ensures.0 (search rules);
    }

pub there_and_back-requires-clause-no_other : goal.there_and_back-requires-clause-no_other
there_and_back-requires-clause-no_other g c = λ l i.
    let same = only_link c.empty-store.ensures c.in_ok-put.ensures l i ∙ c.link.ensures in
    subst (λ (x : Link). made_by (record { slot = 3; line = 9 }) x ≡ false) (sym same) refl

pub put-requires-2 : goal.put-requires-2
put-requires-2 g c = λ m i.
    let start = ap (λ (l : Link). l.id.maker) c.link.ensures in
    let event = ap (λ (l : Link). l.id.maker) c.link-closing.ensures in
    let one = only_link c.empty-store.ensures (alike_then c.in_ok-put.ensures c.in_ok-there_and_back.ensures.same) m i in
    start_or_event _ c.link.result c.link-closing.result m start event one
