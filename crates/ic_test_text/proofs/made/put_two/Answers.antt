use Rattle.std.proofs.Common.{◌≡◌, ◌≢◌, Bool, true, false, not, List, [], ◌∷◌, inl, inr, refl, ap, ◌∙◌, arith}
use Rattle.ic_path.specs.Orders.{Alike, IsIn}
use Rattle.ic_path.proofs.Alikes.{alike_back, alike_then, alike_more, alike_past, alike-in}
use Rattle.ic_path.proofs.InLists.{filter_cases}
use Rattle.ic_path.proofs.Picks.{in-cons_cases, none_in}
use Rattle.ic_name.specs.Spots.{made_by, is_maker}
use Rattle.ic_name.specs.declared.ids.AgentId.{AgentId}
use Rattle.ic_name.specs.declared.ids.EventId.{EventId}
use Rattle.ic_name.specs.declared.ids.Link.{Link}
use Rattle.ic_name.specs.declared.ids.LinkId.{LinkId}
use Rattle.ic_name.specs.declared.rules.RuleEnd.{RuleEnd}
use Rattle.ic_name.proofs.SameFacts.{same_event_self}
use Rattle.ic_link.specs.Links.{Drops, IsLawful, event_link}
use Rattle.ic_link.specs.Made.{HasDigit, HaveDigits}
use Rattle.ic_link.proofs.Lawful.{lawful-alike}
use Rattle.ic_link.proofs.TakenBack.{links_taken_back}
use Rattle.ic_test_text.proofs.made.put_two.Goals as goal

-- Once an event's links were taken out, there is none of them.
none_left : (e : EventId) (old new : List Link) → Drops e old new → (l : Link) → IsIn l new → made_by e l ≡ false
none_left e old new drops l i = by (made_by e l) (filter_cases (λ (m : Link). not (made_by e m)) old (alike-in (alike_back drops) i)).1
  where
    by : (b : Bool) → not b ≡ true → b ≡ false
    by true h = absurd cc
    by false h = refl

-- So no link has the id of one of the event's.
fresh_left : (e : EventId) (place : _) (old new : List Link) → Drops e old new → (m : Link) → IsIn m new → m.id ≢ event_link e place
fresh_left e place old new drops m i same =
    let none = none_left e old new drops m i in
    let made : made_by e m ≡ true = ap (λ (d : LinkId). is_maker e d.maker) same ∙ same_event_self e in
    cc

pub add-requires : goal.add-requires
add-requires g c = record {
  fresh = λ m i same. fresh_left c.args.event 0 _ _ c.take_of.ensures m i (same ∙ ap (λ (l : Link). l.id) c.link-one.ensures);
  room = c.has_room.ensures.0 c.if-not-has_room.false;
}

pub add-requires-2 : goal.add-requires-2
add-requires-2 g c = record {
  fresh = λ m i same. (let id = same ∙ ap (λ (l : Link). l.id) c.link-other.ensures in elim (in-cons_cases (alike-in (alike_back c.in_ok-add.ensures.ok) i)) [
    | inl e ↦ (
        let first = ap (λ (l : Link). l.id.place) (e ∙ c.link-one.ensures) in
        let second = ap (λ (d : LinkId). d.place) id in
        absurd (omega (arith, first, second)))
    | inr j ↦ fresh_left c.args.event 1 _ _ c.take_of.ensures m j id
  ]);
  room = c.has_room-2.ensures.0 c.if-not-has_room-2.false;
}

pub put_made-requires-clause-no_links : goal.put_made-requires-clause-no_links
put_made-requires-clause-no_links g c = none_left c.args.event _ _ c.take_of-2.ensures

-- Both links are the event's.
its_both : (e : EventId) (one other l : Link) → one.id ≡ event_link e 0 → other.id ≡ event_link e 1 → IsIn l (other ∷ one ∷ []) → made_by e l ≡ true
its_both e one other l a b i = elim (in-cons_cases i) [
  | inl q ↦ ap (λ (m : Link). is_maker e m.id.maker) q ∙ ap (λ (d : LinkId). is_maker e d.maker) b ∙ same_event_self e
  | inr j ↦ (elim (in-cons_cases j) [
    | inl q ↦ ap (λ (m : Link). is_maker e m.id.maker) q ∙ ap (λ (d : LinkId). is_maker e d.maker) a ∙ same_event_self e
    | inr k ↦ absurd (none_in k)
  ])
]

-- Links that were in together can be in together again.
again : (e : EventId) (one other : Link) (old was first mid left : List Link) → one.id ≡ event_link e 0 → other.id ≡ event_link e 1 → Drops e old was → Alike (one ∷ was) first → Alike (other ∷ first) mid → Drops e mid left
    → IsLawful mid → IsLawful (one ∷ other ∷ left)
again e one other old was first mid left a b drops in_one in_both back lawful =
    let both : Alike (other ∷ one ∷ was) mid = alike_then (alike_more (other ∷ []) in_one) in_both in
    let same : Alike was left = links_taken_back e (other ∷ one ∷ []) was mid left (λ l i. its_both e one other l a b i) (none_left e old was drops) both back in
    lawful-alike (alike_back (alike_then (alike_more (one ∷ other ∷ []) (alike_back same)) (alike_then (alike_past (one ∷ []) (other ∷ []) was) both))) lawful

-- Each end of the two links is one of a child that is there, or of the two agents.
both_have : (born : List AgentId) (first second : RuleEnd × RuleEnd) → HasDigit born first.0 → HasDigit born first.1 → HasDigit born second.0 → HasDigit born second.1 → HaveDigits born (first ∷ second ∷ [])
both_have born first second a b d e x i = elim (in-cons_cases i) [
  | inl q ↦ rw q (a, b)
  | inr j ↦ (elim (in-cons_cases j) [
    | inl q ↦ rw q (d, e)
    | inr k ↦ absurd (none_in k)
  ])
]

pub put_made-requires-clause-digits : goal.put_made-requires-clause-digits
put_made-requires-clause-digits g c =
    let one = c.have_digits.ensures c.if-not-have_digits.false in
    let other = c.have_digits-2.ensures c.if-not-have_digits-2.false in
    both_have (c.agent.result ∷ c.agent-2.result ∷ []) c.args.first c.args.second one.0 one.1 other.0 other.1

pub put_made-requires-clause-lawful : goal.put_made-requires-clause-lawful
put_made-requires-clause-lawful g c =
    let ls = g.L.LinkStore.links in
    let all = again c.args.event c.link-one.result c.link-other.result _ _ _ _ _ (ap (λ (l : Link). l.id) c.link-one.ensures) (ap (λ (l : Link). l.id) c.link-other.ensures) c.take_of.ensures c.in_ok-add.ensures.ok c.in_ok-add-2.ensures.ok c.take_of-2.ensures
    (record { slim = c.lawful.ensures.slim; own_ids = c.lawful.ensures.own_ids }) in
    rw (c.link-one.ensures, c.link-other.ensures, c.spot.ensures, c.spot-2.ensures, c.spot-3.ensures, c.spot-4.ensures) at all
