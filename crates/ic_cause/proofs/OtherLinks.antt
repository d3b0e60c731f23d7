-- Where an event's links go, the set without the event is shown.
use Rattle.std.proofs.Common.{◌≡◌, ℕ, ◌+◌, true, false, not, List, [], ◌∷◌, ◌++◌, map, filter, Option, Some, refl, sym, ap, arith, ◌∙◌}
use Rattle.std.proofs.lemmas.List.{map-append}
use Rattle.ic_name.specs.Events.{Event}
use Rattle.ic_name.specs.Spots.{is_maker, made_by}
use Rattle.ic_name.specs.declared.ids.EventId.{EventId}
use Rattle.ic_name.specs.declared.ids.Link.{Link}
use Rattle.ic_name.specs.declared.ids.MakerId.{MakerId}
use Rattle.ic_name.specs.declared.ids.MakerId.TheVariants as maker
use Rattle.ic_name.specs.declared.ports.Port.{Port}
use Rattle.ic_name.proofs.SameFacts.{same_name_self, same_event_true, same_event_self}
use Rattle.ic_path.specs.Orders.{Pick, here, there, Alike, IsIn}
use Rattle.ic_path.proofs.Alikes.{alike_back, alike_then, alike-map, picked_alike}
use Rattle.ic_link.specs.Links.{Drops}
use Rattle.ic_theory.specs.Born.{Link as NetLink, placed, born_links}
use Rattle.ic_theory.specs.Sets.{links}
use Rattle.ic_theory.specs.Sound.{IsSound}
use Rattle.ic_theory.specs.Starts.{Start, start_links}
use Rattle.ic_theory.proofs.Future.{made_alike, consumed_in}
use Rattle.ic_theory.proofs.Ranks.{consumed-alike}
use Rattle.ic_theory.proofs.Sound.{maker_in}
use Rattle.ic_cause.specs.Naming.{Naming, Extends, maker_of, has_maker, link_of}
use Rattle.ic_cause.specs.Shown.{Shows}
use Rattle.ic_cause.proofs.OnePort.{AreHeld}
use Rattle.ic_path.proofs.InLists.{map_cases, filter_cases, partition, other_parts}
use Rattle.ic_cause.proofs.Extended.{links_kept, fewer_apart}

-- the link is the event's
abbrev IsMade : Event → NetLink → Type 0
IsMade e l = l.maker ≡ Some e

-- an event that is taken out of a sound set is in it no more
out_of : (s : Start) {es rest : List Event} {e : Event} → IsSound s es → Pick e es rest → IsIn e rest → ⊥
out_of s {e = e} sound k i =
    let c = consumed_in i.1 in
    let a = sound.apart e.lead in
    let d = rw (same_name_self e.lead) at (consumed-alike e.lead (picked_alike k)) in
    omega arith

-- links that are placed have the maker that they are given
placed_maker : (m : Option Event) (k : ℕ) (ps : List (Port × Port)) {l : NetLink} {rest : List NetLink} → Pick l (placed m k ps) rest → l.maker ≡ m
placed_maker m k [] i = elim i [ ]
placed_maker m k (p ∷ ps) here = refl
placed_maker m k (p ∷ ps) (there i) = placed_maker m (k + 1) ps i

module _ (n : Naming) (s : Start) (es rest : List Event) (ls : List Link) (d : EventId) (e : Event) (h : Shows n s es ls) (has : n.has_event d ≡ true) (is : n.event d ≡ e) where
  -- a maker by id that is the event's is the event by name
  event_named : (m : MakerId) → is_maker d m ≡ true → maker_of n m ≡ Some e
  event_named maker.Start t = cc
  event_named (maker.Event c) t = let same : c ≡ d = same_event_true c d t in ap Some (ap n.event same ∙ is)

  -- and the other way round, where it is held
  named_event : (m : MakerId) → has_maker n m ≡ true → maker_of n m ≡ Some e → is_maker d m ≡ true
  named_event maker.Start k q = cc
  named_event (maker.Event c) k q =
      let i : n.event c ≡ e = cc in
      let same : d ≡ c = h.apart.events d c has k (is ∙ sym i) in
      rw (← same) (same_event_self d)

  -- the links by id that are the event's
  abbrev its : List Link
  its = filter (λ l. made_by d l) ls

  -- and the others
  abbrev others : List Link
  others = filter (λ l. not (made_by d l)) ls

  -- the event's links by name are its own
  all_its : (l : NetLink) → IsIn l (map (link_of n) its) → IsMade e l
  all_its l i =
      let w = map_cases (link_of n) its i in
      let t = filter_cases (λ l. made_by d l) ls w.1 in
      sym (ap (λ l. l.maker) w.2) ∙ event_named w.0.id.maker t.1

  -- and none of the others is
  no_others : (l : NetLink) → IsIn l (map (link_of n) others) → IsMade e l → ⊥
  no_others l i m =
      let w = map_cases (link_of n) others i in
      let t = filter_cases (λ l. not (made_by d l)) ls w.1 in
      let made : made_by d w.0 ≡ true = named_event w.0.id.maker (h.held w.0 t.0).maker (ap (λ l. l.maker) w.2 ∙ m) in
      let out : not (made_by d w.0) ≡ false = rw made refl in
      let t1 = t.1 in
      cc

  -- the others show the set without the event
  others_alike : IsSound s es → Pick e es rest → Alike (map (link_of n) others) (links s rest)
  others_alike sound k =
      other_parts (IsMade e) (map (link_of n) its) (map (link_of n) others) (born_links s.profile e) (links s rest)
      all_its no_others (λ l i. placed_maker (Some e) 0 _ i.1) (λ l i m. out_of s sound k (maker_in s rest i m))
      (alike_then whole (alike_then h.alike (made_alike (born_links s.profile) (start_links s) (picked_alike k))))
    where
      whole : Alike (map (link_of n) its ++ map (link_of n) others) (map (link_of n) ls)
      whole = rw (← map-append (link_of n) its others) (alike-map (link_of n) (partition (λ l. made_by d l) ls))

-- the links without the event's show the set without the event
pub shows_less : (n less : Naming) (s : Start) (es rest : List Event) (ls left : List Link) (d : EventId) (e : Event) → IsSound s es → Shows n s es ls
    → n.has_event d ≡ true → n.event d ≡ e → Pick e es rest → Drops d ls left → Extends less n → AreHeld less left → Shows less s rest left
shows_less n less s es rest ls left d e sound h has is k drops x held = record {
  apart = fewer_apart less n x h.apart;
  held = held;
  alike = rw (← links_kept less n x left held) (alike_then (alike-map (link_of n) (alike_back drops)) (others_alike n s es rest ls d e h has is sound k));
}
