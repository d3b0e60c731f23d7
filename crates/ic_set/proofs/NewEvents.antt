-- An active event is new to a standing set.
use Rattle.std.proofs.Common.{◌≡◌, ◌≢◌, ℕ, ◌≤◌, Bool, true, false, List, ◌∷◌, All, refl, sym, ap, arith, ◌∙◌, subst}
use Rattle.ic_name.specs.Events.{Event}
use Rattle.ic_name.specs.Spots.{is_maker, made_by, same_event}
use Rattle.ic_name.specs.declared.ids.EventId.{EventId}
use Rattle.ic_name.specs.declared.ids.Link.{Link}
use Rattle.ic_name.specs.declared.ids.MakerId.{MakerId}
use Rattle.ic_name.specs.declared.ids.MakerId.TheVariants as maker
use Rattle.ic_path.specs.Orders.{IsIn, IsOnce}
use Rattle.ic_theory.specs.Active.{IsActive}
use Rattle.ic_theory.specs.Causes.{IsCause}
use Rattle.ic_theory.specs.Sets.{consumed_times}
use Rattle.ic_theory.specs.Sound.{IsSound}
use Rattle.ic_theory.proofs.Future.{consumed_in, loose_agent, unequal, trail_included, same_links, includes_self, includes_more}
use Rattle.ic_theory.proofs.Machines.{fire_sound}
use Rattle.ic_theory.proofs.Ranks.{cause_in}
use Rattle.ic_cause.specs.Naming.{has_maker}
use Rattle.ic_path.proofs.InLists.{in-map, map_cases, all_of_each}
use Rattle.ic_roster.specs.Rosters.{Stander, IsNewEvent, Stands}
use Rattle.ic_set.specs.Views.{SetView, standing}
use Rattle.ic_set.specs.Sets.{IsKept}
use Rattle.ic_set.specs.Admission.{AreCausesOf}
use Rattle.ic_name.proofs.SameFacts.{same_event_true}

module _ (v : SetView) (ls : List Link) (k : IsKept v ls) (e : Event) (active : IsActive v.start (standing v) e) where
  -- the set with it is sound
  pub sound_more : IsSound v.start (e ∷ standing v)
  sound_more = fire_sound v.start k.set.proper k.set.sound active

  -- its lead is in no event
  new_lead : (x : Stander) → IsIn x v.events → x.event.lead ≢ e.lead
  new_lead x i q =
      let none = loose_agent v.start (standing v) e.lead active.wire.from_loose in
      let there = in-map (λ (y : Stander). y.event) i in
      let some = subst (λ n. 1 ≤ consumed_times n (standing v)) q (consumed_in there.1) in
      omega arith

  -- it causes nothing
  pub causes_nothing : (f : Event) → IsCause v.start (standing v) f e → ⊥
  causes_nothing f q = let x = map_cases (λ (y : Stander). y.event) v.events (cause_in v.start q) in new_lead x.0 x.1 (ap (λ g. g.lead) x.2)

  -- its causes in the set with it are those of before
  pub own_causes : (c : Event) → IsCause v.start (e ∷ standing v) e c → IsCause v.start (standing v) e c
  own_causes c q =
      let p = active.wire.path in
      let t = trail_included v.start (includes_more e (includes_self (standing v))) p.trail in
      let same = same_links v.start k.set.proper (e ∷ standing v) (sound_more).apart e.lead e.other (λ x. unequal active.present.ordered (sym x)) q.path.trail t.1 in
      record { path = p; link = q.link; on_path = rw same at q.on_path; made = q.made }

  -- its direct causes stand
  pub causes_kept : (ids : List EventId) → AreCausesOf v e ids → All (Stands v.events) ids
  causes_kept ids are = all_of_each (Stands v.events) ids (λ d i. let y = are.only d i in (y.0, y.1, y.2))

  -- each of them once
  pub causes_once : (ids : List EventId) → AreCausesOf v e ids → IsOnce ids
  causes_once ids are = are.once

  module _ (line : ℕ) (new_line : (x : Stander) → IsIn x v.events → x.id.line ≢ line) where
    -- it can be put in
    pub new_event : IsNewEvent v.events line e
    new_event x i = (new_line x i, new_lead x i)

    module _ (d : EventId) (in_line : d.line ≡ line) where
      -- no event is under an id with its line
      new_id : (x : Stander) → IsIn x v.events → x.id ≢ d
      new_id x i q = new_line x i (ap (λ c. c.line) q ∙ in_line)

      -- and no link is made there
      pub no_links : (l : Link) → IsIn l ls → made_by d l ≡ false
      no_links l i = by l.id.maker (k.shows.held l i).maker
        where
          test : (c : EventId) (t : Bool) → k.naming.has_event c ≡ true → same_event c d ≡ t → same_event c d ≡ false
          test c true h q = let x = k.named.no_other_events c h in absurd (new_id x.0 x.1 (x.2 ∙ same_event_true c d q))
          test c false h q = q

          by : (m : MakerId) → has_maker k.naming m ≡ true → is_maker d m ≡ false
          by maker.Start h = refl
          by (maker.Event c) h = test c (same_event c d) h refl
