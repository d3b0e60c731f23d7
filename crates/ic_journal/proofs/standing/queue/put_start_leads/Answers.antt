use Rattle.std.proofs.Common.{◌≡◌, ℕ, ◌+◌, ◌-◌, ◌<◌, List, ◌⊎◌, inl, inr, arith, length, drop, refl, sym, ap, subst, ◌∙◌}
use Rattle.std.specs.Prelude.{slice_index_or}
use Rattle.std.proofs.lemmas.List.{drop_all}
use Rattle.ic_name.specs.Names.{Name}
use Rattle.ic_name.specs.Events.{Event}
use Rattle.ic_name.specs.declared.ids.EventId.{EventId}
use Rattle.ic_names.specs.Queues.{leads_of}
use Rattle.ic_names.specs.Tables.{name_at}
use Rattle.ic_path.specs.Orders.{IsIn}
use Rattle.ic_path.proofs.Picks.{none_in}
use Rattle.ic_roster.specs.Rosters.{Stander, HaveOwnLines}
use Rattle.ic_link.proofs.InPlace.{in_at}
use Rattle.ic_set.proofs.Namings.{same_stander}
use Rattle.ic_set.proofs.QueuedLeads.{still_queued}
use Rattle.ic_journal.proofs.TakenElements.{in_dropped}
use Rattle.ic_journal.proofs.standing.queue.put_start_leads.Goals as goal

-- an event whose id is among one id more has the lead of the one under that id, or its id was among the others
one_more : (ss : List Stander) → HaveOwnLines ss → (ids : List EventId) (i : ℕ) (d : EventId) → i < length ids → (y : Stander) → IsIn y ss → y.id ≡ slice_index_or ids i d → (n : Name) → y.event.lead ≡ n
    → (x : Stander) → IsIn x ss → IsIn x.id (drop i ids) → IsIn x.id (drop (i + 1) ids) ⊎ (x.event.lead ≡ n)
one_more ss own ids i d below y at under n leads x there j = elim (in_dropped ids i d below j) [
  | inl k ↦ inl k
  | inr same ↦ inr (ap (λ (z : Stander). z.event.lead) (same_stander ss x y own there at (inl (same ∙ sym under))) ∙ leads)
]

pub loop-place-init : goal.loop-place-init
loop-place-init g c = record { queue = c.requires.queue; stay = λ n i. i; led = λ x there i bare. absurd (none_in (rw (drop_all (length c.args.events.now) c.args.events.now (omega arith)) at i)); room = omega arith }

pub unreachable-requires : goal.unreachable-requires
unreachable-requires g c =
    let end = c.loop-place.auto.place in
    let more = c.loop-place-test.true in
    let x = c.requires.standing _ (in_at c.args.events.now (c.loop-place.place - 1) _ (omega (arith, end, more))) in
    let absent = rw c.roster-in-loop-place.ensures.events at c.in_default.ensures.absent in
    absent x.0 x.1 x.2

pub loop-place-preserved-then-depth-eq0 : goal.loop-place-preserved-then-depth-eq0
loop-place-preserved-then-depth-eq0 g c =
    let i = c.loop-place.invariant in
    let before = i.room in
    let after = c.put.ensures.room in
    let ns = c.args.set.now.names in
    let at = c.in-Some.event.interaction.lead.place in
    let names : c.names-names.result.now ≡ ns = c.names-names.ensures ∙ c.roster.ensures.names in
    let found = rw (c.roster-in-loop-place.ensures.events, c.roster-in-loop-place.ensures.names) at c.in-Some.ensures.found in
    let named = rw c.roster-in-loop-place.ensures.names at c.in-Some.ensures.named in
    let stays = still_queued ns (leads_of c.loop-place.queue) (leads_of c.put.new.self) (λ n k. (c.put.ensures.entered n).1 (inr k)) in
    let end = c.loop-place.auto.place in
    let more = c.loop-place-test.true in
    let next : c.loop-place.place ≡ c.loop-place.place - 1 + 1 = omega (arith, more) in
    record {
      queue = rw names at c.put.ensures.queue;
      stay = λ n k. stays n (i.stay n k);
      led = λ x there j bare. elim (one_more c.args.set.now.set.events c.lawful.ensures.set.own_lines c.args.events.now (c.loop-place.place - 1) _ (omega (arith, end, more)) found.0 found.1 found.2 (name_at ns at) (ap (λ (e : Event). e.lead) found.3) x there j) [
        | inl k ↦ stays x.event.lead (i.led x there (subst (λ m. IsIn x.id (drop m c.args.events.now)) (sym next) k) bare)
        | inr same ↦ (at, record { within = named.lead; named = sym same }, (c.put.ensures.entered at).1 (inl refl))
      ];
      room = omega arith;
    }

pub loop-place-preserved : goal.loop-place-preserved
loop-place-preserved g c =
    let i = c.loop-place.invariant in
    let ns = c.args.set.now.names in
    let at = c.in-Some.event.interaction.lead.place in
    let names : c.names-names.result.now ≡ ns = c.names-names.ensures ∙ c.roster.ensures.names in
    let found = rw (c.roster-in-loop-place.ensures.events, c.roster-in-loop-place.ensures.names) at c.in-Some.ensures.found in
    let deep = c.if-depth-eq0.false in
    let depth = rw names at c.depth.ensures in
    let end = c.loop-place.auto.place in
    let more = c.loop-place-test.true in
    let next : c.loop-place.place ≡ c.loop-place.place - 1 + 1 = omega (arith, more) in
    record {
      queue = i.queue;
      stay = i.stay;
      led = λ x there j bare. elim (one_more c.args.set.now.set.events c.lawful.ensures.set.own_lines c.args.events.now (c.loop-place.place - 1) _ (omega (arith, end, more)) found.0 found.1 found.2 (name_at ns at) (ap (λ (e : Event). e.lead) found.3) x there j) [
        | inl k ↦ i.led x there (subst (λ m. IsIn x.id (drop m c.args.events.now)) (sym next) k) bare
        | inr same ↦ (let none = ap length (ap (λ (n : Name). n.digits) (sym same) ∙ bare) in absurd (omega (arith, depth, none, deep)))
      ];
      room = i.room;
    }

pub returns-clause-led : goal.returns-clause-led
returns-clause-led g c =
    let none : c.loop-place.place ≡ 0 = omega (arith, c.loop-place-test.false) in
    rw none at c.loop-place.invariant.led
