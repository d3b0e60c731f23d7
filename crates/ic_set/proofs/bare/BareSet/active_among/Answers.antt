use Rattle.std.proofs.Common.{◌≡◌, ◌∙◌, [], ◌∷◌, ◌++◌, sym, ap, rules}
use Rattle.std.proofs.lemmas.List.{take_more, take_all, map-append}
use Rattle.std.proofs.lemmas.Fn.{answers_by}
use Rattle.ic_name.specs.Events.{Event}
use Rattle.ic_names.specs.declared.queue.Lead.{Lead}
use Rattle.ic_set.specs.declared.pairs.ActivePair.{ActivePair}
use Rattle.ic_set.specs.Views.{NamedView}
use Rattle.ic_link.proofs.InPlace.{in_at}
use Rattle.ic_set.proofs.LedPairs.{LedBy, nothing, led_passes, led_more, is_less_lead, less_leads_order, moved_inside, led_pairs}
use Rattle.ic_set.proofs.bare.BareSet.active_among.Goals.{in-Some+in_ok-push, in_default}
use Rattle.ic_set.proofs.bare.BareSet.active_among.Goals as goal

-- a lead, where there is none
abbrev none : Lead
none = record { key = record { 0 = 0 }; name = record { place = 0 } }

pub loop-lead-init : goal.loop-lead-init
loop-lead-init g c = ([], nothing, search rules)

pub led_by_name-requires : goal.led_by_name-requires
led_by_name-requires g c =
    let moved = rw (← c.deref-lead-items.ensures.value) at c.sort_by.ensures.permutation in
    let leads = c.deref-lead-items.result.now in
    moved_inside c.args.self.now.names c.args.leads.items leads c.requires.named moved _ (in_at leads c.loop-lead.lead-index none c.loop-lead-test.true)

pub loop-lead-preserved : goal.loop-lead-preserved
loop-lead-preserved g c =
    let i = c.loop-lead.invariant in
    let v = c.args.self.now in
    let more = take_more c.deref-lead-items.result.now c.loop-lead.lead-index none c.loop-lead-test.true in
    elim c.match-led_by_name.branch [
      | in-Some+in_ok-push w ↦ (
          let found = w.in-Some.ensures.found in (
            i.0 ++ (found.0, w.in-Some.pair) ∷ [],
            rw more (led_more v _ (found.0, w.in-Some.pair) i.1 found.2 found.1),
            rw (w.pairs-is, w.in_ok-push.ensures.items, ← i.2) (map-append (λ (x : Event × ActivePair). x.1) i.0 ((found.0, w.in-Some.pair) ∷ [])),
          ))
      | in_default w ↦ (i.0, rw more (led_passes v _ i.1 w.in_default.ensures.absent), i.2 ∙ ap (λ ps. ps.items) (sym w.pairs-is))
    ]

pub returns : goal.returns
returns g c =
    let ns = c.args.self.now.names in
    let i = c.loop-lead.invariant in
    let whole = take_all c.loop-lead.lead-index c.deref-lead-items.result.now c.loop-lead-test.false in
    let led : LedBy c.args.self.now c.sort_by.new.self.items i.0 = rw (whole, c.deref-lead-items.ensures.value) at i.1 in
    let moved = c.sort_by.ensures.permutation in
    let sorted = c.in_ok-sort_by.ensures.sorted (is_less_lead ns) (less_leads_order ns) (answers_by _ _ (λ f. f.0.now ≡ ns) (λ f a r f' k i. (search rules, search rules)) _ (c.names-names.ensures ∙ ap (λ (w : NamedView). w.names) c.self.view_is)) in
    led_pairs c.args.self.now c.lawful.ensures.set c.lawful.ensures.table c.args.leads.items _ i.0 _ c.requires.named c.requires.once c.requires.each moved sorted led i.2
