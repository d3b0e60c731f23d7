use Rattle.std.proofs.Common.{◌≡◌, inl, inr, sym, ap, arith, ◌∙◌}
use Rattle.std.proofs.lemmas.List.{take_all}
use Rattle.ic_path.proofs.Picks.{none_in}
use Rattle.ic_names.specs.Tables.{name_at}
use Rattle.ic_names.specs.Queues.{place_of, leads_of}
use Rattle.ic_names.proofs.Queued.{queue_named}
use Rattle.ic_set.proofs.Partners.{none_led}
use Rattle.ic_set.proofs.QueuedLeads.{still_queued}
use Rattle.ic_journal.proofs.LeadsLeft.{one_more_queued, pair_unled}
use Rattle.ic_journal.proofs.standing.renewing.without_fired.Goals as goal
use Rattle.ic_journal.proofs.standing.renewing.without_fired.Goals.{then-not-is_lead, else-not-is_lead}

pub loop-at-init : goal.loop-at-init
loop-at-init g c =
    let made = c.in_ok-fresh.ensures in
    let space = made.room in
    record {
      queue = made.queue;
      led = λ e p h q. elim (none_in q.2) [ ];
      unled = λ n k x there same. none_in (rw made.empty at k);
      room = omega arith;
    }

pub is_lead-requires : goal.is_lead-requires
is_lead-requires g c =
    let named = queue_named c.requires.queue in
    rw (c.lead.ensures, c.roster-roster.ensures.names) (named.inside c.loop-at.at (omega (arith, c.loop-at-test.true, c.len-at-end.ensures)))

pub put-requires-clause-inside : goal.put-requires-clause-inside
put-requires-clause-inside g c =
    let named = queue_named c.requires.queue in
    rw (c.lead.ensures, c.names.ensures, c.roster-roster.ensures.names) (named.inside c.loop-at.at (omega (arith, c.loop-at-test.true, c.len-at-end.ensures)))

pub loop-at-preserved : goal.loop-at-preserved
loop-at-preserved g c =
    let i = c.loop-at.invariant in
    let ns = c.args.set.now.names in
    let leads = leads_of c.args.queue.now in
    let is = ap place_of c.lead.ensures in
    let split = one_more_queued c.args.set.now leads c.loop-at.at (omega (arith, c.loop-at-test.true, c.len-at-end.ensures)) in
    elim c.if-not-is_lead.branch [
      | then-not-is_lead w ↦
          let names : w.names.result.now ≡ ns = w.names.ensures ∙ c.roster-roster.ensures.names in
          let entered = w.put.ensures.entered in
          let absent = none_led _ _ c.is_lead.result (rw (c.roster-roster.ensures.events, c.roster-roster.ensures.names) at c.is_lead.ensures) w.if-not-is_lead.true in
          let before = i.room in
          let after = w.put.ensures.room in
          rw w.fresh-is (record {
            queue = rw names at w.put.ensures.queue;
            led = λ e p h q. elim (split e q) [
              | inl k ↦ still_queued ns (leads_of c.loop-at.fresh) (leads_of w.put.new.self) (λ n j. (entered n).1 (inr j)) e.lead (i.led e p h k)
              | inr last ↦ (last.0.0, last.0.1, (entered last.0.0).1 (inl (last.1 ∙ sym is)))
            ];
            unled = λ n k x there same. elim ((entered n).0 k) [
              | inl new ↦ absent x there (same ∙ ap (name_at ns) new)
              | inr old ↦ i.unled n old x there same
            ];
            room = omega arith;
          })
      | else-not-is_lead w ↦
          rw w.fresh-is (record {
            queue = i.queue;
            led = λ e p h q. elim (split e q) [
              | inl k ↦ i.led e p h k
              | inr last ↦ (
                  let told = rw (c.roster-roster.ensures.events, c.roster-roster.ensures.names) at c.is_lead.ensures in
                  let x = told.0 w.if-not-is_lead.false in
                  absurd (pair_unled c.args.set.now e p h last.0.0 (sym last.0.1.named) x.0 x.1 (x.2 ∙ sym (ap (name_at ns) (last.1 ∙ sym is)))))
            ];
            unled = i.unled;
            room = i.room;
          })
    ]

pub returns-clause-each : goal.returns-clause-each
returns-clause-each g c =
    let all = take_all c.loop-at.at (leads_of c.args.queue.now) (omega (arith, c.loop-at-test.false, c.len-at-end.ensures)) in
    λ e p h. (rw all at c.loop-at.invariant.led) e p h (c.requires.each e p h)
