use Rattle.std.proofs.Common.{◌≡◌, ◌≢◌, sym, ap, subst, arith}
use Rattle.ic_name.specs.declared.ids.EventId.{EventId}
use Rattle.ic_names.specs.Tables.{name_at}
use Rattle.ic_path.specs.Orders.{IsIn}
use Rattle.ic_roster.specs.Rosters.{Stander, HaveOwnLines}
use Rattle.ic_journal.specs.Views.{BenchView}
use Rattle.ic_journal.proofs.FiredLines.{none_there, lead_within, none_led, other_led}
use Rattle.ic_journal.proofs.bench.Bench.standing_of.Goals as goal

pub returns-in_err-lead-clause-absent : goal.returns-in_err-lead-clause-absent
returns-in_err-lead-clause-absent g c =
    let s = c.self.inside.set in
    let h = c.self.inside.history in
    rw (c.from_residual.ensures, ← c.self.view_is) (none_there s h c.self.invariant c.args.line c.in_err-lead.ensures.none)

pub led_by-requires : goal.led_by-requires
led_by-requires g c = rw (c.roster.ensures.names, c.bare.ensures) (lead_within c.self.inside.set c.self.inside.history c.self.invariant c.args.line c.in_ok-lead.lead c.in_ok-lead.ensures.found)

pub returns-in_err-id-clause-absent : goal.returns-in_err-id-clause-absent
returns-in_err-id-clause-absent g c =
    let s = c.self.inside.set in
    let h = c.self.inside.history in
    let none : (x : Stander) → IsIn x s.set.events → x.event.lead ≢ name_at s.names c.in_ok-lead.lead.place = rw (c.roster.ensures.events, c.roster.ensures.names, c.bare.ensures) at c.in_err-id.ensures.absent in
    rw (c.from_residual-in_err-id.ensures, ← c.self.view_is) (none_led s h c.self.invariant c.args.line c.in_ok-lead.lead c.in_ok-lead.ensures.found none)

pub returns-then-id-line-clause-absent : goal.returns-then-id-line-clause-absent
returns-then-id-line-clause-absent g c =
    let s = c.self.inside.set in
    let h = c.self.inside.history in
    let own : HaveOwnLines s.set.events = subst (λ (v : BenchView). HaveOwnLines v.events) (sym c.self.view_is) c.lawful.ensures.set.own_lines in
    let found : (y : Stander) × IsIn y s.set.events × (y.id ≡ c.in_ok-id.id) × (y.event.lead ≡ name_at s.names c.in_ok-lead.lead.place) = rw (c.roster.ensures.events, c.roster.ensures.names, c.bare.ensures) at c.in_ok-id.ensures.found in
    let line : found.0.id.line ≡ c.in_ok-id.id.line = ap (λ (d : EventId). d.line) found.2 in
    let differs = c.if-id-line.true in
    let other : found.0.id.line ≢ c.args.line = λ same. omega (arith, line, differs, same) in
    rw (← c.self.view_is) (other_led s h c.self.invariant c.args.line c.in_ok-lead.lead c.in_ok-lead.ensures.found own found.0 found.1 found.3 other)
