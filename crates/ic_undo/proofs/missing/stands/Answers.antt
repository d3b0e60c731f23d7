use Rattle.std.proofs.Common.{◌≡◌, ◌≢◌, ◌↔◌, IsTrue, Option, Some, None, IfSome, refl, sym, ◌∙◌}
use Rattle.std.specs.Prelude.{IfNone}
use Rattle.std.specs.Option.{is_some}
use Rattle.ic_name.specs.Names.{Name}
use Rattle.ic_name.specs.declared.ids.EventId.{EventId}
use Rattle.ic_path.specs.Orders.{IsIn}
use Rattle.ic_roster.specs.Rosters.{Stander}
use Rattle.ic_journal.specs.Views.{BenchView}
use Rattle.ic_undo.proofs.missing.stands.Goals as goal

-- whether something is found by a lead tells whether an event of this lead stands
told : (v : BenchView) (n m : Name) (r : Option EventId) → n ≡ m → IfSome r (λ id. (x : Stander) × IsIn x v.events × (x.id ≡ id) × (x.event.lead ≡ n)) → IfNone r ((x : Stander) → IsIn x v.events → x.event.lead ≢ n)
    → IsTrue (is_some r) ↔ ((x : Stander) × IsIn x v.events × (x.event.lead ≡ m))
told v n m None e found absent = (λ t. absurd cc, λ h. absurd (absent h.0 h.1 (h.2 ∙ sym e)))
told v n m (Some id) e found absent = (λ t. (found.0, found.1, found.3 ∙ e), λ h. refl)

pub returns : goal.returns
returns g c =
    rw c.is_some.ensures (told c.args.bench.now c.lead.result.now c.args.event.now.lead c.event_led_by.result c.lead.ensures c.event_led_by.ensures.found c.event_led_by.ensures.absent)
