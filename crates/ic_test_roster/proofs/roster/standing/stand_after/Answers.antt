use Rattle.std.proofs.Common.{◌≡◌, ◌∷◌, Result, Ok, Err, sym, subst, All}
use Rattle.std.specs.Prelude.{IfOk, OnErr}
use Rattle.ic_path.specs.Orders.{Alike}
use Rattle.ic_path.proofs.Picks.{in_more}
use Rattle.ic_path.proofs.Alikes.{alike-in}
use Rattle.ic_name.specs.declared.ids.EventId.{EventId as AnEventId}
use Rattle.ic_roster.specs.Rosters.{RosterView, Stander, Stands, event_in}
use Rattle.ic_test_roster.proofs.roster.standing.stand_after.Goals as goal

pub insert_event-requires-clause-is_new : goal.insert_event-requires-clause-is_new
insert_event-requires-clause-is_new c = λ x i. (c.in_ok-new.ensures c.if-not-new.false x i, c.in-None.ensures.absent x i)

pub insert_event-requires-clause-standing : goal.insert_event-requires-clause-standing
insert_event-requires-clause-standing c = subst (λ xs. All (Stands xs) c.args.causes.now) (sym c.interaction.ensures.events) c.requires.standing

-- what stood before an event is put in stands after
still : {E : Type 0} (old new : RosterView) (entry : AnEventId → Stander) (P : AnEventId → Type 0) (r : Result AnEventId E) → IfOk r (λ id. P id × Alike (entry id ∷ old.events) new.events) → OnErr r (new ≡ old)
    → (d : AnEventId) → Stands old.events d → Stands new.events d
still old new entry P (Ok id) entered same d s = (s.0, alike-in entered.1 (in_more (entry id) s.1), s.2)
still old new entry P (Err e) entered same d s = subst (λ (v : RosterView). Stands v.events d) (sym same) s

pub returns-in-None-clause-kept : goal.returns-in-None-clause-kept
returns-in-None-clause-kept c = λ d s.
    still c.interaction.new.roster c.insert_event.new.self
    (λ id. record { id = id; event = event_in c.interaction.new.roster.names c.in_ok-interaction.interaction; rank = 7; born = c.args.born.now; causes = c.args.causes.now }) (λ id. id.line ≡ c.args.line)
    c.insert_event.result c.insert_event.ensures.entered c.insert_event.ensures.unchanged d (subst (λ xs. Stands xs d) (sym c.interaction.ensures.events) s)
