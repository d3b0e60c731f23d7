-- Events that are as many as stand are all of them.
use Rattle.std.proofs.Common.{◌≡◌, List, length, subst, sym, ◌∙◌}
use Rattle.ic_name.specs.declared.ids.EventId.{EventId}
use Rattle.ic_path.specs.Orders.{IsIn, Alike}
use Rattle.ic_path.proofs.Alikes.{alike_back, alike-in}
use Rattle.ic_roster.specs.Rosters.{Stander}
use Rattle.ic_set.specs.Cleared.{AreAll}
use Rattle.ic_journal.specs.Views.{BenchView, set_of}
use Rattle.ic_journal.specs.Undone.{AreIdsOfFree}
use Rattle.ic_path.proofs.InLists.{in-map, map_cases}
use Rattle.ic_undo.proofs.PlacedEvents.{order_length}
use Rattle.ic_path.proofs.OnceLists.{alike_by_length}

-- the ids of events that can be undone from the last one on are those of all events, where they are as many
pub all_there : (v : BenchView) (ids : List EventId) → AreIdsOfFree v ids → length ids ≡ length v.events → AreAll (set_of v) ids
all_there v ids f same = record {
  stand = λ d i. let m = map_cases (λ (x : Stander). x.id) f.0 (subst (IsIn d) (sym f.2) i) in (m.0, f.1.there m.0 m.1, m.2);
  each = λ x i. subst (IsIn x.id) f.2 (in-map (λ (x : Stander). x.id) (alike-in (alike_back alike) i));
}
  where
    alike : Alike f.0 v.events
    alike = alike_by_length f.0 v.events f.1.once f.1.there (order_length f.0 ids f.2 ∙ same)
