use Rattle.std.proofs.Common.{◌↔◌, ◌<◌, ◌≤◌, List, length, map}
use Rattle.std.specs.Prelude.{All}
use Rattle.ic_name.specs.Names.{Name}
use Rattle.ic_names.specs.Tables.{name_at}
use Rattle.ic_path.specs.Orders.{IsIn}
use Rattle.ic_history.specs.Noted.{line_in, AreLinesNamed}
use Rattle.ic_history.proofs.ChangedLines.{IsLeadChangedBetween}
use Rattle.ic_history.proofs.history.History.leads_changed_since.Given as goal

abbrev pub invariant-loop-number : goal.invariant-loop-number
invariant-loop-number l = record {
  ahead : l.line ≤ l.number;
  inside : (ns : List Name) → AreLinesNamed ns l.self.lines → All (λ d. d.place < length ns) l.leads.items;
  each : (ns : List Name) → AreLinesNamed ns l.self.lines → (n : Name) → IsIn n (map (λ d. name_at ns d.place) l.leads.items) ↔ IsLeadChangedBetween (map (line_in ns) l.self.lines) l.line l.number n;
}
