-- Going back and absorbing only add lines to the history.
use Rattle.std.proofs.Common.{◌≡◌, List, [], ◌++◌, map, reverse, Result, Ok, Err, IfOk, IfErr, sym, ap, append-nil, append_assoc, ◌∙◌}
use Rattle.ic_name.specs.Events.{Event, Pair}
use Rattle.ic_name.specs.declared.lines.Line.{Line}
use Rattle.ic_journal.specs.Rosters.{Stander}
use Rattle.ic_journal.specs.Views.{BenchView}
use Rattle.ic_undo.specs.Absorbing.{TakesBack}
use Rattle.ic_undo.specs.GoingBack.{Goes, IsBack, IsntBack, firing}
use Rattle.ic_undo.specs.Marks.{MarkView}
use Rattle.ic_journal.specs.Undone.{undoing}
use Rattle.ic_undo.specs.declared.faults.Counts.{Counts}
use Rattle.ic_undo.specs.declared.faults.BackFault.{BackFault}
use Rattle.ic_undo.specs.declared.faults.BackFault.TheVariants as back
use Rattle.ic_answer.specs.Longer.{IsLonger}

-- a bench that is the same has no lines more
pub unchanged : (old new : BenchView) → new ≡ old → IsLonger old new
unchanged old new same = record { more = []; lines = ap (λ (v : BenchView). v.lines) same ∙ sym (append-nil old.lines) }

-- events are undone, then events are fired
went : {old new : BenchView} {gone : List Stander} {came : List Event} {counts : Counts} → Goes old gone came counts new → IsLonger old new
went {old} {new} {gone} {came} {counts} g = record {
  more = map undoing gone ++ map firing came;
  lines = g.fired.lines ∙ ap (λ ls. ls ++ map firing came) g.undone.lines ∙ append_assoc old.lines (map undoing gone) (map firing came);
}

-- the bench is back at a mark, or on its way, or didn't set out
pub back_adds : (old new : BenchView) (m : MarkView) (result : Result Counts BackFault)
    → IfOk result (λ counts. IsBack old m counts new) → IfErr result (λ fault. IsntBack old m fault new) → IsLonger old new
back_adds old new m (Ok counts) ok err = went ok.did
back_adds old new m (Err back.HistoryFull) ok err = unchanged old new err.1
back_adds old new m (Err (back.Memory counts)) ok err = went err.did

-- and the start stays
pub back_stays : (old new : BenchView) (m : MarkView) (result : Result Counts BackFault)
    → IfOk result (λ counts. IsBack old m counts new) → IfErr result (λ fault. IsntBack old m fault new) → new.start ≡ old.start
back_stays old new m (Ok counts) ok err = ok.did.fired.start ∙ ok.did.undone.start
back_stays old new m (Err back.HistoryFull) ok err = ap (λ (v : BenchView). v.start) err.1
back_stays old new m (Err (back.Memory counts)) ok err = err.did.fired.start ∙ err.did.undone.start

-- events are fired, and undone again
pub took_back : {old new : BenchView} {names : List Pair} {came : List Event} {said : List Line} → TakesBack old names came said new → IsLonger old new
took_back {old} {new} {names} {came} {said} t =
    let back = map undoing (reverse t.standers) in record {
      more = map firing came ++ (said ++ back);
      lines = t.lines ∙ append_assoc (old.lines ++ map firing came) said back ∙ append_assoc old.lines (map firing came) (said ++ back);
    }
