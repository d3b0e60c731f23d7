use Rattle.std.proofs.Common.{◌≡◌, Bool, true, false, not, get_or, take, refl, sym, subst, ◌∙◌}
use Rattle.std.proofs.lemmas.List.{take_more}
use Rattle.std.specs.BTreeMap.{is_at}
use Rattle.std.specs.BTreeSet.{contains}
use Rattle.std.specs.List.{list_any}
use Rattle.std.specs.Ordering.{nat_cmp}
use Rattle.ic_name.specs.declared.ids.EventId.{EventId}
use Rattle.ic_undo.specs.Resting.{HaveLines}
use Rattle.ic_undo.proofs.RestingLines.{lines_more, puts_more, puts_same}
use Rattle.ic_undo.proofs.resting.add_new.Goals as goal
use Rattle.ic_undo.proofs.resting.add_new.Goals.{then-branch+in_ok-push, else-branch}

-- an id that is never read
abbrev no_id : EventId
no_id = record { slot = 0; line = 0 }

-- a key that is new wasn't there, and one that isn't was
was_absent : (b : Bool) → true ≡ not b → b ≡ false
was_absent true e = cc
was_absent false e = refl

was_there : (b : Bool) → false ≡ not b → b ≡ true
was_there true e = refl
was_there false e = cc

pub loop-other-preserved : goal.loop-other-preserved
loop-other-preserved c =
    let others = c.args.others.now in
    let k = c.loop-other.other-index in
    let d = get_or others k no_id in
    let ids = c.loop-other.ids.items in
    let has = contains nat_cmp c.loop-other.lines in
    let held = c.loop-other.invariant in
    let added = c.in_ok-insert.ensures.added in
    let more = take_more others k no_id c.loop-other-test.true in
    elim c.if-branch.branch [
      | then-branch+in_ok-push w ↦ rw (w.ids-is, w.in_ok-push.ensures.items, more) (record {
        lines = lines_more ids has (contains nat_cmp c.insert.new.self) d (was_absent (has d.line) (sym w.if-branch.true ∙ added)) held.lines c.in_ok-insert.ensures.updates.0;
        put = puts_more c.args.ids.now.items (take k others) ids d held.put;
      })
      | else-branch w ↦ rw (w.ids-is, more) (record {
        lines = subst (λ ns. HaveLines ids (λ n. list_any (is_at (nat_cmp n)) ns)) (sym (rw w.if-branch.false at c.in_ok-insert.ensures.unchanged)) held.lines;
        put = puts_same c.args.ids.now.items (take k others) ids d (held.lines.each d.line (was_there (has d.line) (sym w.if-branch.false ∙ added))) held.put;
      })
    ]
