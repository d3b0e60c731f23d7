use Rattle.std.proofs.Common.{sym, subst}
use Rattle.ic_roster.specs.Rosters.{HaveOwnLines}
use Rattle.ic_set.specs.Cleared.{AreAll}
use Rattle.ic_journal.specs.Undone.{AreIdsOfFree}
use Rattle.ic_journal.specs.Views.{BenchView, set_of, view_of}
use Rattle.ic_journal.proofs.ClearedBenches.{cleared_kept, cleared_undone}
use Rattle.ic_journal.proofs.bench.Bench.clear.Goals as goal

pub invariant_of-self : goal.invariant_of-self
invariant_of-self g c =
    let s = c.self.inside.set in
    let h = c.self.inside.history in
    let own : HaveOwnLines s.set.events = subst (λ (v : BenchView). HaveOwnLines v.events) (sym c.self.view_is) c.lawful.ensures.set.own_lines in
    let all : AreAll s.set c.args.ids.now = subst (λ (v : BenchView). AreAll (set_of v) c.args.ids.now) (sym c.self.view_is) c.requires.all in
    let free : AreIdsOfFree (view_of s h) c.args.ids.now = rw c.self.view_is c.requires.free in
    cleared_kept s c.clear.new.self h c.note_undone.new.self c.self.invariant own c.clear.ensures.names c.clear.ensures.cleared c.args.ids.now all c.note_undone.ensures.lines c.note_undone.ensures.room free c.note_undone.ensures.few

pub returns-clause-undone : goal.returns-clause-undone
returns-clause-undone g c =
    let s = c.self.inside.set in
    let h = c.self.inside.history in
    let own : HaveOwnLines s.set.events = subst (λ (v : BenchView). HaveOwnLines v.events) (sym c.self.view_is) c.lawful.ensures.set.own_lines in
    let all : AreAll s.set c.args.ids.now = subst (λ (v : BenchView). AreAll (set_of v) c.args.ids.now) (sym c.self.view_is) c.requires.all in
    rw (← c.self.view_is) (cleared_undone s c.clear.new.self h c.note_undone.new.self c.self.invariant own c.clear.ensures.names c.clear.ensures.cleared c.args.ids.now all c.note_undone.ensures.lines c.note_undone.ensures.room)
