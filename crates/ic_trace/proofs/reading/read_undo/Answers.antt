use Rattle.std.proofs.Common.{Bool, Some, None, subst}
use Rattle.ic_name.specs.Names.{Name}
use Rattle.ic_trace.specs.Pasts.{Undoes}
use Rattle.ic_trace.specs.Known.{IsNumberOf}
use Rattle.ic_trace.proofs.ReadUndos.{undo_refused, undone_known, accepted_undo}
use Rattle.ic_trace.proofs.reading.read_undo.Goals as goal

pub returns-then-not-undo : goal.returns-then-not-undo
returns-then-not-undo c = undo_refused c.args.past.now c.undo.new.self c.args.name.now (subst (λ (b : Bool). Undoes c.args.past.now c.args.name.now b c.undo.new.self) c.if-not-undo.true c.undo.ensures)

pub unreachable-requires : goal.unreachable-requires
unreachable-requires c =
    let u = subst (λ (b : Bool). Undoes c.args.past.now c.args.name.now b c.undo.new.self) c.if-not-undo.false c.undo.ensures in
    let n = subst (λ (x : Name). IsNumberOf c.args.table.now.known.items x None) c.lead.ensures c.in_default.ensures in
    undone_known c.args.past.now c.undo.new.self c.args.table.now c.requires c.args.name.now u n

pub returns : goal.returns
returns c =
    let u = subst (λ (b : Bool). Undoes c.args.past.now c.args.name.now b c.undo.new.self) c.if-not-undo.false c.undo.ensures in
    let n = subst (λ (x : Name). IsNumberOf c.args.table.now.known.items x (Some c.in-Some.number)) c.lead.ensures c.in-Some.ensures in
    accepted_undo c.args.past.now c.undo.new.self c.args.table.now c.requires c.args.name.now u c.in-Some.number n
