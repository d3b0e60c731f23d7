use Rattle.std.proofs.Common.{◌∙◌}
use Rattle.ic_command.proofs.FirstLines.{front_whole, front_part}
use Rattle.ic_command.proofs.lines.input.Input.take_front.Goals as goal

pub returns-then-found-clause-front : goal.returns-then-found-clause-front
returns-then-found-clause-front c =
    front_whole c.args.self.now.buffer.items c.unread-bytes.result.now c.args.line.now.items _ _ c.line_len-count.result c.unread-bytes.ensures c.line_len-count.ensures.length c.if-found.true c.in_ok-extend_from_slice.ensures.items

pub returns-else-found-clause-front : goal.returns-else-found-clause-front
returns-else-found-clause-front c =
    front_part c.args.self.now.buffer.items c.unread-bytes.result.now c.args.line.now.items _ _ c.line_len-count.result c.len-self.result c.unread-bytes.ensures c.line_len-count.ensures.length c.if-found.false c.in_ok-extend_from_slice.ensures.items (c.len-self.ensures ∙ c.args.self.now.buffer.ok.0)
