-- The limits that firing an event meets.
use Rattle.ic_name.specs.declared.lines.Reply.{Reply}
use Rattle.ic_name.specs.declared.lines.Reply.TheVariants as reply
use Rattle.ic_history.specs.declared.limit.Limit.{Limit}
use Rattle.ic_history.specs.declared.limit.Limit.TheVariants.{Deep, Full}

-- the reply in the history
abbrev pub reply_of : Limit → Reply
reply_of Deep = reply.Deep
reply_of Full = reply.Full
