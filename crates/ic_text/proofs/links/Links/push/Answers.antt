use Rattle.std.proofs.Common.{◌<◌, ◌^◌, map, length, arith}
use Rattle.std.proofs.lemmas.List.{length-map}
use Rattle.ic_start.specs.Starts.{join_of}
use Rattle.ic_text.proofs.LinkPorts.{one_more}
use Rattle.ic_text.proofs.links.Links.push.Goals as goal

pub push-requires : goal.push-requires
push-requires c =
    let few : length (map join_of c.self.inside.links) < 2 ^ 32 = rw c.self.view_is c.requires in
    omega (arith, few, length-map c.self.inside.links join_of)

pub returns : goal.returns
returns c = rw (c.in_ok-push.ensures.link, ← c.self.view_is) (one_more c.self.inside.links _ c.args.a c.args.b)
