use Rattle.std.proofs.Common.{◌≡◌, ◌++◌, length, refl, arith, ◌+◌}
use Rattle.std.proofs.lemmas.List.{length-append}
use Rattle.ic_start.proofs.TextFacts.{one_more, ends_more}
use Rattle.ic_start.proofs.texts.Texts.push.Goals as goal

pub invariant_of-self-2 : goal.invariant_of-self-2
invariant_of-self-2 c =
    let bytes = c.in_ok-extend_from_slice.ensures.items in
    let now : c.len.result ≡ length (c.self.inside.bytes.items ++ c.args.text.now) =
    omega (arith, c.len.ensures, c.in_ok-extend_from_slice.ensures.len, c.self.inside.bytes.ok.0, length-append c.self.inside.bytes.items c.args.text.now) in
    rw (bytes, c.push_reserved.ensures.items, c.in_ok-reserve.ensures.items, now)
    (ends_more 0 c.self.inside.ends.items _ (length c.self.inside.bytes.items) c.self.invariant (omega (arith, length-append c.self.inside.bytes.items c.args.text.now)))

pub returns-clause-text : goal.returns-clause-text
returns-clause-text c =
    let bytes = c.in_ok-extend_from_slice.ensures.items in
    let now : c.len.result ≡ length c.self.inside.bytes.items + length c.args.text.now =
    omega (arith, c.len.ensures, c.in_ok-extend_from_slice.ensures.len, c.self.inside.bytes.ok.0) in
    rw (bytes, c.push_reserved.ensures.items, c.in_ok-reserve.ensures.items, ← c.self.view_is)
    (one_more c.self.inside.bytes.items c.args.text.now 0 c.self.inside.ends.items _ (length c.self.inside.bytes.items) c.self.invariant refl now)
