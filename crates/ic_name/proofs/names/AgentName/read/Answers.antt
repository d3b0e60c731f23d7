use Rattle.std.specs.Prelude.{Ok, Err}
use Rattle.ic_name.specs.declared.faults.NameFault.TheVariants.{BadName, Deep, Memory}
use Rattle.ic_name.specs.Names.{Name, IsName}
use Rattle.ic_name.specs.NameTexts.{Reads}
use Rattle.ic_name.proofs.NameAnswers.{reads_bad, reads_deep, reads_named, shape_deep, shape_named, shape_shallow}
use Rattle.ic_name.proofs.names.AgentName.read.Goals as goal

pub returns-in-Err : goal.returns-in-Err
returns-in-Err c =
    let reads = c.in-Err.ensures.err in
    record {
      ok = tt;
      bad = reads_bad c.args.bytes.now (Err (BadName c.in-Err.offset)) reads;
      deep = reads_deep c.args.bytes.now (Err (BadName c.in-Err.offset)) reads;
      named = reads_named c.args.bytes.now (Err (BadName c.in-Err.offset)) reads;
      reads = reads;
    }

pub returns-then-shape-gt-MAX_DEPTH : goal.returns-then-shape-gt-MAX_DEPTH
returns-then-shape-gt-MAX_DEPTH c =
    let reads = shape_deep _ _ c.in-Ok.ensures.ok c.if-shape-gt-MAX_DEPTH.true in
    record {
      ok = tt;
      bad = reads_bad c.args.bytes.now (Err Deep) reads;
      deep = reads_deep c.args.bytes.now (Err Deep) reads;
      named = reads_named c.args.bytes.now (Err Deep) reads;
      reads = reads;
    }

pub invariant_of-result : goal.invariant_of-result
invariant_of-result c = shape_named _ _ _ c.in-Ok.ensures.ok c.if-shape-gt-MAX_DEPTH.false c.in-Ok-digits.ensures

pub returns-in-Ok-digits : goal.returns-in-Ok-digits
returns-in-Ok-digits c =
    let name : Name = record { start = c.in-Ok.shape.start; digits = c.in-Ok-digits.digits.items } in
    let is : IsName name = shape_named _ _ name c.in-Ok.ensures.ok c.if-shape-gt-MAX_DEPTH.false c.in-Ok-digits.ensures in
    let reads : Reads c.args.bytes.now (Ok name) = (is, c.in-Ok-digits.ensures.text) in
    record {
      ok = c.in-Ok-digits.ensures.text;
      bad = reads_bad c.args.bytes.now (Ok name) reads;
      deep = reads_deep c.args.bytes.now (Ok name) reads;
      named = reads_named c.args.bytes.now (Ok name) reads;
      reads = reads;
    }

pub returns-in-Err-digits : goal.returns-in-Err-digits
returns-in-Err-digits c =
    let reads = shape_shallow _ _ c.in-Ok.ensures.ok c.if-shape-gt-MAX_DEPTH.false in
    record {
      ok = tt;
      bad = reads_bad c.args.bytes.now (Err Memory) reads;
      deep = reads_deep c.args.bytes.now (Err Memory) reads;
      named = reads_named c.args.bytes.now (Err Memory) reads;
      reads = reads;
    }
