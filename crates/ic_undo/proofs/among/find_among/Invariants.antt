use Rattle.std.proofs.Common.{take}
use Rattle.ic_undo.specs.Among.{AreMissingPlaces, AreOutsideIds, names_at}
use Rattle.ic_undo.proofs.among.find_among.Given as goal

-- what stands outside the mark and what is missing is found, where one of the first agents leads it
abbrev pub invariant-loop-lead : goal.invariant-loop-lead
invariant-loop-lead g l = record {
  outside : AreOutsideIds l.bench l.mark (names_at l.bench.names (take l.lead-index l.leads)) l.outside.items;
  missing : AreMissingPlaces l.bench l.mark (names_at l.bench.names (take l.lead-index l.leads)) l.missing.items;
}
