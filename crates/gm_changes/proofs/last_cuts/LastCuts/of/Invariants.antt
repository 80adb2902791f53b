use Rattle.std.proofs.Common.{take}
use Rattle.gm_changes.specs.LastCuts.{HasNoted}
use Rattle.gm_changes.proofs.last_cuts.LastCuts.of.Given as goal

abbrev pub invariant-loop-place : goal.invariant-loop-place
invariant-loop-place l = HasNoted (take l.place l.changes) l.cuts
