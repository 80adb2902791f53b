use Rattle.std.proofs.Common.{[], take}
use Rattle.gm_changes.specs.Sources.{TellsSources}
use Rattle.gm_changes.proofs.cut_sources.CutSources.of.Given as goal

abbrev pub invariant-loop-change : goal.invariant-loop-change
invariant-loop-change l = TellsSources (take l.change-index l.changes) [] l.told
