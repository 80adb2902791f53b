use Rattle.std.proofs.Common.{List, [], take}
use Rattle.gm_changes.specs.declared.change.Change.{Change}
use Rattle.gm_changes.specs.Sources.{TellsSources}
use Rattle.gm_changes.proofs.cut_sources.CutSources.add_all.Given as goal

abbrev pub invariant-loop-source : goal.invariant-loop-source
invariant-loop-source l = (changes : List Change) → TellsSources changes [] l.initial.self → TellsSources changes (take l.source-index l.sources) l.self
