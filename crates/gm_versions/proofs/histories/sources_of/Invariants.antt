use Rattle.std.proofs.Common.{◌≡◌, map, take}
use Rattle.gm_versions.specs.declared.history.AddedSource.{AddedSource}
use Rattle.gm_versions.proofs.histories.sources_of.Given as goal

abbrev pub invariant-loop-a : goal.invariant-loop-a
invariant-loop-a l = l.sources ≡ map (λ (a : AddedSource). a.source) (take l.a-index l.added)
