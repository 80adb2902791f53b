use Rattle.std.proofs.Common.{leb, rules}
use Rattle.std.proofs.lemmas.List.Sorted.{IsPartitionPoint-from_clause, IsPartitionedBy-leb}
use Rattle.gm_versions.specs.declared.history.AddedSource.{AddedSource}
use Rattle.gm_versions.proofs.HistorySteps.{taken-filter}
use Rattle.gm_versions.proofs.history.count_added.Goals as goal

pub returns-clause-value : goal.returns-clause-value
returns-clause-value c =
    let test = λ (a : AddedSource). leb a.update c.args.version in
    let parted = IsPartitionedBy-leb (λ (a : AddedSource). a.update) c.args.added.now c.args.version c.requires in
    let point = IsPartitionPoint-from_clause test _ _ c.partition_point.ensures.partitioned parted (λ a r q k. search rules) in
    taken-filter test c.args.added.now c.partition_point.result point.0 point.1
