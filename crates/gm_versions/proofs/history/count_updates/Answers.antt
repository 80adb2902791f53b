use Rattle.std.proofs.Common.{leb, rules}
use Rattle.std.proofs.lemmas.List.Sorted.{IsPartitionPoint-from_clause, IsPartitionedBy-leb}
use Rattle.gm_versions.proofs.HistorySteps.{taken-filter}
use Rattle.gm_versions.proofs.history.count_updates.Goals as goal

pub returns-clause-value : goal.returns-clause-value
returns-clause-value c =
    let parted = IsPartitionedBy-leb (λ u. u) c.args.updates.now c.args.version c.requires in
    let point = IsPartitionPoint-from_clause (λ u. leb u c.args.version) _ _ c.partition_point.ensures.partitioned parted (λ a r q k. search rules) in
    taken-filter (λ u. leb u c.args.version) c.args.updates.now c.partition_point.result point.0 point.1
