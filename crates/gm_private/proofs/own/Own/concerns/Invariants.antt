use Rattle.std.proofs.Common.{◌≡◌, drop}
use Rattle.std.specs.List.{list_any}
use Rattle.gm_changes.specs.Concerns.{concerns}
use Rattle.gm_versions.specs.Contents.{site_at, sources_at_after, changes_up_to}
use Rattle.gm_private.proofs.own.Own.concerns.Given as goal

-- none of the changes so far does
abbrev pub invariant-loop-change : goal.invariant-loop-change
invariant-loop-change l =
    let test = concerns l.cat.dimensions (site_at l.cat l.chunk) (sources_at_after l.cat l.chunk (changes_up_to l.versions.batches l.self.version)) in
    list_any test (drop l.change-index l.change-items) ≡ list_any test l.self.changes
