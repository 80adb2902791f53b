use Rattle.std.proofs.Common.{◌≡◌, ◌++◌, take, drop}
use Rattle.gm_changes.specs.Concerns.{sources_after}
use Rattle.gm_changes.specs.Sources.{listed_changes, TellsSources}
use Rattle.gm_changes.proofs.concerning.keep_listed.Given as goal

-- the sources so far are known, and what is kept so far and of what is left is all
abbrev pub invariant-loop-change : goal.invariant-loop-change
invariant-loop-change l =
    let now = sources_after (take l.change-index l.near) l.sources in
    record {
      told : TellsSources l.near now l.told;
      joined : l.kept ++ listed_changes now (drop l.change-index l.near) ≡ listed_changes l.sources l.near;
    }
