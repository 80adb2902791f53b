use Rattle.std.proofs.Common.{◌+◌, ◌++◌, take, drop, ap}
use Rattle.std.proofs.lemmas.List.{drop_more}
use Rattle.gm_changes.specs.Concerns.{sources_after}
use Rattle.gm_changes.specs.Sources.{listed_changes}
use Rattle.gm_changes.proofs.Noting.{told_next, joined_next}
use Rattle.gm_changes.proofs.concerning.keep_listed.Goals as goal

pub loop-change-init : goal.loop-change-init
loop-change-init c = record {
  told = c.add_all.ensures c.args.near.now c.in_ok-told.ensures;
  joined = ap (λ kept. kept ++ listed_changes c.args.sources.now c.args.near.now) c.new-kept.ensures;
}

pub loop-change-preserved : goal.loop-change-preserved
loop-change-preserved c =
    let near = c.args.near.now in
    let sources = c.args.sources.now in
    let at = c.loop-change.change-index in
    let within = c.loop-change-test.true in
    let now = sources_after (take at near) sources in
    let told = c.loop-change.invariant.told in
    let step = c.in_ok-keep_if_listed.ensures in
    record {
      told = told_next near sources at _ c.keep_if_listed.new.told within (step.told near now told);
      joined = joined_next near sources at _ c.loop-change.kept c.keep_if_listed.new.kept within
          (step.kept near (drop (at + 1) near) at now told (drop_more near at _ within)) c.loop-change.invariant.joined;
    }
