use Rattle.std.proofs.Common.{◌≡◌, ◌++◌, List, IfOk, ap, subst, ◌∙◌}
use Rattle.std.specs.List.{filter}
use Rattle.gm_changes.specs.declared.change.Change.{Change}
use Rattle.gm_changes.specs.Concerns.{Site, may_concern}
use Rattle.gm_changes.specs.Sources.{listed_changes}
use Rattle.gm_changes.proofs.Noting.{by_block_and_sources}
use Rattle.gm_changes.proofs.concerning.for_chunk.Goals as goal

pub returns : goal.returns
returns c =
    let d = c.args.shape.now in
    let site : Site = record { block = c.args.block; is_last = c.args.last } in
    let sources = c.args.sources.now in
    let changes = c.args.changes.now in
    let near = c.as_slice.ensures.value ∙ c.in_ok-gather.ensures.ok ∙ ap (λ (list : List Change). list ++ filter (may_concern d site) changes) c.new-near.ensures.items in
    subst (λ (all : List Change). IfOk c.keep_listed.result (λ kept. kept ≡ all))
    (ap (listed_changes sources) near ∙ by_block_and_sources d site sources changes) c.keep_listed.ensures
