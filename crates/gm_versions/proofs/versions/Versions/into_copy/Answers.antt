use Rattle.std.proofs.Common.{ℕ, List, ◌++◌, ap, ◌∙◌, refl}
use Rattle.std.specs.List.{filter}
use Rattle.gm_changes.specs.declared.change.Change.{Change}
use Rattle.gm_changes.specs.Changes.{edges_after}
use Rattle.gm_changes.specs.Concerns.{may_concern}
use Rattle.gm_versions.specs.Contents.{changes_near, site_at}
use Rattle.gm_versions.proofs.Answering.{copied-placed, copied-content}
use Rattle.gm_versions.proofs.versions.Versions.into_copy.Goals as goal

pub returns : goal.returns
returns c =
    let cat = c.args.cat.now in
    let updates = c.args.self.now.batches in
    let chunk = c.args.raw.chunk in
    let keeps = may_concern cat.dimensions (site_at cat chunk) in
    let gathered = c.in_ok-gather.ensures.ok ∙ ap (λ (cs : List Change). cs ++ filter keeps (changes_near cat updates chunk c.update_of.result)) c.new-near.ensures.items ∙ ap (λ (v : ℕ). filter keeps (changes_near cat updates chunk v)) c.update_of.ensures in
    let made = c.in_ok-apply.ensures.ok ∙ ap (λ (cs : List Change). edges_after cs c.args.raw.edges) (c.as_slice.ensures.value ∙ gathered) in
    record {
      of_key = refl;
      changed = λ placed. made ∙ copied-placed cat updates _ chunk c.args.raw.edges placed;
      content = λ grid snapshot_of over base. made ∙ copied-content cat updates c.args.key chunk c.args.raw.edges grid snapshot_of c.requires.key over base;
    }
