use Rattle.std.proofs.Common.{◌≡◌, List, append-nil, sym, ◌∙◌, subst}
use Rattle.std.proofs.lemmas.Result.{IfOk-weaker}
use Rattle.std.proofs.lemmas.List.Elements.{All-same}
use Rattle.gm_label.specs.declared.chunk.Overlay.{Overlay}
use Rattle.gm_label.specs.Overlays.{AreOverlays}
use Rattle.gm_changes.specs.Changes.{ChangesWithin}
use Rattle.gm_versions.specs.Contents.{changes_up_to, all_changes}
use Rattle.gm_versions.specs.Snapshots.{version_of, changes_of, overlays_of}
use Rattle.gm_versions.specs.ContentsRules.{all-taken}
use Rattle.gm_versions.specs.SnapshotsRules.{overlays-are}
use Rattle.gm_versions.specs.Histories.{overlays_in}
use Rattle.gm_versions.proofs.Answering.{overlays-answered}
use Rattle.gm_versions.proofs.versions.Versions.overlays.Goals as goal

pub returns-clause-value : goal.returns-clause-value
returns-clause-value c =
    let same = overlays-answered c.args.cat.now c.args.self.now c.args.version c.requires.catalogue c.requires.version c.overlays.ensures.ordered in
    IfOk-weaker _ (λ (overlays : List Overlay). overlays ≡ overlays_in c.args.version c.args.self.now.histories.by_chunk.entries)
    (λ (overlays : List Overlay). overlays ≡ overlays_of c.args.cat.now (version_of c.args.self.now.batches c.args.version))
    (λ overlays is. is ∙ same) c.overlays.ensures.value

pub returns-clause-fit : goal.returns-clause-fit
returns-clause-fit c =
    let cat = c.args.cat.now in
    let s = version_of c.args.self.now.batches c.args.version in
    let within = All-same (ChangesWithin cat.dimensions.n) (changes_of s) (changes_up_to c.args.self.now.batches c.args.version)
    (append-nil (all_changes s.updates) ∙ all-taken c.args.self.now.batches c.args.version c.requires.version) (c.requires.catalogue.ends c.args.version c.requires.version) in
    IfOk-weaker _ (λ (overlays : List Overlay). overlays ≡ overlays_of cat s) (AreOverlays cat)
    (λ overlays is. subst (AreOverlays cat) (sym is) (overlays-are cat s within)) (returns-clause-value c)
