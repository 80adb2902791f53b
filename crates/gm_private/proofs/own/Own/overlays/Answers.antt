use Rattle.std.proofs.Common.{◌≡◌, ℕ, All, List, ◌++◌, sym, ap, ◌∙◌, subst}
use Rattle.std.proofs.lemmas.Result.{IfOk-weaker}
use Rattle.std.proofs.lemmas.List.Elements.{All-append}
use Rattle.gm_changes.specs.Changes.{ChangesWithin}
use Rattle.gm_label.specs.declared.chunk.Overlay.{Overlay}
use Rattle.gm_label.specs.Overlays.{AreOverlays}
use Rattle.gm_versions.specs.Contents.{changes_up_to}
use Rattle.gm_versions.specs.Snapshots.{version_of, overlays_of}
use Rattle.gm_versions.specs.ContentsRules.{all-taken}
use Rattle.gm_versions.specs.SnapshotsRules.{overlays-are}
use Rattle.gm_changes.specs.declared.change.Change.{Change}
use Rattle.gm_private.specs.OwnChanges.{OwnChanges, snapshot_in}
use Rattle.gm_private.specs.SeenChunks.{AreNoted, seen_among}
use Rattle.gm_private.proofs.Overlaying.{overlays_made}
use Rattle.gm_private.proofs.own.Own.overlays.Goals as goal

pub returns-clause-value : goal.returns-clause-value
returns-clause-value c =
    let cat = c.args.cat.now in
    let updates = c.args.versions.now.batches in
    let own = c.args.self.now in
    let inside = ap (λ (o : OwnChanges). o.version) c.self.view_is in
    let begun = λ (q : ℕ). c.in_ok-seen.ensures q ∙ ap (λ (os : List Overlay). seen_among os q) (c.in_ok-shared.ensures.value ∙ ap (λ (v : ℕ). overlays_of cat (version_of updates v)) inside) in
    let changes = c.as_slice.ensures ∙ ap (λ (o : OwnChanges). o.changes) c.self.view_is in
    let noted = subst (λ (cs : List Change). AreNoted cat updates own cs c.in_ok-seen.seen c.note_all.new.self) changes c.in_ok-note_all.ensures in
    IfOk-weaker _ _ (λ (overlays : List Overlay). overlays ≡ overlays_of cat (snapshot_in updates own))
    (λ overlays is. is ∙ overlays_made cat updates own c.in_ok-seen.seen c.note_all.new.self c.into_overlays.ensures.ordered c.requires.over.version begun noted) c.into_overlays.ensures.value

pub returns-clause-fit : goal.returns-clause-fit
returns-clause-fit c =
    let cat = c.args.cat.now in
    let own = c.args.self.now in
    let s = snapshot_in c.args.versions.now.batches own in
    let Within = All (ChangesWithin cat.dimensions.n) in
    let within = subst (λ (before : List Change). Within (before ++ own.changes)) (sym (all-taken c.args.versions.now.batches own.version c.requires.over.version))
    (All-append (ChangesWithin cat.dimensions.n) (changes_up_to c.args.versions.now.batches own.version) own.changes (c.requires.over.versions.ends own.version c.requires.over.version) c.requires.over.ends) in
    IfOk-weaker _ (λ (overlays : List Overlay). overlays ≡ overlays_of cat s) (AreOverlays cat)
    (λ overlays is. subst (AreOverlays cat) (sym is) (overlays-are cat s within)) (returns-clause-value c)
