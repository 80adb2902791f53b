use Rattle.std.proofs.Common.{◌≡◌, ℕ, ◌≤◌, length, List, Bool, true, false, cond, sym, ap, ◌∙◌}
use Rattle.std.specs.List.{list_any}
use Rattle.gm_base.specs.declared.copies.Key.{Key}
use Rattle.gm_base.specs.declared.copies.Tag.TheVariants.{Update, Own}
use Rattle.gm_changes.specs.declared.change.Change.{Change}
use Rattle.gm_changes.specs.Concerns.{concerns}
use Rattle.gm_label.specs.Catalogues.{Catalogue}
use Rattle.gm_versions.specs.Contents.{site_at, sources_at_after, next_changes_at, changes_up_to, is_some_change, last_update}
use Rattle.gm_versions.specs.Snapshots.{version_of, key_of}
use Rattle.gm_versions.specs.ContentsRules.{all-taken, some-concerning_changes}
use Rattle.gm_private.specs.OwnChanges.{OwnChanges, snapshot_in}
use Rattle.gm_private.proofs.own.Own.key.Goals as goal

-- the key, by whether some own change concerns the chunk
keyed : (cat : Catalogue) (updates : List (List Change)) (own : OwnChanges) (c : ℕ) (found : Bool) → own.version ≤ length updates
    → found ≡ list_any (concerns cat.dimensions (site_at cat c) (sources_at_after cat c (changes_up_to updates own.version))) own.changes
    → (let key : Key = record { chunk = c; tag = cond found (Own own.job) (key_of cat (version_of updates own.version) c).tag } in key)
    ≡ key_of cat (snapshot_in updates own) c
keyed cat updates own c found few is =
    let s = snapshot_in updates own in
    let key = λ (b : Bool). let k : Key = record { chunk = c; tag = cond b (Own own.job) (Update (last_update cat s.updates c (length s.updates))) } in k in
    ap key (is ∙ sym (some-concerning_changes cat c (changes_up_to updates own.version) own.changes)
    ∙ ap (λ (before : List Change). is_some_change (next_changes_at cat c before own.changes)) (sym (all-taken updates own.version few)))

pub returns-then-concerns : goal.returns-then-concerns
returns-then-concerns c =
    ap (λ (o : OwnChanges). let k : Key = record { chunk = c.args.chunk; tag = Own o.job } in k) c.self.view_is
    ∙ keyed c.args.cat.now c.args.versions.now.batches c.args.self.now c.args.chunk true c.requires.over.version (sym c.if-concerns.true ∙ c.concerns.ensures)

pub returns-else-concerns : goal.returns-else-concerns
returns-else-concerns c =
    c.key.ensures.value
    ∙ ap (λ (o : OwnChanges). key_of c.args.cat.now (version_of c.args.versions.now.batches o.version) c.args.chunk) c.self.view_is
    ∙ keyed c.args.cat.now c.args.versions.now.batches c.args.self.now c.args.chunk false c.requires.over.version (sym c.if-concerns.false ∙ c.concerns.ensures)
