use Rattle.std.proofs.Common.{ℕ, ap, sym, subst, ◌∙◌, arith}
use Rattle.std.proofs.lemmas.List.{length-take-le}
use Rattle.gm_base.specs.declared.copies.Key.{Key}
use Rattle.gm_base.specs.declared.copies.Tag.TheVariants.{Update}
use Rattle.gm_versions.specs.Keys.{IsVersionKey}
use Rattle.gm_versions.specs.Snapshots.{version_of}
use Rattle.gm_versions.specs.ContentsRules.{last-all_taken}
use Rattle.gm_versions.specs.SnapshotsRules.{key-of_version}
use Rattle.gm_versions.specs.Histories.{last_of}
use Rattle.gm_versions.proofs.Answering.{last-answered}
use Rattle.gm_versions.proofs.versions.Versions.key.Goals as goal

pub returns-clause-value : goal.returns-clause-value
returns-clause-value c =
    ap (λ (t : ℕ). let key : Key = record { chunk = c.args.chunk; tag = Update t } in key)
    (c.last_of.ensures ∙ ap last_of c.updates_up_to.ensures ∙ last-answered c.args.cat.now c.args.self.now c.args.version c.args.chunk c.requires.catalogue c.requires.version c.requires.chunk
    ∙ sym (last-all_taken c.args.cat.now c.args.self.now.batches c.args.chunk c.args.version c.requires.version))

pub returns-clause-names : goal.returns-clause-names
returns-clause-names c =
    let s = version_of c.args.self.now.batches c.args.version in
    let long = length-take-le c.args.version c.args.self.now.batches c.requires.version in
    let small = c.requires.version in
    subst (IsVersionKey _ c.args.chunk) (sym (returns-clause-value c)) (key-of_version c.args.cat.now s.updates 0 _ c.args.chunk (omega (arith, long, small)))
