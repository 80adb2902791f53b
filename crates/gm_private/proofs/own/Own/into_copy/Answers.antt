use Rattle.std.proofs.lemmas.Result.{IfOk-weaker}
use Rattle.gm_private.proofs.Copying.{version_key, version_copy, own_copy}
use Rattle.gm_private.proofs.own.Own.into_copy.Goals as goal

pub into_copy-requires-clause-key : goal.into_copy-requires-clause-key
into_copy-requires-clause-key c =
    version_key c.args.cat.now c.args.versions.now.batches c.args.self.now c.args.raw.chunk c.in-Update.field-0 c.args.key c.requires.key c.in-Update.is c.requires.over.version

pub returns-in-Update : goal.returns-in-Update
returns-in-Update c =
    IfOk-weaker _ _ _
    (λ copy made. version_copy c.args.cat.now c.args.versions.now c.args.self.now c.args.raw.chunk c.in-Update.field-0 c.args.raw.edges c.args.key copy c.requires.over.version c.requires.key c.in-Update.is made)
    c.into_copy.ensures

pub returns-in_ok-change-in-Own : goal.returns-in_ok-change-in-Own
returns-in_ok-change-in-Own c =
    own_copy c.args.cat.now c.args.versions.now.batches c.args.self.now c.args.raw.chunk c.args.raw.edges c.change.new.edges c.args.key c.requires.over.version
    c.in_ok-change-in-Own.ensures
