use Rattle.std.proofs.Common.{[], ◌∷◌, ◌++◌, sym, subst}
use Rattle.gm_changes.specs.declared.change.Change.{Change}
use Rattle.gm_changes.specs.Sources.{TellsSources}
use Rattle.gm_changes.proofs.Noting.{asked_add, asked_cut}
use Rattle.gm_changes.proofs.cut_sources.CutSources.note.Goals as goal

pub returns-in_ok-insert : goal.returns-in_ok-insert
returns-in_ok-insert c changes tells =
    let new = c.insert.new.self in
    subst (λ (change : Change). TellsSources (changes ++ change ∷ []) [] (record { listed = new })) (sym c.in-Cut.is)
    (asked_cut changes c.in-Cut.from c.in-Cut.to c.args.self.now.listed new tells c.in_ok-insert.ensures.updates.0)

pub returns-in_default : goal.returns-in_default
returns-in_default c changes tells =
    subst (λ (change : Change). TellsSources (changes ++ change ∷ []) [] c.args.self.now) (sym c.in_default.is) (asked_add changes c.in_default.field-0 c.args.self.now tells)
