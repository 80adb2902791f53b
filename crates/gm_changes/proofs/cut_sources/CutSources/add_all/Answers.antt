use Rattle.std.proofs.Common.{ℕ, ◌<◌, List, [], ◌∷◌, ◌++◌, length, take, slice_index_or, sym, ap, subst, ◌∙◌}
use Rattle.std.proofs.lemmas.List.{take_more, take_all}
use Rattle.gm_changes.specs.Sources.{TellsSources}
use Rattle.gm_changes.proofs.Noting.{one_source_more}
use Rattle.gm_changes.proofs.cut_sources.CutSources.add_all.Goals as goal

pub loop-source-preserved : goal.loop-source-preserved
loop-source-preserved c changes tells =
    let sources = c.args.sources.now in
    let items = c.as_slice-source-items.result.now in
    let at = c.loop-source.source-index in
    let same = c.as_slice-source-items.ensures in
    let source = slice_index_or items at 0 in
    let within : at < length sources = subst (λ (xs : List ℕ). at < length xs) same c.loop-source-test.true in
    let next = ap (λ (xs : List ℕ). take at sources ++ slice_index_or xs at 0 ∷ []) same ∙ sym (take_more sources at 0 within) in
    subst (λ (xs : List ℕ). TellsSources changes xs c.add.new.self) next
    (one_source_more changes (take at sources) source c.add.new.self (c.add.ensures changes (take at sources) (c.loop-source.invariant changes tells)))

pub returns-after-loop-source : goal.returns-after-loop-source
returns-after-loop-source c changes tells =
    let at = c.loop-source.source-index in
    let all = ap (λ (xs : List ℕ). take at xs) (sym c.as_slice-source-items.ensures) ∙ take_all at _ c.loop-source-test.false ∙ c.as_slice-source-items.ensures in
    subst (λ (xs : List ℕ). TellsSources changes xs c.loop-source.self) all (c.loop-source.invariant changes tells)
