use Rattle.std.proofs.Common.{◌≡◌, ℕ, Bool, false, List, sym, subst, ap, ◌∙◌}
use Rattle.std.specs.List.{list_any, All}
use Rattle.gm_label.specs.Catalogues.{Catalogue, place_at, sources_at, first_source_of, end_source_of, IsSourceIn, AreInRows}
use Rattle.gm_active.specs.Bits.{is_in, any_between}
use Rattle.gm_active.specs.Needs.{has_source, is_needed, is_column_active}
use Rattle.gm_active.specs.NeedsRules.{needed_with_column, needed_without_column, none_in_row}
use Rattle.gm_active.specs.Adding.{is_needed_for}
use Rattle.gm_active.proofs.Added.{between_same, between_nothing}
use Rattle.gm_active.proofs.scheduling.add_of_block.Goals as goal

-- a chunk of the block
by_block : (cat : Catalogue) (two_way : Bool) (active : List Bool) (block k : ℕ) → (place_at cat k).block ≡ block
    → is_needed_for cat two_way active k (sources_at cat k) ≡ is_needed cat.dimensions two_way (is_in active) block (sources_at cat k)
by_block cat two_way active block k here = ap (λ (b : ℕ). is_needed cat.dimensions two_way (is_in active) b (sources_at cat k)) here

quiet_block : (cat : Catalogue) (two_way : Bool) (active : List Bool) (block k : ℕ) → (place_at cat k).block ≡ block → AreInRows cat
    → is_column_active cat.dimensions two_way (is_in active) block ≡ false → any_between (is_in active) (first_source_of cat.dimensions block) (end_source_of cat.dimensions block) ≡ false
    → is_needed_for cat two_way active k (sources_at cat k) ≡ false
quiet_block cat two_way active block k here placed column row =
    by_block cat two_way active block k here ∙ needed_without_column cat.dimensions two_way (is_in active) block (sources_at cat k) column
    ∙ none_in_row cat.dimensions (is_in active) block (sources_at cat k) (subst (λ (b : ℕ). All (IsSourceIn cat.dimensions b) (sources_at cat k)) here (placed k)) row

pub returns-else-any : goal.returns-else-any
returns-else-any c =
    let cat = c.args.cat.now in
    between_nothing c.args.into.now c.args.chunks.start c.args.chunks.end (λ k. is_needed_for cat c.args.two_way c.args.active.now k (sources_at cat k)) (λ k low high.
    quiet_block cat c.args.two_way c.args.active.now c.args.block k (c.requires.chunks.here k low high) c.first_source.ensures.in_rows
    (sym c.is_column_active.ensures ∙ c.if-is_column_active.false)
    (ap (λ (end : ℕ). any_between (is_in c.args.active.now) (first_source_of cat.dimensions c.args.block) end) (sym c.end_source.ensures.value)
    ∙ ap (λ (first : ℕ). any_between (is_in c.args.active.now) first c.end_source.result) (sym c.first_source.ensures.value) ∙ sym c.any.ensures ∙ c.if-any.false))

pub returns-then-is_column_active : goal.returns-then-is_column_active
returns-then-is_column_active c =
    let cat = c.args.cat.now in
    c.add_with_source.ensures
    ∙ between_same c.args.into.now c.args.chunks.start c.args.chunks.end (λ k. has_source (sources_at cat k)) (λ k. is_needed_for cat c.args.two_way c.args.active.now k (sources_at cat k)) (λ k low high.
    sym (by_block cat c.args.two_way c.args.active.now c.args.block k (c.requires.chunks.here k low high)
    ∙ needed_with_column cat.dimensions c.args.two_way (is_in c.args.active.now) c.args.block (sources_at cat k) (sym c.is_column_active.ensures ∙ c.if-is_column_active.true)))

pub returns-then-any : goal.returns-then-any
returns-then-any c =
    let cat = c.args.cat.now in
    c.add_with_active_source.ensures
    ∙ between_same c.args.into.now c.args.chunks.start c.args.chunks.end (λ k. list_any (is_in c.args.active.now) (sources_at cat k)) (λ k. is_needed_for cat c.args.two_way c.args.active.now k (sources_at cat k)) (λ k low high.
    sym (by_block cat c.args.two_way c.args.active.now c.args.block k (c.requires.chunks.here k low high)
    ∙ needed_without_column cat.dimensions c.args.two_way (is_in c.args.active.now) c.args.block (sources_at cat k) (sym c.is_column_active.ensures ∙ c.if-is_column_active.false)))
