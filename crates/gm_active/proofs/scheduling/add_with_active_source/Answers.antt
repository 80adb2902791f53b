use Rattle.std.proofs.Common.{◌≡◌, ℕ, Bool, true, List, length, sym, ap, ◌∙◌, arith}
use Rattle.std.specs.List.{list_any}
use Rattle.std.proofs.Math.ListN.{set}
use Rattle.gm_label.specs.Labels.{sources_of}
use Rattle.gm_label.specs.Catalogues.{place_at, sources_at}
use Rattle.gm_active.specs.Bits.{is_in}
use Rattle.gm_active.specs.Adding.{between}
use Rattle.gm_active.proofs.Added.{length-with_all, between_none, between_yes, between_no, any_in_label, label_below}
use Rattle.gm_active.proofs.scheduling.add_with_active_source.Goals as goal
use Rattle.gm_active.proofs.scheduling.add_with_active_source.Goals.{then-has_active_source, else-has_active_source}

pub loop-c-init : goal.loop-c-init
loop-c-init c = record {
  within = omega arith;
  added = between_none c.args.into.now c.args.chunks.start (λ k. list_any (is_in c.args.active.now) (sources_at c.args.cat.now k));
}

pub has_active_source-requires : goal.has_active_source-requires
has_active_source-requires c =
    label_below c.args.cat.now.dimensions (place_at c.args.cat.now c.loop-c.c).block (length c.args.active.now) c.label.result.now c.requires.marks.vertices c.label.ensures.in_rows

pub add-requires : goal.add-requires
add-requires c =
    let long = length-with_all c.args.into.now (between c.args.chunks.start c.loop-c.c (λ k. list_any (is_in c.args.active.now) (sources_at c.args.cat.now k))) in
    let same = ap (λ (marks : List Bool). length marks) c.loop-c.invariant.added in
    omega (arith, c.requires.marks.chunks, c.requires.end)

pub loop-c-preserved : goal.loop-c-preserved
loop-c-preserved c =
    let test : ℕ → Bool = λ k. list_any (is_in c.args.active.now) (sources_at c.args.cat.now k) in
    let here : test c.loop-c.c ≡ c.has_active_source.result =
    ap (λ (label : List (ℕ × ℕ)). list_any (is_in c.args.active.now) (sources_of label)) (sym c.label.ensures.value)
    ∙ sym (any_in_label (is_in c.args.active.now) c.label.result.now) ∙ sym c.has_active_source.ensures in
    elim c.if-has_active_source.branch [
      | then-has_active_source w ↦ record {
        within = omega arith;
        added = w.into-is ∙ w.add.ensures ∙ ap (λ (marks : List Bool). set marks c.loop-c.c true) c.loop-c.invariant.added
            ∙ between_yes c.args.into.now c.args.chunks.start c.loop-c.c test c.loop-c.auto.c (omega (arith, c.requires.marks.chunks, c.requires.end)) (here ∙ w.if-has_active_source.true);
      }
      | else-has_active_source w ↦ record {
        within = omega arith;
        added = w.into-is ∙ c.loop-c.invariant.added ∙ between_no c.args.into.now c.args.chunks.start c.loop-c.c test c.loop-c.auto.c (here ∙ w.if-has_active_source.false);
      }
    ]
