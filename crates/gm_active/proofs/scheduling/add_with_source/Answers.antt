use Rattle.std.proofs.Common.{◌≡◌, ℕ, Bool, true, not, List, length, sym, ap, ◌∙◌, arith}
use Rattle.std.proofs.Math.ListN.{set}
use Rattle.gm_label.specs.Labels.{sources_of}
use Rattle.gm_label.specs.Catalogues.{sources_at}
use Rattle.gm_active.specs.Needs.{has_source}
use Rattle.gm_active.specs.Adding.{between}
use Rattle.gm_active.proofs.Added.{length-with_all, between_none, between_yes, between_no, label_has_source}
use Rattle.gm_active.proofs.scheduling.add_with_source.Goals as goal
use Rattle.gm_active.proofs.scheduling.add_with_source.Goals.{then-not-is_empty, else-not-is_empty}

pub loop-c-init : goal.loop-c-init
loop-c-init c = record {
  within = omega arith;
  added = between_none c.args.into.now c.args.chunks.start (λ k. has_source (sources_at c.args.cat.now k));
}

pub add-requires : goal.add-requires
add-requires c =
    let long = length-with_all c.args.into.now (between c.args.chunks.start c.loop-c.c (λ k. has_source (sources_at c.args.cat.now k))) in
    let same = ap (λ (marks : List Bool). length marks) c.loop-c.invariant.added in
    omega (arith, c.requires.chunks, c.requires.end)

pub loop-c-preserved : goal.loop-c-preserved
loop-c-preserved c =
    let test : ℕ → Bool = λ k. has_source (sources_at c.args.cat.now k) in
    let here : test c.loop-c.c ≡ not c.is_empty.result =
    ap (λ (label : List (ℕ × ℕ)). has_source (sources_of label)) (sym c.label.ensures.value) ∙ label_has_source c.label.result.now c.is_empty.result c.is_empty.ensures in
    elim c.if-not-is_empty.branch [
      | then-not-is_empty w ↦ record {
        within = omega arith;
        added = w.into-is ∙ w.add.ensures ∙ ap (λ (marks : List Bool). set marks c.loop-c.c true) c.loop-c.invariant.added
            ∙ between_yes c.args.into.now c.args.chunks.start c.loop-c.c test c.loop-c.auto.c (omega (arith, c.requires.chunks, c.requires.end)) (here ∙ ap not w.if-not-is_empty.true);
      }
      | else-not-is_empty w ↦ record {
        within = omega arith;
        added = w.into-is ∙ c.loop-c.invariant.added ∙ between_no c.args.into.now c.args.chunks.start c.loop-c.c test c.loop-c.auto.c (here ∙ ap not w.if-not-is_empty.false);
      }
    ]
