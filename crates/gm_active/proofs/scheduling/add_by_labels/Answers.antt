use Rattle.std.proofs.Common.{◌≡◌, ℕ, ◌<◌, ◌≤◌, Bool, List, length, ap, ◌∙◌, inl, inr, arith}
use Rattle.std.proofs.lemmas.Bool.{cases_lt}
use Rattle.gm_label.specs.declared.chunk.Chunk.{Chunk}
use Rattle.gm_label.specs.Catalogues.{Catalogue, place_at, sources_at, AreChunksOf}
use Rattle.gm_active.specs.Adding.{with_all, between, is_needed_for}
use Rattle.gm_active.proofs.Added.{length-with_all, with_all_twice, between_none, between_joined, between_whole}
use Rattle.gm_active.proofs.scheduling.add_by_labels.Goals as goal

-- a chunk's number is among those of its block's chunks
in_its_block : (cat : Catalogue) (block first end at : ℕ) → AreChunksOf cat block first end → at < length cat.places → block ≡ (place_at cat at).block
    → (first ≤ at) × (at < end)
in_its_block cat block first end at are within here = (
  elim (cases_lt at first) as (λ _. first ≤ at) [
    | inl less ↦ let before = are.before at less in absurd (omega arith)
    | inr not_less ↦ not_less
  ],
  elim (cases_lt at end) as (λ _. at < end) [
    | inl less ↦ less
    | inr not_less ↦ let behind = are.behind at not_less within in absurd (omega arith)
  ],
)

pub loop-at-init : goal.loop-at-init
loop-at-init c = record {
  within = omega arith;
  added = between_none c.args.into.now 0 (λ k. is_needed_for c.args.cat.now c.args.two_way c.args.active.now k (sources_at c.args.cat.now k));
}

pub add_of_block-requires-clause-marks : goal.add_of_block-requires-clause-marks
add_of_block-requires-clause-marks c = record {
  vertices = c.requires.marks.vertices;
  chunks = ap (λ (marks : List Bool). length marks) c.loop-at.invariant.added
      ∙ length-with_all c.args.into.now (between 0 c.loop-at.at (λ k. is_needed_for c.args.cat.now c.args.two_way c.args.active.now k (sources_at c.args.cat.now k)))
      ∙ c.requires.marks.chunks;
}

pub loop-at-preserved : goal.loop-at-preserved
loop-at-preserved c =
    let cat = c.args.cat.now in
    let test : ℕ → Bool = λ k. is_needed_for cat c.args.two_way c.args.active.now k (sources_at cat k) in
    let first = c.chunks_of-of_block.result.start in
    let end = c.chunks_of-of_block.result.end in
    let within : c.loop-at.at < length cat.places = omega (arith, c.chunks-chunks.ensures.value) in
    let here : c.chunk-block.result.block ≡ (place_at cat c.loop-at.at).block = ap (λ (chunk : Chunk). chunk.block) c.chunk-block.ensures.value in
    let inside = in_its_block cat c.chunk-block.result.block first end c.loop-at.at c.chunks_of-of_block.ensures.chunks within here in
    record {
      within = omega (arith, c.chunks_of-of_block.ensures.within, c.chunks-chunks.ensures.value);
      added = c.add_of_block.ensures ∙ ap (λ (marks : List Bool). with_all marks (between first end test)) c.loop-at.invariant.added
          ∙ with_all_twice c.args.into.now (between 0 c.loop-at.at test) (between first end test) (between 0 end test)
          (λ k below. between_joined first c.loop-at.at end test k inside.0 (omega (arith, inside.1)));
    }

pub returns : goal.returns
returns c =
    let cat = c.args.cat.now in
    let test : ℕ → Bool = λ k. is_needed_for cat c.args.two_way c.args.active.now k (sources_at cat k) in
    let all : c.loop-at.at ≡ length c.args.into.now = let most = c.loop-at.invariant.within in omega (arith, c.chunks-chunks.ensures.value, c.requires.marks.chunks) in
    c.loop-at.invariant.added ∙ ap (λ (end : ℕ). with_all c.args.into.now (between 0 end test)) all ∙ between_whole c.args.into.now test
