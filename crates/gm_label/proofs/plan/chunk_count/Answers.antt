use Rattle.std.proofs.Common.{◌≡◌, ℕ, ◌+◌, ◌-◌, ◌/◌, ◌<◌, ◌≤◌, List, [], ◌∷◌, take, sum, get_or, ap, ◌∙◌, arith, div-le_self, length}
use Rattle.std.proofs.lemmas.List.{take_more}
use Rattle.std.proofs.lemmas.List.Sums.{sum_by-append, sum_by-cons}
use Rattle.gm_base.specs.ChunkCounts.{block_chunk_count, chunk_count}
use Rattle.gm_label.specs.Chunks.{before_last}
use Rattle.gm_label.specs.ChunksRules.{one_chunk_more}
use Rattle.gm_label.proofs.plan.chunk_count.Goals as goal

-- the chunks of one block more
count_more : (size at : ℕ) (counts : List ℕ) → 1 ≤ size → at < length counts
    → chunk_count size (take (at + 1) counts) ≡ chunk_count size (take at counts) + (before_last size (get_or counts at 0) + 1)
count_more size at counts some within =
    let count = get_or counts at 0 in
    let here = one_chunk_more size count some in
    let last = sum_by-cons (block_chunk_count size) count [] in
    ap (chunk_count size) (take_more counts at 0 within) ∙ sum_by-append (block_chunk_count size) (take at counts) (count ∷ []) ∙ omega arith

-- and its edges
sum_more : (at : ℕ) (counts : List ℕ) → at < length counts → sum (take (at + 1) counts) ≡ sum (take at counts) + get_or counts at 0
sum_more at counts within =
    let count = get_or counts at 0 in
    let last = sum_by-cons (λ (n : ℕ). n) count [] in
    ap sum (take_more counts at 0 within) ∙ sum_by-append (λ (n : ℕ). n) (take at counts) (count ∷ []) ∙ omega arith

pub loop-count-preserved : goal.loop-count-preserved
loop-count-preserved c =
    let size = c.args.chunk_size in
    let counts = c.args.counts.now in
    let at = c.loop-count.count-index in
    let so_far = c.loop-count.invariant in
    let more = count_more size at counts c.requires.size c.loop-count-test.true in
    let edges = sum_more at counts c.loop-count-test.true in
    let before : c.saturating_sub.result / c.from.result ≡ before_last size (get_or counts at 0) = (λ i. c.saturating_sub.ensures i / c.from.ensures i) in
    let small : before_last size (get_or counts at 0) ≤ get_or counts at 0 - 1 = div-le_self (get_or counts at 0 - 1) size in
    record { chunks = omega (arith, so_far.chunks); few = omega (arith, so_far.few) }
