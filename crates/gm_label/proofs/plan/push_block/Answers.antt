use Rattle.std.proofs.Common.{◌≡◌, ℕ, ◌+◌, ◌-◌, ◌*◌, ◌/◌, ◌++◌, ◌∷◌, [], false, List, ap, ◌∙◌, arith}
use Rattle.gm_label.specs.declared.chunk.Place.{Place}
use Rattle.gm_label.specs.Chunks.{cut_rest}
use Rattle.gm_label.specs.ChunksRules.{one_more}
use Rattle.gm_label.proofs.plan.push_block.Goals as goal

pub loop-full-preserved : goal.loop-full-preserved
loop-full-preserved c =
    let size = c.args.chunk_size in
    let all : ℕ = c.saturating_sub.result / size in
    let rest : ℕ = c.args.count - size * all in
    let left : ℕ = all - c.loop-full.full in
    let ps = c.loop-full.places.items in
    let one : List Place = record { block = c.args.block; first = c.loop-full.at; count = size; is_last = false } ∷ [] in
    let same : all - (c.loop-full.full + 1) ≡ left - 1 = omega arith in
    let grow : size * (c.loop-full.full + 1) ≡ size * c.loop-full.full + size = omega arith in
    record {
      joined =
          ap (λ (xs : List Place). xs ++ cut_rest size c.args.block (c.loop-full.at + size) rest (all - (c.loop-full.full + 1))) c.in_ok-push.ensures.items
          ∙ ap (λ (n : ℕ). (ps ++ one) ++ cut_rest size c.args.block (c.loop-full.at + size) rest n) same
          ∙ one_more size c.args.block c.loop-full.at rest left ps (omega arith)
          ∙ c.loop-full.invariant.joined;
      at = omega (arith, c.loop-full.invariant.at);
    }
