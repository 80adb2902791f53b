use Rattle.std.proofs.Common.{◌≡◌, ℕ, ◌<◌, ◌≤◌, ltb, cond, length}
use Rattle.gm_private.specs.SeenChunks.{seen_at, after_own}
use Rattle.gm_private.proofs.seen_chunks.SeenChunks.note.Given as goal

-- the change was noted for the chunks before this one, and the others are as they were
abbrev pub invariant-loop-chunk : goal.invariant-loop-chunk
invariant-loop-chunk l = record {
  each : (c : ℕ) → c < length l.cat.places
      → seen_at l.self c ≡ cond (ltb c l.chunk) (after_own l.cat l.versions.batches l.own c (seen_at l.initial.self c) l.change) (seen_at l.initial.self c);
  beyond : (c : ℕ) → length l.cat.places ≤ c → seen_at l.self c ≡ seen_at l.initial.self c;
}
