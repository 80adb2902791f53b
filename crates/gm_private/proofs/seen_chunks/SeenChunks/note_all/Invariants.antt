use Rattle.std.proofs.Common.{◌≡◌, ℕ, ◌<◌, ◌≤◌, length, drop}
use Rattle.std.specs.List.{fold}
use Rattle.gm_private.specs.SeenChunks.{seen_at, after_own}
use Rattle.gm_private.proofs.seen_chunks.SeenChunks.note_all.Given as goal

-- what is left of the changes leads to where all of them lead
abbrev pub invariant-loop-change : goal.invariant-loop-change
invariant-loop-change l = record {
  each : (c : ℕ) → c < length l.cat.places
      → fold (after_own l.cat l.versions.batches l.own c) (seen_at l.self c) (drop l.change-index l.changes)
      ≡ fold (after_own l.cat l.versions.batches l.own c) (seen_at l.initial.self c) l.changes;
  beyond : (c : ℕ) → length l.cat.places ≤ c → seen_at l.self c ≡ seen_at l.initial.self c;
}
