use Rattle.std.proofs.Common.{◌≡◌, ℕ, length}
use Rattle.gm_versions.specs.Histories.{history_up_to}
use Rattle.gm_versions.specs.Kept.{history_in, IsLogged}
use Rattle.gm_versions.proofs.histories.Histories.roll_back.Given as goal

abbrev pub invariant-loop-chunk : goal.invariant-loop-chunk
invariant-loop-chunk l = record {
  before : (q : ℕ) → history_up_to l.version (history_in l.self q) ≡ history_up_to l.version (history_in l.initial.self q);
  logged : IsLogged l.version l.initial.self → IsLogged l.version l.self;
}

abbrev pub decreases-loop-chunk : goal.decreases-loop-chunk
decreases-loop-chunk l = length l.self.undo_log.items
