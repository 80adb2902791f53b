use Rattle.std.proofs.Common.{ℕ, ◌*◌, ◌≤◌, min}
use Rattle.gm_outside.specs.Frames.{OnlyReads}
use Rattle.gm_commands.specs.Readings.{DepotServed}
use Rattle.gm_tools.specs.declared.edge_reading.TheConstants.{TEXT_PIECE}
use Rattle.gm_tools.specs.EdgeReadings.{HasReadFront, AreLinesTaken}
use Rattle.gm_tools.proofs.edge_reading.read_text.Given as goal

abbrev pub invariant-loop-index : goal.invariant-loop-index
invariant-loop-index g l =
    HasReadFront l.n (g.D.Depot.state l.fn.depot).files l.name l.size (min (l.index * TEXT_PIECE) l.size) l.reader
    × OnlyReads 0 l.index (g.D.Depot.state l.fn.depot) (g.D.Depot.state l.depot)
    × DepotServed (g.D.Depot.state l.fn.depot) (g.D.Depot.state l.depot)
    × ((piece : ℕ) → piece ≤ l.index → AreLinesTaken l.n (g.D.Depot.state l.fn.depot).files l.name (piece * TEXT_PIECE))
