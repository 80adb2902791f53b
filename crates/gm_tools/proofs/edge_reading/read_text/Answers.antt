use Rattle.std.proofs.Common.{◌≡◌, ℕ, ◌+◌, ◌*◌, ◌≤◌, ◌<◌, ◌/◌, ◌%◌, min, length, take, arith, subst, Option, ◌∙◌}
use Rattle.std.proofs.lemmas.List.{length-take}
use Rattle.std.proofs.lemmas.Result.{err_from_is_err_and}
use Rattle.gm_outside.specs.Files.{Files}
use Rattle.gm_outside.specs.FramesRules.{only_reads-then}
use Rattle.gm_commands.specs.Readings.{rest_of_reading}
use Rattle.gm_commands.specs.ReadingsRules.{reading_failure-later}
use Rattle.gm_tools.specs.declared.edge_reading.TheConstants.{TEXT_PIECE}
use Rattle.gm_tools.specs.EdgeReadings.{edges_reading, HasReadFront, AreLinesTaken}
use Rattle.gm_tools.proofs.Fronts.{front_at_piece, lines_to, piece_start, piece_end, lines_more, unrefused_up_to}
use Rattle.gm_tools.proofs.edge_reading.read_text.Goals as goal

pub loop-index-preserved : goal.loop-index-preserved
loop-index-preserved g c =
    let i = c.loop-index.invariant in
    let index = c.loop-index.index in
    let files = (g.D.Depot.state c.args.depot.now).files in
    let n = c.args.n in
    let name = c.args.name.now in
    let size = c.args.size in
    let below : index < size / TEXT_PIECE + min 1 (size % TEXT_PIECE) = omega (arith, c.loop-index-test.true, c.div_ceil-index-end.ensures, c.loop-index.auto.index-end) in
    let at = front_at_piece n size index files _ name _ i.1.files below i.0 in
    let end : index * TEXT_PIECE + length (take c.min-count.result c.loop-index.buffer) ≡ min ((index + 1) * TEXT_PIECE) size =
    rw length-take (omega (arith, piece_end index size c.min-count.result below c.min-count.ensures, c.loop-index.auto.buffer, c.requires.room, c.min-count.ensures)) in
    let lines = subst (λ (f : Option Files). AreLinesTaken n f name (min ((index + 1) * TEXT_PIECE) size)) i.1.files
    (subst (λ (pos : ℕ). AreLinesTaken n (g.D.Depot.state c.loop-index.depot).files name pos) end (c.in_ok-read_piece.ensures.lines n size at)) in (
      subst (λ (f : Option Files). HasReadFront n f name size (min ((index + 1) * TEXT_PIECE) size) c.read_piece.new.reader) i.1.files
          (subst (λ (pos : ℕ). HasReadFront n (g.D.Depot.state c.loop-index.depot).files name size pos c.read_piece.new.reader) end (c.in_ok-read_piece.ensures.front n size at)),
      only_reads-then 0 index 0 1 _ _ _ i.1 c.read_piece.ensures.frame,
      c.in_ok-read_piece.ensures.served ∙ i.2,
      lines_more n index files name i.3 (lines_to n size ((index + 1) * TEXT_PIECE) files name c.requires.size lines),
    )

pub returns-in_err-read_piece-clause-err : goal.returns-in_err-read_piece-clause-err
returns-in_err-read_piece-clause-err g c =
    let index = c.loop-index.index in
    let size = c.args.size in
    let i = c.loop-index.invariant in
    let p = err_from_is_err_and c.from_residual.result c.from_residual.ensures.1 in
    let below : index < size / TEXT_PIECE + min 1 (size % TEXT_PIECE) = omega (arith, c.loop-index-test.true, c.div_ceil-index-end.ensures, c.loop-index.auto.index-end) in
    let at = front_at_piece c.args.n size index _ _ c.args.name.now _ i.1.files below i.0 in
    let within : index * TEXT_PIECE + length (take c.min-count.result c.loop-index.buffer) ≤ size =
    rw length-take (omega (arith, c.min-count.ensures, piece_start index size below)) in
    rw p.1 (rw p.2 (reading_failure-later (g.D.Depot.state c.args.depot.now) (g.D.Depot.state c.loop-index.depot)
    (g.D.Depot.state c.read_piece.new.depot) (rest_of_reading (edges_reading c.args.n c.args.name.now)) _ i.1.files i.1.calm i.2
    (λ operand reads. unrefused_up_to c.args.n index _ _ _ c.args.name.now i.3 (omega (arith, i.1.reads, c.read_piece.ensures.frame.reads)))
    (λ operand. i.1.sizes)
    (c.in_err-read_piece.ensures.err c.args.n size at within)))

pub returns-in_err-read_piece-clause-unrefused : goal.returns-in_err-read_piece-clause-unrefused
returns-in_err-read_piece-clause-unrefused g c =
    let i = c.loop-index.invariant in
    unrefused_up_to c.args.n c.loop-index.index _ _ _ c.args.name.now i.3 (omega (arith, i.1.reads, c.read_piece.ensures.frame.reads))

pub returns-clause-unrefused : goal.returns-clause-unrefused
returns-clause-unrefused g c =
    let i = c.loop-index.invariant in
    unrefused_up_to c.args.n c.loop-index.index _ _ _ c.args.name.now i.3 (omega (arith, i.1.reads))
