use Rattle.gm_output.specs.PiecesRules.{feeds-finished}
use Rattle.gm_output.proofs.pieces.write_texts.Goals as goal

pub returns : goal.returns
returns g c = feeds-finished _ _ _ _ _ _ _ _ c.new-pieces.ensures c.in_ok-push_texts.ensures c.finish.ensures
