use Rattle.gm_priority.proofs.Found.{picked_where_some, picked_has_rows}
use Rattle.gm_priority.proofs.laws.a_block_is_picked_where_rows_have_one.Goals as goal

pub returns-clause-picked : goal.returns-clause-picked
returns-clause-picked c = λ blocks block rows within some. picked_where_some blocks block rows within some

pub returns-clause-needed : goal.returns-clause-needed
returns-clause-needed c = λ blocks block rows h. picked_has_rows blocks block rows h
