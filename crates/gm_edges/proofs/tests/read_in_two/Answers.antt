use Rattle.std.proofs.Common.{[], ◌++◌, append-nil}
use Rattle.std.proofs.lemmas.Result.{err_from_is_err_and}
use Rattle.gm_edges.proofs.tests.read_in_two.Goals as goal

pub returns-in_err-feed : goal.returns-in_err-feed
returns-in_err-feed c =
    let answer = err_from_is_err_and c.from_residual.result c.from_residual.ensures.1 in
    rw (answer.1, answer.2) (c.in_err-feed.ensures.decides 4 [] c.args.back.now c.new-reader.ensures.nothing)

pub returns-in_err-feed-2 : goal.returns-in_err-feed-2
returns-in_err-feed-2 c =
    let answer = err_from_is_err_and c.from_residual-in_err-feed-2.result c.from_residual-in_err-feed-2.ensures.1 in
    rw (answer.1, answer.2)
    (rw append-nil at (c.in_err-feed-2.ensures.decides 4 c.args.front.now [] (c.feed.ensures.reads 4 [] c.new-reader.ensures.nothing)))

pub returns : goal.returns
returns c =
    c.finish.ensures.answer 4 (c.args.front.now ++ c.args.back.now)
    (c.feed-2.ensures.reads 4 c.args.front.now (c.feed.ensures.reads 4 [] c.new-reader.ensures.nothing))
