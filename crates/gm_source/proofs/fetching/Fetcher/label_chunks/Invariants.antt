use Rattle.gm_source.proofs.LabelledChunks.{Labels}
use Rattle.gm_source.proofs.fetching.Fetcher.label_chunks.Given as goal

abbrev pub invariant-loop-chunk : goal.invariant-loop-chunk
invariant-loop-chunk g l = Labels (g.D.Depot.state l.initial.depot) (g.D.Depot.state l.depot) l.name l.initial.cat l.cat l.chunk
