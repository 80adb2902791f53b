use Rattle.gm_label.proofs.Setting.{few_pairs, room_left, still_labelled}
use Rattle.gm_label.proofs.catalogue.Catalogue.set_label.Goals as goal

pub set-requires-clause-few : goal.set-requires-clause-few
set-requires-clause-few g c =
    few_pairs c.args.self.now c.self.inside.shape c.self.inside.places.items c.self.inside.labels c.args.chunk c.index.result.now (g.L.ChunkLabel.pairs c.args.label.now)
    (record { seen = c.self.view_is; kept = c.self.invariant.1; within = c.requires.within; read = c.index.ensures }) c.requires.fits

pub set-requires-clause-left : goal.set-requires-clause-left
set-requires-clause-left g c =
    room_left c.args.self.now c.self.inside.shape c.self.inside.places.items c.self.inside.labels c.args.chunk c.index.result.now
    (record { seen = c.self.view_is; kept = c.self.invariant.1; within = c.requires.within; read = c.index.ensures }) c.requires.fresh

pub invariant_of-self : goal.invariant_of-self
invariant_of-self g c = (
  c.self.invariant.0,
  still_labelled c.set.result c.args.self.now c.self.inside.shape c.self.inside.places.items c.self.inside.labels c.set.new.self c.args.chunk c.index.result.now (g.L.ChunkLabel.pairs c.args.label.now)
      (record { seen = c.self.view_is; kept = c.self.invariant.1; within = c.requires.within; read = c.index.ensures }) c.requires.fits c.requires.fresh
      c.set.ensures.ok c.set.ensures.err,
)
