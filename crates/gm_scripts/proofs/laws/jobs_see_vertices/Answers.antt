use Rattle.std.proofs.Common.{[]}
use Rattle.gm_scripts.specs.BelowRules.{all_below, see_vertices, make_rounds}
use Rattle.gm_scripts.proofs.laws.jobs_see_vertices.Goals as goal

pub returns : goal.returns
returns c = record {
  vertices = λ n entries over. see_vertices n 0 [] entries (all_below n entries over);
  rounds = λ n entries over. make_rounds n 0 [] entries (all_below n entries over);
}
