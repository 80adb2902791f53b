use Rattle.std.specs.Arc.{arc_value}
use Rattle.std.specs.Vec.Iter.{into_iter_items}
use Rattle.gm_job_run.proofs.Scripts.{ScriptSoFar}
use Rattle.gm_job_run.proofs.script_run.run_script.Given as goal

abbrev pub invariant-loop-entry : goal.invariant-loop-entry
invariant-loop-entry g l =
    (goal.iterator-loop-entry g).can_next l.entry-iterator ×
    (goal.iterator-loop-entry g).is_finite l.entry-iterator ×
    ScriptSoFar (g.D.Depot.state l.fn.depot) (g.D.Depot.state l.depot) l.fn.grid (arc_value l.fn.cat) l.fn.script (into_iter_items l.entry-iterator) l.versions l.lines.items
