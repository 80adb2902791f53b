use Rattle.std.specs.Prelude.{List, Bool}
use Rattle.std.proofs.Common.{ap, subst, arith}
use Rattle.gm_base.specs.Graph.{IsSameGraph}
use Rattle.gm_active.specs.Bits.{is_in}
use Rattle.gm_work.specs.JobStates.{turning_of}
use Rattle.gm_work.specs.Views.{turn_at}
use Rattle.gm_work.specs.Weights.{weight_left}
use Rattle.gm_versions.specs.Snapshots.{overlays_of}
use Rattle.gm_scripts.specs.ScriptJobs.{job_at, snapshot_at}
use Rattle.gm_scripts.specs.ScriptJobsRules.{makes_round, content}
use Rattle.gm_core.specs.SnapshotViews.{job_view}
use Rattle.gm_core.specs.ScriptWorks.{works_of}
use Rattle.gm_core.proofs.SnapshotGraphs.{job_is_cut}
use Rattle.gm_core.proofs.Lawful.{needed_within, unpassed, turned_as, turned_on, left_by_turn, key_at-chunk, some_round}
use Rattle.gm_core.proofs.laws.works_are_lawful.Goals as goal

pub returns : goal.returns
unfolding works_of
returns c cat edges entries over =
    let view = job_view cat edges entries in
    let owed = c.owed_chunks.ensures in
    let left = c.weight_is_left.ensures in
    record {
      begins = λ n within. record { number = within; mid = c.begins.ensures (view n) (some_round (job_at entries n).spec (makes_round cat edges entries n over within)) };
      passes = λ n x s e copied here owes same.
          record {
            number = here.number;
            mid = c.passes.ensures (view n) s e x copied here.mid owes (subst (IsSameGraph copied) (content cat edges entries n x here.number) same);
          };
      turns = λ n s e here.
          turned_as cat edges entries n (turn_at (view n) s) (turning_of (view n).context e) here.number (c.turns.ensures (view n) s e (job_is_cut cat edges entries n over here.number) here.mid);
      turns_on = λ n s e here. turned_on cat edges entries n s (turn_at (view n) s) (c.turns_lead_on.ensures (view n) s);
      determined = λ n s e f one other. c.determined.ensures.state (view n) s e f one.mid other.mid;
      owed = λ n x s e here. ap (λ (marks : List Bool). is_in marks x) (c.determined.ensures.owed (view n) s e here.mid);
      owed_after = λ n x y s. owed.after (view n) s x y;
      owed_is_new = λ n x s owes. unpassed _ _ (owed.new (view n) s x) owes;
      owed_is_chunk = λ n x s owes. needed_within (view n) s.phase x (owed.needed (view n) s x owes);
      chunk_in_block = over.catalogue.in_range;
      key_of_chunk = λ n x s. key_at-chunk (overlays_of cat (snapshot_at entries n)) x;
      left_at_first = λ n within.
          let some = some_round (job_at entries n).spec (makes_round cat edges entries n over within) in
          let all = left.begins (view n) (λ x. 1) some in
          let most = left.most (view n) some in
          omega (arith, all, most);
      left_by_passes = λ n x s owes. left.passes (view n) (λ y. 1) s x owes;
      left_by_turns = λ n s e here. left_by_turn cat edges entries n (weight_left (view n) (λ x. 1) s) (turn_at (view n) s) (left.turns (view n) (λ x. 1) s e here.mid);
    }
