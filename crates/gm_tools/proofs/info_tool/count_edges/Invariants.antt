use Rattle.std.proofs.Common.{◌≡◌, ◌*◌, ◌≤◌, take}
use Rattle.std.specs.Prelude.{sum_by}
use Rattle.gm_base.specs.declared.limits.TheConstants.{MAX_CHUNK_SIZE}
use Rattle.gm_tools.proofs.info_tool.count_edges.Given as goal

abbrev pub invariant-loop-chunk : goal.invariant-loop-chunk
invariant-loop-chunk l = record {
  counted : l.edges ≡ sum_by (λ place. place.count) (take l.chunk l.cat.places);
  few : l.edges ≤ l.chunk * MAX_CHUNK_SIZE;
}
