use Rattle.std.proofs.Common.{◌≡◌, ◌≤◌, max}
use Rattle.std.specs.List.{list_any}
use Rattle.gm_label.specs.Catalogues.{sources_at}
use Rattle.gm_active.specs.Bits.{is_in}
use Rattle.gm_active.specs.Adding.{with_all, between}
use Rattle.gm_active.proofs.scheduling.add_with_active_source.Given as goal

abbrev pub invariant-loop-c : goal.invariant-loop-c
invariant-loop-c l = record {
  within : l.c ≤ max l.fn.chunks.start l.fn.chunks.end;
  added : l.into ≡ with_all l.initial.into (between l.fn.chunks.start l.c (λ c. list_any (is_in l.active) (sources_at l.cat c)));
}
