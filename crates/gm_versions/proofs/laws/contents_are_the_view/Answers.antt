use Rattle.gm_label.specs.Overlays.{key_at}
use Rattle.gm_versions.specs.Snapshots.{key_of, overlays_of}
use Rattle.gm_versions.specs.SnapshotsRules.{contents-view, contents-keyed, content-of_key, content-looked_up}
use Rattle.gm_versions.proofs.laws.contents_are_the_view.Goals as goal

pub returns : goal.returns
returns c = record {
  contents = contents-view;
  keys = λ cat edges updates snapshot_of s over dims ends taken.
      contents-keyed (key_of cat s) cat edges updates snapshot_of s (λ x. content-of_key cat edges updates snapshot_of s x taken) (contents-view cat edges s over dims ends);
  overlays = λ cat edges updates snapshot_of s over dims ends taken.
      contents-keyed (key_at (overlays_of cat s)) cat edges updates snapshot_of s (λ x. content-looked_up cat edges updates snapshot_of s x taken) (contents-view cat edges s over dims ends);
}
