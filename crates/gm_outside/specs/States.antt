-- What a depot and a sink tell of themselves, each as one value.
use Rattle.std.specs.Prelude.{ℕ, Bool, false, List, Option, None}
use Rattle.gm_outside.specs.Files.{Files}

-- A depot: its files, where it tells them; whether it is calm, so that it tells them and fails only for reasons that they show; its counts of
-- failed calls and of those that write among them; how often it was read, and how often it was asked for a size.
pub record DepotState : Type 0 where
  pub files : Option Files
  pub calm : Bool
  pub faults : ℕ
  pub write_faults : ℕ
  pub reads : ℕ
  pub sizes : ℕ

-- A sink: the bytes that it holds, where it tells them, and its counts of writes that failed and of those that found no memory.
pub record SinkState : Type 0 where
  pub written : Option (List ℕ)
  pub faults : ℕ
  pub lacks : ℕ

-- a depot that doesn't tell its files
abbrev pub untold : ℕ → ℕ → ℕ → ℕ → DepotState
untold faults write_faults reads sizes =
    record { files = None; calm = false; faults = faults; write_faults = write_faults; reads = reads; sizes = sizes }
