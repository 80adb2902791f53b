-- Why a job stops at a chunk.
use Rattle.std.specs.Prelude.{ℕ, ◌<◌, Bool, IsTrue, IsErrOf, Err, refl}
use Rattle.std.proofs.Common.{arith}
use Rattle.gm_source.specs.declared.fetching.Found.{Found}
use Rattle.gm_source.specs.declared.fetching.FetchError.{FetchError}
use Rattle.gm_source.specs.declared.fetching.FetchError.TheVariants.{Fault, Changed, Memory}
use Rattle.gm_job_run.specs.declared.job_run.Stop.{Stop}
use Rattle.gm_job_run.specs.declared.job_run.Stop.TheVariants as stops
use Rattle.gm_job_run.specs.JobRuns.{IsToldStop, OfChunk, IsOfChunks, stop_of}

pub told_stop : {T : Type 0} (calm : Bool) (chunk : ℕ) (error : FetchError) → (IsErrOf {T = T} (Err error) Fault → IsTrue calm → ⊥)
    → ((found : Found) → IsErrOf {T = T} (Err error) (Changed found) → ⊥)
    → IsToldStop calm (stop_of chunk error)
told_stop calm chunk Fault not_calm unchanged = not_calm refl
told_stop calm chunk (Changed found) not_calm unchanged = unchanged found refl
told_stop calm chunk Memory not_calm unchanged = tt

pub within_chunks : (chunks chunk : ℕ) (stop : Stop) → chunk < chunks → OfChunk chunk stop → IsOfChunks chunks stop
within_chunks chunks chunk (stops.Read other) within at = omega (arith, within, at)
within_chunks chunks chunk (stops.Changed other) within at = omega (arith, within, at)
within_chunks chunks chunk stops.Memory within at = tt
