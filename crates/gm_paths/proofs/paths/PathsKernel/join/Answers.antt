use Rattle.std.proofs.Common.{◌≡◌, ℕ, min, Bool, true, false, refl, sym, ◌∙◌}
use Rattle.gm_kernel.specs.Kernels.{kernel_of}
use Rattle.gm_paths.specs.PathJobs.{path_job}
use Rattle.gm_paths.proofs.paths.PathsKernel.join.Goals as goal

join_is : (weighted : Bool) (source a b : ℕ) → (kernel_of (path_job weighted source)).join_values a b ≡ min a b
join_is true source a b = refl
join_is false source a b = refl

pub returns : goal.returns
returns g c = c.min.ensures ∙ sym (join_is _ c.args.self.now.source c.args.a c.args.b)
