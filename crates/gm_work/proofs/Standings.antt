-- What a job owes where it stands.
use Rattle.std.specs.Prelude.{◌≡◌, ℕ, true, false, not, ◌&&◌, ◌==◌}
use Rattle.std.specs.List.{list_any}
use Rattle.std.proofs.Common.{sym, ap, ◌∙◌}
use Rattle.std.proofs.lemmas.Bool.{and_parts}
use Rattle.gm_kernel.specs.Standings.{Standing, with_passed}
use Rattle.gm_active.specs.Bits.{is_in}
use Rattle.gm_work.specs.JobStates.{JobState}
use Rattle.gm_work.specs.Views.{JobView, owed_at, needed_in, IsMidRound}
use Rattle.gm_work.proofs.Lists.{is_in-off, has_passed, is_owed, passed_not_owed}
use Rattle.gm_work.proofs.MidRound.{owed_is}

pub determined : (d : JobView) (s : Standing) (e f : JobState) → IsMidRound d s e → IsMidRound d s f → e ≡ f
determined d s e f one other = one.state ∙ sym other.state

pub owed : (d : JobView) (s : Standing) (e : JobState) → IsMidRound d s e → e.owed ≡ owed_at d s
owed d s e mid = ap (λ (f : JobState). f.owed) mid.state ∙ owed_is d s.phase s.passed

pub owed_later : (d : JobView) (s : Standing) (c x : ℕ) → is_in (owed_at d (with_passed s c)) x ≡ (is_in (owed_at d s) x && not (c == x))
owed_later d s c x = is_in-off (owed_at d s) c x

pub owed_is_new : (d : JobView) (s : Standing) (x : ℕ) → list_any (λ p. p == x) s.passed ≡ true → is_in (owed_at d s) x ≡ false
owed_is_new d s x h = passed_not_owed (needed_in d s.phase) s.passed x h

pub owed_is_needed : (d : JobView) (s : Standing) (x : ℕ) → is_in (owed_at d s) x ≡ true → is_in (needed_in d s.phase) x ≡ true
owed_is_needed d s x h =
    (and_parts (is_in (needed_in d s.phase) x) (not (has_passed s.passed x)) (sym (is_owed (needed_in d s.phase) s.passed x) ∙ h)).0
