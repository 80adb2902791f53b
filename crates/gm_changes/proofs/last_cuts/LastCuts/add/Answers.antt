use Rattle.std.proofs.Common.{ℕ, ◌<◌, true, length, slice_set, [], ◌∷◌, ◌++◌, cond, sym, ap, subst, ◌∙◌, arith}
use Rattle.std.specs.Prelude.{Some}
use Rattle.std.specs.BTreeMap.{get, is_at}
use Rattle.gm_changes.specs.declared.change.Change.{Change}
use Rattle.gm_changes.specs.declared.change.Change.TheVariants.{Cut}
use Rattle.gm_changes.specs.LastCuts.{ends_cmp, mark_of, HasNoted}
use Rattle.gm_changes.proofs.Noting.{noted_add, noted_cut}
use Rattle.gm_changes.proofs.last_cuts.LastCuts.add.Goals as goal

pub returns-in_ok-insert : goal.returns-in_ok-insert
returns-in_ok-insert c changes long are =
    let from = c.in-Cut.from in
    let to = c.in-Cut.to in
    let cuts = c.args.self.now in
    let new = c.insert.new.self in
    let within : mark_of from to < length cuts.marks = omega (arith, are.long, c.mark_of.ensures.value, c.mark_of.ensures.within) in
    let noted = noted_cut changes from to cuts new are within
    (λ q. c.in_ok-insert.ensures.updates.0 q ∙ ap (λ (n : ℕ). cond (is_at (ends_cmp (from, to)) q) (Some n) (get ends_cmp cuts.places q)) (sym long)) in
    subst (λ (change : Change). HasNoted (changes ++ change ∷ []) (record { places = new; marks = slice_set cuts.marks c.mark_of.result true })) (sym c.in-Cut.is)
    (subst (λ (at : ℕ). HasNoted (changes ++ Cut from to ∷ []) (record { places = new; marks = slice_set cuts.marks at true })) (sym c.mark_of.ensures.value) noted)

pub returns-in_default : goal.returns-in_default
returns-in_default c changes long are =
    subst (λ (change : Change). HasNoted (changes ++ change ∷ []) c.args.self.now) (sym c.in_default.is) (noted_add changes c.in_default.field-0 c.args.self.now are)
