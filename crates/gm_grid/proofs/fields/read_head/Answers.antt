use Rattle.std.proofs.Common.{rules, arith, ◌≡◌, ℕ, Option, Some, None, Result, ap, ◌∙◌}
use Rattle.std.specs.Prelude.{IfOk, IfSome}
use Rattle.std.specs.Option.{ok_or}
use Rattle.std.proofs.lemmas.Grind.{common_steps}
use Rattle.gm_base.specs.Dimensions.{Dimensions}
use Rattle.gm_grid.specs.Format.{dimensions_of}
use Rattle.gm_grid.specs.GridBytes.{shape_of_head}
use Rattle.gm_grid.proofs.FieldBytes.{head_bytes-fields}
use Rattle.gm_grid.proofs.fields.read_head.Goals as goal

-- what holds of what was found holds of it as a result
ok_from_some : {T E : Type 0} (P Q : T → Type 0) (found : Option T) (error : E) (result : Result T E) → result ≡ ok_or found error
    → ((x : T) → P x → Q x) → IfSome found P → IfOk result Q
ok_from_some P Q None error result e follows some = rw e tt
ok_from_some P Q (Some x) error result e follows some = rw e (follows x some)

-- a shape by its two numbers
same_shape : (shape : Dimensions) (n parts : ℕ) → shape.n ≡ n → shape.parts ≡ parts → shape ≡ dimensions_of n parts
same_shape shape n parts p q = ap (λ (x : ℕ). dimensions_of x shape.parts) p ∙ ap (λ (x : ℕ). dimensions_of n x) q

pub returns-clause-shape : goal.returns-clause-shape
returns-clause-shape c =
    let vertices : c.read_u32-n.result ≡ (shape_of_head c.args.bytes.now).n = grind (arith, common_steps) in
    let ranges : c.read_u32-parts.result ≡ (shape_of_head c.args.bytes.now).parts = grind (arith, common_steps) in
    ok_from_some _ _ c.new.result _ c.ok_or.result c.ok_or.ensures.value
    (λ shape is. same_shape shape _ _ (is.1 ∙ vertices) (is.2 ∙ ranges)) c.new.ensures.some

pub returns-clause-head : goal.returns-clause-head
returns-clause-head c =
    let vertices : c.read_u32-n.result ≡ (shape_of_head c.args.bytes.now).n = grind (arith, common_steps) in
    let ranges : c.read_u32-parts.result ≡ (shape_of_head c.args.bytes.now).parts = grind (arith, common_steps) in
    ok_from_some _ _ c.new.result _ c.ok_or.result c.ok_or.ensures.value
    (λ shape is. (rw (is.1, is.2) is.0, head_bytes-fields _ _ c.args.bytes.now c.told-bytes c.fits-bytes (search rules) (is.1 ∙ vertices) (is.2 ∙ ranges)))
    c.new.ensures.some
