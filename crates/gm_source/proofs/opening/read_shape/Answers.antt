use Rattle.std.proofs.Common.{◌≡◌, ℕ, length, take, refl, sym, ap, ◌∙◌, arith}
use Rattle.std.specs.Prelude.{Some}
use Rattle.gm_outside.specs.Causes.{counted_times}
use Rattle.gm_outside.specs.FramesRules.{only_reads-none}
use Rattle.gm_source.specs.OpeningsRules.{opens_by-grid, opens_by-more}
use Rattle.gm_source.proofs.Told.{told-weaker, told-both}
use Rattle.gm_source.proofs.Heads.{too_short, bad_head, by_head}
use Rattle.gm_source.proofs.ExactReads.{file_reads-short, file_reads-head}
use Rattle.gm_source.proofs.opening.read_shape.Goals as goal

pub returns-then-size-lt16-clause-opens : goal.returns-then-size-lt16-clause-opens
returns-then-size-lt16-clause-opens g c chunk_size =
    opens_by-more _ _ 0 1 chunk_size c.args.name.now _ (omega arith)
    (opens_by-grid _ _ 0 chunk_size c.args.name.now _ (only_reads-none _) refl
    (told-weaker (g.D.Depot.state c.args.depot.now).files c.args.name.now _ _ (λ bytes long. too_short chunk_size c.args.size bytes c.if-size-lt16.true long) c.requires.size))

pub returns-in-Err-clause-opens : goal.returns-in-Err-clause-opens
returns-in-Err-clause-opens g c chunk_size =
    let read = c.in_ok-read_at.ensures in
    let long : length c.read_at.new.into ≡ 16 = omega (arith, c.read_at.auto.into) in
    opens_by-grid _ _ 1 chunk_size c.args.name.now _
    read.frame (read.cause.kept (λ is. cc))
    (told-weaker (g.D.Depot.state c.args.depot.now).files c.args.name.now _ _
    (λ bytes both. bad_head chunk_size c.args.size c.read_at.new.into bytes c.in-Err.error (sym c.in-Err.ensures.refused) (both.0, both.1.1 ∙ ap (λ (k : ℕ). take k bytes) long))
    (told-both (g.D.Depot.state c.args.depot.now).files c.args.name.now _ _ c.requires.size read.bytes))

pub returns-then-size-lt16-clause-refused : goal.returns-then-size-lt16-clause-refused
returns-then-size-lt16-clause-refused g c chunk_size verdict =
    let depot = g.D.Depot.state c.args.depot.now in
    told-weaker depot.files c.args.name.now _ _
    (λ bytes long. ap (λ (n : ℕ). counted_times n depot.reads) (sym (file_reads-short chunk_size bytes (omega (arith, long, c.if-size-lt16.true)))))
    c.requires.size

pub returns-in-Err-clause-refused : goal.returns-in-Err-clause-refused
returns-in-Err-clause-refused g c chunk_size verdict =
    let read = c.in_ok-read_at.ensures in
    let depot = g.D.Depot.state c.args.depot.now in
    let long : length c.read_at.new.into ≡ 16 = omega (arith, c.read_at.auto.into) in
    told-weaker depot.files c.args.name.now _ _
    (λ bytes both.
    let refused = by_head c.args.size c.read_at.new.into bytes (Some c.in-Err.error) (sym c.in-Err.ensures.refused) (both.0, both.1.1 ∙ ap (λ (k : ℕ). take k bytes) long) in
    let one = file_reads-head chunk_size bytes c.in-Err.error (omega (arith, both.0, c.if-size-lt16.false)) refused in
    c.read_at.ensures.read ∙ ap (λ (n : ℕ). counted_times n depot.reads) (sym one))
    (told-both depot.files c.args.name.now _ _ c.requires.size read.bytes)
