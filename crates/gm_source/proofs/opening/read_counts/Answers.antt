use Rattle.std.proofs.Common.{◌≡◌, ℕ, List, ◌++◌, length, take, drop, IfSome, sym, ap, subst, ◌∙◌, arith}
use Rattle.std.proofs.Math.Seq.{take-append_seam}
use Rattle.gm_outside.specs.Files.{HasBytesAt}
use Rattle.gm_grid.specs.GridBytes.{index_size, counts_of_index}
use Rattle.gm_source.specs.Openings.{AreBytes}
use Rattle.gm_source.specs.OpeningsRules.{opens_by-index}
use Rattle.gm_source.proofs.Told.{told-weaker, told-both}
use Rattle.gm_grid.specs.GridRefusals.{refusal_by_index}
use Rattle.gm_source.proofs.Heads.{bad_index, good_index, indexed}
use Rattle.gm_source.proofs.ExactReads.{file_reads-index, index_verdict}
use Rattle.gm_source.proofs.opening.read_counts.Goals as goal

-- room that was filled whole is what it was filled with
filled : (count : ℕ) (piece room : List ℕ) → length piece ≡ count → take count (piece ++ drop (length piece) room) ≡ piece
filled count piece room long =
    ap (λ (n : ℕ). take n (piece ++ drop (length piece) room)) (sym long) ∙ take-append_seam piece (drop (length piece) room)

pub returns-in-Ok-clause-index : goal.returns-in-Ok-clause-index
returns-in-Ok-clause-index g c =
    let files = (g.D.Depot.state c.args.depot.now).files in
    let name = c.args.name.now in
    let is : c.deref-2.result.now ≡ c.read_at.new.into =
    c.deref-2.ensures.value ∙ filled c.in_ok-bytes.bytes.len c.read_at.new.into c.in_ok-bytes.bytes.items (omega (arith, c.read_at.auto.into, c.deref_mut.ensures.len)) in
    let whole : length c.deref-2.result.now ≡ index_size c.args.shape.now = omega (arith, ap (λ (piece : List ℕ). length piece) is, c.read_at.auto.into, c.deref_mut.ensures.len, c.in_ok-bytes.ensures) in
    told-weaker files name _ _
    (λ bytes told. good_index c.args.size c.args.shape.now c.in-Ok.index c.deref-2.result.now bytes whole c.in-Ok.ensures.taken c.in-Ok.ensures.counts.0
    (subst AreBytes (c.deref.ensures.value ∙ sym c.deref-2.ensures.value) c.are_bytes.ensures) told)
    (told-both files name _ _ (told-both files name _ _ c.requires.size c.requires.head)
    (subst (λ (piece : List ℕ). IfSome files (λ held. HasBytesAt held name 16 piece)) (sym is) c.in_ok-read_at.ensures.bytes))

pub returns-clause-opens : goal.returns-clause-opens
returns-clause-opens g c chunk_size =
    let read = c.in_ok-read_at.ensures in
    let files = (g.D.Depot.state c.args.depot.now).files in
    let name = c.args.name.now in
    let is : c.deref-2.result.now ≡ c.read_at.new.into =
    c.deref-2.ensures.value ∙ filled c.in_ok-bytes.bytes.len c.read_at.new.into c.in_ok-bytes.bytes.items (omega (arith, c.read_at.auto.into, c.deref_mut.ensures.len)) in
    let whole : length c.deref-2.result.now ≡ index_size c.args.shape.now = omega (arith, ap (λ (piece : List ℕ). length piece) is, c.read_at.auto.into, c.deref_mut.ensures.len, c.in_ok-bytes.ensures) in
    rw c.into.ensures (opens_by-index _ _ 1 chunk_size c.args.size name (counts_of_index c.deref-2.result.now) c.in-Err.error
    read.frame (read.cause.kept (λ is. cc))
    c.in-Err.ensures.refused
    (λ e refused. told-weaker files name _ _
    (λ bytes told. bad_index chunk_size c.args.size c.args.shape.now c.deref-2.result.now bytes e whole refused told)
    (told-both files name _ _ (told-both files name _ _ c.requires.size c.requires.head)
    (subst (λ (piece : List ℕ). IfSome files (λ held. HasBytesAt held name 16 piece)) (sym is) read.bytes))))

pub returns-clause-refused : goal.returns-clause-refused
returns-clause-refused g c chunk_size =
    let read = c.in_ok-read_at.ensures in
    let files = (g.D.Depot.state c.args.depot.now).files in
    let name = c.args.name.now in
    let is : c.deref-2.result.now ≡ c.read_at.new.into =
    c.deref-2.ensures.value ∙ filled c.in_ok-bytes.bytes.len c.read_at.new.into c.in_ok-bytes.bytes.items (omega (arith, c.read_at.auto.into, c.deref_mut.ensures.len)) in
    let whole : length c.deref-2.result.now ≡ index_size c.args.shape.now = omega (arith, ap (λ (piece : List ℕ). length piece) is, c.read_at.auto.into, c.deref_mut.ensures.len, c.in_ok-bytes.ensures) in
    rw c.into.ensures (λ verdict. index_verdict files name chunk_size c.args.size (counts_of_index c.deref-2.result.now) c.in-Err.error verdict
    c.in-Err.ensures.refused
    (λ e refused. told-weaker files name _ _
    (λ bytes told. let i = indexed c.args.size c.args.shape.now c.deref-2.result.now bytes whole told in
    file_reads-index chunk_size bytes e i.head.taken ((λ j. refusal_by_index (i.long j) (sym i.counts_are j)) ∙ refused))
    (told-both files name _ _ (told-both files name _ _ c.requires.size c.requires.head)
    (subst (λ (piece : List ℕ). IfSome files (λ held. HasBytesAt held name 16 piece)) (sym is) read.bytes))))
