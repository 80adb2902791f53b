-- How many reads it takes to come to a file's refusal.
use Rattle.std.proofs.Common.{◌≡◌, ℕ, zero, suc, ◌+◌, ◌≤◌, Bool, true, false, List, [], ◌∷◌, length, take, get_or, Option, Some, None, IfSome, refl, sym, ap, subst, ◌∙◌, arith}
use Rattle.std.specs.Prelude.{is_none, if◌then◌else◌, flat_map, nat_lt, ◌<◌, IsSomeAnd}
use Rattle.std.specs.List.{position}
use Rattle.std.specs.Option.{option_or, option_map}
use Rattle.std.specs.FinMap.{get}
use Rattle.std.proofs.lemmas.Bool.{ltb-true}
use Rattle.std.proofs.lemmas.List.Sums.{sum_by-cons}
use Rattle.gm_base.specs.declared.edge.Edge.{Edge}
use Rattle.gm_base.specs.Dimensions.{Dimensions}
use Rattle.gm_outside.specs.Files.{Files}
use Rattle.gm_outside.specs.States.{DepotState}
use Rattle.gm_grid.specs.GridBytes.{shape_in, counts_in, edges_in}
use Rattle.gm_grid.specs.declared.grid_error.GridError.{GridError}
use Rattle.gm_grid.specs.declared.grid_error.GridError.TheVariants.{BadSize}
use Rattle.gm_grid.specs.declared.sizes.TheConstants.{HEAD_SIZE}
use Rattle.gm_grid.specs.GridRefusals.{is_misplaced, refusal_by_head}
use Rattle.gm_grid.specs.GridRefusalsRules.{position-append}
use Rattle.gm_label.specs.declared.chunk.Place.{Place}
use Rattle.gm_label.specs.Chunks.{chunks_of}
use Rattle.gm_label.specs.Catalogues.{Catalogue, no_place, place_at}
use Rattle.gm_source.specs.Openings.{IsTold, HasHead, HasLabelled, LabelsBy, ReadsUpTo, placed_of, chunk_reads, reads_before, edge_reads, head_reads}
use Rattle.gm_source.specs.OpeningReads.{reads_to_plan}
use Rattle.gm_source.proofs.Told.{told-weaker}
use Rattle.gm_source.proofs.LabelledChunks.{Labels}

pub both_none : (first second : Option ℕ) (more : ℕ) → option_or first (option_map (λ (i : ℕ). more + i) second) ≡ None → (first ≡ None) × (second ≡ None)
both_none None None more none = (refl, refl)
both_none None (Some i) more none = absurd cc
both_none (Some i) second more none = absurd cc

-- where no edge of the first chunks is refused, these are read, and the next one
edge_reads-at : (d : Dimensions) (edges : List Edge) (places : List Place) (k : ℕ)
    → position (is_misplaced d) (flat_map (placed_of edges) (take k places)) ≡ None
    → reads_before places k + chunk_reads (get_or places k no_place) ≤ edge_reads d edges places
unfolding edge_reads
edge_reads-at d edges [] zero none = omega arith
edge_reads-at d edges [] (suc k) none = omega arith
edge_reads-at d edges (place ∷ places) zero none =
    let here : chunk_reads (get_or (place ∷ places) 0 no_place) ≡ chunk_reads place = refl in
    let before : reads_before (place ∷ places) 0 ≡ 0 = refl in
    let all : edge_reads d edges (place ∷ places)
    ≡ chunk_reads place + (if is_none (position (is_misplaced d) (placed_of edges place)) then edge_reads d edges places else 0) = refl in
    omega (arith, here, before, all)
edge_reads-at d edges (place ∷ places) (suc k) none =
    let parts = both_none (position (is_misplaced d) (placed_of edges place)) (position (is_misplaced d) (flat_map (placed_of edges) (take k places)))
    (length {A = ℕ × Edge} (placed_of edges place))
    (sym (position-append (is_misplaced d) (placed_of edges place) (flat_map (placed_of edges) (take k places))) ∙ none) in
    let rest = edge_reads-at d edges places k parts.1 in
    let more = sum_by-cons chunk_reads place (take k places) in
    let next : edge_reads d edges (place ∷ places) ≡ chunk_reads place + edge_reads d edges places =
    ap (λ (found : Option ℕ). chunk_reads place + (if is_none found then edge_reads d edges places else 0)) parts.0 in
    omega (arith, rest, more, next)

-- so many chunks were labelled, and the next one was read at most
pub labels-few : (old mid new : DepotState) (size : ℕ) (name : List ℕ) (cat now : Catalogue) (k : ℕ) → Labels old mid name cat now k
    → new.reads ≤ mid.reads + chunk_reads (place_at now k) → IsTold old.files name (HasLabelled size 0 cat)
    → IsTold old.files name (LabelsBy cat.places old new)
labels-few old mid new size name cat now k a more told =
    told-weaker old.files name (HasLabelled size k now) (LabelsBy cat.places old new)
    (λ bytes labelled.
    let places : chunks_of size (counts_in bytes) ≡ cat.places =
    sym (ap (λ (known : Catalogue). known.places) labelled.labels) ∙ a.cut.1 in
    let most = edge_reads-at (shape_in bytes) (edges_in bytes) (chunks_of size (counts_in bytes)) k labelled.placed in
    let few : reads_before cat.places k + chunk_reads (get_or cat.places k no_place) ≤ edge_reads (shape_in bytes) (edges_in bytes) cat.places =
    subst (λ (ps : List Place). reads_before ps k + chunk_reads (get_or ps k no_place) ≤ edge_reads (shape_in bytes) (edges_in bytes) ps) places most in
    let here : chunk_reads (place_at now k) ≡ chunk_reads (get_or cat.places k no_place) =
    ap (λ (ps : List Place). chunk_reads (get_or ps k no_place)) a.cut.1 in
    let before = a.frame.reads in
    omega (arith, few, here, before, more))
    (a.labelled size told)

-- nothing was read
pub labels-unread : (old new : DepotState) (size : ℕ) (name : List ℕ) (cat : Catalogue) → new.reads ≡ old.reads
    → IsTold old.files name (HasLabelled size 0 cat) → IsTold old.files name (LabelsBy cat.places old new)
labels-unread old new size name cat unread told =
    told-weaker old.files name (HasLabelled size 0 cat) (LabelsBy cat.places old new) (λ bytes labelled. omega (arith, unread)) told

-- a head that isn't refused is read, and the index behind it
two_reads : (short taken : Bool) (e : GridError) (rest : Option GridError) → option_or (if short then Some e else None) rest ≡ None
    → taken ≡ true → ◌≡◌ {A = ℕ} (if short then 0 else if taken then 2 else 1) 2
two_reads true taken e rest none is = absurd cc
two_reads false true e rest none is = refl
two_reads false false e rest none is = absurd cc

pub head_reads-taken : (bytes : List ℕ) → refusal_by_head (length bytes) (take 16 bytes) ≡ None → head_reads bytes ≡ 2
head_reads-taken bytes taken =
    two_reads (nat_lt (length bytes) HEAD_SIZE) (is_none (refusal_by_head (length bytes) (take 16 bytes))) (BadSize (length bytes) HEAD_SIZE) _ taken
    (ap (λ (found : Option GridError). is_none found) taken)

-- a head is read where the file isn't too short for it
one_read : (short taken : Bool) (size before now : ℕ) → nat_lt size HEAD_SIZE ≡ short → now ≤ before + 1 → (size < 16 → now ≡ before)
    → now ≤ before + (if short then 0 else if taken then 2 else 1)
one_read true taken size before now is most unread = let none = unread (ltb-true size HEAD_SIZE is) in omega (arith, none)
one_read false true size before now is most unread = omega (arith, most)
one_read false false size before now is most unread = omega (arith, most)

found_few : (found : Option (List ℕ)) (old new : DepotState) → IsSomeAnd found (λ bytes. ReadsUpTo (head_reads bytes) old new)
    → ReadsUpTo (reads_to_plan found) old new
found_few None old new told = absurd told
found_few (Some bytes) old new told = told

told_few : (files : Option Files) (name : List ℕ) (old new : DepotState) → IsTold files name (λ bytes. ReadsUpTo (head_reads bytes) old new)
    → IfSome files (λ held. ReadsUpTo (reads_to_plan (get held name)) old new)
told_few None name old new told = tt
told_few (Some held) name old new told = found_few (get held name) old new told

-- a file of this size was read for its head
pub head-few : (files : Option Files) (name : List ℕ) (old new : DepotState) (size : ℕ) → IsTold files name (λ bytes. length bytes ≡ size)
    → new.reads ≤ old.reads + 1 → (size < 16 → new.reads ≡ old.reads)
    → IfSome files (λ held. ReadsUpTo (reads_to_plan (get held name)) old new)
head-few files name old new size told most unread =
    told_few files name old new (told-weaker files name _ (λ bytes. ReadsUpTo (head_reads bytes) old new)
    (λ bytes long. one_read (nat_lt (length bytes) HEAD_SIZE) (is_none (refusal_by_head (length bytes) (take 16 bytes))) (length bytes) old.reads new.reads refl most
    (λ short. unread (subst (λ (n : ℕ). n < 16) long short))) told)

-- a file whose head isn't refused was read for its index
pub index-few : (files : Option Files) (name : List ℕ) (old new : DepotState) (shape : Dimensions) → IsTold files name (HasHead shape)
    → new.reads ≤ old.reads + 2
    → IfSome files (λ held. ReadsUpTo (reads_to_plan (get held name)) old new)
index-few files name old new shape told most =
    told_few files name old new (told-weaker files name (HasHead shape) (λ bytes. ReadsUpTo (head_reads bytes) old new)
    (λ bytes head. let two = head_reads-taken bytes head.taken in omega (arith, most, two)) told)

-- nothing was read
pub unread-few : (files : Option Files) (name : List ℕ) (old new : DepotState) → new.reads ≡ old.reads
    → IfSome files (λ held. ReadsUpTo (reads_to_plan (get held name)) old new)
unread-few None name old new unread = tt
unread-few (Some held) name old new unread = omega (arith, unread)
