-- How many reads just it takes to come to a file's refusal, and that none is made behind it.
use Rattle.std.proofs.Common.{◌≡◌, ℕ, zero, suc, ◌+◌, ◌<◌, ◌≤◌, Bool, true, false, List, [], ◌∷◌, length, take, drop, map, get_or, cond, Option, Some, None, IfSome, refl, sym, ap, subst, ◌∙◌, arith}
use Rattle.std.specs.Prelude.{is_none, ◌&&◌, if◌then◌else◌, flat_map, filter, min, nat_lt, sum_by, option_map, IsSome, IsSomeAnd, Result}
use Rattle.std.specs.List.{position}
use Rattle.std.specs.Option.{option_or}
use Rattle.std.specs.FinMap.{get}
use Rattle.std.proofs.lemmas.Bool.{lt-ltb, le-ltb, ltb-false}
use Rattle.std.proofs.lemmas.List.{take_all}
use Rattle.std.proofs.lemmas.List.Sums.{sum_by-cons}
use Rattle.gm_base.specs.declared.edge.Edge.{Edge}
use Rattle.gm_base.specs.Dimensions.{Dimensions}
use Rattle.gm_outside.specs.Causes.{counted_times}
use Rattle.gm_outside.specs.CausesRules.{counted_times-add, counted_times-few}
use Rattle.gm_outside.specs.Files.{Files}
use Rattle.gm_outside.specs.States.{DepotState}
use Rattle.gm_outside.specs.declared.traits.Trouble.{Trouble}
use Rattle.gm_outside.specs.declared.traits.Trouble.TheVariants as troubles
use Rattle.gm_grid.specs.GridBytes.{shape_in, counts_in, edges_in}
use Rattle.gm_grid.specs.declared.grid_error.GridError.{GridError}
use Rattle.gm_grid.specs.declared.grid_error.GridError.TheVariants.{BadSize, BadEdge}
use Rattle.gm_grid.specs.declared.grid_error.GridError.TheVariants as grid_errors
use Rattle.gm_grid.specs.declared.grid_error.IndexError.{IndexError}
use Rattle.gm_grid.specs.declared.grid_error.IndexError.TheVariants as index_errors
use Rattle.gm_label.specs.declared.plan.PlanError.{PlanError}
use Rattle.gm_label.specs.declared.plan.PlanError.TheVariants as plan_errors
use Rattle.gm_grid.specs.declared.sizes.TheConstants.{HEAD_SIZE}
use Rattle.gm_grid.specs.GridRefusals.{is_misplaced, refusal_by_head, refusal_by_index, refusal_by_chunks}
use Rattle.gm_grid.specs.GridRefusalsRules.{position-append, refusal_by_head-short}
use Rattle.gm_label.specs.declared.chunk.Place.{Place}
use Rattle.gm_label.specs.Chunks.{chunks_of}
use Rattle.gm_label.specs.Catalogues.{Catalogue, no_place, place_at}
use Rattle.gm_source.specs.declared.errors.OpenError.{OpenError}
use Rattle.gm_source.specs.declared.errors.OpenError.TheVariants.{Memory}
use Rattle.gm_source.specs.Openings.{IsTold, HasLabelled, LabelsJust, ReadsJust, ReadsUpTo, are_chunks_read, placed_of, chunk_reads, reads_before, opening_reads, edge_reads, head_reads, file_reads, error_of_trouble, error_of_index, error_of_plan, IsRefusedByIndex, IsRefusedByChunks}
use Rattle.gm_source.specs.OpeningReads.{HasStray, IsJudged, IsReadOn, IsReadSoFar, IsVerdict, ReadsFile, has_edges, reads_to_open, reads_to_plan, refusal_before_read}
use Rattle.gm_source.proofs.Told.{told-weaker, told-both}
use Rattle.gm_source.proofs.LabelledChunks.{Labels}
use Rattle.gm_source.proofs.RefusalReads.{both_none, head_reads-taken}

-- neither a fault nor want of memory refuses a file
pub no_verdict : (trouble : Trouble) (error : OpenError) → error ≡ error_of_trouble trouble → IsVerdict error → ⊥
no_verdict troubles.Failed error is verdict = subst IsVerdict is verdict
no_verdict troubles.Memory error is verdict = subst IsVerdict is verdict

pub no_verdict-memory : (error : OpenError) → error ≡ Memory → IsVerdict error → ⊥
no_verdict-memory error is verdict = subst IsVerdict is verdict

-- an index that refuses a file, or chunks that aren't planned, weren't for want of memory
pub index_verdict : (files : Option Files) (name : List ℕ) (size file_size : ℕ) (counts : List ℕ) (error : IndexError)
    → IsVerdict (error_of_index error) → IsRefusedByIndex file_size counts error
    → ((e : GridError) → refusal_by_index file_size counts ≡ Some e → IsTold files name (λ bytes. file_reads size bytes ≡ 2))
    → IsTold files name (λ bytes. file_reads size bytes ≡ 2)
index_verdict files name size file_size counts (index_errors.Grid e) verdict refused told = told e refused
index_verdict files name size file_size counts index_errors.Memory verdict refused told = absurd verdict

pub plan_verdict : (files : Option Files) (name : List ℕ) (size : ℕ) (counts : List ℕ) (error : PlanError)
    → IsVerdict (error_of_plan error) → IsRefusedByChunks size counts error
    → ((e : GridError) → refusal_by_chunks size counts ≡ Some e → IsTold files name (λ bytes. file_reads size bytes ≡ 2))
    → IsTold files name (λ bytes. file_reads size bytes ≡ 2)
plan_verdict files name size counts (plan_errors.TooManyChunks chunks) verdict refused told = told (grid_errors.TooManyChunks chunks) refused
plan_verdict files name size counts plan_errors.Memory verdict refused told = absurd verdict

-- what `file_reads` is by what the stages refuse
abbrev reads_by : Bool → Option GridError → Option GridError → Option GridError → ℕ → ℕ
reads_by short head index chunks more =
    if is_none head && is_none index && is_none chunks then 2 + more
    else if short then 0
    else if is_none head then 2
    else 1

first_stage : (short : Bool) (e : GridError) (rest index chunks : Option GridError) (more : ℕ)
    → 1 ≤ reads_by short (option_or (if short then Some e else None) rest) index chunks more → (if short then Some e else None) ≡ None
first_stage true e rest index chunks more some = let no : 1 ≤ 0 = some in absurd (omega (arith, no))
first_stage false e rest index chunks more some = refl

second_stage : (short : Bool) (e : GridError) (rest index chunks : Option GridError) (more : ℕ)
    → 2 ≤ reads_by short (option_or (if short then Some e else None) rest) index chunks more
    → option_or (if short then Some e else None) rest ≡ None
second_stage true e rest index chunks more some = let no : 2 ≤ 0 = some in absurd (omega (arith, no))
second_stage false e None index chunks more some = refl
second_stage false e (Some x) index chunks more some = let no : 2 ≤ 1 = some in absurd (omega (arith, no))

third_stage : (short : Bool) (e : GridError) (rest index chunks : Option GridError) (more k : ℕ)
    → 3 + k ≤ reads_by short (option_or (if short then Some e else None) rest) index chunks more
    → (option_or (if short then Some e else None) rest ≡ None) × (index ≡ None) × (chunks ≡ None) × (k + 1 ≤ more)
third_stage true e rest index chunks more k some = let no : 3 + k ≤ 0 = some in absurd (omega (arith, no))
third_stage false e (Some x) index chunks more k some = let no : 3 + k ≤ 1 = some in absurd (omega (arith, no))
third_stage false e None (Some x) chunks more k some = let no : 3 + k ≤ 2 = some in absurd (omega (arith, no))
third_stage false e None None (Some x) more k some = let no : 3 + k ≤ 2 = some in absurd (omega (arith, no))
third_stage false e None None None more k some = let all : 3 + k ≤ 2 + more = some in (refl, refl, refl, omega (arith, all))

-- a file that is too short for a head isn't read
pub file_reads-short : (size : ℕ) (bytes : List ℕ) → length bytes < HEAD_SIZE → file_reads size bytes ≡ 0
file_reads-short size bytes short =
    let test = lt-ltb (length bytes) HEAD_SIZE short in
    let head = refusal_by_head-short (length bytes) (take 16 bytes) short in
    λ i. reads_by (test i) (head i) (refusal_by_index (length bytes) (counts_in bytes)) (refusal_by_chunks size (counts_in bytes))
    (edge_reads (shape_in bytes) (edges_in bytes) (chunks_of size (counts_in bytes)))

-- one whose head refuses it is read once
pub file_reads-head : (size : ℕ) (bytes : List ℕ) (e : GridError) → HEAD_SIZE ≤ length bytes
    → refusal_by_head (length bytes) (take 16 bytes) ≡ Some e → file_reads size bytes ≡ 1
file_reads-head size bytes e long refused =
    let test = le-ltb (length bytes) HEAD_SIZE long in
    λ i. reads_by (test i) (refused i) (refusal_by_index (length bytes) (counts_in bytes)) (refusal_by_chunks size (counts_in bytes))
    (edge_reads (shape_in bytes) (edges_in bytes) (chunks_of size (counts_in bytes)))

chunks_unread : (size : ℕ) (bytes : List ℕ) → are_chunks_read size bytes ≡ false → refusal_by_head (length bytes) (take 16 bytes) ≡ None
    → file_reads size bytes ≡ 2
chunks_unread size bytes unread taken =
    ap (λ (b : Bool). if b then 2 + edge_reads (shape_in bytes) (edges_in bytes) (chunks_of size (counts_in bytes)) else head_reads bytes) unread
    ∙ head_reads-taken bytes taken

-- one whose index refuses it twice, and so one with too many chunks
pub file_reads-index : (size : ℕ) (bytes : List ℕ) (e : GridError) → refusal_by_head (length bytes) (take 16 bytes) ≡ None
    → refusal_by_index (length bytes) (counts_in bytes) ≡ Some e → file_reads size bytes ≡ 2
file_reads-index size bytes e taken refused =
    chunks_unread size bytes (λ i. is_none (taken i) && is_none (refused i) && is_none (refusal_by_chunks size (counts_in bytes))) taken

pub file_reads-chunks : (size : ℕ) (bytes : List ℕ) (e : GridError) → refusal_by_head (length bytes) (take 16 bytes) ≡ None
    → refusal_by_index (length bytes) (counts_in bytes) ≡ None → refusal_by_chunks size (counts_in bytes) ≡ Some e → file_reads size bytes ≡ 2
file_reads-chunks size bytes e taken indexed refused =
    chunks_unread size bytes (λ i. is_none (taken i) && is_none (indexed i) && is_none (refused i)) taken

-- one that nothing of this refuses, twice and for its chunks up to the first bad edge
pub file_reads-edges : (size : ℕ) (bytes : List ℕ) → refusal_by_head (length bytes) (take 16 bytes) ≡ None
    → refusal_by_index (length bytes) (counts_in bytes) ≡ None → refusal_by_chunks size (counts_in bytes) ≡ None
    → file_reads size bytes ≡ 2 + edge_reads (shape_in bytes) (edges_in bytes) (chunks_of size (counts_in bytes))
file_reads-edges size bytes taken indexed few =
    let read : are_chunks_read size bytes ≡ true = λ i. is_none (taken i) && is_none (indexed i) && is_none (few i) in
    ap (λ (b : Bool). if b then 2 + edge_reads (shape_in bytes) (edges_in bytes) (chunks_of size (counts_in bytes)) else head_reads bytes) read

-- the reads of head and index are among them
head_few : (short taken : Bool) → (if short then 0 else if taken then 2 else 1) ≤ 2
head_few true taken = omega arith
head_few false true = omega arith
head_few false false = omega arith

plan_first : (read : Bool) (head more : ℕ) → head ≤ 2 → head ≤ (if read then 2 + more else head)
plan_first true head more few = omega (arith, few)
plan_first false head more few = omega arith

pub plan_within : (size : ℕ) (found : Option (List ℕ)) → reads_to_plan found ≤ reads_to_open size found
plan_within size None = omega arith
plan_within size (Some bytes) =
    plan_first (are_chunks_read size bytes) (head_reads bytes) (edge_reads (shape_in bytes) (edges_in bytes) (chunks_of size (counts_in bytes)))
    (head_few (nat_lt (length bytes) HEAD_SIZE) (is_none (refusal_by_head (length bytes) (take 16 bytes))))

-- where no edge is misplaced, all chunks with edges are read
pub edge_reads-whole : (d : Dimensions) (edges : List Edge) (places : List Place)
    → position (is_misplaced d) (flat_map (placed_of edges) places) ≡ None → edge_reads d edges places ≡ sum_by chunk_reads places
unfolding edge_reads
edge_reads-whole d edges [] none = refl
edge_reads-whole d edges (place ∷ places) none =
    let parts = both_none (position (is_misplaced d) (placed_of edges place)) (position (is_misplaced d) (flat_map (placed_of edges) places))
    (length {A = ℕ × Edge} (placed_of edges place))
    (sym (position-append (is_misplaced d) (placed_of edges place) (flat_map (placed_of edges) places)) ∙ none) in
    let rest = edge_reads-whole d edges places parts.1 in
    let more = sum_by-cons chunk_reads place places in
    let next : edge_reads d edges (place ∷ places) ≡ chunk_reads place + edge_reads d edges places =
    ap (λ (found : Option ℕ). chunk_reads place + (if is_none found then edge_reads d edges places else 0)) parts.0 in
    omega (arith, rest, more, next)

none_behind : (found : Option ℕ) (more : ℕ) → IsSome found → (if is_none found then more else 0) ≡ 0
none_behind None more some = absurd cc
none_behind (Some i) more some = refl

-- where the first misplaced edge is in the chunk of this number, the chunks up to it are read
pub edge_reads-stray : (d : Dimensions) (edges : List Edge) (places : List Place) (k : ℕ) → k < length places
    → position (is_misplaced d) (flat_map (placed_of edges) (take k places)) ≡ None
    → IsSome (position (is_misplaced d) (placed_of edges (get_or places k no_place)))
    → edge_reads d edges places ≡ reads_before places k + chunk_reads (get_or places k no_place)
unfolding edge_reads
edge_reads-stray d edges [] k within none stray = absurd (omega (arith, within))
edge_reads-stray d edges (place ∷ places) zero within none stray =
    let stray_here : IsSome (position (is_misplaced d) (placed_of edges place)) = stray in
    let here : chunk_reads (get_or (place ∷ places) 0 no_place) ≡ chunk_reads place = refl in
    let before : reads_before (place ∷ places) 0 ≡ 0 = refl in
    let all : edge_reads d edges (place ∷ places)
    ≡ chunk_reads place + (if is_none (position (is_misplaced d) (placed_of edges place)) then edge_reads d edges places else 0) = refl in
    let behind = none_behind (position (is_misplaced d) (placed_of edges place)) (edge_reads d edges places) stray_here in
    omega (arith, here, before, all, behind)
edge_reads-stray d edges (place ∷ places) (suc k) within none stray =
    let parts = both_none (position (is_misplaced d) (placed_of edges place)) (position (is_misplaced d) (flat_map (placed_of edges) (take k places)))
    (length {A = ℕ × Edge} (placed_of edges place))
    (sym (position-append (is_misplaced d) (placed_of edges place) (flat_map (placed_of edges) (take k places))) ∙ none) in
    let rest = edge_reads-stray d edges places k (omega (arith, within)) parts.1 stray in
    let more = sum_by-cons chunk_reads place (take k places) in
    let next : edge_reads d edges (place ∷ places) ≡ chunk_reads place + edge_reads d edges places =
    ap (λ (found : Option ℕ). chunk_reads place + (if is_none found then edge_reads d edges places else 0)) parts.0 in
    omega (arith, rest, more, next)

-- a chunk without edges has none that is misplaced, and isn't read
unread_chunk : (d : Dimensions) (edges : List Edge) (place : Place) (places : List Place) → place.count ≡ 0
    → edge_reads d edges (place ∷ places) ≡ edge_reads d edges places
unfolding edge_reads
unread_chunk d edges place places zero_count =
    let none : position (is_misplaced d) (placed_of edges place) ≡ None =
    ap (λ (n : ℕ). position (is_misplaced d) (map (λ e. (place.block, e)) (take n (drop place.first edges)))) zero_count in
    let unread : chunk_reads place ≡ 0 = ap (λ (n : ℕ). min 1 n) zero_count in
    let next : edge_reads d edges (place ∷ places) ≡ chunk_reads place + edge_reads d edges places =
    ap (λ (found : Option ℕ). chunk_reads place + (if is_none found then edge_reads d edges places else 0)) none in
    omega (arith, unread, next)

-- a chunk that is read before another one has no misplaced edge
read_on : (found : Option ℕ) (count j more : ℕ) → (suc j) + 1 ≤ min 1 count + (if is_none found then more else 0)
    → (found ≡ None) × (j + 1 ≤ more)
read_on None count j more few = let all : (suc j) + 1 ≤ min 1 count + more = few in (refl, omega (arith, all))
read_on (Some i) count j more few = let all : (suc j) + 1 ≤ min 1 count + 0 = few in absurd (omega (arith, all))

none_of_both : (first second : Option ℕ) (k : ℕ) → first ≡ None → second ≡ None → option_or first (option_map (λ (i : ℕ). k + i) second) ≡ None
none_of_both first second k a b = (λ i. option_or (a i) (option_map (λ (n : ℕ). k + n) (b i)))

one_more : (d : Dimensions) (edges : List Edge) (place : Place) (places : List Place) (k : ℕ) (some : Bool) → has_edges place ≡ some
    → ((j : ℕ) → j + 1 ≤ edge_reads d edges places
    → position (is_misplaced d) (flat_map (placed_of edges) (take j (filter has_edges places))) ≡ None)
    → k + 1 ≤ edge_reads d edges (place ∷ places)
    → position (is_misplaced d) (flat_map (placed_of edges) (take k (cond some (place ∷ filter has_edges places) (filter has_edges places)))) ≡ None
unfolding edge_reads
one_more d edges place places k false is rest few =
    let none = ltb-false 0 place.count is in
    let same = unread_chunk d edges place places (omega (arith, none)) in
    rest k (omega (arith, few, same))
one_more d edges place places zero true is rest few = refl
one_more d edges place places (suc j) true is rest few =
    let on = read_on (position (is_misplaced d) (placed_of edges place)) place.count j (edge_reads d edges places) few in
    position-append (is_misplaced d) (placed_of edges place) (flat_map (placed_of edges) (take j (filter has_edges places)))
    ∙ none_of_both (position (is_misplaced d) (placed_of edges place))
    (position (is_misplaced d) (flat_map (placed_of edges) (take j (filter has_edges places))))
    (length {A = ℕ × Edge} (placed_of edges place)) on.0 (rest j on.1)

edges_so_far : (d : Dimensions) (edges : List Edge) (places : List Place) (k : ℕ) → k + 1 ≤ edge_reads d edges places
    → position (is_misplaced d) (flat_map (placed_of edges) (take k (filter has_edges places))) ≡ None
unfolding edge_reads
edges_so_far d edges [] k few = let no : k + 1 ≤ 0 = few in absurd (omega (arith, no))
edges_so_far d edges (place ∷ places) k few =
    one_more d edges place places k (has_edges place) refl (λ j more. edges_so_far d edges places j more) few

none_of_four : (head index chunks edges : Option GridError) → head ≡ None → index ≡ None → chunks ≡ None → edges ≡ None
    → option_or head (option_or index (option_or chunks edges)) ≡ None
none_of_four head index chunks edges a b c d = λ i. option_or (a i) (option_or (b i) (option_or (c i) (d i)))

-- a read that opening the file takes isn't made behind its refusal
unrefused : (size : ℕ) (bytes : List ℕ) (number : ℕ) → number ≤ file_reads size bytes → refusal_before_read size bytes number ≡ None
unrefused size bytes zero within = refl
unrefused size bytes (suc zero) within =
    first_stage (nat_lt (length bytes) HEAD_SIZE) (BadSize (length bytes) HEAD_SIZE) _
    (refusal_by_index (length bytes) (counts_in bytes)) (refusal_by_chunks size (counts_in bytes))
    (edge_reads (shape_in bytes) (edges_in bytes) (chunks_of size (counts_in bytes))) within
unrefused size bytes (suc (suc zero)) within =
    second_stage (nat_lt (length bytes) HEAD_SIZE) (BadSize (length bytes) HEAD_SIZE) _
    (refusal_by_index (length bytes) (counts_in bytes)) (refusal_by_chunks size (counts_in bytes))
    (edge_reads (shape_in bytes) (edges_in bytes) (chunks_of size (counts_in bytes))) within
unrefused size bytes (suc (suc (suc k))) within =
    let all = third_stage (nat_lt (length bytes) HEAD_SIZE) (BadSize (length bytes) HEAD_SIZE) _
    (refusal_by_index (length bytes) (counts_in bytes)) (refusal_by_chunks size (counts_in bytes))
    (edge_reads (shape_in bytes) (edges_in bytes) (chunks_of size (counts_in bytes))) k (omega (arith, within)) in
    none_of_four _ _ _ _ all.0 all.1 all.2
    (ap (option_map BadEdge) (edges_so_far (shape_in bytes) (edges_in bytes) (chunks_of size (counts_in bytes)) k all.3))

read_so_far : (size : ℕ) (found : Option (List ℕ)) (number : ℕ) → number ≤ reads_to_open size found → IsReadOn size number found
read_so_far size None number within = omega (arith, within)
read_so_far size (Some bytes) number within = unrefused size bytes number within

so_far : (size : ℕ) (name : List ℕ) (told : Option Files) (old new : DepotState)
    → IfSome told (λ held. ReadsUpTo (reads_to_open size (get held name)) old new) → IfSome told (λ held. IsReadSoFar size old new (get held name))
so_far size name None old new few = tt
so_far size name (Some held) old new few = λ number made. read_so_far size (get held name) number (omega (arith, few, made))

-- the file was read no more often than opening it takes, and just so often where it is opened or refused
pub reads_file : {T : Type 0} (size : ℕ) (name : List ℕ) (old new : DepotState) (result : Result T OpenError)
    → IfSome old.files (λ held. ReadsUpTo (reads_to_open size (get held name)) old new)
    → (IsJudged result → IfSome old.files (λ held. ReadsJust (reads_to_open size (get held name)) old new)) → ReadsFile size name old new result
reads_file size name old new result few exact =
    record { few = few; exact = exact; unrefused = so_far size name old.files old new few }

-- what is told of a file that is there, by how many reads it takes
found_just : (size : ℕ) (found : Option (List ℕ)) (old new : DepotState) → IsSomeAnd found (λ bytes. ReadsJust (file_reads size bytes) old new)
    → ReadsJust (reads_to_open size found) old new
found_just size None old new told = absurd told
found_just size (Some bytes) old new told = told

pub told_just : (size : ℕ) (files : Option Files) (name : List ℕ) (old new : DepotState)
    → IsTold files name (λ bytes. ReadsJust (file_reads size bytes) old new)
    → IfSome files (λ held. ReadsJust (reads_to_open size (get held name)) old new)
told_just size None name old new told = tt
told_just size (Some held) name old new told = found_just size (get held name) old new told

found_few : (size : ℕ) (found : Option (List ℕ)) (old new : DepotState) → IsSomeAnd found (λ bytes. ReadsUpTo (file_reads size bytes) old new)
    → ReadsUpTo (reads_to_open size found) old new
found_few size None old new told = absurd told
found_few size (Some bytes) old new told = told

pub told_few : (size : ℕ) (files : Option Files) (name : List ℕ) (old new : DepotState)
    → IsTold files name (λ bytes. ReadsUpTo (file_reads size bytes) old new)
    → IfSome files (λ held. ReadsUpTo (reads_to_open size (get held name)) old new)
told_few size None name old new told = tt
told_few size (Some held) name old new told = found_few size (get held name) old new told

-- the same of one that isn't there
pub missing_just : (size : ℕ) (files : Option Files) (name : List ℕ) (old new : DepotState) → new.reads ≡ old.reads
    → IfSome files (λ held. get held name ≡ None) → IfSome files (λ held. ReadsJust (reads_to_open size (get held name)) old new)
missing_just size None name old new unread none = tt
missing_just size (Some held) name old new unread none = subst (λ (found : Option (List ℕ)). ReadsJust (reads_to_open size found) old new) (sym none) unread

-- just as many are no more
pub just_few : (size : ℕ) (files : Option Files) (name : List ℕ) (old new : DepotState)
    → IfSome files (λ held. ReadsJust (reads_to_open size (get held name)) old new)
    → IfSome files (λ held. ReadsUpTo (reads_to_open size (get held name)) old new)
just_few size None name old new just = tt
just_few size (Some held) name old new just =
    let most = counted_times-few (reads_to_open size (get held name)) old.reads in omega (arith, most, just)

-- and so are those of a plan
pub plan_few : (size : ℕ) (files : Option Files) (name : List ℕ) (old new : DepotState)
    → IfSome files (λ held. ReadsUpTo (reads_to_plan (get held name)) old new)
    → IfSome files (λ held. ReadsUpTo (reads_to_open size (get held name)) old new)
plan_few size None name old new few = tt
plan_few size (Some held) name old new few = let within = plan_within size (get held name) in omega (arith, within, few)

-- head and index were read, and then chunks up to the first bad edge, or no more than these
pub planned_just : (size : ℕ) (old mid new : DepotState) (name : List ℕ) (cat : Catalogue) → ReadsJust 2 old mid
    → IsTold old.files name (HasLabelled size 0 cat) → IsTold old.files name (LabelsJust cat.places mid new)
    → IsTold old.files name (λ bytes. ReadsJust (file_reads size bytes) old new)
planned_just size old mid new name cat first labelled just =
    told-weaker old.files name _ _
    (λ bytes both.
    let is : file_reads size bytes ≡ 2 + edge_reads (shape_in bytes) (edges_in bytes) cat.places =
    file_reads-edges size bytes both.0.index.head.taken both.0.index.taken both.0.few
    ∙ ap (λ (known : Catalogue). 2 + edge_reads (shape_in bytes) (edges_in bytes) known.places) (sym both.0.labels) in
    both.1
    ∙ ap (counted_times (edge_reads (shape_in bytes) (edges_in bytes) cat.places)) first
    ∙ sym (counted_times-add 2 (edge_reads (shape_in bytes) (edges_in bytes) cat.places) old.reads)
    ∙ ap (λ (n : ℕ). counted_times n old.reads) (sym is))
    (told-both old.files name _ _ labelled just)

pub planned_few : (size : ℕ) (old mid new : DepotState) (name : List ℕ) (cat : Catalogue) → ReadsJust 2 old mid
    → IsTold old.files name (HasLabelled size 0 cat)
    → IsTold old.files name (λ bytes. ReadsUpTo (edge_reads (shape_in bytes) (edges_in bytes) cat.places) mid new)
    → IsTold old.files name (λ bytes. ReadsUpTo (file_reads size bytes) old new)
planned_few size old mid new name cat first labelled few =
    told-weaker old.files name _ _
    (λ bytes both.
    let is : file_reads size bytes ≡ 2 + edge_reads (shape_in bytes) (edges_in bytes) cat.places =
    file_reads-edges size bytes both.0.index.head.taken both.0.index.taken both.0.few
    ∙ ap (λ (known : Catalogue). 2 + edge_reads (shape_in bytes) (edges_in bytes) known.places) (sym both.0.labels) in
    let most = counted_times-few 2 old.reads in
    let more = both.1 in
    omega (arith, is, most, first, more))
    (told-both old.files name _ _ labelled few)

-- where all chunks have their labels, opening the file takes what opening these chunks takes
pub opened_just : (size k : ℕ) (bytes : List ℕ) (cat : Catalogue) → length cat.places ≤ k → HasLabelled size k cat bytes
    → file_reads size bytes ≡ opening_reads cat.places
opened_just size k bytes cat past labelled =
    let places : cat.places ≡ chunks_of size (counts_in bytes) = ap (λ (known : Catalogue). known.places) labelled.labels in
    let all : length (chunks_of size (counts_in bytes)) ≤ k = subst (λ (ps : List Place). length ps ≤ k) places past in
    let none : position (is_misplaced (shape_in bytes)) (flat_map (placed_of (edges_in bytes)) (chunks_of size (counts_in bytes))) ≡ None =
    subst (λ (ps : List Place). position (is_misplaced (shape_in bytes)) (flat_map (placed_of (edges_in bytes)) ps) ≡ None)
    (take_all k (chunks_of size (counts_in bytes)) all) labelled.placed in
    file_reads-edges size bytes labelled.index.head.taken labelled.index.taken labelled.few
    ∙ ap (λ (n : ℕ). 2 + n) (edge_reads-whole (shape_in bytes) (edges_in bytes) (chunks_of size (counts_in bytes)) none)
    ∙ ap (λ (ps : List Place). opening_reads ps) (sym places)

-- two reads are just those that opening the file takes
pub two_just : (size : ℕ) (files : Option Files) (name : List ℕ) (old new : DepotState) → ReadsJust 2 old new
    → IsTold files name (λ bytes. file_reads size bytes ≡ 2) → IsTold files name (λ bytes. ReadsJust (file_reads size bytes) old new)
two_just size files name old new two told =
    told-weaker files name _ _ (λ bytes is. two ∙ ap (λ (n : ℕ). counted_times n old.reads) (sym is)) told

-- so many chunks were labelled, and the next one has a bad edge
pub labels-just : (old mid new : DepotState) (size : ℕ) (name : List ℕ) (cat now : Catalogue) (k : ℕ) → k < length cat.places
    → Labels old mid name cat now k → ReadsJust (chunk_reads (place_at now k)) mid new → IsTold old.files name (HasLabelled size 0 cat)
    → (IsTold mid.files name (HasLabelled size k now) → IsTold mid.files name (HasStray size k))
    → IsTold old.files name (LabelsJust cat.places old new)
labels-just old mid new size name cat now k within a more told stray =
    let here = a.labelled size told in
    let at_mid = subst (λ (f : Option Files). IsTold f name (HasLabelled size k now)) (sym a.frame.files) here in
    let bad = subst (λ (f : Option Files). IsTold f name (HasStray size k)) a.frame.files (stray at_mid) in
    told-weaker old.files name _ _
    (λ bytes both.
    let places : chunks_of size (counts_in bytes) ≡ cat.places =
    sym (ap (λ (known : Catalogue). known.places) both.0.labels) ∙ a.cut.1 in
    let within_file : k < length (chunks_of size (counts_in bytes)) = subst (λ (ps : List Place). k < length ps) (sym places) within in
    let exact = edge_reads-stray (shape_in bytes) (edges_in bytes) (chunks_of size (counts_in bytes)) k within_file both.0.placed both.1 in
    let here : edge_reads (shape_in bytes) (edges_in bytes) cat.places ≡ reads_before cat.places k + chunk_reads (get_or cat.places k no_place) =
    subst (λ (ps : List Place). edge_reads (shape_in bytes) (edges_in bytes) ps ≡ reads_before ps k + chunk_reads (get_or ps k no_place)) places exact in
    let place : chunk_reads (place_at now k) ≡ chunk_reads (get_or cat.places k no_place) =
    ap (λ (ps : List Place). chunk_reads (get_or ps k no_place)) a.cut.1 in
    more
    ∙ ap (counted_times (chunk_reads (place_at now k))) a.read
    ∙ sym (counted_times-add (reads_before cat.places k) (chunk_reads (place_at now k)) old.reads)
    ∙ ap (λ (n : ℕ). counted_times (reads_before cat.places k + n) old.reads) place
    ∙ ap (λ (n : ℕ). counted_times n old.reads) (sym here))
    (told-both old.files name _ _ here bad)
