-- What follows from the head and the index of a file.
use Rattle.std.proofs.Common.{◌≡◌, ℕ, Bool, true, false, refl, ◌+◌, ◌<◌, ◌≤◌, List, length, take, drop, Option, Some, None, Result, Err, sym, ap, subst, ◌∙◌, arith}
use Rattle.std.proofs.Math.Seq.{take-add}
use Rattle.std.proofs.lemmas.List.Elements.{All-append}
use Rattle.gm_base.specs.Dimensions.{Dimensions}
use Rattle.gm_grid.specs.declared.grid_error.GridError.{GridError}
use Rattle.gm_grid.specs.declared.grid_error.GridError.TheVariants.{BadSize}
use Rattle.gm_base.specs.declared.limits.TheConstants.{MAX_CHUNKS}
use Rattle.gm_base.specs.ChunkCounts.{chunk_count}
use Rattle.gm_label.specs.declared.plan.PlanError.{PlanError}
use Rattle.gm_label.specs.declared.plan.PlanError.TheVariants as plan_errors
use Rattle.gm_label.specs.Chunks.{too_many_chunks}
use Rattle.gm_grid.specs.declared.grid_error.GridError.TheVariants as grid_errors
use Rattle.gm_grid.specs.declared.grid_error.IndexError.{IndexError}
use Rattle.gm_grid.specs.declared.grid_error.IndexError.TheVariants as index_errors
use Rattle.std.specs.Prelude.{◌↔◌, nat_lt, if◌then◌else◌}
use Rattle.gm_grid.specs.GridBytes.{shape_of_head, counts_of_index, counts_in, index_size}
use Rattle.gm_grid.specs.GridRefusals.{grid_refusal, index_refusal, refusal_by_head, refusal_by_index, refusal_by_chunks}
use Rattle.gm_grid.specs.GridRefusalsRules.{refusal_by_head-short, refusal_by_index-index, refused_by_head, refused_by_index}
use Rattle.gm_source.specs.Openings.{AreBytes, HasHead, HasIndex, IsRefusedByIndex, IsRefusedByChunks}

-- a file of so many bytes that begins with these
abbrev pub Begins : ℕ → List ℕ → List ℕ → Type 0
Begins size head bytes = (length bytes ≡ size) × (head ≡ take 16 bytes)

pub too_short : (chunk_size size : ℕ) (bytes : List ℕ) → size < 16 → length bytes ≡ size → grid_refusal chunk_size bytes ≡ Some (BadSize size 16)
too_short chunk_size size bytes short long =
    refused_by_head chunk_size bytes (BadSize size 16)
    (refusal_by_head-short (length bytes) (take 16 bytes) (omega (arith, long)) ∙ ap (λ (k : ℕ). Some (BadSize k 16)) long)

pub by_head : (size : ℕ) (head bytes : List ℕ) (found : Option GridError) → refusal_by_head size head ≡ found → Begins size head bytes
    → refusal_by_head (length bytes) (take 16 bytes) ≡ found
by_head size head bytes found is begins = (λ i. refusal_by_head (begins.0 i) (sym begins.1 i)) ∙ is

pub bad_head : (chunk_size size : ℕ) (head bytes : List ℕ) (e : GridError) → refusal_by_head size head ≡ Some e → Begins size head bytes
    → grid_refusal chunk_size bytes ≡ Some e
bad_head chunk_size size head bytes e refused begins = refused_by_head chunk_size bytes e (by_head size head bytes (Some e) refused begins)

pub good_head : (size : ℕ) (head bytes : List ℕ) (shape : Dimensions) → refusal_by_head size head ≡ None → shape ≡ shape_of_head head
    → AreBytes head → Begins size head bytes → HasHead shape bytes
good_head size head bytes shape taken is small begins = record {
  taken = by_head size head bytes None taken begins;
  is = is ∙ ap shape_of_head begins.1;
  small = subst AreBytes begins.1 small;
}

-- a file of so many bytes with this head that has these bytes behind it
pub record Indexed (size : ℕ) (shape : Dimensions) (piece bytes : List ℕ) : Type 0 where
  pub long : length bytes ≡ size
  pub head : HasHead shape bytes
  pub counts_are : counts_of_index piece ≡ counts_in bytes

pub indexed : (size : ℕ) (shape : Dimensions) (piece bytes : List ℕ) → length piece ≡ index_size shape
    → ((length bytes ≡ size) × HasHead shape bytes) × ((16 + length piece ≤ length bytes) × (piece ≡ take (length piece) (drop 16 bytes)))
    → Indexed size shape piece bytes
indexed size shape piece bytes whole told = record {
  long = told.0.0;
  head = told.0.1;
  counts_are = ap counts_of_index (told.1.1 ∙ (λ i. take ((whole ∙ ap index_size told.0.1.is) i) (drop 16 bytes)));
}

pub bad_index : (chunk_size size : ℕ) (shape : Dimensions) (piece bytes : List ℕ) (e : GridError) → length piece ≡ index_size shape
    → refusal_by_index size (counts_of_index piece) ≡ Some e
    → ((length bytes ≡ size) × HasHead shape bytes) × ((16 + length piece ≤ length bytes) × (piece ≡ take (length piece) (drop 16 bytes)))
    → grid_refusal chunk_size bytes ≡ Some e
bad_index chunk_size size shape piece bytes e whole refused told =
    let i = indexed size shape piece bytes whole told in
    refused_by_index chunk_size bytes e i.head.taken ((λ j. refusal_by_index (i.long j) (sym i.counts_are j)) ∙ refused)

pub good_index : (size : ℕ) (shape : Dimensions) (counts piece bytes : List ℕ) → length piece ≡ index_size shape
    → refusal_by_index size (counts_of_index piece) ≡ None → counts ≡ counts_of_index piece → AreBytes piece
    → ((length bytes ≡ size) × HasHead shape bytes) × ((16 + length piece ≤ length bytes) × (piece ≡ take (length piece) (drop 16 bytes)))
    → HasIndex shape counts bytes
good_index size shape counts piece bytes whole taken is small told =
    let i = indexed size shape piece bytes whole told in
    let behind : take (index_size shape) (drop 16 bytes) ≡ piece = ap (λ (k : ℕ). take k (drop 16 bytes)) (sym whole) ∙ sym told.1.1 in
    record {
      head = i.head;
      taken = (λ j. refusal_by_index (i.long j) (sym i.counts_are j)) ∙ taken;
      is = is ∙ i.counts_are;
      small = subst AreBytes (sym (take-add 16 (index_size shape) bytes))
          (All-append (λ (byte : ℕ). byte < 256) (take 16 bytes) (take (index_size shape) (drop 16 bytes)) i.head.small (subst AreBytes (sym behind) small));
    }

-- an index that wasn't read is refused, or there was no memory
pub refused_index : {X : Type 0} (size : ℕ) (counts : List ℕ) (result : Result X IndexError) (error : IndexError) → result ≡ Err error
    → ((e : GridError) → (result ≡ Err (index_errors.Grid e)) ↔ (index_refusal counts ≡ Some e)) → IsRefusedByIndex size counts error
refused_index size counts result (index_errors.Grid e) is each = refusal_by_index-index size counts e ((each e).0 is)
refused_index size counts result index_errors.Memory is each = tt

by_test : (b : Bool) (chunks k : ℕ) → (if b then Some chunks else None) ≡ Some k
    → (if b then Some (grid_errors.TooManyChunks chunks) else None) ≡ Some (grid_errors.TooManyChunks k)
by_test true chunks k is = let e : chunks ≡ k = cc in ap (λ (n : ℕ). Some (grid_errors.TooManyChunks n)) e
by_test false chunks k is = absurd cc

none_by_test : (b : Bool) (chunks : ℕ) → (if b then Some chunks else None) ≡ None → (if b then Some (grid_errors.TooManyChunks chunks) else None) ≡ None
none_by_test true chunks is = absurd cc
none_by_test false chunks is = refl

-- chunks that weren't planned are too many, or there was no memory
pub refused_chunks : {X : Type 0} (size : ℕ) (counts : List ℕ) (result : Result X PlanError) (error : PlanError) → result ≡ Err error
    → ((chunks : ℕ) → (result ≡ Err (plan_errors.TooManyChunks chunks)) ↔ (too_many_chunks size counts ≡ Some chunks)) → IsRefusedByChunks size counts error
refused_chunks size counts result (plan_errors.TooManyChunks chunks) is each =
    by_test (nat_lt MAX_CHUNKS (chunk_count size counts)) (chunk_count size counts) chunks ((each chunks).0 is)
refused_chunks size counts result plan_errors.Memory is each = tt

pub few_chunks : (size : ℕ) (counts : List ℕ) → too_many_chunks size counts ≡ None → refusal_by_chunks size counts ≡ None
few_chunks size counts none = none_by_test (nat_lt MAX_CHUNKS (chunk_count size counts)) (chunk_count size counts) none
