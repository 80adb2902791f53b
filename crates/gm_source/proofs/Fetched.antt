-- What was read for a chunk, where the depot tells and where it doesn't.
use Rattle.std.specs.Prelude.{◌≡◌, ℕ, ◌+◌, ◌*◌, ◌<◌, ◌≤◌, true, not, List, [], ◌∷◌, length, take, drop, All, Option, Some, None, IfSome, IsSomeAnd, Result, Ok, Err, IfOk, OnOk, IsErrAnd, refl}
use Rattle.std.specs.List.{position}
use Rattle.std.specs.FinMap.{get}
use Rattle.std.proofs.Common.{inl, inr, sym, ap, ◌∙◌, subst, arith}
use Rattle.std.proofs.lemmas.Bool.{cases_lt}
use Rattle.std.proofs.lemmas.List.Elements.{All-weaker}
use Rattle.gm_base.specs.declared.edge.Edge.{Edge}
use Rattle.gm_outside.specs.Files.{Files, HasRange, HasBytesAt}
use Rattle.gm_grid.specs.declared.placement.BlockRanges.{BlockRanges}
use Rattle.gm_grid.specs.Format.{is_within, AreRangesOf, IsGrid, dimensions_of, edges_of_grid}
use Rattle.gm_grid.specs.GridBytes.{edges_of_bytes, edges_in, index_end, shape_in, grid_file_size}
use Rattle.gm_grid.specs.GridBytesRules.{edges_in-part, length-edges_of_bytes}
use Rattle.gm_label.specs.Labels.{label_of}
use Rattle.gm_label.specs.Catalogues.{Catalogue, place_at, base_at}
use Rattle.gm_source.specs.Openings.{AreBytes, Decodes}
use Rattle.gm_source.specs.declared.fetching.Found.{Found}
use Rattle.gm_source.specs.declared.fetching.Found.TheVariants.{Stray, Labels}
use Rattle.gm_source.specs.declared.fetching.FetchError.TheVariants.{Fault}
use Rattle.gm_outside.specs.declared.traits.Trouble.{Trouble}
use Rattle.gm_outside.specs.declared.traits.Trouble.TheVariants as troubles
use Rattle.gm_source.specs.Fetches.{HoldsChunk, fetch_error_of, Differs, TellsGrid, WasRead, ReadsChunk, LiesInChunk, IsUnchanged, is_in_chunk, chunk_start}
use Rattle.gm_source.proofs.ToldChunks.{IsChunkIn, chunk_in, none_fails}
use Rattle.gm_source.proofs.Decoding.{all_in, in_block-means}

no_edges : (edges : List Edge) → length edges ≡ 0 → edges ≡ []
no_edges [] none = refl
no_edges (e ∷ edges) none = absurd (omega arith)

-- the edges of a file's bytes at a chunk's place are the chunk's
at_place : (bytes piece : List ℕ) (cat : Catalogue) (c : ℕ) → IsChunkIn bytes c cat → length piece ≡ 12 * (place_at cat c).count
    → piece ≡ take (length piece) (drop (chunk_start cat c) bytes) → edges_of_bytes piece ≡ base_at cat (edges_in bytes) c
at_place bytes piece cat c is long at =
    ap edges_of_bytes (at
    ∙ (λ i. take (long i) (drop (index_end (is.shape i) + 12 * (place_at cat c).first) bytes)))
    ∙ edges_in-part (place_at cat c).first (place_at cat c).count bytes

at_told : (told : Option Files) (held : Files) (name bytes piece : List ℕ) (pos : ℕ) → told ≡ Some held → get held name ≡ Some bytes
    → IfSome told (λ held. HasBytesAt held name pos piece) → piece ≡ take (length piece) (drop pos bytes)
at_told told held name bytes piece pos is there at =
    let found : IsSomeAnd (get held name) (λ bytes. (pos + length piece ≤ length bytes) × (piece ≡ take (length piece) (drop pos bytes))) =
    subst (λ (told : Option Files). IfSome told (λ held. HasBytesAt held name pos piece)) is at in
    (subst (λ (file : Option (List ℕ)). IsSomeAnd file (λ bytes. (pos + length piece ≤ length bytes) × (piece ≡ take (length piece) (drop pos bytes)))) there found).1

-- where the depot tells, the chunk's edges were read
pub told_read : (told : Option Files) (name bytes : List ℕ) (cat : Catalogue) (c : ℕ) (read : List Edge) → TellsGrid told name cat bytes
    → IsChunkIn bytes c cat → WasRead told name cat c read → read ≡ base_at cat (edges_in bytes) c
told_read told name bytes cat c read tells is was =
    was.is ∙ elim (cases_lt 0 (place_at cat c).count) as (λ _. edges_of_bytes was.bytes ≡ base_at cat (edges_in bytes) c) [
      | inl some ↦ at_place bytes was.bytes cat c is was.long
          (at_told told tells.files name bytes was.bytes (chunk_start cat c) tells.is_told tells.there (was.place some))
      | inr none ↦
          let zero : (place_at cat c).count ≡ 0 = omega arith in
          no_edges (edges_of_bytes was.bytes) (length-edges_of_bytes was.bytes ∙ omega (arith, was.long))
          ∙ sym (ap (λ (k : ℕ). take k (drop (place_at cat c).first (edges_in bytes))) zero)
    ]

-- a file's own edges are kept, and none is stray
kept_all : (told : Option Files) (name bytes : List ℕ) (cat : Catalogue) (c : ℕ) (kept : List Edge) (stray : Option Edge) (read : List Edge)
    → IsChunkIn bytes c cat → read ≡ base_at cat (edges_in bytes) c → Decodes (is_in_chunk cat c) read kept stray → IsUnchanged bytes cat c kept stray
kept_all told name bytes cat c kept None read is base decoded = record {
  none = refl;
  base = decoded.0 ∙ base;
  label = ap label_of (decoded.0 ∙ base) ∙ sym is.label;
}
kept_all told name bytes cat c kept (Some stray) read is base decoded =
    let passed : position (λ e. not (is_in_chunk cat c e)) read ≡ None =
    ap (position (λ e. not (is_in_chunk cat c e))) base ∙ none_fails (is_in_chunk cat c) (base_at cat (edges_in bytes) c) is.placed in
    absurd cc

pub unchanged : (told : Option Files) (name bytes : List ℕ) (cat : Catalogue) (c : ℕ) (kept : List Edge) (stray : Option Edge)
    → TellsGrid told name cat bytes → IsChunkIn bytes c cat → ReadsChunk told name cat c kept stray → IsUnchanged bytes cat c kept stray
unchanged told name bytes cat c kept stray tells is reads =
    kept_all told name bytes cat c kept stray reads.read is (told_read told name bytes cat c reads.read tells is reads.from) reads.decoded

-- a chunk of a file's bytes stands whole in the file
pub in_range : (told : Option Files) (held : Files) (name bytes : List ℕ) (cat : Catalogue) (c : ℕ) → TellsGrid told name cat bytes
    → IsChunkIn bytes c cat → told ≡ Some held → HasRange held name (chunk_start cat c) (12 * (place_at cat c).count)
in_range told held name bytes cat c tells is told_is =
    let same : tells.files ≡ held = cc in
    let there : get held name ≡ Some bytes = subst (λ (files : Files). get files name ≡ Some bytes) same tells.there in
    subst (λ (file : Option (List ℕ)). IsSomeAnd file (λ bytes. chunk_start cat c + 12 * (place_at cat c).count ≤ length bytes)) (sym there) (omega (arith, is.end))

-- edges that were decoded by a block's ranges, by the test of the block
pub in_chunk : (cat : Catalogue) (c : ℕ) (ranges : BlockRanges) (read kept : List Edge) (stray : Option Edge)
    → AreRangesOf cat.dimensions (place_at cat c).block ranges → Decodes (is_within ranges) read kept stray → Decodes (is_in_chunk cat c) read kept stray
in_chunk cat c ranges read kept stray are decoded = subst (λ is_in. Decodes is_in read kept stray) (λ i e. are e i) decoded

-- where none was stray all edges were kept, and they lie in the chunk's block
pub record IsWhole (told : Option Files) (name : List ℕ) (cat : Catalogue) (c : ℕ) (kept : List Edge) : Type 0 where
  pub from : WasRead told name cat c kept
  pub count : length kept ≡ (place_at cat c).count
  pub none : position (λ e. not (is_in_chunk cat c e)) kept ≡ None
  pub placed : All (LiesInChunk cat c) kept

length_read : (told : Option Files) (name : List ℕ) (cat : Catalogue) (c : ℕ) (read : List Edge) → WasRead told name cat c read → length read ≡ (place_at cat c).count
length_read told name cat c read was = ap length was.is ∙ length-edges_of_bytes was.bytes ∙ omega (arith, was.long)

whole_of : (told : Option Files) (name : List ℕ) (cat : Catalogue) (c : ℕ) (kept : List Edge) → ReadsChunk told name cat c kept None → IsWhole told name cat c kept
whole_of told name cat c kept reads =
    let was : WasRead told name cat c kept = subst (λ (edges : List Edge). WasRead told name cat c edges) (sym reads.decoded.0) reads.from in
    let none : position (λ e. not (is_in_chunk cat c e)) kept ≡ None = ap (position (λ e. not (is_in_chunk cat c e))) reads.decoded.0 ∙ reads.decoded.1 in
    record {
      from = was;
      count = length_read told name cat c kept was;
      none = none;
      placed = All-weaker (λ e. is_in_chunk cat c e ≡ true) (LiesInChunk cat c) (λ e is. in_block-means cat.dimensions (place_at cat c).block e is) kept
          (all_in (is_in_chunk cat c) kept none);
    }

pub whole : (told : Option Files) (name : List ℕ) (cat : Catalogue) (c : ℕ) (kept : List Edge) (stray : Option Edge) → stray ≡ None
    → ReadsChunk told name cat c kept stray → IsWhole told name cat c kept
whole told name cat c kept stray is reads =
    whole_of told name cat c kept (subst (λ (stray : Option Edge). ReadsChunk told name cat c kept stray) is reads)

-- what the laws of grids tell of a told file
pub told_chunk : (told : Option Files) (name bytes : List ℕ) (cat : Catalogue) (c : ℕ)
    → ((bytes : List ℕ) (n parts : ℕ) (blocks : List (List Edge)) → IsGrid bytes n parts blocks → shape_in bytes ≡ dimensions_of n parts)
    → ((bytes : List ℕ) (n parts : ℕ) (blocks : List (List Edge)) → IsGrid bytes n parts blocks → edges_in bytes ≡ edges_of_grid blocks)
    → ((bytes : List ℕ) (n parts : ℕ) (blocks : List (List Edge)) → IsGrid bytes n parts blocks
    → length bytes ≡ grid_file_size (length blocks) (length (edges_of_grid blocks)))
    → TellsGrid told name cat bytes → c < length cat.places → IsChunkIn bytes c cat
told_chunk told name bytes cat c shape edges size tells within =
    let k = tells.catalogue in
    chunk_in bytes tells.size c cat k
    (record { shape = shape bytes k.n k.parts k.blocks k.grid; edges = edges bytes k.n k.parts k.blocks k.grid; size = size bytes k.n k.parts k.blocks k.grid }) within

-- a file's own range is there, so that reading it doesn't fail
pub none_fails_in_range : (told : Option Files) (name bytes : List ℕ) (cat : Catalogue) (c : ℕ) (Fails : Type 0) → TellsGrid told name cat bytes
    → IsChunkIn bytes c cat → IfSome told (λ held. HoldsChunk held name cat c → Fails → ⊥) → Fails → ⊥
none_fails_in_range told name bytes cat c Fails tells is never =
    subst (λ (told : Option Files). IfSome told (λ held. HoldsChunk held name cat c → Fails → ⊥)) tells.is_told never
    (in_range told tells.files name bytes cat c tells is tells.is_told)

-- a range by its place and length
pub in_chunk_range : (told : Option Files) (name : List ℕ) (pos start room many : ℕ) (Fails : Type 0) → pos ≡ start → room ≡ many
    → IfSome told (λ held. HasRange held name pos room → Fails → ⊥) → IfSome told (λ held. HasRange held name start many → Fails → ⊥)
in_chunk_range told name pos start room many Fails at wide never =
    subst (λ (p : ℕ). IfSome told (λ held. HasRange held name p many → Fails → ⊥)) at
    (subst (λ (k : ℕ). IfSome told (λ held. HasRange held name pos k → Fails → ⊥)) wide never)

bytes_at : (told : Option Files) (name bytes : List ℕ) (pos start : ℕ) (Read : Type 0) → Read → pos ≡ start
    → IfSome told (λ held. Read → HasBytesAt held name pos bytes) → IfSome told (λ held. HasBytesAt held name start bytes)
bytes_at None name bytes pos start Read read same at = tt
bytes_at (Some held) name bytes pos start Read read same at = subst (λ (p : ℕ). HasBytesAt held name p bytes) same (at read)

-- a buffer as long as the chunk, filled from the chunk's place on and decoded by its block's ranges
pub reads_chunk : {E : Type 0} (told : Option Files) (name : List ℕ) (cat : Catalogue) (c : ℕ) (ranges : BlockRanges) (pos room : ℕ) (bytes : List ℕ)
    (kept : List Edge) (result : Result (Option Edge) E) → AreRangesOf cat.dimensions (place_at cat c).block ranges → pos ≡ chunk_start cat c
    → room ≡ 12 * (place_at cat c).count → length bytes ≡ room → AreBytes bytes → IfOk result (λ stray. Decodes (is_within ranges) (edges_of_bytes bytes) kept stray)
    → IfSome told (λ held. 0 < room → OnOk result (HasBytesAt held name pos bytes)) → IfOk result (λ stray. ReadsChunk told name cat c kept stray)
reads_chunk told name cat c ranges pos room bytes kept (Ok stray) are at wide long small decoded filled = record {
  read = edges_of_bytes bytes;
  from = record {
    bytes = bytes;
    is = refl;
    long = long ∙ wide;
    small = small;
    place = λ some. bytes_at told name bytes pos (chunk_start cat c) (0 < room) (omega arith) at filled;
  };
  decoded = in_chunk cat c ranges (edges_of_bytes bytes) kept stray are decoded;
}
reads_chunk told name cat c ranges pos room bytes kept (Err e) are at wide long small decoded filled = tt

pub unchanged_ok : {E : Type 0} (told : Option Files) (name bytes : List ℕ) (cat : Catalogue) (c : ℕ) (kept : List Edge) (result : Result (Option Edge) E)
    → TellsGrid told name cat bytes → IsChunkIn bytes c cat → IfOk result (λ stray. ReadsChunk told name cat c kept stray)
    → IfOk result (λ stray. IsUnchanged bytes cat c kept stray)
unchanged_ok told name bytes cat c kept (Ok stray) tells is reads = unchanged told name bytes cat c kept stray tells is reads
unchanged_ok told name bytes cat c kept (Err e) tells is reads = tt

-- what is found differs from a file's own edges
pub none_found : (told : Option Files) (name bytes : List ℕ) (cat : Catalogue) (c : ℕ) (kept : List Edge) (stray : Option Edge) (found : Found)
    → IsWhole told name cat c kept → IsUnchanged bytes cat c kept stray → Differs cat c kept found → ⊥
none_found told name bytes cat c kept stray (Stray index e) all same differs =
    let none = all.none in
    let some = differs.1 in
    absurd cc
none_found told name bytes cat c kept stray (Labels had has) all same differs =
    differs.3 (differs.1 ∙ sym same.label ∙ sym differs.2)

pub none_is_some : {T : Type 0} (found : Option T) (x : T) → found ≡ None → found ≡ Some x → ⊥
none_is_some found x none some = absurd cc

-- a fault is told only of a call that failed
pub fault_of : (trouble : Trouble) → Fault ≡ fetch_error_of trouble → trouble ≡ troubles.Failed
fault_of troubles.Failed is = refl
fault_of troubles.Memory is = absurd cc

pub err_is : {T E : Type 0} (result : Result T E) (P : E → Type 0) (e : E) → result ≡ Err e → IsErrAnd result P → P e
err_is {T = T} {E = E} result P e is all = subst (λ (r : Result T E). IsErrAnd r P) is all
