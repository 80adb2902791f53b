-- How a catalogue stands in memory: where each block's chunks begin, and the labels of all chunks in one list.
use Rattle.std.specs.Prelude.{◌≡◌, ℕ, ◌+◌, ◌-◌, ◌*◌, ◌<◌, ◌≤◌, true, false, List, [], ◌∷◌, length, take, drop, sum_by, slice_index, slice_index_or, All}
use Rattle.gm_base.specs.declared.limits.TheConstants.{MAX_CHUNKS, MAX_EDGES, MAX_CHUNK_SIZE}
use Rattle.gm_base.specs.Dimensions.{Dimensions}
use Rattle.gm_label.specs.declared.chunk.Place.{Place}
use Rattle.gm_label.specs.declared.labels.Span.{Span}
use Rattle.gm_label.specs.Chunks.{before_last}
use Rattle.gm_label.specs.Labels.{sources_of, IsLabel}
use Rattle.gm_label.specs.Catalogues.{no_place, IsSourceIn}

-- a chunk's label, by where it stands among all pairs
abbrev pub stretch : List (ℕ × ℕ) → Span → List (ℕ × ℕ)
stretch pairs span = take span.count (drop span.start pairs)

-- the labels of all chunks, and how many pairs may still come
pub record LabelTable : Type 0 where
  pub lists : List (List (ℕ × ℕ))
  pub left : ℕ

-- each label stands among the pairs, and they are no more than these
pub record AreStretches (pairs : List (ℕ × ℕ)) (spans : List Span) (left : ℕ) : Type 0 where
  pub inside : All (λ span. span.start + span.count ≤ length pairs) spans
  pub total : length pairs ≡ sum_by (λ span. span.count) spans
  pub few : length pairs + left ≤ MAX_EDGES

-- the chunks of a block are those from first to last
pub record IsBlockRange (places : List Place) (block first last : ℕ) : Type 0 where
  pub some : first ≤ last
  pub within : last < length places
  pub inside : (c : ℕ) → first ≤ c → c ≤ last → (slice_index_or places c no_place).block ≡ block
  pub before : (c : ℕ) → c < first → (slice_index_or places c no_place).block < block
  pub behind : (c : ℕ) → last < c → c < length places → block < (slice_index_or places c no_place).block
  pub the_last : (slice_index_or places last no_place).is_last ≡ true
  pub no_other : (c : ℕ) → first ≤ c → c < last → (slice_index_or places c no_place).is_last ≡ false

-- where each block's chunks begin, counted from this number, and where the next block's would
abbrev pub firsts_from : ℕ → ℕ → List ℕ → List ℕ
firsts_from size at [] = at ∷ []
firsts_from size at (count ∷ counts) = at ∷ firsts_from size (at + (before_last size count + 1)) counts

-- a chunk of one of so many blocks, with few edges
pub record IsSmall (blocks : ℕ) (place : Place) : Type 0 where
  pub block : place.block < blocks
  pub end : place.first + place.count ≤ MAX_EDGES
  pub short : place.count ≤ MAX_CHUNK_SIZE

-- firsts tells where each block's chunks begin, and where the next block's would
pub record IsIndexed (d : Dimensions) (places : List Place) (firsts : List ℕ) : Type 0 where
  pub long : length firsts ≡ d.parts * d.parts + 1
  pub few : length places ≤ MAX_CHUNKS
  pub ranges : (block : ℕ) → block < d.parts * d.parts
      → IsBlockRange places block (slice_index firsts block) (slice_index firsts (block + 1) - 1)
  pub positive : (block : ℕ) → block < d.parts * d.parts → 1 ≤ slice_index firsts (block + 1)
  pub small : All (IsSmall (d.parts * d.parts)) places

-- how many edges the chunks without a label have
abbrev pub unlabelled_edges : List Place → List (List (ℕ × ℕ)) → ℕ
unlabelled_edges [] labels = 0
unlabelled_edges (place ∷ places) [] = 0
unlabelled_edges (place ∷ places) ([] ∷ labels) = place.count + unlabelled_edges places labels
unlabelled_edges (place ∷ places) ((pair ∷ label) ∷ labels) = unlabelled_edges places labels

-- each chunk has its place among the labels, which are labels of sources of its block, and the pairs that may still come are those of
-- chunks without one
pub record AreLabelled (d : Dimensions) (places : List Place) (table : LabelTable) : Type 0 where
  pub labelled : length table.lists ≡ length places
  pub are_labels : All IsLabel table.lists
  pub in_rows : (c : ℕ) → All (IsSourceIn d (slice_index_or places c no_place).block) (sources_of (slice_index_or table.lists c []))
  pub left : table.left ≡ unlabelled_edges places table.lists
