-- What is known of a grid without its edges: its chunks and their labels.
use Rattle.std.specs.Prelude.{◌≡◌, ℕ, ◌+◌, ◌*◌, ◌/◌, ◌<◌, ◌≤◌, min, Bool, true, false, ◌&&◌, ◌==◌, List, [], ◌++◌, map, length, take, drop, sum, slice_set, slice_index_or, flat_map, count_by, All}
use Rattle.std.specs.List.{list_any, range_with_len}
use Rattle.gm_base.specs.declared.edge.Edge.{Edge}
use Rattle.gm_base.specs.Dimensions.{Dimensions, width_of, block_of}
use Rattle.gm_label.specs.declared.chunk.Place.{Place}
use Rattle.gm_label.specs.Chunks.{chunks_of, base_of, AreInBlocks}
use Rattle.gm_label.specs.Labels.{label_of, sources_of, counted_edges, IsLabel}

pub record Catalogue : Type 0 where
  pub dimensions : Dimensions
  pub places : List Place
  pub labels : List (List (ℕ × ℕ))

abbrev pub no_place : Place
no_place = record { block = 0; first = 0; count = 0; is_last = false }

-- a chunk and its label by its number
abbrev pub place_at : Catalogue → ℕ → Place
place_at cat c = slice_index_or cat.places c no_place

abbrev pub label_at : Catalogue → ℕ → List (ℕ × ℕ)
label_at cat c = slice_index_or cat.labels c []

abbrev pub sources_at : Catalogue → ℕ → List ℕ
sources_at cat c = sources_of (label_at cat c)

abbrev pub base_at : Catalogue → List Edge → ℕ → List Edge
base_at cat edges c = base_of edges (place_at cat c)

-- the chunks' numbers
abbrev pub chunk_numbers : Catalogue → List ℕ
chunk_numbers cat = range_with_len 0 (length cat.places)

-- chunks of which none has a label yet
abbrev pub unlabelled : Dimensions → List Place → Catalogue
unlabelled d places = record { dimensions = d; places = places; labels = map (λ place. []) places }

-- the catalogue of a grid whose blocks have so many edges
abbrev pub catalogue_of : Dimensions → ℕ → List ℕ → List Edge → Catalogue
catalogue_of d size counts edges =
    let places = chunks_of size counts in
    record { dimensions = d; places = places; labels = map (λ place. label_of (base_of edges place)) places }

-- chunks over these edges of which so many have their labels
abbrev pub labelled_up_to : Dimensions → List Place → List Edge → ℕ → Catalogue
labelled_up_to d places edges k = record {
  dimensions = d;
  places = places;
  labels = map (λ place. label_of (base_of edges place)) (take k places) ++ map (λ place. []) (drop k places);
}

-- the same but for one label
abbrev pub with_label : Catalogue → ℕ → List (ℕ × ℕ) → Catalogue
with_label cat c label = record cat { labels = slice_set cat.labels c label }

-- the sources of a block's edges are those from here on ..
abbrev pub first_source_of : Dimensions → ℕ → ℕ
first_source_of d block = block / d.parts * width_of d

-- .. that are below this one
abbrev pub end_source_of : Dimensions → ℕ → ℕ
end_source_of d block = min (first_source_of d block + width_of d) d.n

abbrev pub IsSourceIn : Dimensions → ℕ → ℕ → Type 0
IsSourceIn d block source = (first_source_of d block ≤ source) × (source < end_source_of d block)

-- the sources of each chunk's label are those that edges of its block may have: a block can be passed over by its row
abbrev pub AreInRows : Catalogue → Type 0
AreInRows cat = (c : ℕ) → All (IsSourceIn cat.dimensions (place_at cat c).block) (sources_at cat c)

-- what can be a chunk's label
pub record FitsChunk (cat : Catalogue) (c : ℕ) (label : List (ℕ × ℕ)) : Type 0 where
  pub is_label : IsLabel label
  pub counted : counted_edges label ≡ (place_at cat c).count
  pub in_rows : All (IsSourceIn cat.dimensions (place_at cat c).block) (sources_of label)

-- the edges of a grid whose blocks have so many edges
pub record IsCut (d : Dimensions) (counts : List ℕ) (edges : List Edge) : Type 0 where
  pub blocks : length counts ≡ d.parts * d.parts
  pub whole : sum counts ≡ length edges
  pub in_blocks : AreInBlocks d 0 counts edges

-- where edges that are added to this block go
abbrev pub is_last_of : Catalogue → ℕ → ℕ → Bool
is_last_of cat block c = (place_at cat c).is_last && (block == (place_at cat c).block)

-- what the layers above use of chunks
pub record IsOver (cat : Catalogue) (edges : List Edge) : Type 0 where
  pub joined : flat_map (base_at cat edges) (chunk_numbers cat) ≡ edges
  pub one_last : (block : ℕ) → block < cat.dimensions.parts * cat.dimensions.parts → count_by (is_last_of cat block) (chunk_numbers cat) ≡ 1
  pub no_other : (block : ℕ) → cat.dimensions.parts * cat.dimensions.parts ≤ block → count_by (is_last_of cat block) (chunk_numbers cat) ≡ 0
  pub in_range : (c : ℕ) → c < length cat.places → (place_at cat c).block < cat.dimensions.parts * cat.dimensions.parts
  pub in_block : (c : ℕ) → All (λ e. block_of cat.dimensions e ≡ (place_at cat c).block) (base_at cat edges c)
  pub listed : (c : ℕ) → All (λ e. list_any (λ s. s == e.from) (sources_at cat c) ≡ true) (base_at cat edges c)

-- the chunks of this block follow one another, from the first on and below the end, and the last of them alone is the block's last
pub record AreChunksOf (cat : Catalogue) (block first end : ℕ) : Type 0 where
  pub some : first < end
  pub within : end ≤ length cat.places
  pub here : (c : ℕ) → first ≤ c → c < end → (place_at cat c).block ≡ block
  pub before : (c : ℕ) → c < first → (place_at cat c).block < block
  pub behind : (c : ℕ) → end ≤ c → c < length cat.places → block < (place_at cat c).block
  pub last : (c : ℕ) → first ≤ c → c < end → (place_at cat c).is_last ≡ (c + 1 == end)

-- chunks before this one are of lower blocks, it is of this block, and those from it on are of this or later blocks
pub record IsFirstOf (cat : Catalogue) (block c : ℕ) : Type 0 where
  pub within : c < length cat.places
  pub here : (place_at cat c).block ≡ block
  pub before : (k : ℕ) → k < c → (place_at cat k).block < block
  pub onward : (k : ℕ) → c ≤ k → k < length cat.places → block ≤ (place_at cat k).block

-- chunks up to this one are of this or lower blocks, it alone is the last of this block, and those behind it are of later blocks
pub record IsLastOf (cat : Catalogue) (block c : ℕ) : Type 0 where
  pub within : c < length cat.places
  pub here : (place_at cat c).block ≡ block
  pub up_to : (k : ℕ) → k ≤ c → (place_at cat k).block ≤ block
  pub behind : (k : ℕ) → c < k → k < length cat.places → block < (place_at cat k).block
  pub is_last : (place_at cat c).is_last ≡ true
  pub no_other : (k : ℕ) → k < c → (place_at cat k).block ≡ block → (place_at cat k).is_last ≡ false
