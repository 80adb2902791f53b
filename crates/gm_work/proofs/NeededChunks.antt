-- The chunks that a round needs hang on the activity of vertices alone.
use Rattle.std.proofs.Common.{◌≡◌, ℕ, eqb, zero, suc, ◌+◌, ◌-◌, ◌<◌, ◌≤◌, Bool, ◌&&◌, ◌||◌, List, [], ◌∷◌, map, refl, ap, ◌∙◌, arith}
use Rattle.std.specs.List.{list_any, range_with_len, All}
use Rattle.std.proofs.lemmas.Bool.{cond_both}
use Rattle.std.proofs.lemmas.List.Elements.{All-nil, All-append, All-weaker, All-head, All-tail}
use Rattle.gm_base.specs.Dimensions.{Dimensions}
use Rattle.gm_label.specs.declared.chunk.Overlay.{Overlay}
use Rattle.gm_label.specs.Catalogues.{Catalogue, sources_at, place_at, AreInRows, IsSourceIn}
use Rattle.gm_label.specs.Overlays.{added_at, sources_under, AreOverlays}
use Rattle.gm_active.specs.Bits.{any_between}
use Rattle.gm_active.specs.Needs.{first_destination_of, end_destination_of, has_source, is_needed, needed_chunks}

-- two tests that agree at each number below n
abbrev pub AgreeBelow : ℕ → (ℕ → Bool) → (ℕ → Bool) → Type 0
AgreeBelow n f g = (v : ℕ) → v < n → f v ≡ g v

list_any-agree : (n : ℕ) (f g : ℕ → Bool) (xs : List ℕ) → AgreeBelow n f g → All (λ x. x < n) xs → list_any f xs ≡ list_any g xs
list_any-agree n f g [] agree all = refl
list_any-agree n f g (x ∷ xs) agree all =
    let rest = list_any-agree n f g xs agree (All-tail (λ y. y < n) x xs all) in
    ap (λ b. b || list_any f xs) (agree x (All-head (λ y. y < n) x xs all)) ∙ ap (λ b. g x || b) rest

range-agree : (n : ℕ) (f g : ℕ → Bool) (len from : ℕ) → AgreeBelow n f g → (zero < len → from + len ≤ n)
    → list_any f (range_with_len from len) ≡ list_any g (range_with_len from len)
range-agree n f g zero from agree end = refl
range-agree n f g (suc len) from agree end =
    let within = end (omega arith) in
    ap (λ b. b || list_any f (range_with_len (from + 1) len)) (agree from (omega arith))
    ∙ ap (λ b. g from || b) (range-agree n f g len (from + 1) agree (λ some. omega arith))

any_between-agree : (n : ℕ) (f g : ℕ → Bool) (from end : ℕ) → AgreeBelow n f g → end ≤ n → any_between f from end ≡ any_between g from end
any_between-agree n f g from end agree within = range-agree n f g (end - from) from agree (λ some. omega arith)

is_needed-agree : (d : Dimensions) (two_way : Bool) (f g : ℕ → Bool) (block : ℕ) (sources : List ℕ) → AgreeBelow d.n f g → All (λ s. s < d.n) sources
    → is_needed d two_way f block sources ≡ is_needed d two_way g block sources
is_needed-agree d two_way f g block sources agree below =
    let first = first_destination_of d block in
    let end = end_destination_of d block in
    ap (λ b. has_source sources && (b || (two_way && any_between f first end))) (list_any-agree d.n f g sources agree below)
    ∙ ap (λ b. has_source sources && (list_any g sources || (two_way && b))) (any_between-agree d.n f g first end agree (omega arith))

map-agree : {B : Type 0} (f g : ℕ → B) (xs : List ℕ) → ((x : ℕ) → f x ≡ g x) → map f xs ≡ map g xs
map-agree f g [] same = refl
map-agree f g (x ∷ xs) same = ap (λ y. y ∷ map f xs) (same x) ∙ ap (λ ys. g x ∷ ys) (map-agree f g xs same)

-- tests that agree at each vertex need the same chunks
pub needed_chunks-agree : (d : Dimensions) (two_way : Bool) (f g : ℕ → Bool) (chunks : ℕ) (block_at : ℕ → ℕ) (sources_at : ℕ → List ℕ)
    → AgreeBelow d.n f g → ((c : ℕ) → All (λ s. s < d.n) (sources_at c))
    → needed_chunks d two_way f chunks block_at sources_at ≡ needed_chunks d two_way g chunks block_at sources_at
needed_chunks-agree d two_way f g chunks block_at sources_at agree below =
    map-agree (λ c. is_needed d two_way f (block_at c) (sources_at c)) (λ c. is_needed d two_way g (block_at c) (sources_at c)) (range_with_len 0 chunks)
    (λ c. is_needed-agree d two_way f g (block_at c) (sources_at c) agree (below c))

added-below : (n : ℕ) (overlays : List Overlay) (c : ℕ) → All (λ o. All (λ s. s < n) o.added) overlays → All (λ s. s < n) (added_at overlays c)
added-below n [] c all = All-nil (λ s. s < n)
added-below n (o ∷ overlays) c all =
    cond_both (eqb o.key.chunk c) o.added (added_at overlays c) (λ xs. All (λ s. s < n) xs)
    (λ here. All-head (λ (x : Overlay). All (λ s. s < n) x.added) o overlays all)
    (λ other. added-below n overlays c (All-tail (λ (x : Overlay). All (λ s. s < n) x.added) o overlays all))

-- the sources of chunks are vertices
pub sources-below : (cat : Catalogue) (overlays : List Overlay) (c : ℕ) → AreInRows cat → AreOverlays cat overlays
    → All (λ s. s < cat.dimensions.n) (sources_under cat overlays c)
sources-below cat overlays c rows are =
    let n = cat.dimensions.n in
    All-append (λ s. s < n) (sources_at cat c) (added_at overlays c)
    (All-weaker (IsSourceIn cat.dimensions (place_at cat c).block) (λ s. s < n) (λ s within. let below = within.1 in omega arith) (sources_at cat c) (rows c))
    (added-below n overlays c are.sources)
