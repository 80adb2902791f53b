-- The block of highest priority, of rows of needed blocks.
use Rattle.std.specs.Prelude.{◌≡◌, ◌<◌, ◌≤◌, ℕ, ◌*◌, ◌&&◌, nat_lt, nat_le, Bool, false, List, map, count_by, fold, min, filter, find, Option, slice_index_or}
use Rattle.std.specs.List.{list_all, range_with_len}

-- whether a row has a block
abbrev pub has : ℕ → List Bool → Bool
has block row = slice_index_or row block false

-- how many blocks a row has
abbrev pub blocks_in : List Bool → ℕ
blocks_in row = count_by (λ is_needed. is_needed) row

-- how many rows have a block
abbrev pub rows_with : List (List Bool) → ℕ → ℕ
rows_with rows block = count_by (has block) rows

-- the least number of blocks that a row with this block has, which is at most the number of all blocks
abbrev pub fewest_with : ℕ → List (List Bool) → ℕ → ℕ
fewest_with blocks rows block = fold min blocks (map blocks_in (filter (has block) rows))

-- whether rows / fewest of a block is at least that of another, as whole numbers
abbrev pub is_at_least : ℕ → List (List Bool) → ℕ → ℕ → Bool
is_at_least blocks rows block other =
    nat_le (rows_with rows other * fewest_with blocks rows block) (rows_with rows block * fewest_with blocks rows other)

-- whether some row has the block, and no block has more rows / fewest
abbrev pub is_greatest : ℕ → List (List Bool) → ℕ → Bool
is_greatest blocks rows block = nat_lt 0 (rows_with rows block) && list_all (is_at_least blocks rows block) (range_with_len 0 blocks)

-- the lowest such block
abbrev pub pick_of : ℕ → List (List Bool) → Option ℕ
pick_of blocks rows = find (is_greatest blocks rows) (range_with_len 0 blocks)

-- of the blocks below an end, this one is the lowest of the greatest rows / fewest; where no row has one of them, its rows are 0
pub record IsBest (blocks : ℕ) (rows : List (List Bool)) (end block many fewest : ℕ) : Type 0 where
  pub none : many ≡ 0 → fewest ≡ 1
  pub within : 0 < many → block < end
  pub rows_here : 0 < many → many ≡ rows_with rows block
  pub fewest_here : 0 < many → fewest ≡ fewest_with blocks rows block
  pub greatest : (other : ℕ) → other < end → rows_with rows other * fewest ≤ many * fewest_with blocks rows other
  pub lowest : (other : ℕ) → other < block → rows_with rows other * fewest < many * fewest_with blocks rows other
