-- How a set of numbers stands in memory: a bit for each number, in words of 64 bits.
use Rattle.std.specs.Prelude.{◌≡◌, ℕ, ◌*◌, ◌/◌, ◌%◌, ◌^◌, ◌<◌, ◌≤◌, Bool, false, ◌==◌, List, map, length, slice_index}
use Rattle.std.specs.Int.{bit_at}
use Rattle.std.specs.List.{range_with_len}

-- the bit of a number
unfoldable pub has_mark : List ℕ → ℕ → Bool
has_mark words k = bit_at (slice_index words (k / 64)) (k % 64) == 1

-- the marks of so many numbers
unfoldable pub marks_of : ℕ → List ℕ → List Bool
marks_of n words = map (has_mark words) (range_with_len 0 n)

-- words for so many numbers, few enough to be told by 32 bits, in which no bit behind them is set
pub record AreWords (n : ℕ) (words : List ℕ) : Type 0 where
  pub few : n < 2 ^ 32
  pub room : n ≤ 64 * length words
  pub none_behind : (k : ℕ) → n ≤ k → has_mark words k ≡ false
