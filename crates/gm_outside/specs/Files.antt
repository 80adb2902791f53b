-- The files of a depot: from the bytes of each name to the bytes of its file.
use Rattle.std.specs.Prelude.{◌≡◌, ℕ, ◌+◌, ◌≤◌, List, length, take, drop, Option, IsSomeAnd}
use Rattle.std.specs.Option.{option_map}
use Rattle.std.specs.Ordering.{nat_cmp}
use Rattle.std.specs.Cmp.Lexicographic.{slice_cmp}
use Rattle.std.specs.FinMap.{FinMap, get, code}
use Rattle.std.specs.Coded.{Coded, coded_ℕ, coded_list}

abbrev pub Files : Type 0
Files = FinMap (slice_cmp nat_cmp) (List ℕ)

abbrev pub files_code : Coded Files
files_code = code (coded_list coded_ℕ) (coded_list coded_ℕ)

-- the length of the file of this name, if there is one
abbrev pub size_of : Files → List ℕ → Option ℕ
size_of files name = option_map length (get files name)

-- the file is there, and `count` bytes of it from `pos` on
abbrev pub HasRange : Files → List ℕ → ℕ → ℕ → Type 0
HasRange files name pos count = IsSomeAnd (get files name) (λ bytes. pos + count ≤ length bytes)

-- the file is there, and has these bytes from `pos` on
abbrev pub HasBytesAt : Files → List ℕ → ℕ → List ℕ → Type 0
HasBytesAt files name pos piece = IsSomeAnd (get files name)
    (λ bytes. (pos + length piece ≤ length bytes) × (piece ≡ take (length piece) (drop pos bytes)))
