-- A block's chunks stand side by side.
use Rattle.std.proofs.Common.{◌≡◌, ℕ, zero, suc, ◌+◌, ◌-◌, ◌*◌, ◌<◌, ◌≤◌, true, false, List, [], ◌∷◌, ◌++◌, length, get_or, length-append, inl, inr, sym, ap, ◌∙◌, refl, subst, arith, drop, sum, append_assoc, drop-cons, add-one}
use Rattle.std.specs.List.{All}
use Rattle.std.proofs.lemmas.List.Sums.{sum_by-cons, sum_by-drop_more}
use Rattle.std.proofs.lemmas.Bool.{cases_lt}
use Rattle.std.proofs.lemmas.List.{get_or_append_left, get_or-append_right}
use Rattle.std.proofs.lemmas.List.Elements.{All-nil, All-cons, All-append}
use Rattle.gm_base.specs.Dimensions.{Dimensions}
use Rattle.gm_base.specs.declared.limits.TheConstants.{MAX_CHUNKS, MAX_EDGES, MAX_CHUNK_SIZE}
use Rattle.gm_label.specs.declared.chunk.Place.{Place}
use Rattle.gm_label.specs.Chunks.{cut_rest, before_last, chunks_of_block, chunks_from, chunks_of}
use Rattle.gm_label.specs.ChunksRules.{sizes_fit, length-cut_rest}
use Rattle.gm_label.specs.Catalogues.{no_place}
use Rattle.gm_label.specs.Stored.{IsBlockRange, IsSmall, IsIndexed, firsts_from}

length-firsts : (size at : ℕ) (counts : List ℕ) → length (firsts_from size at counts) ≡ length counts + 1
length-firsts size at [] = omega arith
length-firsts size at (count ∷ counts) = let ih = length-firsts size (at + (before_last size count + 1)) counts in omega arith

block_at : (size block first rest more c : ℕ) → c ≤ more → (get_or (cut_rest size block first rest more) c no_place).block ≡ block
block_at size block first rest zero zero h = refl
block_at size block first rest zero (suc c) h = absurd (omega arith)
block_at size block first rest (suc more) zero h = refl
block_at size block first rest (suc more) (suc c) h = block_at size block (first + size) rest more c (omega arith)

last_at : (size block first rest more : ℕ) → (get_or (cut_rest size block first rest more) more no_place).is_last ≡ true
last_at size block first rest zero = refl
last_at size block first rest (suc more) = last_at size block (first + size) rest more

not_last_at : (size block first rest more c : ℕ) → c < more → (get_or (cut_rest size block first rest more) c no_place).is_last ≡ false
not_last_at size block first rest zero c h = absurd (omega arith)
not_last_at size block first rest (suc more) zero h = refl
not_last_at size block first rest (suc more) (suc c) h = not_last_at size block (first + size) rest more c (omega arith)

-- the first block's chunks stand in front ..
at_front : (size block first count : ℕ) (counts : List ℕ) (c : ℕ) → c ≤ before_last size count
    → get_or (chunks_from size block first (count ∷ counts)) c no_place ≡ get_or (chunks_of_block size block first count) c no_place
at_front size block first count counts c low =
    let long = length-cut_rest size block first (count - size * before_last size count) (before_last size count) in
    get_or_append_left (chunks_of_block size block first count) (chunks_from size (block + 1) (first + count) counts) no_place c (omega arith)

-- .. and those of the other blocks behind them
at_back : (size block first count : ℕ) (counts : List ℕ) (c : ℕ) → before_last size count + 1 ≤ c
    → get_or (chunks_from size block first (count ∷ counts)) c no_place
    ≡ get_or (chunks_from size (block + 1) (first + count) counts) (c - (before_last size count + 1)) no_place
at_back size block first count counts c high =
    get_or-append_right (chunks_of_block size block first count) (chunks_from size (block + 1) (first + count) counts) (before_last size count + 1) c no_place
    (length-cut_rest size block first (count - size * before_last size count) (before_last size count)) high

length-more : (size block first count : ℕ) (counts : List ℕ)
    → length (chunks_from size block first (count ∷ counts)) ≡ before_last size count + 1 + length (chunks_from size (block + 1) (first + count) counts)
length-more size block first count counts =
    let long = length-cut_rest size block first (count - size * before_last size count) (before_last size count) in
    length-append (chunks_of_block size block first count) (chunks_from size (block + 1) (first + count) counts) ∙ omega arith

-- later blocks have greater numbers
later_blocks : (size block first : ℕ) (counts : List ℕ) (c : ℕ) → c < length (chunks_from size block first counts)
    → block ≤ (get_or (chunks_from size block first counts) c no_place).block
later_blocks size block first [] c within = absurd (omega arith)
later_blocks size block first (count ∷ counts) c within =
    let more = before_last size count in
    let all = length-more size block first count counts in
    elim (cases_lt c (more + 1)) as (λ _. block ≤ (get_or (chunks_from size block first (count ∷ counts)) c no_place).block) [
      | inl front ↦
          let is = ap (λ (p : Place). p.block) (at_front size block first count counts c (omega arith)) in
          let here = block_at size block first (count - size * more) more c (omega arith) in
          omega arith
      | inr back ↦
          let is = ap (λ (p : Place). p.block) (at_back size block first count counts c back) in
          let above = later_blocks size (block + 1) (first + count) counts (c - (more + 1)) (omega arith) in
          omega arith
    ]

-- a range behind so many chunks of earlier blocks
moved_range : (here others : List Place) (n block first last : ℕ) → length here ≡ n
    → ((c : ℕ) → c < n → (get_or here c no_place).block < block)
    → IsBlockRange others block first last → IsBlockRange (here ++ others) block (n + first) (n + last)
moved_range here others n block first last long earlier range =
    let all = length-append here others in
    let at : (c : ℕ) → n ≤ c → get_or (here ++ others) c no_place ≡ get_or others (c - n) no_place = λ c low. get_or-append_right here others n c no_place long low in
    let some = range.some in
    let fits = range.within in
    let back : (n + last) - n ≡ last = omega arith in
    record {
      some = omega arith;
      within = omega arith;
      inside = λ c low high. ap (λ (p : Place). p.block) (at c (omega arith)) ∙ range.inside (c - n) (omega arith) (omega arith);
      before = λ c less.
          elim (cases_lt c n) as (λ _. (get_or (here ++ others) c no_place).block < block) [
            | inl front ↦ subst (λ (b : ℕ). b < block) (sym (ap (λ (p : Place). p.block) (get_or_append_left here others no_place c (omega arith)))) (earlier c front)
            | inr low ↦ subst (λ (b : ℕ). b < block) (sym (ap (λ (p : Place). p.block) (at c low))) (range.before (c - n) (omega arith))
          ];
      behind = λ c more within.
          subst (λ (b : ℕ). block < b) (sym (ap (λ (p : Place). p.block) (at c (omega arith)))) (range.behind (c - n) (omega arith) (omega arith));
      the_last = ap (λ (p : Place). p.is_last) (at (n + last) (omega arith)) ∙ ap (λ k. (get_or others k no_place).is_last) back ∙ range.the_last;
      no_other = λ c low less. ap (λ (p : Place). p.is_last) (at c (omega arith)) ∙ range.no_other (c - n) (omega arith) (omega arith);
    }

first_range : (size block first count : ℕ) (counts : List ℕ)
    → IsBlockRange (chunks_from size block first (count ∷ counts)) block 0 (before_last size count)
first_range size block first count counts =
    let more = before_last size count in
    let rest = count - size * more in
    let all = length-more size block first count counts in
    let at = at_front size block first count counts in
    record {
      some = omega arith;
      within = omega arith;
      inside = λ c low high. ap (λ (p : Place). p.block) (at c high) ∙ block_at size block first rest more c high;
      before = λ c less. absurd (omega arith);
      behind = λ c back within.
          let is = ap (λ (p : Place). p.block) (at_back size block first count counts c (omega arith)) in
          let above = later_blocks size (block + 1) (first + count) counts (c - (more + 1)) (omega arith) in
          omega arith;
      the_last = ap (λ (p : Place). p.is_last) (at more (omega arith)) ∙ last_at size block first rest more;
      no_other = λ c low less. ap (λ (p : Place). p.is_last) (at c (omega arith)) ∙ not_last_at size block first rest more c less;
    }

-- the numbers in `firsts_from`, counted from where they start
firsts-shift : (size at n : ℕ) (counts : List ℕ) (k : ℕ) → k < length counts + 1
    → get_or (firsts_from size (n + at) counts) k 0 ≡ n + get_or (firsts_from size at counts) k 0
firsts-shift size at n [] zero h = refl
firsts-shift size at n [] (suc k) h = absurd (omega arith)
firsts-shift size at n (count ∷ counts) zero h = refl
firsts-shift size at n (count ∷ counts) (suc k) h =
    let turn : n + at + (before_last size count + 1) ≡ n + (at + (before_last size count + 1)) = omega arith in
    ap (λ a. get_or (firsts_from size a counts) k 0) turn ∙ firsts-shift size (at + (before_last size count + 1)) n counts k (omega arith)

firsts-next : (size at : ℕ) (counts : List ℕ) → get_or (firsts_from size at counts) 0 0 ≡ at
firsts-next size at [] = refl
firsts-next size at (count ∷ counts) = refl

record RangeAt (size block first : ℕ) (counts : List ℕ) (k : ℕ) : Type 0 where
  range : IsBlockRange (chunks_from size block first counts) (block + k) (get_or (firsts_from size 0 counts) k 0) (get_or (firsts_from size 0 counts) (k + 1) 0 - 1)
  positive : 1 ≤ get_or (firsts_from size 0 counts) (k + 1) 0

ranges : (size block first : ℕ) (counts : List ℕ) (k : ℕ) → k < length counts → RangeAt size block first counts k
ranges size block first [] k h = absurd (omega arith)
ranges size block first (count ∷ counts) zero h =
    let more = before_last size count in
    let second : get_or (firsts_from size (0 + (more + 1)) counts) 0 0 ≡ 0 + (more + 1) = firsts-next size (0 + (more + 1)) counts in
    let last : get_or (firsts_from size 0 (count ∷ counts)) (0 + 1) 0 ≡ more + 1 = second ∙ omega arith in
    let same : block ≡ block + 0 = omega arith in
    let end : more ≡ get_or (firsts_from size 0 (count ∷ counts)) (0 + 1) 0 - 1 = omega arith in
    record {
      range = subst (λ (b : ℕ). IsBlockRange (chunks_from size block first (count ∷ counts)) b 0 (get_or (firsts_from size 0 (count ∷ counts)) (0 + 1) 0 - 1)) same
          (subst (λ (l : ℕ). IsBlockRange (chunks_from size block first (count ∷ counts)) block 0 l) end (first_range size block first count counts));
      positive = omega arith;
    }
ranges size block first (count ∷ counts) (suc k) h =
    let more = before_last size count in
    let rest = count - size * more in
    let here = cut_rest size block first rest more in
    let others = chunks_from size (block + 1) (first + count) counts in
    let ih = ranges size (block + 1) (first + count) counts k (omega arith) in
    let start = get_or (firsts_from size 0 counts) k 0 in
    let next = get_or (firsts_from size 0 counts) (k + 1) 0 in
    let positive = ih.positive in
    let base : 0 + (more + 1) ≡ (more + 1) + 0 = omega arith in
    let shifted : (j : ℕ) → j < length counts + 1 → get_or (firsts_from size (0 + (more + 1)) counts) j 0 ≡ (more + 1) + get_or (firsts_from size 0 counts) j 0 =
    λ j small. ap (λ a. get_or (firsts_from size a counts) j 0) base ∙ firsts-shift size 0 (more + 1) counts j small in
    let step : suc k + 1 ≡ suc (k + 1) = omega arith in
    let first_is : (more + 1) + start ≡ get_or (firsts_from size 0 (count ∷ counts)) (suc k) 0 = sym (shifted k (omega arith)) in
    let next_is : (more + 1) + next ≡ get_or (firsts_from size 0 (count ∷ counts)) (suc k + 1) 0 =
    sym (ap (λ j. get_or (firsts_from size 0 (count ∷ counts)) j 0) step ∙ shifted (k + 1) (omega arith)) in
    let last_is : (more + 1) + (next - 1) ≡ get_or (firsts_from size 0 (count ∷ counts)) (suc k + 1) 0 - 1 = omega arith in
    let block_is : block + 1 + k ≡ block + suc k = omega arith in
    let moved = moved_range here others (more + 1) (block + 1 + k) start (next - 1) (length-cut_rest size block first rest more)
    (λ c less. let at = block_at size block first rest more c (omega arith) in omega arith) ih.range in
    record {
      range = subst (λ (b : ℕ). IsBlockRange (here ++ others) b (get_or (firsts_from size 0 (count ∷ counts)) (suc k) 0) (get_or (firsts_from size 0 (count ∷ counts)) (suc k + 1) 0 - 1)) block_is
          (subst (λ (f : ℕ). IsBlockRange (here ++ others) (block + 1 + k) f (get_or (firsts_from size 0 (count ∷ counts)) (suc k + 1) 0 - 1)) first_is
          (subst (λ (l : ℕ). IsBlockRange (here ++ others) (block + 1 + k) ((more + 1) + start) l) last_is moved));
      positive = omega arith;
    }

-- where chunks that are cut so stand
small_rest : (blocks size block first rest more : ℕ) → block < blocks → size ≤ MAX_CHUNK_SIZE → rest ≤ size → first + size * more + rest ≤ MAX_EDGES
    → All (IsSmall blocks) (cut_rest size block first rest more)
small_rest blocks size block first rest zero below short small end =
    All-cons (IsSmall blocks) (record { block = block; first = first; count = rest; is_last = true }) [] (record { block = below; end = omega arith; short = omega arith })
    (All-nil (IsSmall blocks))
small_rest blocks size block first rest (suc more) below short small end =
    let product : size * suc more ≡ size + size * more = omega arith in
    All-cons (IsSmall blocks) (record { block = block; first = first; count = size; is_last = false }) (cut_rest size block (first + size) rest more)
    (record { block = below; end = omega arith; short = short })
    (small_rest blocks size block (first + size) rest more below short small (omega arith))

small_from : (blocks size block first : ℕ) (counts : List ℕ) → 1 ≤ size → size ≤ MAX_CHUNK_SIZE → block + length counts ≤ blocks → first + sum counts ≤ MAX_EDGES
    → All (IsSmall blocks) (chunks_from size block first counts)
small_from blocks size block first [] some short within few = All-nil (IsSmall blocks)
small_from blocks size block first (count ∷ counts) some short within few =
    let all = sum_by-cons (λ (x : ℕ). x) count counts in
    let fit = sizes_fit size count some in
    let whole = fit.0 in
    All-append (IsSmall blocks) (chunks_of_block size block first count) (chunks_from size (block + 1) (first + count) counts)
    (small_rest blocks size block first (count - size * before_last size count) (before_last size count) (omega arith) short fit.1 (omega arith))
    (small_from blocks size (block + 1) (first + count) counts some short (omega arith) (omega arith))

indexed : (d : Dimensions) (size : ℕ) (counts : List ℕ) → length counts ≡ d.parts * d.parts → sum counts ≤ MAX_EDGES → 1 ≤ size → size ≤ MAX_CHUNK_SIZE
    → length (chunks_of size counts) ≤ MAX_CHUNKS → IsIndexed d (chunks_of size counts) (firsts_from size 0 counts)
indexed d size counts blocks edges some short few = record {
  long = length-firsts size 0 counts ∙ ap (λ n. n + 1) blocks;
  few = few;
  ranges = λ block within.
      let at = ranges size 0 0 counts block (omega arith) in
      let same : 0 + block ≡ block = omega arith in
      subst (λ (b : ℕ). IsBlockRange (chunks_of size counts) b (get_or (firsts_from size 0 counts) block 0) (get_or (firsts_from size 0 counts) (block + 1) 0 - 1)) same at.range;
  positive = λ block within. (ranges size 0 0 counts block (omega arith)).positive;
  small = small_from (d.parts * d.parts) size 0 0 counts some short (omega arith) (omega arith);
}

pub planned : (d : Dimensions) (size : ℕ) (counts firsts : List ℕ) (ps : List Place) → length counts ≡ d.parts * d.parts → sum counts ≤ MAX_EDGES → 1 ≤ size
    → size ≤ MAX_CHUNK_SIZE → length (chunks_of size counts) ≤ MAX_CHUNKS → ps ≡ chunks_of size counts → firsts ≡ firsts_from size 0 counts → IsIndexed d ps firsts
planned d size counts firsts ps blocks edges some short few places_are firsts_are =
    subst (λ (xs : List Place). IsIndexed d xs firsts) (sym places_are)
    (subst (λ (fs : List ℕ). IsIndexed d (chunks_of size counts) fs) (sym firsts_are) (indexed d size counts blocks edges some short few))

drop_one : (counts : List ℕ) (b : ℕ) → b < length counts → drop b counts ≡ get_or counts b 0 ∷ drop (b + 1) counts
drop_one counts b h = drop-cons counts b 0 h ∙ ap (λ n. get_or counts b 0 ∷ drop n counts) (sym (add-one b))

pub next_places : (size block at : ℕ) (counts : List ℕ) (ps qs all : List Place) → block < length counts
    → qs ≡ ps ++ chunks_of_block size block at (get_or counts block 0)
    → ps ++ chunks_from size block at (drop block counts) ≡ all
    → qs ++ chunks_from size (block + 1) (at + get_or counts block 0) (drop (block + 1) counts) ≡ all
next_places size block at counts ps qs all within is before =
    let rest = chunks_from size (block + 1) (at + get_or counts block 0) (drop (block + 1) counts) in
    ap (λ xs. xs ++ rest) is ∙ append_assoc ps (chunks_of_block size block at (get_or counts block 0)) rest
    ∙ ap (λ (cs : List ℕ). ps ++ chunks_from size block at cs) (sym (drop_one counts block within)) ∙ before

pub next_firsts : (size block at len : ℕ) (counts fs gs all : List ℕ) (ps qs : List Place) → block < length counts
    → qs ≡ ps ++ chunks_of_block size block at (get_or counts block 0)
    → len ≡ length ps → gs ≡ fs ++ len ∷ []
    → fs ++ firsts_from size (length ps) (drop block counts) ≡ all
    → gs ++ firsts_from size (length qs) (drop (block + 1) counts) ≡ all
next_firsts size block at len counts fs gs all ps qs within is counted pushed before =
    let count = get_or counts block 0 in
    let more = before_last size count in
    let rest = drop (block + 1) counts in
    let long = length-cut_rest size block at (count - size * more) more in
    let both = length-append ps (chunks_of_block size block at count) in
    let all_long : length qs ≡ length ps + (more + 1) = ap length is ∙ omega arith in
    ap (λ xs. xs ++ firsts_from size (length qs) rest) (pushed ∙ ap (λ n. fs ++ n ∷ []) counted)
    ∙ append_assoc fs (length ps ∷ []) (firsts_from size (length qs) rest)
    ∙ ap (λ n. fs ++ (length ps ∷ firsts_from size n rest)) all_long
    ∙ ap (λ (cs : List ℕ). fs ++ firsts_from size (length ps) cs) (sym (drop_one counts block within)) ∙ before

pub next_edges : (block at : ℕ) (counts : List ℕ) (all : ℕ) → block < length counts → at + sum (drop block counts) ≡ all
    → at + get_or counts block 0 + sum (drop (block + 1) counts) ≡ all
next_edges block at counts all within before = let one = sum_by-drop_more (λ (x : ℕ). x) counts block 0 within in omega arith
