use Rattle.std.proofs.Common.{◌≡◌, ℕ, ◌+◌, ◌-◌, ◌*◌, ◌/◌, ◌%◌, ◌<◌, ◌≤◌, min, List, Bool, length, get_or, ap, ◌∙◌, arith}
use Rattle.std.proofs.lemmas.List.{get_or_default}
use Rattle.std.specs.Int.{bit_at, div_ceil}
use Rattle.gm_active.specs.Bits.{NoneBetween, IsLeastBetween}
use Rattle.gm_active.specs.Words.{has_mark, marks_of, AreWords}
use Rattle.gm_active.proofs.Marks.{length-marks_of}
use Rattle.gm_active.proofs.Searching.{none_up_to, marked_bit, none_in_marks, least_in_marks}
use Rattle.gm_active.proofs.bit_set.BitSet.least.Goals as goal

word_within : (n at end : ℕ) (words : List ℕ) (marks : List Bool) → AreWords n words → marks_of n words ≡ marks → end ≤ length marks → at < end / 64 + min 1 (end % 64) → at < length words
word_within n at end words marks are view within below =
    let long = length-marks_of n words in
    let same = ap (λ (ms : List Bool). length ms) view in
    let room = are.room in
    omega arith

-- none from there on before this word and in it below this bit
none_before : (words : List ℕ) (from at word low bit : ℕ) → at < length words → word ≡ get_or words at word → low ≡ from - at * 64 → NoneBetween (has_mark words) from (64 * at)
    → bit ≤ 64 → ((i : ℕ) → low ≤ i → i < bit → bit_at word i ≡ 0) → NoneBetween (has_mark words) from (64 * at + bit)
none_before words from at word low bit within is start before small none =
    none_up_to words from at word bit (is ∙ get_or_default words at word 0 within) before small (λ i above below. none i (omega arith) below)

least_here : (words : List ℕ) (from end at word low bit : ℕ) → at < length words → word ≡ get_or words at word → low ≡ from - at * 64 → NoneBetween (has_mark words) from (64 * at)
    → low ≤ bit → bit < 64 → bit_at word bit ≡ 1 → ((i : ℕ) → low ≤ i → i < bit → bit_at word i ≡ 0) → at * 64 + bit < end → IsLeastBetween (has_mark words) from end (at * 64 + bit)
least_here words from end at word low bit within is start before above small here none less =
    let place : at * 64 + bit ≡ 64 * at + bit = omega arith in
    record {
      low = omega arith;
      high = less;
      here = ap (has_mark words) place ∙ marked_bit words at word bit (is ∙ get_or_default words at word 0 within) small here;
      before = λ k low_k high_k. none_before words from at word low bit within is start before (omega arith) none k low_k (omega arith);
    }

pub index-requires : goal.index-requires
index-requires c =
    let inside = c.self.inside in
    rw inside.words.ok.0 (word_within inside.limit c.loop-at.at c.args.end inside.words.items c.args.self.now c.self.invariant c.self.view_is c.requires
    (rw c.div_ceil-at-end.ensures at c.loop-at-test.true))

pub returns-then-number-end-clause-some : goal.returns-then-number-end-clause-some
returns-then-number-end-clause-some c =
    let inside = c.self.inside in
    let within = word_within inside.limit c.loop-at.at c.args.end inside.words.items c.args.self.now c.self.invariant c.self.view_is c.requires (rw c.div_ceil-at-end.ensures at c.loop-at-test.true) in
    let found = c.in-Some.ensures in
    least_in_marks inside.limit inside.words.items c.args.self.now c.args.from c.args.end (c.loop-at.at * 64 + c.in-Some.bit) c.self.invariant c.self.view_is
    (least_here inside.words.items c.args.from c.args.end c.loop-at.at c.index.result.now c.saturating_sub.result c.in-Some.bit within c.index.ensures c.saturating_sub.ensures
    c.loop-at.invariant found.within.0 found.within.1 found.here found.before c.if-number-end.true)

pub returns-else-number-end-clause-none : goal.returns-else-number-end-clause-none
returns-else-number-end-clause-none c =
    let inside = c.self.inside in
    let within = word_within inside.limit c.loop-at.at c.args.end inside.words.items c.args.self.now c.self.invariant c.self.view_is c.requires (rw c.div_ceil-at-end.ensures at c.loop-at-test.true) in
    let found = c.in-Some.ensures in
    let past : c.args.end ≤ c.loop-at.at * 64 + c.in-Some.bit = c.if-number-end.false in
    none_in_marks inside.limit inside.words.items c.args.self.now c.args.from c.args.end c.self.invariant c.self.view_is (λ k low high.
    none_before inside.words.items c.args.from c.loop-at.at c.index.result.now c.saturating_sub.result c.in-Some.bit within c.index.ensures c.saturating_sub.ensures
    c.loop-at.invariant (omega (arith, found.within.1)) found.before k low (omega arith))

pub loop-at-preserved : goal.loop-at-preserved
loop-at-preserved c =
    let inside = c.self.inside in
    let within = word_within inside.limit c.loop-at.at c.args.end inside.words.items c.args.self.now c.self.invariant c.self.view_is c.requires (rw c.div_ceil-at-end.ensures at c.loop-at-test.true) in
    λ k low high.
    none_before inside.words.items c.args.from c.loop-at.at c.index.result.now c.saturating_sub.result 64 within c.index.ensures c.saturating_sub.ensures
    c.loop-at.invariant (omega arith) c.in_default.ensures.none k low (omega arith)

pub returns-clause-none : goal.returns-clause-none
returns-clause-none c =
    let inside = c.self.inside in
    let past : div_ceil c.args.end 64 ≤ c.loop-at.at = rw c.div_ceil-at-end.ensures at c.loop-at-test.false in
    none_in_marks inside.limit inside.words.items c.args.self.now c.args.from c.args.end c.self.invariant c.self.view_is (λ k low high. c.loop-at.invariant k low (omega arith))
