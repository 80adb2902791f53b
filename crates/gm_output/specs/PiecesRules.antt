-- What texts that are written in pieces, one after the other, come to.
use Rattle.std.specs.Prelude.{◌≡◌, ℕ, List, [], ◌++◌, Option, Result, Ok, Err, IsErr, refl}
use Rattle.std.specs.Result.{result_err}
use Rattle.std.proofs.Common.{append_assoc, append-nil, sym, ap, subst, ◌∙◌, rules, arith}
use Rattle.gm_outside.specs.declared.traits.Trouble.{Trouble}
use Rattle.gm_outside.specs.Growth.{GrewBy, GrewByPrefix}
use Rattle.gm_outside.specs.GrowthRules.{grew_by-nothing, grew_by-then, grew_by_prefix-then}
use Rattle.gm_outside.specs.Frames.{Writes}
use Rattle.gm_outside.specs.FramesRules.{gives_up-then, gives_up-passed_on}
use Rattle.gm_outside.specs.States.{SinkState}
use Rattle.gm_output.specs.Pieces.{Streams, Feeds}

-- no text was added
pub streams-nothing : (sink : SinkState) (pending : List ℕ) → Streams pending pending [] sink sink
streams-nothing sink pending =
    record { sent = []; parts = sym (append-nil pending); grown = grew_by-nothing sink.written }

-- what two texts are behind what was pending, of which the first was added
parts-then : (p1 p2 first second sent back : List ℕ) → sent ++ p2 ≡ p1 ++ first → back ≡ p2 ++ second
    → sent ++ back ≡ p1 ++ (first ++ second)
parts-then p1 p2 first second sent back before is =
    ap (λ rest. sent ++ rest) is
    ∙ sym (append_assoc sent p2 second)
    ∙ ap (λ front. front ++ second) before
    ∙ append_assoc p1 first second

-- one text was added and then another
pub streams-then : (old mid new : SinkState) (p1 p2 p3 first second : List ℕ)
    → Streams p1 p2 first old mid → Streams p2 p3 second mid new → Streams p1 p3 (first ++ second) old new
streams-then old mid new p1 p2 p3 first second a b = record {
  sent = a.sent ++ b.sent;
  parts = append_assoc a.sent b.sent p3 ∙ parts-then p1 p2 first second a.sent (b.sent ++ p3) a.parts b.parts;
  grown = grew_by-then a.grown b.grown;
}

-- a refusal came while the second of two texts was added
streams-then_refused : (old mid new : SinkState) (p1 p2 first second : List ℕ) → Streams p1 p2 first old mid
    → GrewByPrefix mid.written new.written (p2 ++ second) → GrewByPrefix old.written new.written (p1 ++ (first ++ second))
streams-then_refused old mid new p1 p2 first second a b = record {
  added = a.sent ++ b.added;
  rest = b.rest;
  parts = append_assoc a.sent b.added b.rest ∙ parts-then p1 p2 first second a.sent (b.added ++ b.rest) a.parts b.parts;
  grown = grew_by-then a.grown b.grown;
}

-- a refusal came in the first of two texts
refused-first : {w1 w2 : Option (List ℕ)} (pending first second : List ℕ)
    → GrewByPrefix w1 w2 (pending ++ first) → GrewByPrefix w1 w2 (pending ++ (first ++ second))
refused-first pending first second a =
    record {
      added = a.added;
      rest = a.rest ++ second;
      parts = sym (append_assoc a.added a.rest second) ∙ ap (λ text. text ++ second) a.parts ∙ append_assoc pending first second;
      grown = a.grown;
    }

-- no text was added
pub feeds-nothing : {X : Type 0} (sink : SinkState) (pending : List ℕ) (x : X) → Feeds pending pending [] sink sink (Ok x)
feeds-nothing sink pending x = record {
  ok = streams-nothing sink pending;
  err = tt;
  causes = record {
    fault = record { later = omega arith; failed = λ is. absurd cc; kept = λ _. refl };
    lack = record { later = omega arith; failed = λ is. absurd cc };
  };
}

-- one text was added, and then another was added or refused
pub feeds-then : {X T : Type 0} (old mid new : SinkState) (p1 p2 p3 first second : List ℕ) (x : X) (result : Result T Trouble)
    → Feeds p1 p2 first old mid (Ok x) → Feeds p2 p3 second mid new result
    → Feeds p1 p3 (first ++ second) old new result
feeds-then old mid new p1 p2 p3 first second x (Ok y) a b =
    record { ok = streams-then old mid new p1 p2 p3 first second a.ok b.ok; err = tt; causes = gives_up-then old mid new x (Ok y) a.causes b.causes }
feeds-then old mid new p1 p2 p3 first second x (Err trouble) a b = record {
  ok = tt;
  err = streams-then_refused old mid new p1 p2 first second a.ok b.err;
  causes = gives_up-then old mid new x (Err trouble) a.causes b.causes;
}

-- the refusal came in the first of two texts
pub feeds-refused : {X Y : Type 0} (old new : SinkState) (p1 p2 p3 first second : List ℕ) (before : Result X Trouble) (after : Result Y Trouble)
    → IsErr before → result_err after ≡ result_err before
    → Feeds p1 p2 first old new before → Feeds p1 p3 (first ++ second) old new after
feeds-refused old new p1 p2 p3 first second (Ok x) after is same a = absurd (search rules)
feeds-refused old new p1 p2 p3 first second (Err trouble) (Ok y) is same a = absurd cc
feeds-refused old new p1 p2 p3 first second (Err trouble) (Err other) is same a = record {
  ok = tt;
  err = refused-first p1 first second a.err;
  causes = gives_up-passed_on old new (Err trouble) (Err other) same a.causes;
}

-- all of a text was added from the start, and then what was pending was written or refused
pub feeds-finished : {X T : Type 0} (old mid new : SinkState) (start pending text : List ℕ) (x : X) (result : Result T Trouble)
    → start ≡ [] → Feeds start pending text old mid (Ok x) → Writes pending mid new result → Writes text old new result
feeds-finished old mid new start pending text x (Ok y) none a b = record {
  ok = subst (λ (t : List ℕ). GrewBy old.written new.written t) (a.ok.parts ∙ ap (λ front. front ++ text) none) (grew_by-then a.ok.grown b.ok);
  err = tt;
  causes = gives_up-then old mid new x (Ok y) a.causes b.causes;
}
feeds-finished old mid new start pending text x (Err trouble) none a b = record {
  ok = tt;
  err = subst (λ (t : List ℕ). GrewByPrefix old.written new.written t) (a.ok.parts ∙ ap (λ front. front ++ text) none) (grew_by_prefix-then a.ok.grown b.err);
  causes = gives_up-then old mid new x (Err trouble) a.causes b.causes;
}

-- a refusal came before the end
pub feeds-unfinished : {X T : Type 0} (old new : SinkState) (start pending text : List ℕ) (before : Result X Trouble) (after : Result T Trouble)
    → IsErr before → result_err after ≡ result_err before → start ≡ []
    → Feeds start pending text old new before → Writes text old new after
feeds-unfinished old new start pending text (Ok x) after is same none a = absurd (search rules)
feeds-unfinished old new start pending text (Err trouble) (Ok y) is same none a = absurd cc
feeds-unfinished old new start pending text (Err trouble) (Err other) is same none a =
    record { ok = tt; err = subst (λ (t : List ℕ). GrewByPrefix old.written new.written t) (ap (λ front. front ++ text) none) a.err; causes = gives_up-passed_on old new (Err trouble) (Err other) same a.causes }

-- A first part of a text was added so far, and this rest of it wasn't yet.
pub record IsFedUpTo (old : SinkState) (pending : List ℕ) (new : SinkState) (pending_now whole rest : List ℕ) : Type 0 where
  pub done : List ℕ
  pub parts : done ++ rest ≡ whole
  pub fed : Feeds {T = Unit {0}} pending pending_now done old new (Ok tt)

pub fed-none : (sink : SinkState) (pending whole : List ℕ) → IsFedUpTo sink pending sink pending whole whole
fed-none sink pending whole = record { done = []; parts = refl; fed = feeds-nothing sink pending tt }

-- one more part
pub fed-more : (s1 s2 s3 : SinkState) (p1 p2 p3 whole rest part rest' : List ℕ) (x : Unit {0})
    → rest ≡ part ++ rest' → IsFedUpTo s1 p1 s2 p2 whole rest → Feeds p2 p3 part s2 s3 (Ok x)
    → IsFedUpTo s1 p1 s3 p3 whole rest'
fed-more s1 s2 s3 p1 p2 p3 whole rest part rest' x is a b = record {
  done = a.done ++ part;
  parts = append_assoc a.done part rest' ∙ ap (λ text. a.done ++ text) (sym is) ∙ a.parts;
  fed = feeds-then s1 s2 s3 p1 p2 p3 a.done part tt (Ok tt) a.fed b;
}

-- one more part was added or refused, and it was the last
pub fed-last : {T : Type 0} (s1 s2 s3 : SinkState) (p1 p2 p3 whole rest : List ℕ) (result : Result T Trouble)
    → IsFedUpTo s1 p1 s2 p2 whole rest → Feeds p2 p3 rest s2 s3 result
    → Feeds p1 p3 whole s1 s3 result
fed-last s1 s2 s3 p1 p2 p3 whole rest result a b =
    subst (λ (t : List ℕ). Feeds p1 p3 t s1 s3 result) a.parts
    (feeds-then s1 s2 s3 p1 p2 p3 a.done rest tt result a.fed b)

-- a refusal in one more part
pub fed-refused : {X T : Type 0} (s1 s2 s3 : SinkState) (p1 p2 p3 p4 whole rest part rest' : List ℕ) (before : Result X Trouble) (after : Result T Trouble)
    → IsErr before → result_err after ≡ result_err before
    → rest ≡ part ++ rest' → IsFedUpTo s1 p1 s2 p2 whole rest → Feeds p2 p3 part s2 s3 before
    → Feeds p1 p4 whole s1 s3 after
fed-refused s1 s2 s3 p1 p2 p3 p4 whole rest part rest' before after refused same is a b =
    fed-last s1 s2 s3 p1 p2 p4 whole rest after a
    (subst (λ (t : List ℕ). Feeds p2 p4 t s2 s3 after) (sym is) (feeds-refused s2 s3 p2 p3 p4 part rest' before after refused same b))

-- all parts were added
pub fed-all : (s1 s2 : SinkState) (p1 p2 whole rest : List ℕ) → rest ≡ [] → IsFedUpTo s1 p1 s2 p2 whole rest
    → Feeds {T = Unit {0}} p1 p2 whole s1 s2 (Ok tt)
fed-all s1 s2 p1 p2 whole rest is a =
    subst (λ (t : List ℕ). Feeds {T = Unit {0}} p1 p2 t s1 s2 (Ok tt))
    (sym (append-nil a.done) ∙ ap (λ t. a.done ++ t) (sym is) ∙ a.parts) a.fed

-- texts one after the other
pub ruleset streaming = (feeds-nothing, feeds-then, feeds-refused, feeds-finished, feeds-unfinished)
