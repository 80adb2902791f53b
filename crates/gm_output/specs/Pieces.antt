-- A text that is written in pieces: what of it is written already, and what is still pending.
use Rattle.std.specs.Prelude.{◌≡◌, ℕ, List, [], ◌∷◌, ◌++◌, Result, OnOk, OnErr}
use Rattle.std.specs.Borrow.{Bor}
use Rattle.gm_outside.specs.declared.traits.Trouble.{Trouble}
use Rattle.gm_outside.specs.Growth.{GrewBy, GrewByPrefix}
use Rattle.gm_outside.specs.Frames.{GivesUpWith}
use Rattle.gm_outside.specs.States.{SinkState}

-- after this text was added: what was pending and the text are what was written since and what is pending now
pub record Streams (pending pending_now text : List ℕ) (old new : SinkState) : Type 0 where
  pub sent : List ℕ
  pub parts : sent ++ pending_now ≡ pending ++ text
  pub grown : GrewBy old.written new.written sent

-- a call that adds this text to what is pending, or gives up behind a first part of both
pub record Feeds {T : Type 0} (pending pending_now text : List ℕ) (old new : SinkState) (result : Result T Trouble) : Type 0 where
  pub ok : OnOk result (Streams pending pending_now text old new)
  pub err : OnErr result (GrewByPrefix old.written new.written (pending ++ text))
  pub causes : GivesUpWith old new result

-- texts joined
abbrev pub texts_of : List (Bor (List ℕ)) → List ℕ
texts_of [] = []
texts_of (text ∷ more) = text.now ++ texts_of more
