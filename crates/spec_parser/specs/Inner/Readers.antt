-- What a reader has before it.
use Rattle.std.specs.Prelude.{◌≡◌, ℕ, ◌+◌, ◌<◌, ◌^◌, List, ◌∷◌, ◌++◌, length, drop, Result, Ok, Err}
use Rattle.iso_lexer.specs.declared.token.At.{At}
use Rattle.iso_lexer.specs.SpecTokens.{SpecToken, at_views}
use Rattle.spec_parser.specs.declared.fault.Stop.{Stop}
use Rattle.spec_parser.specs.declared.fault.Halt.{Halt}
use Rattle.spec_parser.specs.declared.fault.Halt.TheVariants as halts
use Rattle.spec_parser.specs.declared.reader.Reader.{Reader}
use Rattle.spec_parser.specs.Inner.Places.{text_start}
use Rattle.spec_parser.specs.Inner.Stopping.{Rest, Read, place}

abbrev pub rest_of : Reader → Rest
rest_of r = (record { blocks = r.blocks; sessions = r.sessions; steps = r.steps }, at_views (drop r.at r.tokens.now))

-- the byte at which the file ends
abbrev pub end_of : Reader → ℕ
end_of r = r.end

-- the reader stands before this token
pub record IsNext (t : At SpecToken) (r : Reader) : Type 0 where
  pub within : r.at < length r.tokens.now
  pub next : at_views (drop r.at r.tokens.now) ≡ t ∷ at_views (drop (r.at + 1) r.tokens.now)
  pub fits : text_start t < 2 ^ 64

-- the tokens are the same
pub record Same (old new : Reader) : Type 0 where
  pub tokens : new.tokens.now ≡ old.tokens.now
  pub end : new.end ≡ old.end

abbrev pub StopsAt : ℕ → Stop → List (At SpecToken) → Halt → Type 0
StopsAt end stop ts h = h ≡ halts.At stop (place end ts)

abbrev pub FailsAs : {Y : Type 0} → ℕ → Halt → Read Y → Type 0
FailsAs end halts.Memory read = Unit {0}
FailsAs end (halts.At stop at) read = (read.0 ≡ Err stop) × (at ≡ place end read.1.1)

-- what was returned, seen so, is what reading gives; or memory ran out
abbrev pub Gives : {X Y : Type 0} → ℕ → (X → Y × Rest) → Result X Halt → Read Y → Type 0
Gives end view (Ok x) read = read ≡ (Ok (view x).0, (view x).1)
Gives end view (Err h) read = FailsAs end h read

-- what is read behind these
abbrev pub behind : {A : Type 0} → List A → Read (List A) → Read (List A)
behind xs (Ok ys, rest) = (Ok (xs ++ ys), rest)
behind xs (Err s, rest) = (Err s, rest)
