-- What a `?` hands on.
use Rattle.std.proofs.Common.{IsErrAnd, Ok, Err, Result, MatchResult}

pub handed_on : {T E : Type 0} {R : E → Type 0} (r : Result T E) (P : T → Type 0) (Q : E → Type 0) → IsErrAnd r R → ((y : E) → R y → Q y) → MatchResult r P Q
handed_on (Ok x) P Q h f = absurd h
handed_on (Err y) P Q h f = f y h
