-- What is read leaves fewer tokens, without a bound on depth.
use Rattle.std.proofs.Common.{List, length}
use Rattle.lang.specs.Tokens.{Token}
use Rattle.parse.specs.Unbounded.{if_head∞, while_head∞, statement∞}
use Rattle.parse.proofs.Shorter.{Shorter, if_head_shorter, while_head_shorter, statement_shorter}

pub if_head∞-shorter : (ts : List Token) → Shorter (length ts) (if_head∞ ts)
unfolding if_head∞
if_head∞-shorter ts = if_head_shorter _ ts

pub while_head∞-shorter : (ts : List Token) → Shorter (length ts) (while_head∞ ts)
unfolding while_head∞
while_head∞-shorter ts = while_head_shorter _ ts

pub statement∞-shorter : (ts : List Token) → Shorter (length ts) (statement∞ ts)
unfolding statement∞
statement∞-shorter ts = statement_shorter _ ts
