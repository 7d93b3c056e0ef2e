use Rattle.std.proofs.Common.{true, false, Some, None, sym, refl}
use Rattle.lang.proofs.Lexing.{token_digit, token_other}
use Rattle.lang.proofs.scan.kinds.kind.Goals as goal

pub returns-in-Some : goal.returns-in-Some
returns-in-Some c = let is = c.in-Some.ensures in rw (sym is) (token_digit _ (Some _) c.if-is_digit.ensures is)

pub returns-in-None : goal.returns-in-None
returns-in-None c = token_digit _ None c.if-is_digit.ensures c.in-None.ensures

pub returns-in-Some-fixed_word : goal.returns-in-Some-fixed_word
returns-in-Some-fixed_word c = token_other _ (Some c.in-Some-fixed_word.f) _ c.if-is_digit.ensures c.in-Some-fixed_word.ensures refl

pub returns-in-None-fixed_word : goal.returns-in-None-fixed_word
returns-in-None-fixed_word c = token_other _ None true c.if-is_digit.ensures c.in-None-fixed_word.ensures c.if-is_letter.ensures

pub returns-in-None-2 : goal.returns-in-None-2
returns-in-None-2 c = token_other _ None false c.if-is_digit.ensures c.in-None-2.ensures c.if-is_letter.ensures
