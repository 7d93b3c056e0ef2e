-- The small texts are read by computing.
use Rattle.std.proofs.Common.{refl}
use Rattle.lang.specs.Grammar.{sum, sum_rest, product, product_rest, atom, formula, disjunction, disjunction_rest, conjunction, conjunction_rest, unit, names, declaration, declarations, condition, measured, named_statement, if_head, else_head, while_head, block, statement, procedure, procedures, program, reads}
use Rattle.lang.specs.Soundness.{find_decl, find_proc, sound_expr, sound_bool, same_sizes, sound_stmt, sound_block, sound_proc, sound}
use Rattle.lang.specs.Tokens.{words_from, token, tokens}
use Rattle.vc.specs.Texts.{ReadAs}

pub read_as : ReadAs
unfolding sum sum_rest product product_rest atom formula disjunction disjunction_rest conjunction conjunction_rest unit names declaration declarations condition measured named_statement if_head else_head while_head block statement procedure procedures program reads words_from token tokens find_decl find_proc sound_expr sound_bool same_sizes sound_stmt sound_block sound_proc sound
read_as = record { sum_read = refl; most_read = refl; exchange_read = refl; descent_read = refl; any_number_read = refl; each_other_read = refl }
