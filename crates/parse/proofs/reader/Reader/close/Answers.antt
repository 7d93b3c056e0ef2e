use Rattle.std.proofs.Common.{◌<◌, ◌≤◌, length, sym, ap, subst, arith}
use Rattle.std.proofs.lemmas.Result.{err_from_is_err_and}
use Rattle.lang.specs.declared.token.Fixed.TheVariants.{RightBrace}
use Rattle.parse.specs.InBlock.{BlockWhole}
use Rattle.parse.specs.Reading.{snap, Paid}
use Rattle.parse.proofs.Heads.{starts_long}
use Rattle.parse.proofs.InBlock.{brace_read, block_read}
use Rattle.parse.proofs.Rooms.{paid_then, paid_advance}
use Rattle.parse.proofs.reader.Reader.close.Goals as goal

pub returns-then-height-base : goal.returns-then-height-base
returns-then-height-base c =
    let s = snap c.args.self.now in
    let t = snap c.advance.new.self in
    record {
      reads = λ before b h.
          let low : length t.pending ≤ length before.pending = omega (arith, c.height.ensures, c.if-height-base.true, b) in
          block_read before t (subst (BlockWhole before) (sym c.advance.ensures) (brace_read before s h c.requires.brace)) low;
      paid = subst (Paid s) (sym c.advance.ensures) (paid_advance s (starts_long RightBrace s.ahead c.requires.brace));
      shorter = omega (arith, ap (λ r. length r.ahead) c.advance.ensures, starts_long RightBrace s.ahead c.requires.brace);
    }

pub returns-in_err-end_block : goal.returns-in_err-end_block
returns-in_err-end_block c =
    let p = err_from_is_err_and c.from_residual.result c.from_residual.ensures.1 in
    let s = snap c.args.self.now in
    let t = snap c.advance.new.self in
    rw p.1 (record {
      reads = λ before b h.
          let high : length before.pending < length t.pending = omega (arith, c.height.ensures, c.if-height-base.false, b) in
          c.in_err-end_block.ensures.reads before high (subst (BlockWhole before) (sym c.advance.ensures) (brace_read before s h c.requires.brace));
      paid = tt;
      shorter = tt;
    })

pub returns : goal.returns
returns c =
    let s = snap c.args.self.now in
    let t = snap c.advance.new.self in
    let u = snap c.end_block.new.self in
    let told = c.in_ok-end_block.ensures in
    record {
      reads = λ before b h.
          let high : length before.pending < length t.pending = omega (arith, c.height.ensures, c.if-height-base.false, b) in
          told.reads before high (subst (BlockWhole before) (sym c.advance.ensures) (brace_read before s h c.requires.brace));
      paid = paid_then s t u (subst (Paid s) (sym c.advance.ensures) (paid_advance s (starts_long RightBrace s.ahead c.requires.brace))) told.paid;
      shorter = omega (arith, told.onward, ap (λ r. length r.ahead) c.advance.ensures, starts_long RightBrace s.ahead c.requires.brace);
    }
