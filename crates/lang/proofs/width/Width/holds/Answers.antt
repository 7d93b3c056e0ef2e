use Rattle.std.proofs.Common.{◌^◌, ◌<◌, ◌≤◌, arith}
use Rattle.lang.proofs.Widths.{word_within}
use Rattle.lang.proofs.width.Width.holds.Goals as goal

pub returns-then-self-ge64 : goal.returns-then-self-ge64
returns-then-self-ge64 c =
    let wide : 64 ≤ c.args.self.0 = omega arith in
    let small : c.args.n < 2 ^ c.args.self.0 = word_within c.args.self.0 c.args.n wide (omega arith) in
    grind arith
