use Rattle.std.proofs.Common.{◌≡◌, [], ◌∷◌, Some, sym, ap, ◌∙◌, subst}
use Rattle.std.proofs.lemmas.Result.{err_from_is_err_and}
use Rattle.lang.specs.Code.{code_size}
use Rattle.lang.specs.Grammar.{onward, a_name}
use Rattle.lang.specs.Instr.{scalar, name_at}
use Rattle.parse.specs.Declaring.{sized, role_instr}
use Rattle.parse.specs.Reading.{snap, Read, Paid, advanced, emitted}
use Rattle.parse.proofs.Declaring.{declared, undeclared, unnamed}
use Rattle.parse.proofs.Heads.{name_long}
use Rattle.parse.proofs.Rooms.{paid_then, room_after, paid_two}
use Rattle.parse.proofs.Shorter.{each_at, declaration_shorter}
use Rattle.parse.proofs.reader.Reader.declaration.Goals as goal

pub returns-in_err-name : goal.returns-in_err-name
returns-in_err-name c =
    let p = err_from_is_err_and c.from_residual.result c.from_residual.ensures.1 in
    rw p.1 (record { reads = unnamed (snap c.args.self.now) c.in_err-name.ensures; paid = tt; shorter = tt })

pub size-requires : goal.size-requires
size-requires c =
    let text = c.args.self.now.text.now in
    let s = snap c.args.self.now in
    let x = name_at text c.in_ok-name.name.0 in
    let i = role_instr c.args.role x in
    let wrote : snap c.emit.new.self ≡ emitted i (advanced s) = c.emit.ensures ∙ (λ j. emitted (c.node.ensures (c.in_ok-name.ensures.1 j).text j) (c.in_ok-name.ensures.1 j)) in
    let named : a_name s.ahead ≡ Some (x, onward s.ahead) = c.in_ok-name.ensures.0 ∙ ap (λ t. Some (x, t.ahead)) c.in_ok-name.ensures.1 in
    let two : Paid s (emitted scalar (snap c.emit.new.self)) = subst (λ t. Paid s (emitted scalar t)) (sym wrote) (paid_two s i scalar (name_long s.ahead _ x named)) in
    room_after s _ c.requires two

pub returns-in_err-size : goal.returns-in_err-size
returns-in_err-size c =
    let p = err_from_is_err_and c.from_residual-in_err-size.result c.from_residual-in_err-size.ensures.1 in
    let text = c.args.self.now.text.now in
    let s = snap c.args.self.now in
    let x = name_at text c.in_ok-name.name.0 in
    let i = role_instr c.args.role x in
    let wrote : snap c.emit.new.self ≡ emitted i (advanced s) = c.emit.ensures ∙ (λ j. emitted (c.node.ensures (c.in_ok-name.ensures.1 j).text j) (c.in_ok-name.ensures.1 j)) in
    let named : a_name s.ahead ≡ Some (x, onward s.ahead) = c.in_ok-name.ensures.0 ∙ ap (λ t. Some (x, t.ahead)) c.in_ok-name.ensures.1 in
    let two : Paid s (emitted scalar (snap c.emit.new.self)) = subst (λ t. Paid s (emitted scalar t)) (sym wrote) (paid_two s i scalar (name_long s.ahead _ x named)) in
    let none = ap (λ t. sized x t.ahead) (sym wrote) ∙ c.in_err-size.ensures.reads x in
    rw p.1 (record { reads = undeclared s x named none; paid = tt; shorter = tt })

pub returns : goal.returns
returns c =
    let text = c.args.self.now.text.now in
    let s = snap c.args.self.now in
    let x = name_at text c.in_ok-name.name.0 in
    let i = role_instr c.args.role x in
    let wrote : snap c.emit.new.self ≡ emitted i (advanced s) = c.emit.ensures ∙ (λ j. emitted (c.node.ensures (c.in_ok-name.ensures.1 j).text j) (c.in_ok-name.ensures.1 j)) in
    let named : a_name s.ahead ≡ Some (x, onward s.ahead) = c.in_ok-name.ensures.0 ∙ ap (λ t. Some (x, t.ahead)) c.in_ok-name.ensures.1 in
    let two : Paid s (emitted scalar (snap c.emit.new.self)) = subst (λ t. Paid s (emitted scalar t)) (sym wrote) (paid_two s i scalar (name_long s.ahead _ x named)) in
    let u = snap c.size.new.self in
    let told = c.in_ok-size.ensures in
    let read = declared s u x c.args.role named (subst (λ t. Read (sized x) (λ d. code_size d ∷ []) t u) wrote (told.reads x)) in
    record { reads = read; paid = paid_then s _ u two told.paid; shorter = each_at (declaration_shorter s.ahead) read.parsed }
