use Rattle.std.proofs.Common.{◌∙◌, ap, sym, Some}
use Rattle.em_debugger.proofs.AddingLaws.{again_more, line_there}
use Rattle.em_debugger.proofs.deeper.do_again.Goals as goal

pub unreachable-requires : goal.unreachable-requires
unreachable-requires c =
    line_there c.args.line c.args.tape.now.did c.requires.some c.requires.known
    (sym c.performed_by.ensures ∙ c.in_default.is)

pub returns-then-did_so : goal.returns-then-did_so
returns-then-did_so c settings h =
    again_more settings c.args.tape.now c.args.deep.now c.add_again.new.deep c.perform_next.new.self c.args.line
    c.in-Some.did c.requires.some c.requires.known c.requires.there (sym c.performed_by.ensures ∙ c.in-Some.is)
    (rw c.text_of.ensures at c.in_ok-add_again.ensures) (rw c.in-Ok-Some.field-0-is at c.in-Ok-Some.ensures.ok)
    (c.did_so.ensures c.if-did_so.true ∙ ap (λ d. Some d) c.did_again.ensures) c.holds.ensures h
