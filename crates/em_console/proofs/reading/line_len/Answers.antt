use Rattle.std.proofs.Common.{sym, ◌∙◌, arith, subst}
use Rattle.em_text.proofs.LinesLemmas.{first_newline, EndsFirst}
use Rattle.em_console.proofs.reading.line_len.Goals as goal

pub returns-in-Some-clause-value : goal.returns-in-Some-clause-value
returns-in-Some-clause-value c =
    let script = c.args.octets.now in
    let found = subst (EndsFirst script) (sym c.memchr_iter.ensures.value ∙ c.in-Some.ensures.steps)
    (first_newline script) in
    sym found.0

pub returns-in-Some-clause-within : goal.returns-in-Some-clause-within
returns-in-Some-clause-within c =
    let script = c.args.octets.now in
    let found = subst (EndsFirst script) (sym c.memchr_iter.ensures.value ∙ c.in-Some.ensures.steps)
    (first_newline script) in
    omega (arith, found.1)

pub returns-in-None-clause-value : goal.returns-in-None-clause-value
returns-in-None-clause-value c =
    let script = c.args.octets.now in
    sym (subst (EndsFirst script) (sym c.memchr_iter.ensures.value ∙ c.in-None.ensures.steps.0)
    (first_newline script))
