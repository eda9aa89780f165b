use Rattle.std.proofs.Common.{◌≤◌, ◌∙◌, sym, arith}
use Rattle.std.specs.Prelude.{drop}
use Rattle.em_frames.proofs.MomentLaws.{none_beyond}
use Rattle.em_frames.proofs.moment.number_in.Goals as goal

pub returns-then-number-ge-LIMIT-clause-number : goal.returns-then-number-ge-LIMIT-clause-number
returns-then-number-ge-LIMIT-clause-number c =
    let text = c.args.text.now in
    let beyond : 4294967296 ≤ c.loop-octet.number = omega arith in
    sym (c.loop-octet.invariant ∙ none_beyond c.loop-octet.number (drop c.loop-octet.octet-index text) beyond)
