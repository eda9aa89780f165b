use Rattle.std.proofs.Common.{rules}
use Rattle.em_debugger.proofs.ToldLaws.{kept-none, kept-line}
use Rattle.em_debugger.proofs.told.kept_of.Goals as goal

pub returns-then-is_empty : goal.returns-then-is_empty
returns-then-is_empty c = kept-none c.args.text.now (search rules)

pub returns : goal.returns
returns c = kept-line c.args.text.now c.next_line.result.0.now _ c.min.result c.next_line.ensures.lines (search rules)
