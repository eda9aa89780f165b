use Rattle.em_kept.proofs.LineLaws.{text_lines}
use Rattle.em_kept.proofs.laws.lines_stay_lines.Goals as goal

pub returns : goal.returns
returns c = text_lines
