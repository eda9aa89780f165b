use Rattle.std.proofs.lemmas.Result.{MatchResult-from_err}
use Rattle.em_text.proofs.WritingLemmas.{Writes-more, WritesPart-front}
use Rattle.std.proofs.Common.{◌-◌, ◌*◌, ◌/◌, ◌%◌}
use Rattle.std.proofs.lemmas.Grind.{flat_map-append}
use Rattle.em_kept.specs.Source.{plain}
use Rattle.em_kept.specs.Kept.{rest_lines, rest_text, text_of, whole_lines, whole_text}
use Rattle.em_kept.proofs.back.write_back.Goals as goal

pub returns-in_err-write_whole_lines : goal.returns-in_err-write_whole_lines
returns-in_err-write_whole_lines g c = record {
  writes = MatchResult-from_err _ _ _ c.from_residual.ensures.0 (λ _.
      WritesPart-front (rest_text (c.args.asked - c.args.taken / 65_536 * 65_536) (c.args.taken % 65_536) (plain c.args.source)) c.in_err-write_whole_lines.ensures.writes (flat_map-append text_of (whole_lines (c.args.taken / 65_536) (plain c.args.source)) (rest_lines (c.args.asked - c.args.taken / 65_536 * 65_536) (c.args.taken % 65_536) (plain c.args.source))));
}

pub returns : goal.returns
returns g c = record {
  writes = Writes-more _ _ _ _ (whole_text (c.args.taken / 65_536) (plain c.args.source)) (rest_text (c.args.asked - c.args.taken / 65_536 * 65_536) (c.args.taken % 65_536) (plain c.args.source)) _
      c.in_ok-write_whole_lines.ensures.writes c.write_rest.ensures.writes (flat_map-append text_of (whole_lines (c.args.taken / 65_536) (plain c.args.source)) (rest_lines (c.args.asked - c.args.taken / 65_536 * 65_536) (c.args.taken % 65_536) (plain c.args.source)));
}
