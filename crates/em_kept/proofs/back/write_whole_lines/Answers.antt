use Rattle.std.proofs.Common.{arith}
use Rattle.std.proofs.lemmas.Result.{MatchResult-from_err}
use Rattle.em_text.proofs.WritingLemmas.{WroteFront-more, WroteFront-part, WroteFront-all}
use Rattle.em_kept.specs.Source.{plain}
use Rattle.em_kept.specs.Kept.{back_line, text_of}
use Rattle.em_kept.proofs.Texts.{whole_next, whole_none, whole_start}
use Rattle.em_kept.proofs.back.write_whole_lines.Goals as goal

pub loop-done-init : goal.loop-done-init
loop-done-init g c = whole_start _ (plain c.args.source) c.args.count

pub returns-in_err-write_back_line : goal.returns-in_err-write_back_line
returns-in_err-write_back_line g c = record {
  writes = MatchResult-from_err _ _ _ c.from_residual.ensures.0 (λ _.
      WroteFront-part _ c.loop-done.invariant (whole_next (plain c.args.source) c.loop-done._done c.args.count (omega arith)) c.in_err-write_back_line.ensures.writes);
}

pub loop-done-preserved : goal.loop-done-preserved
loop-done-preserved g c = WroteFront-more (text_of (back_line 65_536 65_536 (plain c.args.source))) c.loop-done.invariant (whole_next (plain c.args.source) c.loop-done._done c.args.count (omega arith)) c.in_ok-write_back_line.ensures.writes

pub returns : goal.returns
returns g c = record { writes = WroteFront-all c.loop-done.invariant (whole_none (plain c.args.source) c.loop-done._done c.args.count (omega arith)) }
