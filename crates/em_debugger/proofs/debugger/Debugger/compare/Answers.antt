use Rattle.std.proofs.Common.{refl}
use Rattle.em_debugger.proofs.debugger.Debugger.compare.Goals as goal

pub returns-in-Behind : goal.returns-in-Behind
returns-in-Behind c = record {
  lines = c.play_until-lines.result.0;
  ended = c.play_until-lines.result.1;
  ran = c.play_until-lines.ensures;
  is = rw (c.in-Behind.is, c.differing.ensures) refl;
}

pub returns-in-Fault : goal.returns-in-Fault
returns-in-Fault c = record {
  lines = c.play_until-lines.result.0;
  ended = c.play_until-lines.result.1;
  ran = c.play_until-lines.ensures;
  is = rw c.in-Fault.is refl;
}

pub returns-in-End : goal.returns-in-End
returns-in-End c = record {
  lines = c.play_until-lines.result.0;
  ended = c.play_until-lines.result.1;
  ran = c.play_until-lines.ensures;
  is = rw c.in-End.is refl;
}

pub returns-in-Before : goal.returns-in-Before
returns-in-Before c = record {
  lines = c.play_until-lines.result.0;
  ended = c.play_until-lines.result.1;
  ran = c.play_until-lines.ensures;
  is = rw c.in-Before.is refl;
}
