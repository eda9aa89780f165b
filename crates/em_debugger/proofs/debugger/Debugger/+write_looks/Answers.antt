use Rattle.std.proofs.Common.{◌-◌, [], length, take, drop}
use Rattle.em_text.proofs.WritingLemmas.{Appends-same}
use Rattle.em_debugger.specs.Why.{TellsLooks}
use Rattle.em_debugger.proofs.TextLaws.{OnOk-behind}
use Rattle.em_debugger.proofs.WhyLaws.{more_looks, no_looks}
use Rattle.em_debugger.proofs.debugger.Debugger.+write_looks.Goals as goal

pub returns-in_default : goal.returns-in_default
returns-in_default g t c = record {
  ok = (
    [],
    Appends-same (g.W.Write.contents c.args.writer.now),
    no_looks c.args.self.now c.args.tape.now c.args.looks.now c.in_default.len_below,
  );
}

pub returns : goal.returns
returns g t c =
    let d = c.args.self.now in
    let tape = c.args.tape.now in
    let looks = c.args.looks.now in
    let said = c.in_ok-write_look.ensures.ok in
    record {
      ok = OnOk-behind _ _ _ c.write_looks.result said.0 (TellsLooks d tape (take (length looks - 1) (drop 1 looks))) (TellsLooks d tape looks)
          said.1 (λ rest h. more_looks d tape looks _ said.0 rest c.in-len1-up.len_at_least said.2 h)
          c.write_looks.ensures.ok;
    }
