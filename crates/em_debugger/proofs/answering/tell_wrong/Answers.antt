use Rattle.std.proofs.Common.{codes, refl}
use Rattle.em_prompt.specs.Prompt.{plain_wrong}
use Rattle.em_prompt.specs.WrongText.{wrong_text}
use Rattle.em_debugger.specs.Answering.{TellsWrong}
use Rattle.em_debugger.proofs.TextLaws.{OnOk-behind-written}
use Rattle.em_debugger.proofs.answering.tell_wrong.Goals as goal

pub returns : goal.returns
returns g c =
    let wrong = plain_wrong c.args.wrong in
    record {
      ok = OnOk-behind-written _ _ _ c.write_whole.result (wrong_text c.near_of.result wrong) (codes "\n")
          (TellsWrong wrong) c.in_ok-write_wrong.ensures.writes c.write_whole.ensures.writes
          (record { near = c.near_of.result; told = refl });
    }
