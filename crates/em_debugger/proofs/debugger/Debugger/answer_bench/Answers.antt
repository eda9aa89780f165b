use Rattle.std.proofs.Common.{ℕ, List, refl, subst}
use Rattle.em_prompt.specs.BenchLine.{plain as plain_line}
use Rattle.em_prompt.specs.Nowhere.{nowhere_said}
use Rattle.em_text.specs.Words.{words_of}
use Rattle.em_debugger.specs.Answering.{AnswersBench}
use Rattle.em_debugger.specs.Nowhere.{TellsNowhere}
use Rattle.em_debugger.proofs.TextLaws.{OnOk-behind}
use Rattle.em_debugger.proofs.debugger.Debugger.answer_bench.Goals as goal

pub returns : goal.returns
returns g c =
    let old = c.args.self.now in
    let new = c.perform_typed.new.self in
    let profile = old.settings.profile in
    let first = c.in_ok-perform_typed.ensures.ok in
    record {
      ok = OnOk-behind _ _ _ c.tell_nowhere.result first.0
          (TellsNowhere (nowhere_said profile (words_of c.parts_of.result.said.now)))
          (AnswersBench old new (plain_line c.args.bench) c.args.line.now) first.1 (λ t told. record {
            answer = first.0;
            note = t;
            answered = first.2;
            noted = subst (λ (said : List ℕ). TellsNowhere (nowhere_said profile (words_of said)) t) c.parts_of.ensures.said told;
            told = refl;
          }) c.tell_nowhere.ensures.ok;
    }
