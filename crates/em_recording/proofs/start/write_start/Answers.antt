use Rattle.std.proofs.Common.{◌≡◌, ◌∙◌, ◌+◌, ◌-◌, ◌++◌, suc, ap, refl, arith, append_assoc}
use Rattle.std.specs.Prelude.{codes, unwrap_or}
use Rattle.std.specs.Option.{option_map}
use Rattle.std.proofs.lemmas.Result.{MatchResult-from_err}
use Rattle.em_regs.specs.Table.{reg_of}
use Rattle.em_regs.specs.declared.reg.Reg.TheVariants.{Ctrl}
use Rattle.em_regs.proofs.ProfileLaws.{reg_of-offset_of}
use Rattle.em_step.specs.Access.{gives}
use Rattle.em_text.proofs.WritingLemmas.{WroteFront-more, WroteFront-none, WroteFront-part, Writes-more}
use Rattle.em_recording.specs.StartText.{named_text, start_text, word_text, words_text}
use Rattle.em_recording.proofs.StartLaws.{words_text-more, words_text-none}
use Rattle.em_recording.proofs.start.write_start.Goals as goal

pub returns-in_err-write_value : goal.returns-in_err-write_value
returns-in_err-write_value g c =
    let s = c.args.machine.now.present in
    let at = ap (λ o. option_map (gives s) (reg_of s.profile o)) c.offset.ensures
    ∙ ap (option_map (gives s)) (reg_of-offset_of s.profile Ctrl (omega arith) refl) in
    let shown : c.unwrap_or-ctrl.result ≡ gives s Ctrl =
    c.unwrap_or-ctrl.ensures ∙ ap (λ r. unwrap_or r 0) (c.look.ensures ∙ at) in
    let wrote = WroteFront-none (g.W.Write.contents c.args.writer.now) (start_text s) in
    record {
      writes = MatchResult-from_err _ _ _ c.from_residual.ensures.0 (λ _.
          WroteFront-part (words_text s 1 0x17FF ++ codes "}}}\n") wrote refl
          (rw shown at c.in_err-write_value.ensures.writes));
    }

pub loop-word-init : goal.loop-word-init
loop-word-init g c =
    let s = c.args.machine.now.present in
    let at = ap (λ o. option_map (gives s) (reg_of s.profile o)) c.offset.ensures
    ∙ ap (option_map (gives s)) (reg_of-offset_of s.profile Ctrl (omega arith) refl) in
    let shown : c.unwrap_or-ctrl.result ≡ gives s Ctrl =
    c.unwrap_or-ctrl.ensures ∙ ap (λ r. unwrap_or r 0) (c.look.ensures ∙ at) in
    let wrote = WroteFront-none (g.W.Write.contents c.args.writer.now) (start_text s) in
    record {
      within = omega arith;
      wrote = WroteFront-more (named_text (codes "\"start\":{\"registers\":{\"") Ctrl (gives s Ctrl)) wrote refl
          (rw shown at c.in_ok-write_value.ensures.writes);
    }

pub returns-in_err-write_word : goal.returns-in_err-write_word
returns-in_err-write_word g c =
    let s = c.args.machine.now.present in
    let word = c.loop-word.word in
    let end = codes "}}}\n" in
    let others = words_text s (word + 1) (0x1800 - (word + 1)) in
    let left : 0x1800 - word ≡ suc (0x1800 - (word + 1)) = omega (arith, c.loop-word-test.true) in
    let rest = ap (λ l. l ++ end) (words_text-more s word left) ∙ append_assoc (word_text s word) others end in
    record {
      writes = MatchResult-from_err _ _ _ c.from_residual-in_err-write_word.ensures.0 (λ _.
          WroteFront-part (others ++ end) c.loop-word.invariant.wrote rest c.in_err-write_word.ensures.writes);
    }

pub loop-word-preserved : goal.loop-word-preserved
loop-word-preserved g c =
    let s = c.args.machine.now.present in
    let word = c.loop-word.word in
    let end = codes "}}}\n" in
    let others = words_text s (word + 1) (0x1800 - (word + 1)) in
    let left : 0x1800 - word ≡ suc (0x1800 - (word + 1)) = omega (arith, c.loop-word-test.true) in
    let rest = ap (λ l. l ++ end) (words_text-more s word left) ∙ append_assoc (word_text s word) others end in
    record {
      within = omega (arith, c.loop-word-test.true);
      wrote = WroteFront-more (word_text s word) c.loop-word.invariant.wrote rest c.in_ok-write_word.ensures.writes;
    }

pub returns : goal.returns
returns g c =
    let s = c.args.machine.now.present in
    let word = c.loop-word.word in
    let end = codes "}}}\n" in
    let wrote = c.loop-word.invariant.wrote in
    let none : 0x1800 - word ≡ 0 = omega (arith, c.loop-word-test.false) in
    record {
      writes = Writes-more _ _ _ _ wrote.front end _ wrote.written c.write_whole.ensures.writes
          (wrote.whole ∙ ap (λ l. wrote.front ++ (l ++ end)) (words_text-none s word none));
    }
