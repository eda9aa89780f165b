use Rattle.std.proofs.Common.{◌/◌, arith}
use Rattle.std.proofs.lemmas.Result.{MatchResult-from_err}
use Rattle.em_text.proofs.WritingLemmas.{WroteFront-more, WroteFront-part, WroteFront-all}
use Rattle.em_output.specs.Registers.{word_text}
use Rattle.em_output.proofs.RegisterLemmas.{words_text-next, words_text-last}
use Rattle.em_output.proofs.registers.write_registers.Goals as goal

pub returns-in_err-write_register : goal.returns-in_err-write_register
returns-in_err-write_register g c =
    let s = c.args.machine.now.present in
    let next = c.in-Some.ensures.found in
    let rest = words_text-next s c.loop-offset.from c.in-Some.offset c.loop-offset.invariant.whole next.2 next.0
    next.1 c.in-Some.ensures.first in
    record {
      writes = MatchResult-from_err _ _ _ c.from_residual.ensures.0 (λ _.
          WroteFront-part _ c.loop-offset.invariant.wrote rest c.in_err-write_register.ensures.writes);
    }

pub loop-offset-preserved : goal.loop-offset-preserved
loop-offset-preserved g c =
    let s = c.args.machine.now.present in
    let offset = c.in-Some.offset in
    let next = c.in-Some.ensures.found in
    let rest = words_text-next s c.loop-offset.from offset c.loop-offset.invariant.whole next.2 next.0 next.1
    c.in-Some.ensures.first in
    record {
      whole = omega (arith, next.2);
      wrote = WroteFront-more (word_text s (offset / 4)) c.loop-offset.invariant.wrote rest
          c.in_ok-write_register.ensures.writes;
    }

pub returns : goal.returns
returns g c =
    let last = words_text-last c.args.machine.now.present c.loop-offset.from c.loop-offset.invariant.whole
    c.in_default.ensures.last in
    record { writes = WroteFront-all c.loop-offset.invariant.wrote last }
