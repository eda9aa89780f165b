use Rattle.std.proofs.Common.{◌≡◌, ℕ, List, [], subst, sym, arith}
use Rattle.std.specs.Io.KnownBytes.{Appends}
use Rattle.std.proofs.lemmas.Result.{MatchResult-from_err}
use Rattle.em_text.proofs.WritingLemmas.{Appends-more, Appends-same}
use Rattle.em_debugger.specs.History.{lines_between, lines_text}
use Rattle.em_debugger.proofs.HistoryLaws.{between_none, lines_text-next, WritesPart-line}
use Rattle.em_debugger.proofs.debugger.Debugger.write_lines_between.Goals as goal

pub loop-passed-init : goal.loop-passed-init
loop-passed-init g c =
    let contents = g.W.Write.contents in
    let d = c.args.self.now in
    let none : lines_between d.tape.did c.args.before c.args.before ≡ [] =
    between_none d.tape.did c.args.before c.args.before (omega arith) in
    subst (λ (lines : List ℕ). Appends (contents c.args.writer.now) (contents c.args.writer.now)
    (lines_text d c.args.here lines)) (sym none) (Appends-same (contents c.args.writer.now))

pub loop-passed-preserved : goal.loop-passed-preserved
loop-passed-preserved g c =
    Appends-more _ _ _ _ _ _ c.loop-passed.invariant c.in_ok-write_if_did.ensures.writes
    (lines_text-next c.args.self.now c.args.here c.args.before c.loop-passed.passed c.loop-passed.auto.passed)

pub returns-in_err-write_if_did : goal.returns-in_err-write_if_did
returns-in_err-write_if_did g c = record {
  writes = MatchResult-from_err _ _ _ c.from_residual.ensures.0 (λ _.
      WritesPart-line _ _ _ c.args.self.now c.args.here c.args.before c.loop-passed.passed c.args.last
      c.loop-passed.auto.passed c.loop-passed-test.true c.loop-passed.invariant
      c.in_err-write_if_did.ensures.writes);
}

pub returns : goal.returns
returns g c =
    let contents = g.W.Write.contents in
    let all : c.loop-passed.passed ≡ c.args.last = omega arith in
    record {
      writes = subst (λ (k : ℕ). Appends (contents c.args.writer.now) (contents c.loop-passed.writer)
          (lines_text c.args.self.now c.args.here (lines_between c.args.self.now.tape.did c.args.before k))) all
          c.loop-passed.invariant;
    }
