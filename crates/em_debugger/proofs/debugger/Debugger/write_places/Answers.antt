use Rattle.std.proofs.Common.{◌≡◌, ℕ, arith, subst}
use Rattle.std.specs.Io.KnownBytes.{Appends}
use Rattle.std.proofs.lemmas.Result.{MatchResult-from_err}
use Rattle.em_text.proofs.WritingLemmas.{Appends-more, Appends-same}
use Rattle.em_debugger.specs.Warned.{place_text}
use Rattle.em_debugger.proofs.ExcerptLaws.{WritesPart-text, texts-next, texts_to}
use Rattle.em_debugger.proofs.debugger.Debugger.write_places.Goals as goal

pub loop-line-init : goal.loop-line-init
loop-line-init g c = Appends-same (g.W.Write.contents c.args.writer.now)

pub loop-line-preserved : goal.loop-line-preserved
loop-line-preserved g c =
    Appends-more _ _ _ _ _ _ c.loop-line.invariant c.in_ok-write_if_warned.ensures.writes
    (texts-next (place_text c.args.self.now c.args.rule) 1 c.loop-line.line c.loop-line.auto.line)

pub returns-in_err-write_if_warned : goal.returns-in_err-write_if_warned
returns-in_err-write_if_warned g c = record {
  writes = MatchResult-from_err _ _ _ c.from_residual.ensures.0 (λ _.
      WritesPart-text _ _ _ (place_text c.args.self.now c.args.rule) 1 c.loop-line.line c.args.end
      c.loop-line.auto.line c.loop-line-test.true c.loop-line.invariant
      c.in_err-write_if_warned.ensures.writes);
}

pub returns : goal.returns
returns g c =
    let contents = g.W.Write.contents in
    let all : c.loop-line.line ≡ c.args.end = omega arith in
    record {
      writes = subst (λ (k : ℕ). Appends (contents c.args.writer.now) (contents c.loop-line.writer)
          (texts_to (place_text c.args.self.now c.args.rule) 1 k)) all c.loop-line.invariant;
    }
