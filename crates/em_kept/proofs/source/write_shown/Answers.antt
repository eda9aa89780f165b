use Rattle.std.proofs.Common.{[], ◌∷◌, length, arith}
use Rattle.std.proofs.lemmas.Result.{MatchResult-from_err}
use Rattle.em_text.proofs.WritingLemmas.{WroteFront-more, WroteFront-part, WroteFront-all}
use Rattle.em_kept.specs.Source.{shown_at}
use Rattle.em_kept.proofs.Texts.{shown_next, shown_none, shown_start}
use Rattle.em_kept.proofs.source.write_shown.Goals as goal

pub loop-at-init : goal.loop-at-init
loop-at-init g c = shown_start _ c.args.name.now (length c.args.name.now)

pub returns-in_err-write_whole : goal.returns-in_err-write_whole
returns-in_err-write_whole g c = record {
  writes = MatchResult-from_err _ _ _ c.from_residual.ensures.0 (λ _.
      WroteFront-part _ c.loop-at.invariant (shown_next c.args.name.now c.loop-at.at (length c.args.name.now) (omega arith)) (rw c.shown_at.ensures at c.in_err-write_whole.ensures.writes));
}

pub loop-at-preserved : goal.loop-at-preserved
loop-at-preserved g c = WroteFront-more (shown_at c.args.name.now c.loop-at.at ∷ []) c.loop-at.invariant (shown_next c.args.name.now c.loop-at.at (length c.args.name.now) (omega arith)) (rw c.shown_at.ensures at c.in_ok-write_whole.ensures.writes)

pub returns : goal.returns
returns g c = record { writes = WroteFront-all c.loop-at.invariant (shown_none c.args.name.now c.loop-at.at (length c.args.name.now) (omega arith)) }
