use Rattle.std.proofs.Common.{refl}
use Rattle.std.proofs.lemmas.Result.{MatchResult-from_err}
use Rattle.em_debugger.specs.Performing.{cut_alone, uncut}
use Rattle.em_debugger.proofs.debugger.Debugger.add_typed.Goals as goal

pub returns-clause-ok : goal.returns-clause-ok
returns-clause-ok c = record {
  between = c.cut.new.self;
  cut = c.in_ok-dropped.ensures.ok;
  tape = c.in_ok-add_given.ensures.ok;
  expects = c.in_ok-add_given.ensures.expect;
  marks = c.in_ok-add_given.ensures.marked;
  rest = record {
    settings = refl;
    told = refl;
    came = refl;
    warnings = refl;
    asked = refl;
    warns = refl;
    score = refl;
    engines = refl;
    offered = refl;
    bookmarks = refl;
    sent = refl;
  };
}

pub returns-in_err-dropped-clause-err : goal.returns-in_err-dropped-clause-err
returns-in_err-dropped-clause-err c =
    MatchResult-from_err _ _ _ c.from_residual.ensures.0 (λ _. uncut c.in_err-dropped.ensures.err)

pub returns-in_err-add_given-clause-err : goal.returns-in_err-add_given-clause-err
returns-in_err-add_given-clause-err c =
    MatchResult-from_err _ _ _ c.from_residual-in_err-add_given.ensures.0 (λ _.
    cut_alone c.cut.new.self c.in_ok-dropped.dropped c.in_ok-dropped.ensures.ok c.in_err-add_given.ensures.err
    c.in_err-add_given.ensures.stay c.in_err-add_given.ensures.still (record {
      settings = refl;
      told = refl;
      came = refl;
      warnings = refl;
      asked = refl;
      warns = refl;
      score = refl;
      engines = refl;
      offered = refl;
      bookmarks = refl;
      sent = refl;
    }))
