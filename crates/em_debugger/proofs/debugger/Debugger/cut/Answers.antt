use Rattle.std.proofs.Common.{refl, rules}
use Rattle.std.proofs.lemmas.Result.{MatchResult-from_err}
use Rattle.em_debugger.proofs.debugger.Debugger.cut.Goals as goal

pub returns-in_err-dropped-clause-err : goal.returns-in_err-dropped-clause-err
returns-in_err-dropped-clause-err c =
    MatchResult-from_err _ _ _ c.from_residual.ensures.0 (λ _. record { rest = refl; bookmarks = search rules })
