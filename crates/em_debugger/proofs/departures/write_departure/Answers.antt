use Rattle.std.proofs.Common.{◌≡◌, ◌∙◌, sym, length, arith}
use Rattle.std.proofs.lemmas.Bool.{eqb-true, eqb-false}
use Rattle.std.specs.Prelude.{◌≢◌}
use Rattle.em_text.proofs.WritingLemmas.{Appends-same}
use Rattle.em_debugger.proofs.TextLaws.{Writes-some}
use Rattle.em_debugger.proofs.departures.write_departure.Goals as goal

pub returns-then-is_empty : goal.returns-then-is_empty
returns-then-is_empty g c =
    let none : length c.departure-known.result.now ≡ 0 =
    eqb-true _ 0 (sym c.is_empty.ensures ∙ c.if-is_empty.true) in
    record { writes = rw (← c.departure-known.ensures, none) (Appends-same _) }

pub returns : goal.returns
returns g c =
    let known = c.departure-known.result.now in
    let some : length known ≢ 0 = eqb-false _ 0 (sym c.is_empty.ensures ∙ c.if-is_empty.false) in
    record {
      writes = rw (← c.departure-known.ensures) (Writes-some _ _ _ (length known) _ _ (omega arith)
          c.write_pieces.ensures.writes);
    }
