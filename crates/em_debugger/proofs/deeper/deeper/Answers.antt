use Rattle.std.proofs.Common.{◌∙◌, sym, subst}
use Rattle.em_debugger.specs.Deeper.{IsAgainTo}
use Rattle.em_debugger.proofs.DeeperLaws.{again_on, again_to, same_line, still_performed, unseen_again}
use Rattle.em_debugger.proofs.deeper.deeper.Goals as goal

pub take_back_to-taken-requires-clause-performed : goal.take_back_to-taken-requires-clause-performed
take_back_to-taken-requires-clause-performed c =
    still_performed c.args.settings c.args.tape.now c.in-Ok.deep c.args.event c.requires.some c.requires.performed
    (subst (λ n. IsAgainTo c.args.settings c.args.tape.now n c.in-Ok.deep) c.line_of.ensures.line c.in-Ok.ensures.again)

pub take_back_to-taken-requires-clause-there : goal.take_back_to-taken-requires-clause-there
take_back_to-taken-requires-clause-there c =
    let again = subst (λ n. IsAgainTo c.args.settings c.args.tape.now n c.in-Ok.deep) c.line_of.ensures.line
    c.in-Ok.ensures.again in
    record {
      whole = again.behind.whole ∙ sym (same_line c.args.settings c.args.tape.now c.in-Ok.deep c.args.event again);
      back = again.behind.back;
    }

pub returns-in-Err-taken-clause-unseen : goal.returns-in-Err-taken-clause-unseen
returns-in-Err-taken-clause-unseen c =
    let new = c.take_back_to-taken.new.deep in
    let there = again_on c.args.settings c.args.tape.now c.in-Ok.deep new c.in-Err-taken.ensures.kept
    c.holds-in-Ok.ensures
    (again_to c.args.settings c.args.tape.now c.in-Ok.deep c.line_of.result c.line_of.ensures.within c.in-Ok.ensures.again)
    in
    unseen_again c.args.settings c.args.tape.now new c.args.event c.in-Err-taken.why there c.in-Err-taken.ensures.unseen
