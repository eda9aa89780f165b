use Rattle.std.proofs.Common.{◌≡◌, None, sym, rules}
use Rattle.em_line.specs.Parts.{first_place, marks_at}
use Rattle.em_line.proofs.PartsLemmas.{Unmarked, unmarked, says_all, nothing_behind, expects_nothing, comes_from_nowhere}
use Rattle.em_line.proofs.parts.parts_of.Goals as goal

pub returns-in-None : goal.returns-in-None
returns-in-None c =
    let none : first_place (marks_at c.args.line.now) c.args.line.now ≡ None = search rules in
    let u : Unmarked c.args.line.now = unmarked c.args.line.now none in
    record {
      said = sym (says_all c.args.line.now none);
      expected = sym (expects_nothing c.args.line.now u);
      source = sym (comes_from_nowhere c.args.line.now u);
      comment = sym (nothing_behind 35 c.args.line.now u.hash);
    }
