use Rattle.std.proofs.Common.{◌++◌, ◌-◌, ℕ, length, ap, subst, arith}
use Rattle.std.specs.List.{flat_map}
use Rattle.em_debugger.specs.declared.accesses.Sort.{Sort}
use Rattle.em_debugger.specs.declared.accesses.Sort.TheVariants as sort
use Rattle.em_debugger.specs.Accesses.{AnswersAccesses, Lists, end_text, noted_line}
use Rattle.em_debugger.specs.Marks.{marks_of}
use Rattle.em_debugger.proofs.TextLaws.{OnOk-behind-written}
use Rattle.em_debugger.proofs.debugger.Debugger.accesses.Goals as goal

pub returns : goal.returns
returns g c =
    let d = c.args.self.now in
    let w = c.in_ok-listed.ensures.ok in
    let s : Sort = sort.Accesses c.args.target in
    let how = c.in_ok-listed.listed.ended in
    record {
      ok = OnOk-behind-written _ _ _ _ (flat_map (noted_line (marks_of d) d.tape) w.found)
          (end_text s c.in_ok-listed.listed.count how) (AnswersAccesses d c.args.target c.args.typed) w.written
          c.write_end.ensures.writes
          (record {
            found = w.found;
            how = how;
            lists = subst (λ m. Lists d.settings d.tape s d.tape m w.found how) (omega (arith, c.most_of.ensures)) w.lists;
            told = ap (λ (n : ℕ). flat_map (noted_line (marks_of d) d.tape) w.found ++ end_text s n how)
                (omega (arith, w.long));
          });
    }
