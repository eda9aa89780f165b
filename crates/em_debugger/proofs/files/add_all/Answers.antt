use Rattle.std.proofs.Common.{◌≡◌, ◌∙◌, ◌+◌, ap, map, length, length-append, arith, refl, rules}
use Rattle.std.proofs.lemmas.List.{length-map}
use Rattle.em_debugger.specs.Files.{played_in}
use Rattle.em_tape.specs.Texts.{texts}
use Rattle.em_text.specs.Lines.{lines_of}
use Rattle.em_tape.specs.Tape.{Tape}
use Rattle.em_debugger.proofs.FilesLaws.{AddedSo-all, AddedSo-expect, AddedSo-more, AddedSo-none, AddedSo-marks, added_so, read_more}
use Rattle.em_debugger.proofs.files.add_all.Goals as goal

pub loop-rest-init : goal.loop-rest-init
loop-rest-init c = (
  AddedSo-none c.args.profile c.args.tape.now (texts c.args.wanted.now.answers.items) (texts c.args.marks.now.answers.items)
      c.args.text.now,
  refl,
)

pub returns-clause-ok : goal.returns-clause-ok
returns-clause-ok c =
    let none : length c.loop-rest.rest.now ≡ 0 = search rules in
    AddedSo-all c.args.profile c.args.tape.now c.loop-rest.tape _ _ _ _ c.args.text.now c.loop-rest.rest.now c.loop-rest.invariant.0 none

pub returns-clause-are : goal.returns-clause-are
returns-clause-are c =
    let none : length c.loop-rest.rest.now ≡ 0 = search rules in
    let all = AddedSo-all c.args.profile c.args.tape.now c.loop-rest.tape _ _ _ _ c.args.text.now c.loop-rest.rest.now c.loop-rest.invariant.0 none
    in
    let some = length-map (lines_of c.args.text.now) (played_in c.args.profile) in
    let long : length c.loop-rest.tape.lines ≡ length c.args.tape.now.lines + length (map (played_in c.args.profile) (lines_of c.args.text.now)) =
    ap (λ (t : Tape). length t.lines) all ∙ length-append c.args.tape.now.lines (map (played_in c.args.profile) (lines_of c.args.text.now)) in
    added_so c.args.profile _ c.loop-rest.are_read c.args.text.now c.loop-rest.rest.now
    (omega (arith, c.len.ensures, c.len-before.ensures, c.saturating_sub.ensures)) none c.loop-rest.invariant.1

pub returns-clause-expect : goal.returns-clause-expect
returns-clause-expect c =
    let none : length c.loop-rest.rest.now ≡ 0 = search rules in
    AddedSo-expect c.args.profile c.args.tape.now c.loop-rest.tape _ _ _ _ c.args.text.now c.loop-rest.rest.now c.loop-rest.invariant.0 none

pub returns-clause-marks : goal.returns-clause-marks
returns-clause-marks c =
    let none : length c.loop-rest.rest.now ≡ 0 = search rules in
    AddedSo-marks c.args.profile c.args.tape.now c.loop-rest.tape _ _ _ _ c.args.text.now c.loop-rest.rest.now c.loop-rest.invariant.0 none

pub loop-rest-preserved : goal.loop-rest-preserved
loop-rest-preserved c = (
  AddedSo-more c.args.profile c.args.tape.now c.loop-rest.tape c.add_line.new.tape _ _ (texts c.add_line.new.wanted.answers.items) _ _
      (texts c.add_line.new.marks.answers.items) c.args.text.now c.loop-rest.rest.now c.next_line.result.0.now
      c.next_line.result.1.now c.loop-rest.invariant.0 c.next_line.ensures.lines c.in_ok-are_read.ensures.ok
      c.in_ok-are_read.ensures.expect c.in_ok-are_read.ensures.marked,
  read_more c.args.profile c.loop-rest.are_read c.in_ok-are_read.field-0 c.args.text.now c.loop-rest.rest.now c.next_line.result.0.now
      c.next_line.result.1.now c.next_line.ensures.lines c.in_ok-are_read.ensures.read c.loop-rest.invariant.1,
)
