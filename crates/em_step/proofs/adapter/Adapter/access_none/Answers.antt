-- Nothing changes, and the record takes nothing back.
use Rattle.std.proofs.Common.{true, false, refl, sym, ap, rules, inr, ◌∙◌}
use Rattle.em_regs.specs.Table.{answers_at}
use Rattle.em_step.specs.Cells.{shows}
use Rattle.em_step.specs.Cost.{cost_of}
use Rattle.em_step.specs.Undo.{undo_of}
use Rattle.em_step.proofs.NothingLaws.{read_as, write_as, write_cost}
use Rattle.em_step.proofs.ResultLaws.{cells_same}
use Rattle.em_step.proofs.ReversalLaws.{plain_of}
use Rattle.em_step.proofs.adapter.Adapter.access_none.Goals as goal

pub returns-then-answers_at-clause-read : goal.returns-then-answers_at-clause-read
returns-then-answers_at-clause-read c =
    let s = shows c.args.self.now in
    let answers = ap (λ p. answers_at p c.args.offset) (sym c.profile.ensures) ∙ sym c.answers_at.ensures
    ∙ c.if-answers_at.true in
    record {
      plain = plain_of c.of_effect.ensures refl (λ o. tt);
      performed = λ o. record {
        ok = read_as s c.args.offset true c.requires answers;
        cost = search rules;
        reverses = search rules;
      };
    }

pub returns-then-answers_at-clause-write : goal.returns-then-answers_at-clause-write
returns-then-answers_at-clause-write c = λ v.
    let s = shows c.args.self.now in
    let answers = ap (λ p. answers_at p c.args.offset) (sym c.profile.ensures) ∙ sym c.answers_at.ensures
    ∙ c.if-answers_at.true in
    record {
      plain = plain_of c.of_effect.ensures refl (λ o. tt);
      performed = λ o. record {
        ok = write_as s c.args.offset v true c.requires answers;
        cost = ap (λ r. cost_of (undo_of r o)) c.of_effect.ensures
            ∙ sym (write_cost s c.args.offset v c.requires answers);
        reverses = search rules;
      };
    }

pub returns-else-answers_at-clause-unread : goal.returns-else-answers_at-clause-unread
returns-else-answers_at-clause-unread c =
    let s = shows c.args.self.now in
    let answers = ap (λ p. answers_at p c.args.offset) (sym c.profile.ensures) ∙ sym c.answers_at.ensures
    ∙ c.if-answers_at.false in
    record {
      err = inr (read_as s c.args.offset false c.requires answers);
      same = cells_same c.args.self.now c.args.self.now refl;
    }

pub returns-else-answers_at-clause-unwritten : goal.returns-else-answers_at-clause-unwritten
returns-else-answers_at-clause-unwritten c = λ v.
    let s = shows c.args.self.now in
    let answers = ap (λ p. answers_at p c.args.offset) (sym c.profile.ensures) ∙ sym c.answers_at.ensures
    ∙ c.if-answers_at.false in
    record {
      err = inr (write_as s c.args.offset v false c.requires answers);
      same = cells_same c.args.self.now c.args.self.now refl;
    }
