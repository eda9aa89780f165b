use Rattle.em_console.specs.Objects.{Place}
use Rattle.em_console.proofs.ObjectLaws.{answered_by}
use Rattle.em_console.proofs.objects.ObjectsAnswers.answer.Goals as goal

pub returns-clause-ok : goal.returns-clause-ok
returns-clause-ok g c =
    answered_by (record { standing = g.S.Stands.stands; source = g.S.Stands.comes_from; became = g.S.Stands.led })
    g.S.Answers.answers c.args.self.now.session c.answer.new.self c.args.line.now c.answer.new.text.items
    c.as_slice.result.now c.put_answer.new.text.items c.in_ok-flow.flow c.standing-before.result c.standing-standing.result
    c.became-became.result c.source-source.result.now c.in_ok-flow.ensures.ok c.as_slice.ensures.value
    c.standing-before.ensures c.became-became.ensures c.standing-standing.ensures c.source-source.ensures
    c.in_ok-put_answer.ensures.ok
