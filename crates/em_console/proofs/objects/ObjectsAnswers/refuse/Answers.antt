use Rattle.em_console.specs.Objects.{Place}
use Rattle.em_console.proofs.ObjectLaws.{refused_by}
use Rattle.em_console.proofs.objects.ObjectsAnswers.refuse.Goals as goal

pub returns : goal.returns
returns g c = record {
  ok = refused_by (record { standing = g.S.Stands.stands; source = g.S.Stands.comes_from; became = g.S.Stands.led })
      g.S.Answers.refuses c.args.self.now.session c.put_answer.result c.args.line.now c.refuse.new.text.items
      c.as_slice.result.now c.put_answer.new.text.items c.standing-standing.result c.source-source.result.now
      c.in_ok-refuse.ensures.ok c.as_slice.ensures.value c.standing-standing.ensures c.source-source.ensures
      c.put_answer.ensures.ok;
}
