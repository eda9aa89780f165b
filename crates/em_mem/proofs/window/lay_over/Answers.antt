use Rattle.em_mem.proofs.WindowLaws.{window-undone}
use Rattle.em_mem.proofs.window.lay_over.Goals as goal

pub returns-clause-before : goal.returns-clause-before
returns-clause-before c =
    window-undone c.args.addr c.args.window.now c.lay.new.window (record { at = c.args.at; octets = c.args.octets.now })
    c.lay.ensures
