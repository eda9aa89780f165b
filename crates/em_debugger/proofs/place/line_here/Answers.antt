use Rattle.std.proofs.Common.{arith}
use Rattle.em_debugger.proofs.PlaceLaws.{line_here-within}
use Rattle.em_debugger.proofs.place.line_here.Goals as goal

pub returns-clause-performed : goal.returns-clause-performed
returns-clause-performed c =
    let within = line_here-within c.args.tape.now in omega (arith, within.0, c.line.ensures.here)

pub returns-clause-there : goal.returns-clause-there
returns-clause-there c =
    let within = line_here-within c.args.tape.now in
    omega (arith, within.0, c.line.ensures.here, c.holds.ensures.performed)
