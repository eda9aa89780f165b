use Rattle.std.proofs.Common.{◌≡◌, refl}
use Rattle.em_tape.specs.Tape.{taken_back}
use Rattle.em_tape.proofs.KeptLaws.{holds_back}
use Rattle.em_tape.proofs.TapeLaws.{session_back}
use Rattle.em_tape.proofs.tape.Tape.back.Goals as goal

pub invariant_of-self : goal.invariant_of-self
invariant_of-self c =
    let did = c.back_by-taken.ensures in
    holds_back c.back_by-taken.result c.args.most c.self.invariant did.count
    (session_back c.args.most c.back_by-taken.result c.self.inside.session c.back_by-taken.new.self did.count did.session)

pub returns-clause-tape : goal.returns-clause-tape
returns-clause-tape c =
    let did = c.back_by-taken.ensures in
    let taken = c.back_by-taken.result in
    let is : c.back_by-taken.new.self ≡ taken_back taken c.self.inside.session =
    session_back c.args.most taken c.self.inside.session c.back_by-taken.new.self did.count did.session in
    rw (← c.self.view_is, is) refl
