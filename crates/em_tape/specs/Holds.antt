-- What holds of a tape and of what is known of its lines.
use Rattle.std.specs.Prelude.{◌≡◌, ℕ, Bool, List}
use Rattle.em_script.specs.Session.{Session}
use Rattle.em_named.specs.Numbers.{end_of}
use Rattle.em_named.specs.declared.did.Did.{Did}
use Rattle.em_tape.specs.Known.{IsKnown}
use Rattle.em_tape.specs.Tape.{IsTape}
use Rattle.em_tape.specs.declared.known.Known.{Known}

pub record Holds (first : Session) (lines : List (List ℕ)) (did : List Did) (answered : Bool) (marks : List Known)
    (whole events back : ℕ) (session : Session) : Type 0 where
  pub tape : IsTape first lines did answered whole back session
  pub end : events ≡ end_of whole did
  pub known : IsKnown first lines did answered marks whole back session
