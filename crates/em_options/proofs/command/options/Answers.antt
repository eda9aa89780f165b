use Rattle.std.proofs.Common.{◌≡◌, ◌∙◌, ◌≤◌, length, ap, refl, codes, map}
use Rattle.std.specs.Prelude.{string_bytes}
use Rattle.std.proofs.lemmas.List.{length-map}
use Rattle.std.specs.Fmt.{digits}
use Rattle.hex.specs.Hex.{encode_upper}
use Rattle.hex.proofs.OnLiterals.{hex_on_literals}
use Rattle.clap.specs.Words.{first_of, found_of}
use Rattle.clap.proofs.WalkLemmas.{first_value-rows}
use Rattle.em_journal.specs.Settings.{defaults}
use Rattle.em_options.specs.Options.{said}
use Rattle.em_options.proofs.Usual.{usual_number, usual_octets}
use Rattle.em_options.proofs.command.options.Goals as goal

pub returns-clause-script : goal.returns-clause-script
unfolding said
returns-clause-script c =
    let found = first_value-rows (found_of c.in-Ok.matches) (codes "script") in
    c.get_str.ensures ∙ (found ∙ ap (first_of (codes "script")) c.in-Ok.ensures.matches)

-- an option more is a line more
pub returns-clause-usual : goal.returns-clause-usual
unfolding hex_on_literals digits
returns-clause-usual c few =
    let words = map string_bytes c.args.words.now in
    let one : length words ≤ 1 = rw (length-map c.args.words.now (string_bytes)) few in
    let found = c.in-Ok.ensures.matches in
    let memory : c.number_of.result ≡ defaults.memory =
    usual_number (codes "memory") words _ defaults.memory one refl refl (c.number_of.ensures words found) in
    let budget : c.number_of-2.result ≡ defaults.budget =
    usual_number (codes "budget") words _ defaults.budget one refl refl (c.number_of-2.ensures words found) in
    let mac : c.in-Some.mac ≡ defaults.mac =
    usual_octets (codes "mac") words _ (encode_upper defaults.mac) defaults.mac one refl refl
    (c.in-Some.ensures.value words found) in
    rw (memory, budget, mac) refl
