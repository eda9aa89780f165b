-- The form of a line by its name, while the octets that it brings are still words.
use Rattle.em_text.specs.Words.{words_of}
use Rattle.em_line.specs.Arguments.{arguments_of}
use Rattle.em_line.specs.Command.{plain}
use Rattle.em_line.specs.Grammar.{arrive_form, poke_form, turns_form}
use Rattle.em_line.specs.ParsedLine.{ParsedLine, silent, bad, says, request_line}
use Rattle.em_line.specs.Request.{asked_form}
use Rattle.em_line.specs.declared.form.LineForm.{LineForm}
use Rattle.em_line.specs.declared.form.LineForm.TheVariants as form

-- what a line of a form says
abbrev pub said_by : LineForm → ParsedLine
said_by form.Silent = silent
said_by form.Bad = bad
said_by (form.Command command) = says (plain command)
said_by (form.Poke words) = poke_form (arguments_of (words_of words.0.now))
said_by (form.Arrive words) = arrive_form (arguments_of (words_of words.0.now))
said_by (form.Request name words) = request_line (asked_form name (arguments_of (words_of words.0.now)))
said_by (form.Plan words) = turns_form (words_of words.0.now)
