use Rattle.std.proofs.Common.{arith}
use Rattle.em_text.proofs.WordsLemmas.{words_of-few}
use Rattle.em_prompt.proofs.prompt.command_line.Goals as goal

pub says-requires : goal.says-requires
says-requires c = omega (arith, words_of-few c.args.rest.now, c.requires)
