use Rattle.std.proofs.Common.{arith}
use Rattle.em_text.proofs.WordsLemmas.{same_name}
use Rattle.em_text.proofs.words.is_name.Goals as goal

pub returns-then-word : goal.returns-then-word
returns-then-word g c =
    same_name c.args.word.now c.args.name.now c.starts_with.result (omega arith) c.starts_with.ensures.value
