-- What became of a line, in a word.
use Rattle.std.specs.Prelude.{ℕ, List, codes}
use Rattle.em_console.specs.declared.standing.Became.{Became}
use Rattle.em_console.specs.declared.standing.Became.TheVariants.{Silent, Wrong, Done, Refused, Told, Ended}

abbrev pub word_of : Became → List ℕ
word_of Silent = codes "silent"
word_of Wrong = codes "wrong"
word_of Done = codes "done"
word_of Refused = codes "refused"
word_of Told = codes "told"
word_of Ended = codes "ended"
