-- What is wrong with a descriptor, in words.
use Rattle.std.specs.Prelude.{ℕ, List, [], ◌++◌, codes, decimal, Option, Some, None}
use Rattle.em_inspect.specs.declared.trouble.Trouble.{Trouble}
use Rattle.em_inspect.specs.declared.trouble.Trouble.TheVariants.{
  Outside,
  Extended,
  NoLength,
  TooLong,
  BufferOutside,
  OverRing,
  OverBuffer,
}

-- another descriptor's buffer
abbrev pub over_text : ℕ → List ℕ
over_text other = codes "  its buffer lies over that of " ++ decimal other

abbrev pub words_of : Trouble → List ℕ
words_of Outside = codes "  it lies outside memory"
words_of Extended = codes "  its format is the extended one"
words_of NoLength = codes "  its length is 0"
words_of TooLong = codes "  its length is above 16380"
words_of BufferOutside = codes "  its buffer lies outside memory"
words_of OverRing = codes "  its buffer lies over the ring"
words_of (OverBuffer other) = over_text other

abbrev pub trouble_text : Option Trouble → List ℕ
trouble_text None = []
trouble_text (Some trouble) = words_of trouble
