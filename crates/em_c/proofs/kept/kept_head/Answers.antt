use Rattle.std.proofs.Common.{subst}
use Rattle.em_c.specs.Kept.{head_of}
use Rattle.em_c.specs.Text.{Says}
use Rattle.em_c.proofs.kept.kept_head.Goals as goal

-- the EEPROM has these words, and the profile this number
pub returns : goal.returns
returns c =
    let told = c.tell_head_of.new.text in
    let of_words =
    subst (λ words. Says told (head_of c.profile_of.result c.args.base c.args.memory c.args.budget words)) c.of_words-eeprom.ensures.words
    c.tell_head_of.ensures in
    subst (λ profile. Says told (head_of profile c.args.base c.args.memory c.args.budget c.args.words.now)) c.profile_of.ensures
    of_words
