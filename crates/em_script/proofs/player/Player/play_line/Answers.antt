use Rattle.std.proofs.Common.{arith, ap, length}
use Rattle.em_text.proofs.WordsLemmas.{words_of-few}
use Rattle.em_script.proofs.player.Player.play_line.Goals as goal

pub play_named-requires : goal.play_named-requires
play_named-requires g c =
    omega (arith, words_of-few c.args.line.now, c.requires, ap (λ words. length words) c.in-Some.ensures.some)
