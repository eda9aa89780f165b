use Rattle.std.proofs.Common.{refl, ap, ◌≡◌, ◌∙◌, true, map}
use Rattle.std.specs.Prelude.{string_bytes}
use Rattle.std.proofs.lemmas.Result.{IfOk-weaker}
use Rattle.clap.specs.Words.{App, is_simple, is_simple_and_free, matches_of}
use Rattle.em_options.specs.Options.{em_bench}
use Rattle.em_options.proofs.Defaults.{number_given, option_given}
use Rattle.em_options.proofs.command.parse.Goals as goal

bench_is_simple : is_simple em_bench ≡ true
unfolding em_bench
bench_is_simple = refl

bench_is_free : is_simple_and_free em_bench ≡ true
unfolding em_bench
bench_is_free = refl

pub returns-clause-matches : goal.returns-clause-matches
returns-clause-matches c =
    let same = c.in_ok-command.ensures in
    let words = map string_bytes c.args.words.now in
    IfOk-weaker c.try_get_matches_from.result _ _
    (λ m h. (h (ap is_simple same ∙ bench_is_simple)).0 ∙ ap (λ (a : App). matches_of a words) same)
    c.try_get_matches_from.ensures.matches

pub returns-clause-kinds : goal.returns-clause-kinds
returns-clause-kinds c =
    let same = c.in_ok-command.ensures in
    rw (← same) (c.try_get_matches_from.ensures.kinds (ap is_simple_and_free same ∙ bench_is_free))

pub returns-clause-options : goal.returns-clause-options
returns-clause-options c =
    IfOk-weaker c.try_get_matches_from.result _ _
    (λ m p name is. option_given c.in_ok-command.command m name c.in_ok-command.ensures p is)
    c.try_get_matches_from.ensures.parsed

pub returns-clause-numbers : goal.returns-clause-numbers
returns-clause-numbers c =
    IfOk-weaker c.try_get_matches_from.result _ _
    (λ m p name is. number_given c.in_ok-command.command m name c.in_ok-command.ensures p is)
    c.try_get_matches_from.ensures.parsed
