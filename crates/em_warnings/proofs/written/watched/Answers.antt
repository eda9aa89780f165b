use Rattle.std.proofs.Common.{◌∙◌, ℕ, ap}
use Rattle.em_watch.specs.Watching.{octets_sight}
use Rattle.em_warnings.proofs.written.watched.Goals as goal

pub returns : goal.returns
returns c =
    let is = c.in-Some.ensures in
    λ s. ap (λ (a : ℕ). octets_sight s.base s.memory a c.in-Some.range.len) is.addr
    ∙ ap (λ (n : ℕ). octets_sight s.base s.memory c.args.at n) is.len
