use Rattle.std.proofs.Common.{◌∙◌, ◌==◌, ap, sym, ℕ}
use Rattle.std.specs.Prelude.{if◌then◌else◌, slice_index}
use Rattle.em_latch.specs.Latches.{Growth, shrunk}
use Rattle.em_latch.specs.Storage.{offsets}
use Rattle.em_latch.proofs.BeforeLaws.{of_another, of_place}
use Rattle.em_latch.proofs.undo.Growth.before.Goals as goal

-- what the word at an offset was, where it is v now
told : ℕ → ℕ → Growth → ℕ
told o v g = if g.at == o then shrunk v g.by else v

pub returns-then-self-place : goal.returns-then-self-place
unfolding told
returns-then-self-place c =
    sym (of_place c.self.inside.place c.args.place c.self.inside.by c.args.now c.if-self-place.true)
    ∙ ap (told (slice_index offsets c.args.place) c.args.now) c.self.view_is

pub returns-else-self-place : goal.returns-else-self-place
unfolding told
returns-else-self-place c =
    sym (of_another c.self.inside.place c.args.place c.self.inside.by c.args.now c.self.invariant c.requires
    c.if-self-place.false)
    ∙ ap (told (slice_index offsets c.args.place) c.args.now) c.self.view_is
