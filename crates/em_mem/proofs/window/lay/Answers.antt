use Rattle.std.proofs.Common.{◌-◌, ◌≡◌, length, take, drop, List, ℕ, sym, ap, ◌∙◌, arith}
use Rattle.em_mem.specs.Memory.{put}
use Rattle.em_mem.proofs.WindowLaws.{cover_end}
use Rattle.em_mem.proofs.window.lay.Goals as goal

pub returns-then-skipped-window : goal.returns-then-skipped-window
returns-then-skipped-window c =
    let k : ℕ = c.args.at - c.args.addr in
    let w : List ℕ = c.args.window.now in
    let d : List ℕ = c.args.octets.now in
    let none : c.args.addr - c.args.at ≡ 0 = omega arith in
    cover_end w d c.cover-then-skipped-window.new.window k (omega arith) c.cover-then-skipped-window.ensures
    ∙ ap (λ j. take (length w) (put w k (drop j d))) (sym none)
