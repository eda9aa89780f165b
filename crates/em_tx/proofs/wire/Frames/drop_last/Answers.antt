use Rattle.std.proofs.Common.{◌≡◌, ◌∙◌, ◌-◌, ap, arith, get_or, length, subst, sym, take, ◌∷◌}
use Rattle.std.proofs.lemmas.List.{length-take-le}
use Rattle.em_tx.specs.Wire.{AreEnds, frames_from, plain}
use Rattle.em_tx.proofs.WireLaws.{first_ends, first_frames, length-frames_from, start_most}
use Rattle.em_tx.proofs.wire.Frames.drop_last.Goals as goal

pub returns-clause-frames : goal.returns-clause-frames
returns-clause-frames c =
    let self = c.args.self.now in
    let ends = self.ends.items in
    let left = length ends - 1 in
    let count : c.len-left.result - 1 ≡ left = omega arith in
    let start : c.start-start.result ≡ get_or (0 ∷ ends) left 0
    = c.start-start.ensures ∙ ap (λ n. get_or (0 ∷ ends) n 0) count in
    (λ i. frames_from 0 ((c.truncate.ensures.items ∙ ap (λ n. take n ends) count) i)
    ((c.truncate-2.ensures.items ∙ ap (λ n. take n self.octets.items) start) i))
    ∙ first_frames 0 ends self.octets.items (length self.octets.items) left c.requires.laid (omega arith)
    ∙ ap (λ n. take (n - 1) (plain self)) (sym (length-frames_from 0 ends self.octets.items))

pub returns-clause-laid : goal.returns-clause-laid
returns-clause-laid c =
    let self = c.args.self.now in
    let ends = self.ends.items in
    let left = length ends - 1 in
    let count : c.len-left.result - 1 ≡ left = omega arith in
    let start : c.start-start.result ≡ get_or (0 ∷ ends) left 0
    = c.start-start.ensures ∙ ap (λ n. get_or (0 ∷ ends) n 0) count in
    let laid = first_ends 0 ends (length self.octets.items) left c.requires.laid (omega arith) in
    let most = start_most 0 ends (length self.octets.items) left c.requires.laid (omega arith) in
    let size : length c.truncate-2.new.self.items ≡ get_or (0 ∷ ends) left 0
    = ap length c.truncate-2.ensures.items
    ∙ length-take-le c.start-start.result self.octets.items (omega (arith, start, most)) ∙ start in
    subst (λ n. AreEnds 0 c.truncate.new.self.items n) (sym size)
    (subst (λ e. AreEnds 0 e (get_or (0 ∷ ends) left 0))
    (sym (c.truncate.ensures.items ∙ ap (λ n. take n ends) count)) laid)
