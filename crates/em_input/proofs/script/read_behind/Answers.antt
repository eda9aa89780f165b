use Rattle.std.proofs.Common.{◌≡◌, ◌++◌, length, take, ap, ◌∙◌, arith}
use Rattle.std.proofs.lemmas.List.{length-append, take_at}
use Rattle.em_text.proofs.ReadingLemmas.{read_behind_front}
use Rattle.em_input.proofs.script.read_behind.Goals as goal

pub returns-clause-read : goal.returns-clause-read
returns-clause-read g c =
    let front = c.split_at_mut-room.result.0.now in
    let items = ap (take c.args.filled) c.as_mut_slice.ensures.value in
    let size : length (front ++ c.read.new.buf) ≡ c.args.script.now.len
    = omega (
      arith,
      length-append front c.read.new.buf,
      c.split_at_mut-room.ensures.front_len,
      c.split_at_mut-room.ensures.back_len,
      c.as_mut_slice.ensures.len,
      c.read.auto.buf,
    ) in
    read_behind_front c.read.result _ _ c.args.script.now.items front c.read.new.buf _ c.args.filled
    c.read.ensures.bytes (c.split_at_mut-room.ensures.front ∙ items) c.split_at_mut-room.ensures.front_len
    (take_at (front ++ c.read.new.buf) _ c.args.script.now.len size)
