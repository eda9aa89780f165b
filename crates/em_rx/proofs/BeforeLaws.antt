-- Cells show as many frames as their places say, and memory is the same up to the next octet of a step.
use Rattle.std.proofs.Common.{◌≡◌, ◌∙◌, ℕ, ◌+◌, ◌-◌, ◌≤◌, Bool, true, false, refl, sym, ap, arith, length, length-set}
use Rattle.std.proofs.lemmas.List.{length-take-le}
use Rattle.em_mem.specs.Memory as memory
use Rattle.em_mem.specs.Ring.{turn, wrap}
use Rattle.em_mem.specs.Extent.{SameUpTo, next_octet}
use Rattle.em_mem.proofs.ExtentLaws.{same_in_turn, same_up_to}
use Rattle.em_mem.proofs.RingLaws.{length-turn}
use Rattle.em_rx.specs.Before.{frames_before_step, next_of_step}
use Rattle.em_rx.specs.Fifo.{Cells, IsSound, live, shows}
use Rattle.em_rx.specs.FramePatch.{FramePatch}
use Rattle.em_rx.specs.StepPatch.{StepPatch}
use Rattle.em_rx.specs.Undo.{FitsFrame, FitsStep, moved_back, places_before, with_both, with_patch}
use Rattle.em_rx.proofs.CutLaws.{length-cut}

-- the frames are those that the places count, of which there are not more than entries
frames_counted : (c : Cells) → c.places.count ≤ length c.entries → length (shows c).frames ≡ c.places.count
frames_counted c few =
    length-cut (live c) (turn c.places.head c.octets)
    ∙ length-take-le c.places.count (turn c.places.first c.entries)
    (omega (arith, length-turn c.places.first c.entries, few))

pub length-frames : (c : Cells) → IsSound c → length (shows c).frames ≡ c.places.count
length-frames c sound = frames_counted c (omega (arith, sound.count, sound.entries))

-- one frame less before an arrival
pub frames_before_frame : (c : Cells) (p : FramePatch) → FitsFrame c p
    → length (shows (with_patch c p)).frames + 1 ≡ length (shows c).frames
frames_before_frame c p fits =
    let entries = length-set c.entries (wrap 877 (c.places.first + (c.places.count - 1))) p.entry in
    let now = frames_counted c (omega (arith, fits.count, fits.sound.entries, entries)) in
    omega (arith, length-frames (with_patch c p) fits.sound, now, fits.some)

count_before : (c : Cells) (n : ℕ) (left : Bool) → (moved_back c n left).count ≡ frames_before_step left c.places.count
count_before c n true = refl
count_before c n false = refl

count_grows : (left : Bool) (n : ℕ) → n ≤ frames_before_step left n
count_grows true n = omega arith
count_grows false n = omega arith

-- one more before a step with which one left
pub frames_before_piece : (c : Cells) (m : memory.Cells) (p : StepPatch) → FitsStep c m p
    → length (shows (record c { places = places_before c p })).frames
    ≡ frames_before_step p.left (length (shows c).frames)
frames_before_piece c m p fits =
    let count = count_before c (length p.first.octets) p.left in
    let grows = count_grows p.left c.places.count in
    let now = frames_counted c (omega (arith, count, grows, fits.sound.count, fits.sound.entries)) in
    length-frames (record c { places = places_before c p }) fits.sound
    ∙ count ∙ ap (frames_before_step p.left) (sym now)

-- which are not too many to be told
pub frames_fit : (c : Cells) (m : memory.Cells) (p : StepPatch) → FitsStep c m p
    → frames_before_step p.left (length (shows c).frames) ≤ 877
frames_fit c m p fits =
    omega (
      arith,
      frames_before_piece c m p fits,
      length-frames (record c { places = places_before c p }) fits.sound,
      fits.sound.count,
    )

pub step_same : (c : Cells) (m : memory.Cells) (p : StepPatch) (a : ℕ) → FitsStep c m p
    → SameUpTo m.octets (with_both m p).octets a (next_of_step p a)
step_same c m p a fits =
    let between : memory.Cells = memory.undo m p.first in
    same_in_turn m.octets between.octets (memory.undo between p.second).octets a
    (next_octet a p.first) (next_octet a p.second)
    (same_up_to a p.first (next_octet a p.first) refl m fits.first)
    (same_up_to a p.second (next_octet a p.second) refl between fits.second)
