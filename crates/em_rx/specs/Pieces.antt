-- Receive steps one after another, with nothing between them, and the pieces of one frame.
use Rattle.std.specs.Prelude.{◌≡◌, ℕ, suc, zero, ◌+◌, ◌-◌, ◌*◌, ◌<◌, ◌≤◌, ◌⊎◌, ◌==◌, min, true, false, List, length, Result}
use Rattle.std.specs.Prelude.{Ok, Err}
use Rattle.em_mem.specs.Memory.{LiesIn, part}
use Rattle.em_regs.specs.declared.setup.RxSetup.{RxSetup}
use Rattle.em_mem.specs.Ring.{wrap}
use Rattle.em_rx.specs.Frame.{Frame}
use Rattle.em_rx.specs.Fifo.{Fifo}
use Rattle.em_rx.specs.Descriptor.{descriptor_of, written_back}
use Rattle.em_rx.specs.Control.{is_null_at}
use Rattle.em_rx.specs.Receive.{receive, Outcome}
use Rattle.em_rx.specs.declared.control.RxControl.{RxControl}
use Rattle.em_rx.specs.declared.step.RxAnswer.{RxAnswer}
use Rattle.em_rx.specs.declared.step.RxAnswer.TheVariants.{Idle, Wrote}
use Rattle.em_rx.specs.declared.refusal.RxRefusal.{RxRefusal}

-- what the receive engine works on
pub record Engine : Type 0 where
  pub control : RxControl
  pub base : ℕ
  pub memory : List ℕ
  pub fifo : Fifo

-- RDH after an answer
abbrev pub head_after : ℕ → RxAnswer → ℕ
head_after head Idle = head
head_after head (Wrote index next causes) = next

-- the control with another RDH
abbrev pub with_head : RxControl → ℕ → RxControl
with_head q head = record q { setup = record q.setup { head = head } }

-- the engine after an outcome: RDH moves on
abbrev pub with_outcome : Engine → Outcome → Engine
with_outcome s outcome = record {
  control = with_head s.control (head_after s.control.setup.head outcome.answer);
  base = s.base;
  memory = outcome.memory;
  fifo = outcome.fifo;
}

-- what follows is done where nothing was refused before
abbrev pub and_then : {A B : Type 0} → (A → Result B RxRefusal) → Result A RxRefusal → Result B RxRefusal
and_then f (Ok x) = f x
and_then f (Err refusal) = Err refusal

-- the engine after a step
abbrev pub after_step : Engine → Result Engine RxRefusal
after_step s = and_then (λ outcome. Ok (with_outcome s outcome)) (receive s.control s.base s.memory s.fifo)

-- the engine after so many steps
abbrev pub after_steps : ℕ → Engine → Result Engine RxRefusal
after_steps zero s = Ok s
after_steps (suc k) s = and_then after_step (after_steps k s)

-- the index of the descriptor k places behind RDH
abbrev pub place : RxSetup → ℕ → ℕ
place q k = wrap q.count (q.head + k)

-- where that descriptor lies
abbrev pub place_at : RxSetup → ℕ → ℕ
place_at q k = q.base + 16 * place q k

-- where its buffer lies
abbrev pub piece_at : RxSetup → List ℕ → ℕ → ℕ
piece_at q memory k = (descriptor_of (part memory (place_at q k) 16)).address

-- how many octets piece k has of a frame of so many
abbrev pub piece_len : RxSetup → ℕ → ℕ → ℕ
piece_len q len k = min q.buffer (len - k * q.buffer)

-- two ranges have no octet in common
abbrev pub AreApart : ℕ → ℕ → ℕ → ℕ → Type 0
AreApart a n b m = (a + n ≤ b) ⊎ (b + m ≤ a)

-- a frame goes in j pieces into buffers that are the adapter's: all of them and their descriptors lie in memory, no two of
-- these have an octet in common, and each takes octets
pub record GoesInPieces (c : RxControl) (base : ℕ) (memory : List ℕ) (frame : Frame) (j : ℕ) : Type 0 where
  pub enabled : c.setup.enabled ≡ true
  pub head : c.setup.head < c.setup.count
  pub tail : c.setup.tail < c.setup.count
  pub some : 0 < length frame.octets
  pub enough : length frame.octets ≤ j * c.setup.buffer
  pub least : j * c.setup.buffer < length frame.octets + c.setup.buffer
  pub ours : j ≤ wrap c.setup.count (c.setup.tail + c.setup.count - c.setup.head)
  pub descriptor_held : (i : ℕ) → i < j → LiesIn base memory (place_at c.setup i) 16
  pub piece_held : (i : ℕ) → i < j → LiesIn base memory (piece_at c.setup memory i) (piece_len c.setup (length frame.octets) i)
  pub filled : (i : ℕ) → i < j → is_null_at c.profile (piece_at c.setup memory i) ≡ false
  pub descriptors : (i k : ℕ) → i < k → k < j → AreApart (place_at c.setup i) 16 (place_at c.setup k) 16
  pub pieces : (i k : ℕ) → i < k → k < j →
      AreApart (piece_at c.setup memory i) (piece_len c.setup (length frame.octets) i)
      (piece_at c.setup memory k) (piece_len c.setup (length frame.octets) k)
  pub both : (i k : ℕ) → i < j → k < j →
      AreApart (piece_at c.setup memory i) (piece_len c.setup (length frame.octets) i) (place_at c.setup k) 16

-- piece i lies in its buffer, and its descriptor says so
pub record IsDelivered (c : RxControl) (memory after : List ℕ) (frame : Frame) (j i : ℕ) : Type 0 where
  pub octets :
      part after (piece_at c.setup memory i) (piece_len c.setup (length frame.octets) i)
      ≡ part frame.octets (i * c.setup.buffer) (piece_len c.setup (length frame.octets) i)
  pub descriptor :
      part after (place_at c.setup i + 8) 8 ≡ written_back (piece_len c.setup (length frame.octets) i) (i + 1 == j) c.inexact frame.tag
