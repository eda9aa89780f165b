-- The next piece, by the tests of a step.
use Rattle.std.proofs.Common.{◌≡◌, ℕ, ◌+◌, Bool, true, false, if◌then◌else◌, List, Ok, Err, subst}
use Rattle.std.proofs.Common.{arith}
use Rattle.em_mem.specs.Memory.{LiesIn, leaves}
use Rattle.em_mem.proofs.NeedsLaws.{leaves_by, stays_in}
use Rattle.em_rx.specs.Fifo.{Fifo}
use Rattle.em_rx.specs.Receive.{IsNextPiece, count_of, delivery, descriptor, descriptor_at, is_idle, is_last}
use Rattle.em_rx.specs.Receive.{is_outside, place_of, receive}
use Rattle.em_rx.specs.declared.control.RxControl.{RxControl}
use Rattle.em_rx.specs.declared.refusal.RxRefusal.TheVariants.{DmaRange}
use Rattle.em_rx.specs.declared.step.RxAnswer.TheVariants.{Idle}
use Rattle.em_rx.specs.declared.undo.OldPiece.{OldPiece}

-- what a step leaves, by whether it is idle, and what leaves memory
by_tests : (q : RxControl) (m : List ℕ) (fifo : Fifo) (idle out short : Bool) → idle ≡ false → out ≡ false → short ≡ false
    → (if idle then Ok (record { answer = Idle; memory = m; fifo = fifo })
    else if out then Err DmaRange
    else if short then Err DmaRange
    else Ok (delivery q m fifo)) ≡ Ok (delivery q m fifo)
by_tests q m fifo true out short busy inside fits = cc
by_tests q m fifo false true short busy inside fits = cc
by_tests q m fifo false false true busy inside fits = cc
by_tests q m fifo false false false busy inside fits = cc

pub next_is : (q : RxControl) (base : ℕ) (m : List ℕ) (fifo : Fifo) (p : OldPiece) → is_idle q fifo ≡ false
    → LiesIn base m (descriptor_at q) 16 → LiesIn base m p.buffer p.len → p.buffer ≡ place_of q (descriptor q m)
    → p.end_at ≡ descriptor_at q + 8 → p.len ≡ count_of q (descriptor q m) fifo
    → p.left ≡ is_last q (descriptor q m) fifo → IsNextPiece q base m fifo p
next_is q base m fifo p busy whole held buffer end_at len left =
    let inside : leaves base m (descriptor_at q) 16 ≡ false = stays_in base m (descriptor_at q) 16 whole in
    let a : ℕ = place_of q (descriptor q m) in
    let n : ℕ = count_of q (descriptor q m) fifo in
    let there : LiesIn base m a n = subst (LiesIn base m a) len (subst (λ b. LiesIn base m b p.len) buffer held) in
    let fits : is_outside q base m fifo ≡ false = stays_in base m a n there in
    record {
      writes = busy;
      inside = inside;
      fits = fits;
      delivers = by_tests q m fifo (is_idle q fifo) _ _ busy inside fits;
      buffer = buffer;
      end_at = end_at;
      len = len;
      left = left;
      held = held;
      end_held = record {
        from = omega (arith, whole.from, end_at);
        to = omega (arith, whole.to, end_at);
      };
    }

out_by : (q : RxControl) (m : List ℕ) (fifo : Fifo) (idle out short : Bool) → idle ≡ false → short ≡ true
    → (if idle then Ok (record { answer = Idle; memory = m; fifo = fifo })
    else if out then Err DmaRange
    else if short then Err DmaRange
    else Ok (delivery q m fifo)) ≡ Err DmaRange
out_by q m fifo true out short busy past = cc
out_by q m fifo false true short busy past = cc
out_by q m fifo false false true busy past = cc
out_by q m fifo false false false busy past = cc

-- a buffer that does not lie in memory
pub buffer_out : (q : RxControl) (base : ℕ) (m : List ℕ) (fifo : Fifo) (a n : ℕ) → is_idle q fifo ≡ false
    → (LiesIn base m a n → ⊥) → a ≡ place_of q (descriptor q m) → n ≡ count_of q (descriptor q m) fifo
    → receive q base m fifo ≡ Err DmaRange
buffer_out q base m fifo a n busy out at len =
    let there : is_outside q base m fifo ≡ true
    = subst (λ k. leaves base m (place_of q (descriptor q m)) k ≡ true) len
    (subst (λ b. leaves base m b n ≡ true) at (leaves_by base m a n out)) in
    out_by q m fifo (is_idle q fifo) _ _ busy there
