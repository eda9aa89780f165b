-- What a step writes, by whether its descriptor takes octets.
use Rattle.std.proofs.Common.{◌≡◌, ℕ, ◌+◌, ◌≤◌, Bool, true, false, min, if◌then◌else◌, List, length, take, drop}
use Rattle.std.proofs.Common.{refl, sym, ap, ◌∙◌, arith, length-drop}
use Rattle.std.proofs.lemmas.List.{drop-take, drop-drop, length-set}
use Rattle.std.specs.Prelude.{Option, slice_index, bit_or}
use Rattle.em_mem.specs.Memory.{part}
use Rattle.em_rx.specs.Descriptor.{marked_done, written_back}
use Rattle.em_rx.specs.Fifo.{Fifo, first, rest}
use Rattle.em_rx.specs.Receive.{back_of, count_of, is_last, is_null}
use Rattle.em_rx.specs.declared.control.RxControl.{RxControl}

-- the last 8 octets of 16
pub end_is : (m : List ℕ) (a : ℕ) → part m (a + 8) 8 ≡ drop 8 (part m a 16)
end_is m a =
    ap (λ (k : ℕ). take 8 (drop k m)) (omega arith)
    ∙ sym (ap (take 8) (drop-drop 8 a m))
    ∙ sym (drop-take 8 8 (drop a m))

count_if : (null : Bool) (b r : ℕ) → (if null then 0 else min b r) ≤ r
count_if true b r = omega arith
count_if false b r = omega arith

most_if : (null : Bool) (b r : ℕ) → (if null then 0 else min b r) ≤ b
most_if true b r = omega arith
most_if false b r = omega arith

-- no more go than are left of the frame, or than a buffer has
pub count_rest : (q : RxControl) (d : List ℕ) (fifo : Fifo) → count_of q d fifo ≤ rest fifo
count_rest q d fifo = count_if (is_null q d) q.setup.buffer (rest fifo)

pub count_most : (q : RxControl) (d : List ℕ) (fifo : Fifo) → count_of q d fifo ≤ q.setup.buffer
count_most q d fifo = most_if (is_null q d) q.setup.buffer (rest fifo)

length_if : (null : Bool) (octets : List ℕ) (n : ℕ) (last inexact : Bool) (tag : Option ℕ) → length octets ≡ 8
    → length (if null then marked_done octets else written_back n last inexact tag) ≡ 8
length_if true octets n last inexact tag eight =
    length-set octets 4 (bit_or (slice_index octets 4) 0x01) ∙ eight
length_if false octets n last inexact tag eight = refl

-- the end of a descriptor has 8 octets
pub length_back : (q : RxControl) (d : List ℕ) (fifo : Fifo) → length d ≡ 16 → length (back_of q d fifo) ≡ 8
length_back q d fifo size =
    length_if (is_null q d) (drop 8 d) (count_of q d fifo) (is_last q d fifo) q.inexact (first fifo).tag
    (omega (arith, length-drop 8 d, size))
