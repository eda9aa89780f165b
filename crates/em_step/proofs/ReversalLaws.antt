-- What reversed changes have in common.
use Rattle.std.proofs.Common.{◌≡◌, ap, sym, subst, arith}
use Rattle.em_mem.specs.Memory as memory
use Rattle.em_mem.specs.OldOctets.{OldOctets, Saves}
use Rattle.em_mem.proofs.OldOctetsLaws.{saved_nothing}
use Rattle.em_latch.specs.Latches as latches
use Rattle.em_latch.specs.Latches.{Growth}
use Rattle.em_regs.specs.Storage.{Registers}
use Rattle.em_latch.proofs.UndoLaws.{nothing_reversed}
use Rattle.em_tx.specs.Cells.{Gathered, MoreRoom}
use Rattle.em_step.specs.Undo.{IsAt, IsPlain, KeepsFor, held}
use Rattle.em_step.specs.declared.undo.Record.{Record}
use Rattle.std.specs.Prelude.{IsTrue, List, []}

-- the same pages are no fewer
pub more_same : (c d : memory.Cells) → d ≡ c → memory.MorePages c d
more_same c d same = record {
  base = ap (λ (m : memory.Cells). m.base) same;
  octets = ap (λ (m : memory.Cells). m.octets) same;
  made = λ p made. subst (λ (m : memory.Cells). memory.IsPageMade m p) (sym same) made;
}

-- the same room is no less
pub room_same : (g h : Gathered) → h ≡ g → MoreRoom g h
room_same g h same = record {
  octets = ap (λ (x : Gathered). x.octets) same;
  room = subst (λ (x : Gathered). IsTrue x.room) (sym same);
}

-- no fewer than the same
pub pages_from : {a b c : memory.Cells} → a ≡ b → memory.MorePages a c → memory.MorePages b c
pages_from {c = c} same = subst (λ x. memory.MorePages x c) same

pub room_from : {g h k : Gathered} → g ≡ h → MoreRoom g k → MoreRoom h k
room_from {k = k} same = subst (λ x. MoreRoom x k) same

-- growths of the latches that are known to be others
pub reversed_growths : {old new : Registers} {fs gs : List Growth} → fs ≡ gs → latches.Reverses old new gs
    → latches.Reverses old new fs
reversed_growths {old = old} {new = new} same reverses = subst (λ hs. latches.Reverses old new hs) (sym same) reverses

-- a record of no growths takes no change back
pub nothing_done : {m : Registers} {gs : List Growth} → gs ≡ [] → latches.Reverses m m gs
nothing_done {m = m} empty = reversed_growths empty (nothing_reversed m)

-- the record of an effect for which no octets are saved
pub plain_of : {r q : Record} → r ≡ q → held q ≡ 0 → ((o : OldOctets) → IsAt q o) → IsPlain r
plain_of same none anywhere = subst IsPlain (sym same) (record { held = none; at = anywhere })

pub plain_keeps : {r q : Record} {o p : OldOctets} → r ≡ q → held q ≡ 0 → ((x : OldOctets) → IsAt q x) → p ≡ o
    → KeepsFor r o p
plain_keeps {q = q} {o} {p} same none anywhere stays =
    let saves : Saves (held q) o o
    = subst (λ n. Saves n o o) (sym none) (record { room = omega arith; saved = saved_nothing [] 0 o }) in
    let here : KeepsFor q o o = record {
      keeps = record { room = omega (arith, none); saves = λ fits. saves };
      few = omega (arith, none);
      at = anywhere o;
    } in
    subst (λ x. KeepsFor x o p) (sym same) (subst (λ x. KeepsFor q o x) (sym stays) here)
