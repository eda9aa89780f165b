-- What the parts of a machine say of themselves.
use Rattle.std.proofs.Common.{◌≡◌, ℕ, ◌+◌, ◌-◌, ◌%◌, ◌^◌, List, length, take, sym, ap, ◌∙◌, subst, arith}
use Rattle.em_mem.specs.Memory.{Cells, IsMemoryRange, zeros}
use Rattle.em_regs.specs.Storage.{Registers, words_at}
use Rattle.em_regs.specs.RegFile.{words_of}
use Rattle.em_stored.specs.Machines.{AreBelow}

-- memory lies in a range, with nothing before it
pub record IsPlaced (m : Cells) : Type 0 where
  pub range : IsMemoryRange m.base (length m.octets - m.base)
  pub end : m.base + (length m.octets - m.base) ≡ length m.octets
  pub front : take m.base m.octets ≡ zeros m.base

pub placed : (m : Cells) (base size : ℕ) → base ≡ m.base → base + size ≡ length m.octets → IsMemoryRange base size
    → take base m.octets ≡ zeros base → IsPlaced m
placed m base size at end range front =
    let left : size ≡ length m.octets - m.base = omega arith in
    record {
      range = record {
        least = omega (arith, range.least);
        end = omega (arith, range.end);
        whole_size = ap (λ n. n % 4096) (sym left) ∙ range.whole_size;
        whole_base = ap (λ n. n % 4096) (sym at) ∙ range.whole_base;
      };
      end = omega arith;
      front = subst (λ (n : ℕ). take n m.octets ≡ zeros n) at front;
    }

-- registers are those of their words
pub record AreKept (os : List ℕ) (m : Registers) : Type 0 where
  pub map : words_at os (words_of os m) ≡ m
  pub words : AreBelow (2 ^ 32) (words_of os m)

pub kept : (os ws : List ℕ) (m : Registers) → ws ≡ words_of os m → words_at os ws ≡ m → AreBelow (2 ^ 32) ws
    → AreKept os m
kept os ws m is map fit = record {
  map = ap (words_at os) (sym is) ∙ map;
  words = subst (λ (ns : List ℕ). AreBelow (2 ^ 32) ns) is fit;
}
