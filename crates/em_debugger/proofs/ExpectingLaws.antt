-- What a line says is no longer than the line.
use Rattle.std.proofs.Common.{ℕ, ◌-◌, ◌≤◌, List, length, take, Option, Some, None, arith}
use Rattle.std.proofs.lemmas.List.{length-take}
use Rattle.std.specs.List.{suffix_len}
use Rattle.em_text.specs.Words.{is_blank}
use Rattle.em_line.specs.Parts.{mark_in, said_before, said_in}

said_before-length : (line : List ℕ) (at : Option ℕ) → length (said_before line at) ≤ length line
said_before-length line None = omega arith
said_before-length line (Some at) =
    let front = take at line in
    omega (arith, length-take (length front - suffix_len is_blank front) front, length-take at line)

pub said-length : (line : List ℕ) → length (said_in line) ≤ length line
said-length line = said_before-length line (mark_in line)
