-- What a write leaves, what a read after it gives, and what takes it back.
use Rattle.std.proofs.Common.{
  ◌≡◌,
  ℕ,
  ◌+◌,
  ◌≤◌,
  List,
  ◌++◌,
  length,
  take,
  drop,
  refl,
  sym,
  ap,
  ◌∙◌,
  arith,
  length-append,
  length-drop,
  take-add,
}
use Rattle.std.proofs.lemmas.List.{take_at, drop_at, length-take-le, drop-drop, take-append-drop, append_assoc}
use Rattle.em_mem.specs.Memory.{Cells, EndsIn, IsHeld, IsMade, Reverses, part, put}

-- a held part has as many octets as were asked for
pub length-part : (m : List ℕ) (a n : ℕ) → EndsIn m a n → length (part m a n) ≡ n
length-part m a n held = length-take-le n (drop a m) (omega (arith, length-drop a m))

-- a write leaves the size
pub length-put : (m : List ℕ) (a : ℕ) (d : List ℕ) → EndsIn m a (length d) → length (put m a d) ≡ length m
length-put m a d held =
    let front : length (take a m) ≡ a = length-take-le a m (omega arith) in
    let whole = length-append (take a m) (d ++ drop (a + length d) m) in
    let back = length-append d (drop (a + length d) m) in
    let rest = length-drop (a + length d) m in
    omega arith

-- what lies before a write
take-put : (m : List ℕ) (a : ℕ) (d : List ℕ) → EndsIn m a (length d) → take a (put m a d) ≡ take a m
take-put m a d held = take_at (take a m) (d ++ drop (a + length d) m) a (length-take-le a m (omega arith))

-- what lies from a write on
drop-put : (m : List ℕ) (a : ℕ) (d : List ℕ) → EndsIn m a (length d) → drop a (put m a d) ≡ d ++ drop (a + length d) m
drop-put m a d held = drop_at (take a m) (d ++ drop (a + length d) m) a (length-take-le a m (omega arith))

-- what lies past a write
pub drop_past-put : (m : List ℕ) (a : ℕ) (d : List ℕ) → EndsIn m a (length d)
    → drop (a + length d) (put m a d) ≡ drop (a + length d) m
drop_past-put m a d held = sym (drop-drop (length d) a (put m a d)) ∙ ap (drop (length d)) (drop-put m a d held)
    ∙ drop_at d (drop (a + length d) m) (length d) refl

-- a read of what was written
pub part-put : (m : List ℕ) (a : ℕ) (d : List ℕ) → EndsIn m a (length d) → part (put m a d) a (length d) ≡ d
part-put m a d held = ap (take (length d)) (drop-put m a d held) ∙ take_at d (drop (a + length d) m) (length d) refl

-- a read past a write gives the old octets
pub part_past-put : (m : List ℕ) (a : ℕ) (d : List ℕ) (n : ℕ) → EndsIn m a (length d)
    → part (put m a d) (a + length d) n ≡ part m (a + length d) n
part_past-put m a d n held = ap (take n) (drop_past-put m a d held)

-- the old octets, put back, take a write back
pub put-part : (m : List ℕ) (a : ℕ) (d e : List ℕ) → EndsIn m a (length d) → e ≡ part m a (length d)
    → put (put m a d) a e ≡ m
put-part m a d e held is =
    let size : length e ≡ length d = ap length is ∙ length-part m a (length d) held in
    let front : take a (put m a d) ≡ take a m = take-put m a d held in
    let rest : drop (a + length d) (put m a d) ≡ drop (a + length d) m = drop_past-put m a d held in
    let old : part m a (length d) ++ drop (a + length d) m ≡ drop a m
    = ap (λ x. part m a (length d) ++ x) (sym (drop-drop (length d) a m)) ∙ take-append-drop (length d) (drop a m) in
    let done : put (put m a d) a e ≡ take a m ++ (part m a (length d) ++ drop (a + length d) m)
    = rw (size, front, rest, is) refl in
    done ∙ ap (λ x. take a m ++ x) old ∙ take-append-drop a m

-- the same, at the list that the write left
pub put_back : (m w : List ℕ) (a : ℕ) (d e : List ℕ) → w ≡ put m a d → e ≡ part m a (length d)
    → EndsIn m a (length d) → put w a e ≡ m
put_back m w a d e left is held = ap (λ x. put x a e) left ∙ put-part m a d e held is

-- a record of the old octets takes a write back
pub write_reverses : (c d : Cells) (a : ℕ) (written old : List ℕ) → IsHeld c a (length written)
    → IsMade c a (length written) → d.base ≡ c.base → d.octets ≡ put c.octets a written → d.made ≡ c.made
    → old ≡ part c.octets a (length written) → Reverses c d (record { at = a; octets = old })
write_reverses c d a written old held made begins wrote kept is =
    let octets = put_back c.octets d.octets a written old wrote is held.to in
    let size = ap length is ∙ length-part c.octets a (length written) held.to in
    let same_size = ap length wrote ∙ length-put c.octets a written held.to in
    record {
      fits = record {
        held = record {
          from = omega (arith, begins, held.from);
          to = omega (arith, size, same_size, held.to);
        };
        made = λ i h. rw kept (made i (omega (arith, size)));
      };
      restores = λ i. record { base = begins i; octets = octets i; made = kept i };
    }

-- two writes end to end are one
pub put-put : (m : List ℕ) (a : ℕ) (d e : List ℕ) → a + length d + length e ≤ length m
    → put (put m a d) (a + length d) e ≡ put m a (d ++ e)
put-put m a d e held =
    let front_size : length (take a m) ≡ a = length-take-le a m (omega arith) in
    let first_size : length (take a m ++ d) ≡ a + length d = omega (arith, length-append (take a m) d) in
    let split : put m a d ≡ (take a m ++ d) ++ drop (a + length d) m = sym
    (append_assoc (take a m) d (drop (a + length d) m)) in
    let front : take (a + length d) (put m a d) ≡ take a m ++ d = ap (take (a + length d)) split
    ∙ take_at (take a m ++ d) (drop (a + length d) m) (a + length d) first_size in
    let end : a + length d + length e ≡ a + length (d ++ e) = omega (arith, length-append d e) in
    let back : drop (a + length d + length e) (put m a d) ≡ drop (a + length (d ++ e)) m
    = sym (drop-drop (length e) (a + length d) (put m a d))
    ∙ ap (drop (length e)) (drop_past-put m a d (omega arith)) ∙ drop-drop (length e) (a + length d) m
    ∙ ap (λ k. drop k m) end in
    let all : put (put m a d) (a + length d) e ≡ (take a m ++ d) ++
    (e ++ drop (a + length (d ++ e)) m) = λ i. front i ++ (e ++ back i) in
    all ∙ append_assoc (take a m) d (e ++ drop (a + length (d ++ e)) m)
    ∙ ap (λ t. take a m ++ t) (sym (append_assoc d e (drop (a + length (d ++ e)) m)))

-- two reads end to end are one
pub part-append : (m : List ℕ) (a k n : ℕ) → part m a k ++ part m (a + k) n ≡ part m a (k + n)
part-append m a k n = ap (λ t. take k (drop a m) ++ take n t) (sym (drop-drop k a m)) ∙ sym (take-add k n (drop a m))
