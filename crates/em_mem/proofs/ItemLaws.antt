-- Parts of lists, and writes within one of two lists, or within the first of a list's items.
use Rattle.std.proofs.Common.{
  ◌≡◌,
  ℕ,
  ◌+◌,
  ◌-◌,
  ◌≤◌,
  ◌<◌,
  List,
  ◌++◌,
  length,
  take,
  drop,
  get_or,
  refl,
  sym,
  ap,
  ◌∙◌,
  arith,
  length-append,
  length-drop,
}
use Rattle.std.proofs.lemmas.List.{take_at, length-take-le, drop-drop, take-append-drop, append_assoc, drop-take}
use Rattle.std.proofs.lemmas.List.{take-append-le, drop-append-le, get_or-take, get_or-append_right}
use Rattle.std.proofs.Math.Seq.{take-append-add, drop-append-add}
use Rattle.em_mem.specs.Pages.{part_of, put_in}

module _ {A : Type 0} where
  pub length-part_of : (m : List A) (a n : ℕ) → a + n ≤ length m → length (part_of m a n) ≡ n
  length-part_of m a n held = length-take-le n (drop a m) (omega (arith, length-drop a m))

  -- a write leaves the size
  pub length-put_in : (m : List A) (a : ℕ) (d : List A) → a + length d ≤ length m → length (put_in m a d) ≡ length m
  length-put_in m a d held =
      let front : length (take a m) ≡ a = length-take-le a m (omega arith) in
      let whole = length-append (take a m) (d ++ drop (a + length d) m) in
      let back = length-append d (drop (a + length d) m) in
      let rest = length-drop (a + length d) m in
      omega arith

  pub part_left : (xs ys : List A) (o n : ℕ) → o + n ≤ length xs → part_of (xs ++ ys) o n ≡ part_of xs o n
  part_left xs ys o n held = ap (take n) (drop-append-le o xs ys (omega arith))
      ∙ take-append-le n (drop o xs) ys (omega (arith, length-drop o xs))

  pub part_right : (xs ys : List A) (k o n : ℕ) → k ≡ length xs + o → part_of (xs ++ ys) k n ≡ part_of ys o n
  part_right xs ys k o n after = ap (λ m. take n (drop m (xs ++ ys))) after ∙ ap (take n) (drop-append-add xs ys o)

  pub put_left : (xs ys : List A) (o : ℕ) (d : List A) → o + length d ≤ length xs
      → put_in (xs ++ ys) o d ≡ put_in xs o d ++ ys
  put_left xs ys o d held =
      let front = take-append-le o xs ys (omega arith) in
      let back = drop-append-le (o + length d) xs ys held in
      let all : put_in (xs ++ ys) o d ≡ take o xs ++
      (d ++ (drop (o + length d) xs ++ ys)) = λ i. front i ++ (d ++ back i) in
      all ∙ ap (λ t. take o xs ++ t) (sym (append_assoc d (drop (o + length d) xs) ys))
      ∙ sym (append_assoc (take o xs) (d ++ drop (o + length d) xs) ys)

  pub put_right : (xs ys : List A) (k o : ℕ) (d : List A) → k ≡ length xs + o
      → put_in (xs ++ ys) k d ≡ xs ++ put_in ys o d
  put_right xs ys k o d after =
      let front : take k (xs ++ ys) ≡ xs ++ take o ys = ap (λ m. take m (xs ++ ys)) after ∙ take-append-add xs ys o in
      let end : k + length d ≡ length xs + (o + length d) = omega arith in
      let back : drop (k + length d) (xs ++ ys) ≡ drop (o + length d) ys = ap (λ m. drop m (xs ++ ys)) end
      ∙ drop-append-add xs ys (o + length d) in
      let all : put_in (xs ++ ys) k d ≡ (xs ++ take o ys) ++
      (d ++ drop (o + length d) ys) = λ i. front i ++ (d ++ back i) in
      all ∙ append_assoc xs (take o ys) (d ++ drop (o + length d) ys)

  -- a part of a part
  pub part_of-part_of : (m : List A) (a s o n : ℕ) → o + n ≤ s → a + s ≤ length m
      → part_of (part_of m a s) o n ≡ part_of m (a + o) n
  part_of-part_of m a s o n one held =
      let size : length (take s (drop a m)) ≡ s = length-part_of m a s held in
      sym (part_left (take s (drop a m)) (drop s (drop a m)) o n (omega (arith, size)))
      ∙ ap (λ t. part_of t o n) (take-append-drop s (drop a m)) ∙ ap (take n) (drop-drop o a m)

  -- ---- within the first items of a list
  pub part_take : (m : List A) (s o n : ℕ) → o + n ≤ s → s ≤ length m → part_of (take s m) o n ≡ part_of m o n
  part_take m s o n one all = sym (part_left (take s m) (drop s m) o n (omega (arith, length-take-le s m all)))
      ∙ ap (λ t. part_of t o n) (take-append-drop s m)

  pub put_take : (m : List A) (s o : ℕ) (d : List A) → o + length d ≤ s → s ≤ length m
      → put_in (take s m) o d ≡ take s (put_in m o d)
  put_take m s o d one all =
      let size : length (take s m) ≡ s = length-take-le s m all in
      let held : o + length d ≤ length (take s m) = omega arith in
      let split : put_in m o d ≡ put_in (take s m) o d ++ drop s m = ap (λ t. put_in t o d) (sym (take-append-drop s m))
      ∙ put_left (take s m) (drop s m) o d held in
      sym (ap (take s) split
      ∙ take_at (put_in (take s m) o d) (drop s m) s (length-put_in (take s m) o d held ∙ size))

  -- ---- within those, which lie behind others
  pub part_placed : (before m : List A) (b s a n : ℕ) → length before ≡ b → b ≤ a → a + n ≤ b + s → s ≤ length m
      → part_of (before ++ take s m) a n ≡ part_of m (a - b) n
  part_placed before m b s a n size low high all =
      part_right before (take s m) a (a - b) n (omega arith) ∙ part_take m s (a - b) n (omega arith) all

  pub put_placed : (before m : List A) (b s a : ℕ) (d : List A) → length before ≡ b → b ≤ a → a + length d ≤ b + s
      → s ≤ length m → put_in (before ++ take s m) a d ≡ before ++ take s (put_in m (a - b) d)
  put_placed before m b s a d size low high all =
      put_right before (take s m) a (a - b) d (omega arith)
      ∙ ap (λ t. before ++ t) (put_take m s (a - b) d (omega arith) all)

  pub get_placed : (before m : List A) (b s a : ℕ) (x : A) → length before ≡ b → b ≤ a → a < b + s
      → get_or (before ++ take s m) a x ≡ get_or m (a - b) x
  get_placed before m b s a x size low high =
      get_or-append_right before (take s m) b a x size low ∙ get_or-take s m (a - b) x (omega arith)
