-- What was stored passes each test of its front and end.
use Rattle.std.proofs.Common.{◌≡◌, ℕ, ◌+◌, ◌-◌, ◌<◌, ◌^◌, false, ltb, List, [], ◌++◌, length, take, drop, None}
use Rattle.std.proofs.Common.{refl, sym, ap, ◌∙◌, arith, length-append, append_assoc, append-nil, eq-eqb}
use Rattle.std.proofs.lemmas.List.{take_at, drop_at}
use Rattle.std.proofs.lemmas.Bool.{le-ltb}
use Rattle.byteorder.specs.Endian.{little_number}
use Rattle.em_crc.specs.Crc.{crc32}
use Rattle.em_stored.specs.Form.{word, number}
use Rattle.em_stored.specs.Stored.{measured, opened, summed}
use Rattle.em_stored.specs.Tests.{fault_of, number_at, word_at}
use Rattle.byteorder.specs.Numbers.{little_number-reads_back}
use Rattle.em_stored.proofs.OneLaws.{length-word, length-number}

-- a number that was written is read
word_back : (n : ℕ) (rest : List ℕ) → n < 2 ^ 32 → little_number 4 (word n ++ rest) ≡ n
unfolding word
word_back n rest h = little_number-reads_back 4 n rest h

number_back : (n : ℕ) (rest : List ℕ) → n < 2 ^ 64 → little_number 8 (number n ++ rest) ≡ n
unfolding number
number_back n rest h = little_number-reads_back 8 n rest h

crc32-lt : (octets : List ℕ) → crc32 octets < 2 ^ 32
unfolding crc32
crc32-lt octets = omega arith

-- a number behind others
number_there : (before behind octets : List ℕ) (n at : ℕ) → octets ≡ before ++ (number n ++ behind) → length before ≡ at
    → n < 2 ^ 64 → number_at at octets ≡ n
unfolding number_at
number_there before behind octets n at e size lt =
    ap (little_number 8) (ap (drop at) e ∙ drop_at before (number n ++ behind) at size) ∙ number_back n behind lt

word_there : (before behind octets : List ℕ) (n at : ℕ) → octets ≡ before ++ (word n ++ behind) → length before ≡ at
    → n < 2 ^ 32 → word_at at octets ≡ n
unfolding word_at
word_there before behind octets n at e size lt =
    ap (little_number 4) (ap (drop at) e ∙ drop_at before (word n ++ behind) at size) ∙ word_back n behind lt

abbrev MAGIC : ℕ
MAGIC = 0x5641_4C45_4A4E_5542

module _ (body : List ℕ) where
  abbrev first : List ℕ
  first = opened body

  abbrev count : ℕ
  count = length first + 12

  abbrev all_but_sum : List ℕ
  all_but_sum = measured first

  abbrev all : List ℕ
  all = summed all_but_sum

  length-first : length first ≡ length body + 12
  length-first =
      omega (
        arith,
        length-append (number MAGIC) (word 1 ++ body),
        length-append (word 1) body,
        length-number MAGIC,
        length-word 1,
      )

  length-but_sum : length all_but_sum ≡ length first + 8
  length-but_sum = omega (arith, length-append first (number count), length-number count)

  length-all : length all ≡ length body + 24
  length-all =
      omega (
        arith,
        length-append all_but_sum (word (crc32 all_but_sum)),
        length-word (crc32 all_but_sum),
        length-but_sum,
        length-first,
      )

  abbrev back : List ℕ
  back = number count ++ word (crc32 all_but_sum)

  behind_first : all ≡ first ++ back
  behind_first = append_assoc first (number count) (word (crc32 all_but_sum))

  behind_magic : all ≡ number MAGIC ++ (word 1 ++ (body ++ back))
  behind_magic =
      behind_first ∙ append_assoc (number MAGIC) (word 1 ++ body) back
      ∙ ap (λ (t : List ℕ). number MAGIC ++ t) (append_assoc (word 1) body back)

  -- every test is passed
  pub passes : length all < 2 ^ 64 → fault_of all ≡ None
  unfolding fault_of
  passes small =
      let is_long : ltb (length all) 8 ≡ false = le-ltb (length all) 8 (omega (arith, length-all)) in
      let is_longer : ltb (length all) 12 ≡ false = le-ltb (length all) 12 (omega (arith, length-all)) in
      let is_whole : ltb (length all) 24 ≡ false = le-ltb (length all) 24 (omega (arith, length-all)) in
      let magic : number_at 0 all ≡ MAGIC = number_there [] (word 1 ++ (body ++ back)) all MAGIC 0 behind_magic refl
      (omega arith) in
      let version : word_at 8 all ≡ 1
      = word_there (number MAGIC) (body ++ back) all 1 8 behind_magic (length-number MAGIC) (omega arith) in
      let end : length first ≡ length all - 12 = omega (arith, length-all, length-first) in
      let said : count ≡ length all = omega (arith, length-all, length-first) in
      let told : number_at (length all - 12) all ≡ length all
      = number_there first (word (crc32 all_but_sum)) all count (length all - 12) behind_first end
      (omega (arith, said, small)) ∙ said in
      let last : length all_but_sum ≡ length all - 4 = omega (arith, length-all, length-first, length-but_sum) in
      let sum : word_at (length all - 4) all ≡ crc32 (take (length all - 4) all)
      = word_there all_but_sum [] all (crc32 all_but_sum) (length all - 4)
      (ap (λ (t : List ℕ). all_but_sum ++ t) (sym (append-nil (word (crc32 all_but_sum))))) last
      (crc32-lt all_but_sum)
      ∙ ap crc32 (sym (take_at all_but_sum (word (crc32 all_but_sum)) (length all - 4) last)) in
      let one = eq-eqb (number_at 0 all) MAGIC magic in
      let two = eq-eqb (word_at 8 all) 1 version in
      let three = eq-eqb (number_at (length all - 12) all) (length all) told in
      let four = eq-eqb (word_at (length all - 4) all) (crc32 (take (length all - 4) all)) sum in
      rw (is_long, is_longer, is_whole, one, two, three, four) refl
