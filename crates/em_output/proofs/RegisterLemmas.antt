-- The lines of registers, one after another.
use Rattle.std.proofs.Common.{◌≡◌, ◌≢◌, ◌==◌, ◌≤◌, ◌<◌, ◌+◌, ◌-◌, ◌*◌, ◌/◌, ◌%◌, false, arith, ℕ, zero, suc, refl, ap}
use Rattle.std.proofs.Common.{sym}
use Rattle.std.proofs.Common.{◌∙◌, List, [], ◌++◌, Option, None}
use Rattle.std.specs.Prelude.{unwrap_or}
use Rattle.std.specs.Option.{option_map}
use Rattle.std.specs.Io.KnownBytes.{Appends}
use Rattle.em_regs.specs.Table.{kept_by, reg_at, reg_of, NoneFrom}
use Rattle.em_step.specs.Access.{gives}
use Rattle.std.proofs.lemmas.Bool.Decides.{nat_tests}
use Rattle.em_text.specs.Writer.{register_line_text}
use Rattle.em_text.proofs.WritingLemmas.{Appends-same}
use Rattle.em_step.specs.State.{State}
use Rattle.em_output.specs.Registers.{register_text, word_text, words_text}

-- the first of some words, and the others
pub words_text-more : (s : State) (word : ℕ) {n m : ℕ} → n ≡ suc m
    → words_text s word n ≡ word_text s word ++ words_text s (word + 1) m
unfolding words_text
words_text-more s word e = rw e refl

-- no words
pub words_text-none : (s : State) (word : ℕ) {n : ℕ} → n ≡ 0 → words_text s word n ≡ []
unfolding words_text
words_text-none s word e = rw e refl

-- words with no register have no text
words_text-bare : (s : State) (word count more : ℕ)
    → ((k : ℕ) → word ≤ k → k < word + count → reg_at (4 * k) ≡ None)
    → words_text s word (count + more) ≡ words_text s (word + count) more
words_text-bare s word zero more bare =
    let words : 0 + more ≡ more = omega arith in
    let at : word ≡ word + 0 = omega arith in
    ap (words_text s word) words ∙ ap (λ w. words_text s w more) at
words_text-bare s word (suc count) more bare =
    let words : suc count + more ≡ suc (count + more) = omega arith in
    let none : reg_at (4 * word) ≡ None = bare word (omega arith) (omega arith) in
    let text : word_text s word ≡ [] = ap (λ r. register_text (4 * word) (unwrap_or (option_map (gives s) (kept_by s.profile r)) 0)) none in
    let others = words_text-bare s (word + 1) count more (λ k from below. bare k (omega arith) (omega arith)) in
    let at : word + 1 + count ≡ word + suc count = omega arith in
    words_text-more s word words ∙ ap (λ l. l ++ words_text s (word + 1) (count + more)) text
    ∙ others ∙ ap (λ w. words_text s w more) at

-- from an offset on, where the next register lies at another
pub words_text-next : (s : State) (from next : ℕ) → from % 4 ≡ 0 → next % 4 ≡ 0 → from ≤ next → next < 0x06000
    → NoneFrom from next → words_text s (from / 4) (0x01800 - from / 4)
    ≡ word_text s (next / 4) ++ words_text s ((next + 4) / 4) (0x01800 - (next + 4) / 4)
words_text-next s from next whole next_whole le lt none =
    let count = next / 4 - from / 4 in
    let cut : count + (0x01800 - next / 4) ≡ 0x01800 - from / 4 = omega arith in
    let at : from / 4 + count ≡ next / 4 = omega arith in
    let behind : next / 4 + 1 ≡ (next + 4) / 4 = omega arith in
    let more : 0x01800 - next / 4 ≡ suc (0x01800 - (next + 4) / 4) = omega arith in
    let bare = words_text-bare s (from / 4) count (0x01800 - next / 4)
    (λ k first last. none (4 * k) (omega arith) (omega arith)) in
    ap (words_text s (from / 4)) (sym cut) ∙ bare ∙ ap (λ w. words_text s w (0x01800 - next / 4)) at
    ∙ words_text-more s (next / 4) more
    ∙ ap (λ w. word_text s (next / 4) ++ words_text s w (0x01800 - (next + 4) / 4)) behind

-- from an offset on, where no register lies behind it
pub words_text-last : (s : State) (from : ℕ) → from % 4 ≡ 0 → ((o : ℕ) → from ≤ o → reg_at o ≡ None)
    → words_text s (from / 4) (0x01800 - from / 4) ≡ []
words_text-last s from whole none =
    let count = 0x01800 - from / 4 in
    let all : count + 0 ≡ count = omega arith in
    let bare = words_text-bare s (from / 4) count 0 (λ k first last. none (4 * k) (omega arith)) in
    ap (words_text s (from / 4)) (sym all) ∙ bare ∙ words_text-none s (from / 4 + count) refl

-- a word by the value that a look at its offset gave
word_text-at : (s : State) (offset : ℕ) {value : ℕ} {looked : Option ℕ} → offset % 4 ≡ 0
    → looked ≡ option_map (gives s) (reg_of s.profile offset) → value ≡ unwrap_or looked 0
    → register_text offset value ≡ word_text s (offset / 4)
word_text-at s offset whole look is =
    let at : offset ≡ 4 * (offset / 4) = omega arith in
    ap (register_text offset) (is ∙ ap (λ o. unwrap_or o 0) look)
    ∙ ap (λ o. register_text o (unwrap_or (option_map (gives s) (reg_of s.profile o)) 0)) at

-- nothing is written of a register that is zero
pub zero_written : (s : State) (offset : ℕ) {value : ℕ} {looked : Option ℕ} (a : Option (List ℕ)) → offset % 4 ≡ 0
    → looked ≡ option_map (gives s) (reg_of s.profile offset) → value ≡ unwrap_or looked 0 → value ≡ 0
    → Appends a a (word_text s (offset / 4))
zero_written s offset a whole look is none =
    let empty : word_text s (offset / 4) ≡ [] = sym (word_text-at s offset whole look is)
    ∙ ap (register_text offset) none in
    rw empty (Appends-same a)

-- a register that is not zero has its line
pub line_written : (s : State) (offset : ℕ) {value : ℕ} {looked : Option ℕ} → offset % 4 ≡ 0
    → looked ≡ option_map (gives s) (reg_of s.profile offset) → value ≡ unwrap_or looked 0 → value ≢ 0
    → register_line_text offset value ≡ word_text s (offset / 4)
line_written s offset {value = value} whole look is some =
    let test : (value == 0) ≡ false = grind (arith, nat_tests) in
    let line : register_text offset value ≡ register_line_text offset value = rw test refl in
    sym line ∙ word_text-at s offset whole look is
