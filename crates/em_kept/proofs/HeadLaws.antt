-- What a kept run begins with does nothing when it is played.
use Rattle.std.proofs.Common.{◌≡◌, ℕ, zero, suc, ◌^◌, ◌<◌, ◌++◌, Bool, true, false, List, [], ◌∷◌, refl, sym, ap, ◌∙◌, arith}
use Rattle.std.proofs.Common.{◌+◌, codes, subst, append_assoc, append-nil}
use Rattle.std.specs.Prelude.{decimal, ◌==◌, if◌then◌else◌}
use Rattle.std.specs.List.{All, flat_map}
use Rattle.std.specs.Int.{w16, w64, to_be_bytes}
use Rattle.std.proofs.lemmas.List.Elements.{All-append}
use Rattle.hex.specs.Hex.{IsBytes}
use Rattle.em_eeprom.specs.Eeprom.{IsEeprom, mac_of, word_at}
use Rattle.em_regs.specs.declared.profile.Profile.{Profile}
use Rattle.em_regs.specs.declared.profile.Profile.TheVariants.{Table, Adapter}
use Rattle.em_text.specs.Lines.{is_newline, lines_of}
use Rattle.em_text.specs.Writer.{hex_text}
use Rattle.em_kept.specs.Head.{address_digits, base_text, head_lines, head_text, is_of_mac, marked_base_text, profile_text}
use Rattle.em_kept.specs.Head.{settings_line, settings_text}
use Rattle.em_kept.specs.Head.{words_from, words_line, words_text, word_digits}
use Rattle.em_kept.specs.Kept.{text_of}
use Rattle.em_kept.specs.ReadBack.{AreSilent, AreWhole}
use Rattle.em_kept.proofs.DigitLaws.{bytes_fit, quiet_decimal, quiet_hex}
use Rattle.em_kept.proofs.LineLaws.{silent_line, text_lines}
use Rattle.em_kept.proofs.PartsOfLines.{all_not, all_quiet, no_newline}

abbrev Whole : List ℕ → Type 0
Whole xs = All (λ x. is_newline x ≡ false) xs

join : (xs ys : List ℕ) → Whole xs → Whole ys → Whole (xs ++ ys)
join xs ys a b = All-append (λ x. is_newline x ≡ false) xs ys a b

-- ---- what it is of

mac_bytes : (words : List ℕ) → IsEeprom words → IsBytes (mac_of words)
mac_bytes words is zero = omega arith
mac_bytes words is (suc zero) = let w = is.small 0 (omega (arith, is.count)) in omega (arith, w)
mac_bytes words is (suc (suc zero)) = omega arith
mac_bytes words is (suc (suc (suc zero))) = let w = is.small 1 (omega (arith, is.count)) in omega (arith, w)
mac_bytes words is (suc (suc (suc (suc zero)))) = omega arith
mac_bytes words is (suc (suc (suc (suc (suc zero))))) = let w = is.small 2 (omega (arith, is.count)) in omega (arith, w)
mac_bytes words is (suc (suc (suc (suc (suc (suc k)))))) = omega arith

base_whole_where : (first : Bool) (base : ℕ) → Whole (if first then [] else marked_base_text base)
base_whole_where true base = λ k d lt. absurd (omega arith)
base_whole_where false base =
    join (codes " --base ") (address_digits base) (all_not is_newline (codes " --base ") refl)
    (all_quiet _ (address_digits base) no_newline (quiet_hex (to_be_bytes w64 base) (bytes_fit 8 base)))

base_whole : (base : ℕ) → Whole (base_text base)
base_whole base = base_whole_where (base == 0) base

profile_whole : (profile : Profile) → Whole (profile_text profile)
profile_whole Table = λ k d lt. absurd (omega arith)
profile_whole Adapter = all_not is_newline (codes " --profile adapter") refl

mac_whole : (words : List ℕ) → IsEeprom words → Whole (codes " --mac " ++ hex_text (mac_of words))
mac_whole words is =
    let mac = hex_text (mac_of words) in
    join (codes " --mac ") mac (all_not is_newline (codes " --mac ") refl)
    (all_quiet _ mac no_newline (quiet_hex (mac_of words) (mac_bytes words is)))

settings_whole : (profile : Profile) (base memory budget : ℕ) (words : List ℕ) → memory < 2 ^ 64 → budget < 2 ^ 64
    → IsEeprom words → Whole (settings_line profile base memory budget (mac_of words))
settings_whole profile base memory budget words m b is =
    let mac = codes " --mac " ++ hex_text (mac_of words) in
    join (codes "# em_debug --memory " ++ (decimal memory ++ (codes " --budget " ++ decimal budget)))
    (base_text base ++ (profile_text profile ++ mac))
    (join (codes "# em_debug --memory ") (decimal memory ++ (codes " --budget " ++ decimal budget))
    (all_not is_newline (codes "# em_debug --memory ") refl)
    (join (decimal memory) (codes " --budget " ++ decimal budget)
    (all_quiet _ (decimal memory) no_newline (quiet_decimal memory m))
    (join (codes " --budget ") (decimal budget) (all_not is_newline (codes " --budget ") refl)
    (all_quiet _ (decimal budget) no_newline (quiet_decimal budget b)))))
    (join (base_text base) (profile_text profile ++ mac) (base_whole base)
    (join (profile_text profile) mac (profile_whole profile) (mac_whole words is)))

words_whole_from : (words : List ℕ) (at n : ℕ) → Whole (words_from words at n)
unfolding words_from
words_whole_from words at zero = λ k d lt. absurd (omega arith)
words_whole_from words at (suc n) =
    join (word_digits (word_at words at)) _
    (all_quiet _ (word_digits (word_at words at)) no_newline
    (quiet_hex (to_be_bytes w16 (word_at words at)) (bytes_fit 2 (word_at words at)))) (words_whole_from words (at + 1) n)

words_whole : (words : List ℕ) → Whole (words_line words)
words_whole words =
    join (codes "# eeprom ") (words_from words 0 64) (all_not is_newline (codes "# eeprom ") refl)
    (words_whole_from words 0 64)

-- ---- the lines

silent_words : (other : Bool) (words : List ℕ) → AreSilent (if other then [] else words_line words ∷ [])
silent_words true words = tt
silent_words false words = (silent_line _ (words_whole words), tt)

pub head_silent : (profile : Profile) (base memory budget : ℕ) (words : List ℕ) → memory < 2 ^ 64 → budget < 2 ^ 64
    → IsEeprom words → AreSilent (head_lines profile base memory budget words)
head_silent profile base memory budget words m b is =
    (silent_line _ (settings_whole profile base memory budget words m b is), silent_words (is_of_mac words) words)

words_made : (other : Bool) (words : List ℕ)
    → (if other then [] else codes "# eeprom " ++ (words_from words 0 64 ++ codes "\n"))
    ≡ flat_map text_of (if other then [] else words_line words ∷ [])
words_made true words = refl
words_made false words = sym (append-nil (text_of (words_line words)))

settings_made : (profile : Profile) (base memory budget : ℕ) (words : List ℕ)
    → settings_text profile base memory budget (mac_of words)
    ≡ text_of (settings_line profile base memory budget (mac_of words))
settings_made profile base memory budget words =
    let front = codes "# em_debug --memory " ++ (decimal memory ++ (codes " --budget " ++ decimal budget)) in
    let mac = codes " --mac " ++ hex_text (mac_of words) in
    let behind = profile_text profile ++ mac in
    sym (append_assoc front (base_text base ++ behind) (codes "\n")
    ∙ ap (λ l. front ++ l) (append_assoc (base_text base) behind (codes "\n")
    ∙ ap (λ l. base_text base ++ l) (append_assoc (profile_text profile) mac (codes "\n"))))

pub head_made : (profile : Profile) (base memory budget : ℕ) (words : List ℕ)
    → head_text profile base memory budget words ≡ flat_map text_of (head_lines profile base memory budget words)
head_made profile base memory budget words =
    ap (λ l. l ++ words_text words) (settings_made profile base memory budget words)
    ∙ ap (λ l. text_of (settings_line profile base memory budget (mac_of words)) ++ l) (words_made (is_of_mac words) words)

pub silent_whole : (lines : List (List ℕ)) → AreSilent lines → AreWhole lines
silent_whole [] h = tt
silent_whole (line ∷ lines) h = (h.0.whole, silent_whole lines h.1)

pub head_read : (profile : Profile) (base memory budget : ℕ) (words : List ℕ) → memory < 2 ^ 64 → budget < 2 ^ 64
    → IsEeprom words → AreSilent (lines_of (head_text profile base memory budget words))
head_read profile base memory budget words m b is =
    let lines = head_lines profile base memory budget words in
    let silent = head_silent profile base memory budget words m b is in
    subst AreSilent
    (sym (ap lines_of (head_made profile base memory budget words) ∙ text_lines lines (silent_whole lines silent))) silent
