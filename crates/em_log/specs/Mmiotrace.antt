-- Linux's mmiotrace, by its documentation (Documentation/trace/mmiotrace.rst): a line begins with a keyword.
--   R and W: width, timestamp, map id, physical, value, PC, PID
--   MAP: timestamp, map id, physical, virtual, length, PC, PID
use Rattle.std.specs.Prelude.{ℕ, ◌==◌, if◌then◌else◌, List, [], ◌∷◌, codes, drop, Some}
use Rattle.std.specs.Str.{bytes_eq}
use Rattle.em_text.specs.Words.{words_of}
use Rattle.em_log.specs.declared.told.Way.{Way}
use Rattle.em_log.specs.declared.told.Way.TheVariants.{Read, Write}
use Rattle.em_log.specs.declared.told.Told.{Told}
use Rattle.em_log.specs.declared.told.Told.TheVariants.{Base, Nothing, Fault}
use Rattle.em_log.specs.Number.{number_in}
use Rattle.em_log.specs.Field.{next_word, next_hex, has_two}
use Rattle.em_log.specs.Told.{with, access_of}

-- how many octets the registers of an 82540EM take: 128 KiB
abbrev pub space : ℕ
space = 0x20000

-- width, timestamp, map id, physical, value, PC, PID
abbrev pub access_told : Way → List (List ℕ) → Told
access_told way words =
    with (next_word words) (λ (width, words).
    with (next_hex (drop 2 words)) (λ (physical, words).
    with (next_hex words) (λ (value, words).
    if has_two words then access_of way (Some physical) (Some value) (number_in width) else Fault)))

-- timestamp, map id, physical, virtual, length: where they are mapped whole, the registers lie there
abbrev pub map_told : List (List ℕ) → Told
map_told words =
    with (next_hex (drop 2 words)) (λ (physical, words).
    with (next_hex (drop 1 words)) (λ (len, words).
    if len == space then Base physical else Nothing))

abbrev pub words_told : List (List ℕ) → Told
words_told [] = Nothing
words_told (keyword ∷ words) =
    if bytes_eq keyword (codes "R") then access_told Read words else
    if bytes_eq keyword (codes "W") then access_told Write words else
    if bytes_eq keyword (codes "MAP") then map_told words else
    Nothing

-- what a line tells
unfoldable pub mmiotrace_told : List ℕ → Told
mmiotrace_told line = words_told (words_of line)
