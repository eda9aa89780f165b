-- QEMU's trace events memory_region_ops_read and memory_region_ops_write, as its log has them:
--   [PID@TIME:]memory_region_ops_read cpu CPU mr REGION addr ADDRESS value VALUE size SIZE name 'NAME'
-- and as its simpletrace.py prints them:
--   memory_region_ops_read TIME pid=PID cpu_index=CPU mr=REGION addr=ADDRESS value=VALUE size=SIZE name=b'NAME'
use Rattle.std.specs.Prelude.{ℕ, ◌-◌, Bool, ◌==◌, ◌&&◌, ◌||◌, nat_lt, if◌then◌else◌, List, [], ◌∷◌, length, codes}
use Rattle.std.specs.Prelude.{drop, take, slice_index, Option, Some, None}
use Rattle.std.specs.Str.{bytes_eq}
use Rattle.em_text.specs.Words.{words_of}
use Rattle.em_log.specs.declared.told.Way.{Way}
use Rattle.em_log.specs.declared.told.Way.TheVariants.{Read, Write}
use Rattle.em_log.specs.declared.told.Told.{Told}
use Rattle.em_log.specs.declared.told.Told.TheVariants.{Elsewhere, Nothing}
use Rattle.em_log.specs.Number.{hex_in, number_in}
use Rattle.em_log.specs.Field.{ends_with, next_field}
use Rattle.em_log.specs.Told.{with, access_of}

-- a word is this event's name, or ends with a colon and the name
abbrev pub is_event : List ℕ → List ℕ → Bool
is_event word name = ends_with word name
    && (length word == length name || slice_index word (length word - length name - 1) == 58)

abbrev pub way_of : List ℕ → Option Way
way_of event =
    if is_event event (codes "memory_region_ops_read") then Some Read else
    if is_event event (codes "memory_region_ops_write") then Some Write else
    None

-- a text between quotes
abbrev pub is_quoted : List ℕ → Bool
is_quoted text = nat_lt 1 (length text) && (slice_index text 0 == 39 && slice_index text (length text - 1) == 39)

-- without the quotes
abbrev pub inner : List ℕ → List ℕ
inner text = drop 1 (take (length text - 1) text)

-- a name without its quotes: 'NAME' or b'NAME'
abbrev pub unquoted : List ℕ → List ℕ
unquoted text =
    if is_quoted text then inner text else
    if slice_index text 0 == 98 && is_quoted (drop 1 text) then inner (drop 1 text) else
    text

-- the fields of an access, from the address on
abbrev pub fields_told : List ℕ → Way → List (List ℕ) → Told
fields_told region way words =
    with (next_field (codes "addr") words) (λ (address, words).
    with (next_field (codes "value") words) (λ (value, words).
    with (next_field (codes "size") words) (λ (size, words).
    with (next_field (codes "name") words) (λ (name, words).
    if bytes_eq (unquoted name) region
    then access_of way (hex_in address) (hex_in value) (number_in size)
    else Elsewhere))))

-- what an event's name completes; four words stand between it and the address
abbrev pub event_told : List ℕ → Option Way → List (List ℕ) → Told
event_told region None words = Nothing
event_told region (Some way) words = fields_told region way (drop 4 words)

abbrev pub words_told : List ℕ → List (List ℕ) → Told
words_told region [] = Nothing
words_told region (event ∷ words) = event_told region (way_of event) words

-- what a line tells
unfoldable pub qemu_told : List ℕ → List ℕ → Told
qemu_told region line = words_told region (words_of line)
