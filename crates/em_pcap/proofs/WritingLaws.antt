-- A capture that is written, and read again.
use Rattle.std.proofs.Common.{◌≡◌, ℕ, ◌+◌, ◌-◌, ◌*◌, ◌/◌, ◌%◌, ◌<◌, ◌≤◌, List, [], ◌∷◌, ◌++◌, length, take, drop, map, All}
use Rattle.std.proofs.Common.{false, eqb, ltb, Some, None, refl, sym, ap, ◌∙◌, arith, append-nil, length-append}
use Rattle.std.proofs.Common.{get_or, append_assoc, take-append-drop}
use Rattle.std.proofs.lemmas.List.{drop_more, take_all}
use Rattle.std.proofs.lemmas.List.Concat.{flat_map-append}
use Rattle.std.proofs.lemmas.Bool.{ne_eqb, le-ltb}
use Rattle.std.proofs.lemmas.List.{take_at, drop_at, drop-drop}
use Rattle.std.proofs.lemmas.List.Elements.{recursion_from_All}
use Rattle.std.specs.List.{flat_map, AllByRecursion}
use Rattle.std.specs.Int.{w32, to_le_bytes}
use Rattle.byteorder.specs.Numbers.{little_number-reads_back}
use Rattle.em_pcap.specs.declared.order.Order.TheVariants.{Little}
use Rattle.em_pcap.specs.declared.form.Unit.TheVariants.{Nanoseconds}
use Rattle.em_pcap.specs.declared.form.Header.{Header}
use Rattle.em_pcap.specs.declared.form.Link.TheVariants.{Ethernet}
use Rattle.em_pcap.specs.declared.form.Form.TheVariants.{Start, Classic}
use Rattle.em_pcap.specs.declared.form.Found.{Found}
use Rattle.em_pcap.specs.declared.form.Step.TheVariants.{Gives, Opens}
use Rattle.em_pcap.specs.declared.writer.TimedFrame.{TimedFrame}
use Rattle.em_pcap.specs.Fields.{number}
use Rattle.em_pcap.specs.Classic.{record_step}
use Rattle.em_pcap.specs.Reading.{and_then, step_of, reading_from, reading_of}
use Rattle.em_pcap.specs.Writing.{Timed, timed, Fits, header_text, record_text, capture_text, as_read, all_read}
use Rattle.em_pcap.proofs.ReadingLaws.{stands_there}

-- the pieces of a record, one after another
pub record_pieces : (seconds nanoseconds len : List ℕ) (frame : Timed)
    → seconds ≡ to_le_bytes w32 (frame.time / 1000000000)
    → nanoseconds ≡ to_le_bytes w32 (frame.time % 1000000000) → len ≡ to_le_bytes w32 (length frame.octets)
    → seconds ++ (nanoseconds ++ (len ++ (len ++ (frame.octets ++ [])))) ≡ record_text frame
unfolding record_text
record_pieces seconds nanoseconds len frame es en el = rw (es, en, el, append-nil) refl

-- the records of frames, one after another
pub records_are : (frames : List TimedFrame)
    → flat_map record_text (map timed frames) ≡ flat_map (λ frame. record_text (timed frame)) frames
records_are [] = refl
records_are (frame ∷ frames) = ap (λ (t : List ℕ). record_text (timed frame) ++ t) (records_are frames)

-- all that is written, cut before and behind a record
pub cut_at : (front : List ℕ) (frames : List TimedFrame) (i : ℕ) (d : TimedFrame) → i < length frames
    → front ++ flat_map record_text (map timed frames)
    ≡ (front ++ flat_map (λ frame. record_text (timed frame)) (take i frames))
    ++ (record_text (timed (get_or frames i d)) ++ flat_map (λ frame. record_text (timed frame)) (drop (i + 1) frames))
cut_at front frames i d lt =
    let text : TimedFrame → List ℕ = λ frame. record_text (timed frame) in
    let parts : flat_map text frames
    ≡ flat_map text (take i frames) ++ (text (get_or frames i d) ++ flat_map text (drop (i + 1) frames)) =
    ap (flat_map text) (sym (take-append-drop i frames) ∙ ap (λ l. take i frames ++ l) (drop_more frames i d lt))
    ∙ flat_map-append text (take i frames) (get_or frames i d ∷ drop (i + 1) frames) in
    ap (λ (t : List ℕ). front ++ t) (records_are frames ∙ parts)
    ∙ sym (append_assoc front (flat_map text (take i frames)) _)

-- all that is written, once all records are
pub all_there : (front : List ℕ) (frames : List TimedFrame) (i : ℕ) → length frames ≤ i
    → front ++ flat_map (λ frame. record_text (timed frame)) (take i frames)
    ≡ front ++ flat_map record_text (map timed frames)
all_there front frames i le =
    ap (λ l. front ++ flat_map (λ frame. record_text (timed frame)) l) (take_all i frames le)
    ∙ ap (λ (t : List ℕ). front ++ t) (sym (records_are frames))

-- ---- the header of a record

-- what the file header says
abbrev pub written : Header
written = record { order = Little; unit = Nanoseconds; snap = 65535; link = Ethernet 0 }

abbrev four : ℕ → ℕ → ℕ → ℕ → List ℕ → List ℕ
four a b c d rest =
    to_le_bytes w32 a ++ (to_le_bytes w32 b ++ (to_le_bytes w32 c ++ (to_le_bytes w32 d ++ rest)))

-- a number that was written is read
number_read : (x : ℕ) (rest : List ℕ) → x < 4294967296 → number Little 4 0 (to_le_bytes w32 x ++ rest) ≡ x
unfolding number
number_read x rest h = little_number-reads_back 4 x rest h

first : (a b c d : ℕ) (rest : List ℕ) → a < 4294967296 → number Little 4 0 (four a b c d rest) ≡ a
first a b c d rest h = number_read a (to_le_bytes w32 b ++ (to_le_bytes w32 c ++ (to_le_bytes w32 d ++ rest))) h

second : (a b c d : ℕ) (rest : List ℕ) → b < 4294967296 → number Little 4 4 (four a b c d rest) ≡ b
unfolding number
second a b c d rest h = number_read b (to_le_bytes w32 c ++ (to_le_bytes w32 d ++ rest)) h

third : (a b c d : ℕ) (rest : List ℕ) → c < 4294967296 → number Little 4 8 (four a b c d rest) ≡ c
unfolding number
third a b c d rest h = number_read c (to_le_bytes w32 d ++ rest) h

fourth : (a b c d : ℕ) (rest : List ℕ) → d < 4294967296 → number Little 4 12 (four a b c d rest) ≡ d
unfolding number
fourth a b c d rest h = number_read d rest h

-- the packet of a record that was written
abbrev found_of : Timed → Found
found_of frame = record {
  len = 16 + length frame.octets;
  at = 16;
  captured = length frame.octets;
  original = length frame.octets;
  time = Some frame.time;
  header = None;
}

-- by its fields
by_fields : (record' : List ℕ) (frame : Timed) → Fits frame → 16 + length frame.octets ≤ length record'
    → number Little 4 0 record' ≡ frame.time / 1000000000 → number Little 4 4 record' ≡ frame.time % 1000000000
    → number Little 4 8 record' ≡ length frame.octets → number Little 4 12 record' ≡ length frame.octets
    → record_step written record' ≡ Gives (found_of frame)
by_fields record' frame fits long seconds nanoseconds included original =
    let time : frame.time / 1000000000 * 1000000000 + frame.time % 1000000000 * 1 ≡ frame.time = omega arith in
    let some : eqb (length record') 0 ≡ false = ne_eqb (length record') 0 (λ e. omega arith) in
    let head : ltb (length record') 16 ≡ false = le-ltb (length record') 16 (omega arith) in
    let snapped : ltb 65535 (length frame.octets) ≡ false = le-ltb 65535 (length frame.octets) fits.octets in
    let whole : ltb (length record') (16 + length frame.octets) ≡ false =
    le-ltb (length record') (16 + length frame.octets) long in
    let captured : length frame.octets - (0 - (length frame.octets - length frame.octets)) ≡ length frame.octets =
    omega arith in
    let same : length frame.octets - 0 ≡ length frame.octets = omega arith in
    rw (seconds, nanoseconds, included, original, some, head, snapped, whole, time, captured, same) refl

record_read : (frame : Timed) (rest : List ℕ) → Fits frame
    → record_step written (record_text frame ++ rest) ≡ Gives (found_of frame)
unfolding record_text
record_read frame rest fits =
    let a = frame.time / 1000000000 in
    let b = frame.time % 1000000000 in
    let n = length frame.octets in
    let behind = frame.octets ++ rest in
    let low : a < 4294967296 = omega (arith, fits.time) in
    let lower : b < 4294967296 = omega arith in
    let few : n < 4294967296 = omega (arith, fits.octets) in
    by_fields (four a b n n behind) frame fits (omega (arith, length-append frame.octets rest))
    (first a b n n behind low) (second a b n n behind lower) (third a b n n behind few) (fourth a b n n behind few)

-- what lies behind a record's header
behind_head : (frame : Timed) (rest : List ℕ) → drop 16 (record_text frame ++ rest) ≡ frame.octets ++ rest
unfolding record_text
behind_head frame rest = refl

long_record : (frame : Timed) (rest : List ℕ) → 16 + length frame.octets ≤ length (record_text frame ++ rest)
unfolding record_text
long_record frame rest = omega (arith, length-append frame.octets rest)

-- a record, and what is behind it
one_read : (frame : Timed) (offset : ℕ) (rest : List ℕ) → Fits frame
    → reading_from (Classic written) [] 0 offset (record_text frame ++ rest)
    ≡ and_then (as_read frame) (reading_from (Classic written) [] 0 (offset + (16 + length frame.octets)) rest)
unfolding step_of
one_read frame offset rest fits =
    let n = length frame.octets in
    let all = record_text frame ++ rest in
    let head = behind_head frame rest in
    let long = long_record frame rest in
    let here = stands_there (Classic written) [] offset all (Gives (found_of frame)) (sym (record_read frame rest fits))
    ((omega arith, long), long) in
    let octets : take n (drop 16 all) ≡ frame.octets =
    ap (λ (t : List ℕ). take n t) head ∙ take_at frame.octets rest n refl in
    let after : drop (16 + n) all ≡ rest =
    sym (drop-drop n 16 all) ∙ ap (λ (t : List ℕ). drop n t) head ∙ drop_at frame.octets rest n refl in
    here
    ∙ ap (λ (o : List ℕ). and_then (record { octets = o; original = n; time = Some frame.time })
    (reading_from (Classic written) [] 0 (offset + (16 + n)) (drop (16 + n) all))) octets
    ∙ ap (λ (t : List ℕ). and_then (as_read frame) (reading_from (Classic written) [] 0 (offset + (16 + n)) t)) after

-- all records
records_read : (frames : List Timed) (offset : ℕ) → AllByRecursion Fits frames
    → reading_from (Classic written) [] 0 offset (flat_map record_text frames) ≡ all_read frames
unfolding step_of
records_read [] offset fits = refl
records_read (frame ∷ frames) offset fits =
    one_read frame offset (flat_map record_text frames) fits.0
    ∙ ap (and_then (as_read frame)) (records_read frames (offset + (16 + length frame.octets)) fits.1)

-- ---- the header of the file

header_read : (own records : List ℕ) → step_of (Start own) [] (header_text ++ records) ≡ Opens 24 (Classic written)
unfolding step_of header_text number
header_read own records =
    let file = header_text ++ records in
    let magic : ltb (length file) 4 ≡ false = le-ltb (length file) 4 (omega arith) in
    let whole : ltb (length file) 24 ≡ false = le-ltb (length file) 24 (omega arith) in
    rw (magic, whole) refl

long_header : (records : List ℕ) → 24 ≤ length (header_text ++ records)
unfolding header_text
long_header records = omega arith

behind_header : (records : List ℕ) → drop 24 (header_text ++ records) ≡ records
unfolding header_text
behind_header records = refl

pub all_are_read : (own : List ℕ) (frames : List Timed) → All Fits frames
    → reading_of own (capture_text frames) ≡ all_read frames
all_are_read own frames fits =
    let records = flat_map record_text frames in
    let long = long_header records in
    let here = stands_there (Start own) [] 0 (header_text ++ records) (Opens 24 (Classic written)) (sym (header_read own records))
    (omega arith, long) in
    here ∙ ap (reading_from (Classic written) [] 0 24) (behind_header records)
    ∙ records_read frames 24 (recursion_from_All Fits frames fits)
