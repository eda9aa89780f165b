-- What is read in the lines of a kept run.
use Rattle.std.proofs.Common.{◌≡◌, ℕ, zero, suc, ◌^◌, ◌<◌, ◌≤◌, true, false, List, [], ◌∷◌, ◌++◌, length}
use Rattle.std.proofs.Common.{Some, None, refl, sym, ap, ◌∙◌, arith, codes, subst, append_assoc}
use Rattle.std.specs.Prelude.{nat_le, if◌then◌else◌, decimal, option_map}
use Rattle.std.specs.List.{All, flat_map, list_all}
use Rattle.std.specs.Int.{w32, to_be_bytes}
use Rattle.std.proofs.lemmas.Bool.{and_parts, false≢true}
use Rattle.std.proofs.lemmas.Bool.Decides.{nat_tests}
use Rattle.std.proofs.lemmas.List.Elements.{All-append}
use Rattle.em_step.specs.Event.{Event, reads, writes, pokes, arrives, links, receives, transmits}
use Rattle.em_step.specs.declared.event.Answer.{Answer}
use Rattle.em_step.specs.declared.event.Answer.TheVariants as answer
use Rattle.em_step.specs.declared.event.Reason.TheVariants.{Down, Disabled, Rejected, Undersize, Oversize, Missed}
use Rattle.em_step.specs.declared.refusal.Refusal.{Refusal}
use Rattle.em_step.specs.declared.refusal.Refusal.TheVariants as refusal
use Rattle.em_text.specs.Lines.{is_newline, lines_of}
use Rattle.em_text.proofs.LinesLemmas.{lines_of-nil}
use Rattle.em_text.specs.Words.{words_of}
use Rattle.em_text.specs.Writer.{hex_text, value_digits}
use Rattle.em_output.specs.Output.{answer_text, back_text, refusal_text}
use Rattle.em_line.specs.Command.{Command, back_by, event}
use Rattle.em_line.specs.Grammar.{parsed_line, words_form}
use Rattle.em_line.specs.ParsedLine.{says, silent}
use Rattle.em_line.specs.Parts.{first_place, is_comment_line, marks_at, said_before, said_in}
use Rattle.em_kept.specs.Source.{Source, place_of}
use Rattle.em_kept.specs.Digits.{number_digits}
use Rattle.em_kept.specs.Kept.{answer_words, back_line, back_words, can_stand, comment_words}
use Rattle.em_kept.specs.Kept.{event_line, event_words}
use Rattle.em_kept.specs.Kept.{has_line, line_of, refused_line, refused_words, refusal_words, text_of, told_words}
use Rattle.em_kept.specs.ReadBack.{AreWhole, HasOctets, IsSilent, IsTyped, IsTypedAnswer, IsTypedSource, ReadsBack}
use Rattle.em_kept.proofs.DigitLaws.{bytes_fit, quiet_decimal, quiet_hex, quiet_number}
use Rattle.em_kept.proofs.EventWords.{IsWord, back_said, decimal_word, event_said, hex_word, word_32}
use Rattle.em_kept.proofs.PartsOfLines.{EndsWell, IsPart, IsSolid, all_literal, all_quiet, ends_behind, first_word, is_quiet}
use Rattle.em_kept.proofs.PartsOfLines.{line_reads, line_whole, lines_cut, no_comment, no_newline, word_ends}
use Rattle.em_kept.proofs.SourcePlaces.{source_is_place}

-- ---- quiet texts

abbrev Quiet : List ℕ → Type 0
Quiet xs = All (λ x. is_quiet x ≡ true) xs

join : (xs ys : List ℕ) → Quiet xs → Quiet ys → Quiet (xs ++ ys)
join xs ys a b = All-append (λ x. is_quiet x ≡ true) xs ys a b

value_quiet : (n : ℕ) → Quiet (value_digits n)
value_quiet n = quiet_hex (to_be_bytes w32 n) (bytes_fit 4 n)

ends_word : (xs : List ℕ) → IsWord xs → EndsWell xs
ends_word xs is = word_ends xs is.solid is.some

-- ---- what is said

event_quiet : (e : Event) → IsTyped e → Quiet (event_words e)
event_quiet (reads o) h = join (codes "r ") (number_digits o) (all_literal (codes "r ") refl) (quiet_number o)
event_quiet (writes o v) h =
    join (codes "w ") (number_digits o ++ (codes " " ++ number_digits v)) (all_literal (codes "w ") refl)
    (join (number_digits o) (codes " " ++ number_digits v) (quiet_number o)
    (join (codes " ") (number_digits v) (all_literal (codes " ") refl) (quiet_number v)))
event_quiet (pokes a octets) h =
    join (codes "poke " ++ (number_digits a ++ codes " ")) (hex_text octets)
    (join (codes "poke ") (number_digits a ++ codes " ") (all_literal (codes "poke ") refl)
    (join (number_digits a) (codes " ") (quiet_number a) (all_literal (codes " ") refl))) (quiet_hex octets h.1.0)
event_quiet (arrives octets) h =
    join (codes "arrive ") (hex_text octets) (all_literal (codes "arrive ") refl) (quiet_hex octets h.0)
event_quiet (links true) h = all_literal (codes "link up") refl
event_quiet (links false) h = all_literal (codes "link down") refl
event_quiet receives h = all_literal (codes "rx") refl
event_quiet transmits h = all_literal (codes "tx") refl

event_ends : (e : Event) → IsTyped e → HasOctets e → EndsWell (event_words e)
event_ends (reads o) h some = ends_behind (codes "r ") (number_digits o) (ends_word (number_digits o) (word_32 o h))
event_ends (writes o v) h some =
    ends_behind (codes "w ") (number_digits o ++ (codes " " ++ number_digits v))
    (ends_behind (number_digits o) (codes " " ++ number_digits v)
    (ends_behind (codes " ") (number_digits v) (ends_word (number_digits v) (word_32 v h.1))))
event_ends (pokes a octets) h some =
    ends_behind (codes "poke " ++ (number_digits a ++ codes " ")) (hex_text octets)
    (ends_word (hex_text octets) (hex_word octets h.1.0 some))
event_ends (arrives octets) h some =
    ends_behind (codes "arrive ") (hex_text octets) (ends_word (hex_text octets) (hex_word octets h.0 some))
event_ends (links true) h some = record { some = omega arith; last = refl }
event_ends (links false) h some = record { some = omega arith; last = refl }
event_ends receives h some = record { some = omega arith; last = refl }
event_ends transmits h some = record { some = omega arith; last = refl }

event_first : (e : Event) (rest : List ℕ) → is_comment_line (words_of (event_words e ++ rest)) ≡ false
event_first (reads o) rest = no_comment 114 _ refl refl
event_first (writes o v) rest = no_comment 119 _ refl refl
event_first (pokes a octets) rest = no_comment 112 _ refl refl
event_first (arrives octets) rest = no_comment 97 _ refl refl
event_first (links true) rest = no_comment 108 _ refl refl
event_first (links false) rest = no_comment 108 _ refl refl
event_first receives rest = no_comment 114 _ refl refl
event_first transmits rest = no_comment 116 _ refl refl

event_begins : (e : Event) → IsTyped e → HasOctets e → IsSolid (event_words e)
event_begins (reads o) h some = let is = event_ends (reads o) h some in record { some = is.some; first = refl; last = is.last }
event_begins (writes o v) h some =
    let is = event_ends (writes o v) h some in record { some = is.some; first = refl; last = is.last }
event_begins (pokes a octets) h some =
    let is = event_ends (pokes a octets) h some in record { some = is.some; first = refl; last = is.last }
event_begins (arrives octets) h some =
    let is = event_ends (arrives octets) h some in record { some = is.some; first = refl; last = is.last }
event_begins (links true) h some = record { some = omega arith; first = refl; last = refl }
event_begins (links false) h some = record { some = omega arith; first = refl; last = refl }
event_begins receives h some = record { some = omega arith; first = refl; last = refl }
event_begins transmits h some = record { some = omega arith; first = refl; last = refl }

event_part : (e : Event) → IsTyped e → HasOctets e → IsPart (event_words e)
event_part e h some = record { quiet = event_quiet e h; solid = event_begins e h some }

-- ---- a number behind a word

literal_part : (xs : List ℕ) → list_all is_quiet xs ≡ true → IsSolid xs → IsPart xs
literal_part xs quiet solid = record { quiet = all_literal xs quiet; solid = solid }

numbered : (word : List ℕ) (n : ℕ) → n < 2 ^ 64 → Quiet word → EndsWell (word ++ decimal n)
numbered word n h quiet = ends_behind word (decimal n) (ends_word (decimal n) (decimal_word n h))

back_part : (n : ℕ) → n < 2 ^ 64 → IsPart (back_words n)
back_part n h =
    let is = numbered (codes "back ") n h (all_literal (codes "back ") refl) in
    record {
      quiet = join (codes "back ") (decimal n) (all_literal (codes "back ") refl) (quiet_decimal n h);
      solid = record { some = is.some; first = refl; last = is.last };
    }

-- ---- answers

value_part : (n : ℕ) → IsPart (value_digits n)
value_part n =
    let is = hex_word (to_be_bytes w32 n) (bytes_fit 4 n) (omega arith) in
    record {
      quiet = value_quiet n;
      solid = record { some = is.some; first = is.solid 0 0 is.some; last = (ends_word (value_digits n) is).last };
    }

answer_part : (a : Answer) → IsTypedAnswer a → IsPart (answer_words a)
answer_part answer.Done h =
    record { quiet = all_literal (codes "ok") refl; solid = record { some = omega arith; first = refl; last = refl } }
answer_part (answer.Value value) h = value_part value
answer_part answer.Idle h =
    record { quiet = all_literal (codes "idle") refl; solid = record { some = omega arith; first = refl; last = refl } }
answer_part (answer.Wrote index) h =
    let fits : index < 2 ^ 64 = omega (arith, h) in
    let is = numbered (codes "wrote ") index fits (all_literal (codes "wrote ") refl) in
    record {
      quiet = join (codes "wrote ") (decimal index) (all_literal (codes "wrote ") refl) (quiet_decimal index fits);
      solid = record { some = is.some; first = refl; last = is.last };
    }
answer_part (answer.Fetched index) h =
    let fits : index < 2 ^ 64 = omega (arith, h) in
    let is = numbered (codes "fetched ") index fits (all_literal (codes "fetched ") refl) in
    record {
      quiet = join (codes "fetched ") (decimal index) (all_literal (codes "fetched ") refl) (quiet_decimal index fits);
      solid = record { some = is.some; first = refl; last = is.last };
    }
answer_part (answer.Sent index octets) h =
    let fits : index < 2 ^ 64 = omega (arith, h.0) in
    let few : octets < 2 ^ 64 = omega (arith, h.1) in
    let number = codes " " ++ decimal octets in
    let is =
    ends_behind (codes "sent ") (decimal index ++ number)
    (ends_behind (decimal index) number (numbered (codes " ") octets few (all_literal (codes " ") refl))) in
    record {
      quiet = join (codes "sent ") (decimal index ++ number) (all_literal (codes "sent ") refl)
          (join (decimal index) number (quiet_decimal index fits)
          (join (codes " ") (decimal octets) (all_literal (codes " ") refl) (quiet_decimal octets few)));
      solid = record { some = is.some; first = refl; last = is.last };
    }
answer_part answer.Stored h =
    record { quiet = all_literal (codes "stored") refl; solid = record { some = omega arith; first = refl; last = refl } }
answer_part (answer.Dropped Down) h = literal_part (answer_words (answer.Dropped Down)) refl
    (record { some = omega arith; first = refl; last = refl })
answer_part (answer.Dropped Disabled) h = literal_part (answer_words (answer.Dropped Disabled)) refl
    (record { some = omega arith; first = refl; last = refl })
answer_part (answer.Dropped Rejected) h = literal_part (answer_words (answer.Dropped Rejected)) refl
    (record { some = omega arith; first = refl; last = refl })
answer_part (answer.Dropped Undersize) h = literal_part (answer_words (answer.Dropped Undersize)) refl
    (record { some = omega arith; first = refl; last = refl })
answer_part (answer.Dropped Oversize) h = literal_part (answer_words (answer.Dropped Oversize)) refl
    (record { some = omega arith; first = refl; last = refl })
answer_part (answer.Dropped Missed) h = literal_part (answer_words (answer.Dropped Missed)) refl
    (record { some = omega arith; first = refl; last = refl })

answer_printed : (a : Answer) → answer_words a ++ codes "\n" ≡ answer_text a
answer_printed answer.Done = refl
answer_printed (answer.Value value) = refl
answer_printed answer.Idle = refl
answer_printed (answer.Wrote index) = refl
answer_printed (answer.Fetched index) = refl
answer_printed (answer.Sent index octets) =
    ap (λ l. codes "sent " ++ l) (append_assoc (decimal index) (codes " " ++ decimal octets) (codes "\n"))
answer_printed answer.Stored = refl
answer_printed (answer.Dropped reason) = refl

refusal_part : (r : Refusal) → IsPart (refusal_words r)
refusal_part refusal.NoRegister = literal_part (refusal_words refusal.NoRegister) refl
    (record { some = omega arith; first = refl; last = refl })
refusal_part refusal.Range = literal_part (refusal_words refusal.Range) refl
    (record { some = omega arith; first = refl; last = refl })
refusal_part refusal.Length = literal_part (refusal_words refusal.Length) refl
    (record { some = omega arith; first = refl; last = refl })
refusal_part refusal.DmaRange = literal_part (refusal_words refusal.DmaRange) refl
    (record { some = omega arith; first = refl; last = refl })
refusal_part refusal.Extended = literal_part (refusal_words refusal.Extended) refl
    (record { some = omega arith; first = refl; last = refl })
refusal_part refusal.TooLong = literal_part (refusal_words refusal.TooLong) refl
    (record { some = omega arith; first = refl; last = refl })
refusal_part refusal.Memory = literal_part (refusal_words refusal.Memory) refl
    (record { some = omega arith; first = refl; last = refl })

refusal_printed : (r : Refusal) → refusal_words r ++ codes "\n" ≡ refusal_text r
refusal_printed r = refl

-- ---- lines that are played

reads_back : (said words text : List ℕ) (command : Command) (source : Source) → IsPart said → IsPart words
    → IsTypedSource source → is_comment_line (words_of (line_of said words source)) ≡ false
    → parsed_line said ≡ says command → words ++ codes "\n" ≡ text → ReadsBack (line_of said words source) command text source
reads_back said words text command source s a typed first parsed printed =
    let place = source_is_place source typed in
    let read = line_reads said words (place_of source) s a place first in
    record {
      says = ap parsed_line read.says ∙ parsed;
      expects = ap (option_map (λ l. l ++ codes "\n")) read.expects ∙ ap Some printed;
      comes_from = read.comes_from;
      comments = read.comments;
      whole = line_whole said words (place_of source) (all_quiet _ said no_newline s.quiet) a place;
    }

pub event_reads : (e : Event) (a : Answer) (source : Source) → IsTyped e → HasOctets e → IsTypedAnswer a
    → IsTypedSource source → ReadsBack (event_line e a source) (event e) (answer_text a) source
event_reads e a source h some typed from =
    reads_back (event_words e) (answer_words a) (answer_text a) (event e) source (event_part e h some)
    (answer_part a typed) from (event_first e _) (event_said e h some) (answer_printed a)

some : (octets : List ℕ) → can_stand octets ≡ true → 0 < length octets
some octets h =
    let one : nat_le 1 (length octets) ≡ true = (and_parts _ _ h).0 in
    grind (arith, nat_tests)

-- it is one line, whatever it says
pub event_whole : (e : Event) (a : Answer) (source : Source) → IsTyped e → IsTypedAnswer a → IsTypedSource source
    → All (λ x. is_newline x ≡ false) (event_line e a source)
event_whole e a source h typed from =
    line_whole (event_words e) (answer_words a) (place_of source)
    (all_quiet _ (event_words e) no_newline (event_quiet e h)) (answer_part a typed) (source_is_place source from)

octets_of_line : (e : Event) (r : Refusal) → has_line e r ≡ true → HasOctets e
octets_of_line (pokes a octets) refusal.NoRegister h = some octets h
octets_of_line (pokes a octets) refusal.Range h = some octets h
octets_of_line (pokes a octets) refusal.Length h = some octets h
octets_of_line (pokes a octets) refusal.DmaRange h = some octets h
octets_of_line (pokes a octets) refusal.Extended h = some octets h
octets_of_line (pokes a octets) refusal.TooLong h = some octets h
octets_of_line (pokes a octets) refusal.Memory h = absurd (false≢true h)
octets_of_line (arrives octets) refusal.NoRegister h = some octets h
octets_of_line (arrives octets) refusal.Range h = some octets h
octets_of_line (arrives octets) refusal.Length h = some octets h
octets_of_line (arrives octets) refusal.DmaRange h = some octets h
octets_of_line (arrives octets) refusal.Extended h = some octets h
octets_of_line (arrives octets) refusal.TooLong h = some octets h
octets_of_line (arrives octets) refusal.Memory h = absurd (false≢true h)
octets_of_line (reads o) r h = tt
octets_of_line (writes o v) r h = tt
octets_of_line (links up) r h = tt
octets_of_line receives r h = tt
octets_of_line transmits r h = tt

pub refused_reads : (e : Event) (r : Refusal) (source : Source) → IsTyped e → IsTypedSource source → has_line e r ≡ true
    → ReadsBack (refused_line e r source) (event e) (refusal_text r) source
refused_reads e r source h from played =
    let words : refused_words e r ≡ event_words e = ap (λ b. if b then event_words e else comment_words e) played in
    let some = octets_of_line e r played in
    subst (λ l. ReadsBack (line_of l (refusal_words r) source) (event e) (refusal_text r) source) (sym words)
    (reads_back (event_words e) (refusal_words r) (refusal_text r) (event e) source (event_part e h some)
    (refusal_part r) from (event_first e _) (event_said e h some) (refusal_printed r))

pub back_reads : (asked taken : ℕ) (source : Source) → 0 < asked → asked ≤ 65_536 → taken < 2 ^ 64
    → IsTypedSource source → ReadsBack (back_line asked taken source) (back_by asked) (back_text taken) source
back_reads asked taken source some few fits from =
    reads_back (back_words asked) (back_words taken) (back_text taken) (back_by asked) source
    (back_part asked (omega (arith, few))) (back_part taken fits) from (no_comment 98 _ refl refl)
    (back_said asked some few) refl

-- ---- comments

comment_silent : (rest : List ℕ) → parsed_line (35 ∷ rest) ≡ silent
unfolding parsed_line
comment_silent rest = ap words_form (first_word 35 rest refl)

-- a line that begins with a hash says and expects nothing
pub silent_line : (rest : List ℕ) → All (λ x. is_newline x ≡ false) (35 ∷ rest) → IsSilent (35 ∷ rest)
silent_line rest whole =
    let line = 35 ∷ rest in
    let first = first_word 35 rest refl in
    let said : said_in line ≡ line =
    ap (λ w. said_before line (if is_comment_line w then None else first_place (marks_at line) line)) first in
    record { says = ap parsed_line said ∙ comment_silent rest; expects = refl; whole = whole }

told_quiet : (e : Event) → IsTyped e → Quiet (told_words e)
told_quiet (pokes a octets) h =
    join (codes "poke ") (number_digits a ++ (codes " length " ++ decimal (length octets)))
    (all_literal (codes "poke ") refl)
    (join (number_digits a) (codes " length " ++ decimal (length octets)) (quiet_number a)
    (join (codes " length ") (decimal (length octets)) (all_literal (codes " length ") refl)
    (quiet_decimal (length octets) h.1.1)))
told_quiet (arrives octets) h =
    join (codes "arrive length ") (decimal (length octets)) (all_literal (codes "arrive length ") refl)
    (quiet_decimal (length octets) h.1)
told_quiet (reads o) h = event_quiet (reads o) h
told_quiet (writes o v) h = event_quiet (writes o v) h
told_quiet (links up) h = event_quiet (links up) h
told_quiet receives h = event_quiet receives h
told_quiet transmits h = event_quiet transmits h

comment_whole : (e : Event) → IsTyped e → All (λ x. is_newline x ≡ false) (comment_words e)
comment_whole e h =
    All-append (λ x. is_newline x ≡ false) (codes "# ") (told_words e) sign
    (all_quiet _ (told_words e) no_newline (told_quiet e h))
  where
    sign : All (λ x. is_newline x ≡ false) (codes "# ")
    sign zero d lt = refl
    sign (suc zero) d lt = refl
    sign (suc (suc k)) d lt = absurd (omega arith)

pub refused_silent : (e : Event) (r : Refusal) (source : Source) → IsTyped e → IsTypedSource source
    → has_line e r ≡ false → IsSilent (refused_line e r source)
refused_silent e r source h from other =
    let words : refused_words e r ≡ comment_words e = ap (λ b. if b then event_words e else comment_words e) other in
    subst (λ l. IsSilent (line_of l (refusal_words r) source)) (sym words)
    (silent_line _ (line_whole (comment_words e) (refusal_words r) (place_of source) (comment_whole e h)
    (refusal_part r) (source_is_place source from)))

-- ---- texts

-- the lines of a text are those that it was made of
pub text_lines : (lines : List (List ℕ)) → AreWhole lines → lines_of (flat_map text_of lines) ≡ lines
text_lines [] h = lines_of-nil
text_lines (line ∷ lines) h =
    ap lines_of (append_assoc line (codes "\n") (flat_map text_of lines))
    ∙ lines_cut line (flat_map text_of lines) h.0 ∙ ap (λ l. line ∷ l) (text_lines lines h.1)
