-- Lines that are added one after another, and lines as a script.
use Rattle.std.proofs.Common.{◌≡◌, ◌∙◌, ℕ, zero, suc, ◌+◌, ◌<◌, ◌≤◌, List, [], ◌∷◌, ◌++◌, length, length-append, length-take, codes, append-nil, append_assoc}
use Rattle.std.proofs.Common.{refl, sym, ap, subst, arith, take, map}
use Rattle.std.specs.Prelude.{◌&&◌, Bool, true, false, IfErr, Option, Some, Result, Ok, Err, slice_get, unwrap_or}
use Rattle.std.specs.Io.KnownBytes.{Appends}
use Rattle.std.proofs.lemmas.List.Concat.{flat_map-append}
use Rattle.std.proofs.lemmas.List.{length-map, map-append, nil_from_length}
use Rattle.em_debugger.specs.declared.disk.DiskFault.{DiskFault}
use Rattle.em_debugger.specs.Deeper.{lines_here}
use Rattle.em_debugger.specs.Disk.{Deed, Refused, Unmade, refused}
use Rattle.em_debugger.specs.Expected.{AllExpect, Expects, wanted_in}
use Rattle.em_text.specs.Lines.{lines_of}
use Rattle.em_text.proofs.WritingLemmas.{Appends-more}
use Rattle.em_text.proofs.LinesLemmas.{lines_of-nil}
use Rattle.em_regs.specs.declared.profile.Profile.{Profile}
use Rattle.em_tape.specs.Tape.{Tape}
use Rattle.em_tape.proofs.TapeLaws.{take-more}
use Rattle.em_debugger.specs.Files.{SomeAdded, added_of, are_read, played_in, reads, script_of}
use Rattle.em_debugger.specs.Place.{line_here, text_of}
use Rattle.em_debugger.specs.Marks.{marked_in}
use Rattle.em_debugger.specs.Told.{KeepsText, KeepsTexts, Stay}

-- the lines of a text were added as far as this rest of it, and what they expect was kept, and their marks
pub record AddedSo (profile : Profile) (first now : Tape) (held holds had has : List (List ℕ)) (text rest : List ℕ) : Type 0 where
  pub lines : List (List ℕ)
  pub tape : now ≡ record first { lines = first.lines ++ map (played_in profile) lines }
  pub all : lines_of text ≡ lines ++ lines_of rest
  pub expect : AllExpect (length first.lines + 1) lines held holds
  pub marks : KeepsTexts (marked_in profile) (length first.lines + 1) lines had has

abbrev with_lines : Tape → List (List ℕ) → Tape
with_lines tape lines = record tape { lines = lines }

pub AddedSo-none : (profile : Profile) (first : Tape) (held had : List (List ℕ)) (text : List ℕ)
    → AddedSo profile first first held held had had text text
AddedSo-none profile first held had text = record {
  lines = [];
  tape = ap (with_lines first) (sym (append-nil first.lines));
  all = refl;
  expect = refl;
  marks = refl;
}

-- what is kept beside one line more
KeepsTexts-more : (kept : List ℕ → List ℕ) (number : ℕ) (lines : List (List ℕ)) (line : List ℕ)
    (old now new : List (List ℕ)) → KeepsTexts kept number lines old now
    → KeepsText (number + length lines) (kept line) now new → KeepsTexts kept number (lines ++ line ∷ []) old new
KeepsTexts-more kept number [] line old now new same keeps =
    let here : number + 0 ≡ number = omega arith in (
      new,
      subst (λ n. KeepsText n (kept line) old new) here (subst (λ l. KeepsText (number + 0) (kept line) l new)
          same keeps),
      refl,
    )
KeepsTexts-more kept number (first ∷ lines) line old now new h keeps =
    let here : number + suc (length lines) ≡ number + 1 + length lines = omega arith in (
      h.0,
      h.1,
      KeepsTexts-more kept (number + 1) lines line h.0 now new h.2
          (subst (λ n. KeepsText n (kept line) now new) here keeps),
    )

-- one line more
pub AddedSo-more : (profile : Profile) (first now next : Tape) (held holds then had has marked : List (List ℕ))
    (text rest line behind : List ℕ) → AddedSo profile first now held holds had has text rest
    → lines_of rest ≡ line ∷ lines_of behind → next ≡ record now { lines = now.lines ++ played_in profile line ∷ [] }
    → Expects (length now.lines + 1) (wanted_in line) holds then
    → KeepsText (length now.lines + 1) (marked_in profile line) has marked
    → AddedSo profile first next held then had marked text behind
AddedSo-more profile first now next held holds then had has marked text rest line behind h is added expects marks =
    let long : length now.lines ≡ length first.lines + length h.lines =
    ap (λ (t : Tape). length t.lines) h.tape ∙ length-append first.lines (map (played_in profile) h.lines)
    ∙ ap (λ n. length first.lines + n) (length-map h.lines (played_in profile)) in
    let number : length now.lines + 1 ≡ length first.lines + 1 + length h.lines = omega (arith, long) in
    record {
      lines = h.lines ++ line ∷ [];
      tape = added ∙ ap (λ (t : Tape). with_lines t (t.lines ++ played_in profile line ∷ [])) h.tape
          ∙ ap (with_lines first) (append_assoc first.lines (map (played_in profile) h.lines) (played_in profile line ∷ [])
          ∙ ap (λ l. first.lines ++ l) (sym (map-append (played_in profile) h.lines (line ∷ []))));
      all = h.all ∙ ap (λ l. h.lines ++ l) is ∙ sym (append_assoc h.lines (line ∷ []) (lines_of behind));
      expect = KeepsTexts-more wanted_in (length first.lines + 1) h.lines line held holds then h.expect
          (subst (λ n. KeepsText n (wanted_in line) holds then) number expects);
      marks = KeepsTexts-more (marked_in profile) (length first.lines + 1) h.lines line had has marked h.marks
          (subst (λ n. KeepsText n (marked_in profile line) has marked) number marks);
    }

pub none_left : (rest : List ℕ) → length rest ≡ 0 → lines_of rest ≡ []
none_left rest none = ap lines_of (nil_from_length rest none) ∙ lines_of-nil

-- all lines were added, where nothing is left
added_all : {profile : Profile} {first now : Tape} {held holds had has : List (List ℕ)} {text rest : List ℕ}
    (h : AddedSo profile first now held holds had has text rest) → length rest ≡ 0 → h.lines ≡ lines_of text
added_all {rest = rest} h none =
    sym (h.all ∙ ap (λ l. h.lines ++ l) (none_left rest none) ∙ append-nil h.lines)

pub AddedSo-all : (profile : Profile) (first now : Tape) (held holds had has : List (List ℕ)) (text rest : List ℕ)
    → AddedSo profile first now held holds had has text rest → length rest ≡ 0
    → now ≡ record first { lines = first.lines ++ map (played_in profile) (lines_of text) }
AddedSo-all profile first now held holds had has text rest h none =
    h.tape ∙ ap (λ l. with_lines first (first.lines ++ map (played_in profile) l)) (added_all h none)

pub AddedSo-expect : (profile : Profile) (first now : Tape) (held holds had has : List (List ℕ)) (text rest : List ℕ)
    → AddedSo profile first now held holds had has text rest → length rest ≡ 0
    → AllExpect (length first.lines + 1) (lines_of text) held holds
AddedSo-expect profile first now held holds had has text rest h none =
    subst (λ l. AllExpect (length first.lines + 1) l held holds) (added_all h none) h.expect

pub AddedSo-marks : (profile : Profile) (first now : Tape) (held holds had has : List (List ℕ)) (text rest : List ℕ)
    → AddedSo profile first now held holds had has text rest → length rest ≡ 0
    → KeepsTexts (marked_in profile) (length first.lines + 1) (lines_of text) had has
AddedSo-marks profile first now held holds had has text rest h none =
    subst (λ l. KeepsTexts (marked_in profile) (length first.lines + 1) l had has) (added_all h none) h.marks

three : (a b c : Bool) → ((a && b) && c) ≡ (a && (b && c))
three true b c = refl
three false b c = refl

alone : (a : Bool) → (a && true) ≡ a
alone true = refl
alone false = refl

-- whether the lines so far are read, and the next one
pub read_more : (profile : Profile) (so one : Bool) (text rest line behind : List ℕ) → lines_of rest ≡ line ∷ lines_of behind
    → one ≡ reads (played_in profile line) → (so && are_read profile (lines_of rest)) ≡ are_read profile (lines_of text)
    → ((so && one) && are_read profile (lines_of behind)) ≡ are_read profile (lines_of text)
read_more profile so one text rest line behind is read h =
    three so one (are_read profile (lines_of behind)) ∙ ap (λ b. so && (b && are_read profile (lines_of behind))) read
    ∙ ap (λ l. so && are_read profile l) (sym is) ∙ h

-- so many lines were added, and this is known of whether they are read
pub added_so : (profile : Profile) (count : ℕ) (so : Bool) (text rest : List ℕ) → count ≡ length (lines_of text) → length rest ≡ 0
    → (so && are_read profile (lines_of rest)) ≡ are_read profile (lines_of text)
    → record { lines = count; are_read = so } ≡ added_of profile (lines_of text)
added_so profile count so text rest many none h =
    let read : so ≡ are_read profile (lines_of text) =
    sym (alone so) ∙ ap (λ l. so && are_read profile l) (sym (none_left rest none)) ∙ h in
    ap (λ n. record { lines = n; are_read = so }) many
    ∙ ap (λ b. record { lines = length (lines_of text); are_read = b }) read

-- no more were added
pub AddedSo-some : (profile : Profile) (first now new : Tape) (held holds then had has marked : List (List ℕ)) (text rest : List ℕ)
    → AddedSo profile first now held holds had has text rest → new ≡ now → Stay holds then → Stay has marked
    → SomeAdded profile first new held then had marked (lines_of text)
AddedSo-some profile first now new held holds then had has marked text rest h same stay still = record {
  added = h.lines;
  others = lines_of rest;
  all = h.all;
  tape = same ∙ h.tape;
  expected = holds;
  expect = h.expect;
  stay = stay;
  marked = has;
  marks = h.marks;
  still = still;
}

-- ---- a script

pub text_there : (lines : List (List ℕ)) (k : ℕ) → k < length lines
    → slice_get lines k ≡ Some (unwrap_or (slice_get lines k) [])
text_there [] k lt = absurd (omega (arith, lt))
text_there (line ∷ lines) zero lt = refl
text_there (line ∷ lines) (suc k) lt = text_there lines k (omega (arith, lt))

text_of-there : (tape : Tape) (k : ℕ) → k < length tape.lines → slice_get tape.lines k ≡ Some (text_of (k + 1) tape)
text_of-there tape k lt =
    let one : suc k ≡ k + 1 = omega arith in
    subst (λ n. slice_get tape.lines k ≡ Some (text_of n tape)) one (text_there tape.lines k lt)

-- the lines so far, and the next one
script_more : (tape : Tape) (k : ℕ) → k < length tape.lines
    → script_of (take (k + 1) tape.lines) ≡ script_of (take k tape.lines) ++ (text_of (k + 1) tape ++ codes "\n")
script_more tape k lt =
    let line = text_of (k + 1) tape in
    ap script_of (take-more k tape.lines line (text_of-there tape k lt))
    ∙ flat_map-append (λ (l : List ℕ). l ++ codes "\n") (take k tape.lines) (line ∷ [])
    ∙ ap (λ l. script_of (take k tape.lines) ++ l) (append-nil (line ++ codes "\n"))

-- so many octets of a script were written, and the next line
pub wrote_more : (tape : Tape) (k : ℕ) (old now next : Option (List ℕ)) → k < length tape.lines
    → Appends old now (script_of (take k tape.lines)) → Appends now next (text_of (k + 1) tape ++ codes "\n")
    → Appends old next (script_of (take (k + 1) tape.lines))
wrote_more tape k old now next lt front line =
    Appends-more old now next (script_of (take k tape.lines)) (text_of (k + 1) tape ++ codes "\n")
    (script_of (take (k + 1) tape.lines)) front line (script_more tape k lt)

-- the lines up to the place are as many as the number of its line says
pub here_long : (tape : Tape) (n : ℕ) → n ≡ line_here tape → n ≤ length tape.lines → n ≡ length (lines_here tape)
here_long tape n is within =
    let some = length-take (line_here tape) tape.lines in omega (arith, is, some)

-- ---- a file that was not made

pub unmade : {T : Type 0} (did : Option Deed → Type 0) (name : List ℕ) (result : Result T DiskFault)
    → IfErr result (λ fault. did (Some (Refused name fault))) → IfErr result (Unmade did name)
unmade did name (Ok x) h = tt
unmade did name (Err fault) h = refused h
