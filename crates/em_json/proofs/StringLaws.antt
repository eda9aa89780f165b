-- The text of octets that may be any, run by run.
use Rattle.std.proofs.Common.{◌≡◌, ◌∙◌, ℕ, zero, suc, Bool, true, false, List, [], ◌++◌, length, drop, refl, sym, ap, arith}
use Rattle.std.proofs.Common.{append-nil, append_assoc}
use Rattle.std.specs.Prelude.{◌==◌, if◌then◌else◌}
use Rattle.std.proofs.lemmas.Bool.Decides.{nat_tests}
use Rattle.std.proofs.lemmas.List.Concat.{flat_map-append}
use Rattle.std.proofs.lemmas.Str.{utf8_lossy_chunk, utf8_lossy_empty, utf8_lossy_last_chunk}
use Rattle.std.specs.Str.Lossy.{replacement_bytes, utf8_invalid_len, utf8_lossy, utf8_valid_len}
use Rattle.em_json.specs.Strings.{chunk_text, escaped, octet_text}

-- a run of text, and U+FFFD where octets come behind it that are none
abbrev pub run_of : List ℕ → List ℕ → List ℕ
run_of valid invalid = valid ++ (if length invalid == 0 then [] else replacement_bytes)

escaped_by : (valid : List ℕ) (none : Bool)
    → escaped (valid ++ (if none then [] else replacement_bytes)) ≡ escaped valid ++ (if none then [] else replacement_bytes)
escaped_by valid true = flat_map-append octet_text valid []
escaped_by valid false = flat_map-append octet_text valid replacement_bytes

pub escaped_run : (valid invalid : List ℕ) → escaped (run_of valid invalid) ≡ chunk_text valid invalid
escaped_run valid invalid = escaped_by valid (length invalid == 0)

-- the run at the front, and the text of what is left
module _ (bs valid invalid rest : List ℕ) (is : bs ≡ valid ++ (invalid ++ rest))
    (text : length valid ≡ utf8_valid_len bs) (none : length invalid ≡ utf8_invalid_len (drop (utf8_valid_len bs) bs))
    (last : length invalid ≡ 0 → length rest ≡ 0) where
  lossy_by : (n : ℕ) → length invalid ≡ n
      → utf8_lossy bs ≡ (valid ++ (if n == 0 then [] else replacement_bytes)) ++ utf8_lossy rest
  lossy_by zero e =
      utf8_lossy_last_chunk bs valid invalid rest is text e (last e)
      ∙ ap (λ (front : List ℕ). front ++ utf8_lossy rest) (sym (append-nil valid))
  lossy_by (suc n) e =
      let test : (suc n == 0) ≡ false = grind (arith, nat_tests) in
      utf8_lossy_chunk bs valid invalid rest is text none (omega (arith, e))
      ∙ sym (append_assoc valid replacement_bytes (utf8_lossy rest))
      ∙ ap (λ (b : Bool). (valid ++ (if b then [] else replacement_bytes)) ++ utf8_lossy rest) (sym test)

  pub lossy_front : utf8_lossy bs ≡ run_of valid invalid ++ utf8_lossy rest
  lossy_front = lossy_by (length invalid) refl

  pub escaped_front : escaped (utf8_lossy bs) ≡ chunk_text valid invalid ++ escaped (utf8_lossy rest)
  escaped_front =
      ap escaped lossy_front ∙ flat_map-append octet_text (run_of valid invalid) (utf8_lossy rest)
      ∙ ap (λ (front : List ℕ). front ++ escaped (utf8_lossy rest)) (escaped_run valid invalid)

-- all of it, where nothing is left
pub lossy_all : (done rest all : List ℕ) → done ++ utf8_lossy rest ≡ all → length rest ≡ 0 → done ≡ all
lossy_all done rest all same none =
    sym (append-nil done) ∙ ap (λ (tail : List ℕ). done ++ tail) (sym (utf8_lossy_empty rest none)) ∙ same
