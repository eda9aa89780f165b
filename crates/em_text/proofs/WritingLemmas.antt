-- Texts that are written one after another.
use Rattle.std.proofs.Common.{Result, Ok, Err, ◌≡◌, ℕ, ◌+◌, ◌*◌, ◌/◌, ◌%◌, ◌^◌, slice_index, ◌<◌, ◌≤◌, List}
use Rattle.std.proofs.Common.{[], ◌∷◌, ◌++◌}
use Rattle.std.proofs.Common.{length, take, drop, get_or, Option, Some, None, refl, sym, ap, ◌∙◌, arith, append_assoc}
use Rattle.std.proofs.Common.{append-nil, length-append, take-append-drop}
use Rattle.std.specs.Io.KnownBytes.{Appends, Keeps}
use Rattle.std.specs.Prelude.{decimal}
use Rattle.std.proofs.lemmas.Fmt.{length-decimal-le}
use Rattle.std.proofs.lemmas.List.{take-append-le, drop_more}
use Rattle.std.proofs.lemmas.List.Concat.{flat_map-append}
use Rattle.std.specs.List.{flat_map}
use Rattle.std.proofs.Math.Seq.{take-append-add}
use Rattle.hex.specs.Hex.{encode_with, upper_digits}
use Rattle.hex.proofs.HexLemmas.{length-encode_with}
use Rattle.em_text.specs.Writer.{WritesPart, Writes, hex_text, hex_line_text}

-- nothing more was written
pub Appends-kept : (a b c : Option (List ℕ)) (xs : List ℕ) → Appends a b xs → Keeps b c → Appends a c xs
Appends-kept None b c xs p q = tt
Appends-kept (Some x) None c xs p q = absurd p
Appends-kept (Some x) (Some y) None xs p q = absurd q
Appends-kept (Some x) (Some y) (Some z) xs p q = q ∙ p

-- where nothing changed, the empty text was written
pub Appends-nil : (a b : Option (List ℕ)) → Keeps a b → Appends a b []
Appends-nil None b p = tt
Appends-nil (Some x) None p = absurd p
Appends-nil (Some x) (Some y) p = p ∙ sym (append-nil x)

-- the empty text was written to a writer that is the same
pub Appends-same : (a : Option (List ℕ)) → Appends a a []
Appends-same None = tt
Appends-same (Some x) = sym (append-nil x)

-- one text after another
pub Appends-more : (a b c : Option (List ℕ)) (xs ys zs : List ℕ) → Appends a b xs → Appends b c ys → zs ≡ xs ++ ys
    → Appends a c zs
Appends-more None b c xs ys zs p q e = tt
Appends-more (Some x) None c xs ys zs p q e = absurd p
Appends-more (Some x) (Some y) None xs ys zs p q e = absurd q
Appends-more (Some x) (Some y) (Some z) xs ys zs p q e =
    q ∙ ap (λ l. l ++ ys) p ∙ append_assoc x xs ys
    ∙ ap (λ l. x ++ l) (sym e)

-- a part of a front is a part of the whole
pub WritesPart-front : {a b : Option (List ℕ)} {xs text : List ℕ} (rest : List ℕ) → WritesPart a b xs
    → text ≡ xs ++ rest → WritesPart a b text
WritesPart-front {xs = xs} rest p e =
    let n = p.octets in
    let le : n ≤ length xs = omega (arith, p.part) in
    let len : length (xs ++ rest) ≡ length xs + length rest = length-append xs rest in
    let same : take n (xs ++ rest) ≡ take n xs = rw take-append-le refl in
    rw e record { octets = n; part = omega (arith, p.part); written = rw same p.written }

-- a text, and then a part of the next
pub WritesPart-more : {a b c : Option (List ℕ)} {ys text : List ℕ} (xs : List ℕ) → Appends a b xs → WritesPart b c ys
    → text ≡ xs ++ ys → WritesPart a c text
WritesPart-more {a = a} {b = b} {c = c} {ys = ys} xs p q e =
    let n = q.octets in
    let len : length (xs ++ ys) ≡ length xs + length ys = length-append xs ys in
    let same : take (length xs + n) (xs ++ ys) ≡ xs ++ take n ys = take-append-add xs ys n in
    rw e record {
      octets = length xs + n;
      part = omega (arith, q.part);
      written = Appends-more a b c xs (take n ys) _ p q.written same;
    }

-- the digits of octets, one after another
pub encode_with-append : (t xs ys : List ℕ) → encode_with t (xs ++ ys) ≡ encode_with t xs ++ encode_with t ys
unfolding encode_with
encode_with-append t [] ys = refl
encode_with-append t (x ∷ xs) ys =
    ap (λ l. slice_index t (x / 16) ∷ slice_index t (x % 16) ∷ l) (encode_with-append t xs ys)

-- pieces, cut around one of them
pieces_at : {X : Type 0} (f : X → List ℕ) (xs : List X) (i : ℕ) (d : X) → i < length xs
    → flat_map f xs ≡ flat_map f (take i xs) ++ (f (get_or xs i d) ++ flat_map f (drop (i + 1) xs))
pieces_at f xs i d lt =
    ap (flat_map f) (sym (take-append-drop i xs) ∙ ap (λ l. take i xs ++ l) (drop_more xs i d lt))
    ∙ flat_map-append f (take i xs) (get_or xs i d ∷ drop (i + 1) xs)

-- the pieces before one of them, and a part of that one
pub WritesPart-among : {X : Type 0} {a b c : Option (List ℕ)} (f : X → List ℕ) (xs : List X) (i : ℕ) (d : X)
    → i < length xs → Appends a b (flat_map f (take i xs)) → WritesPart b c (f (get_or xs i d))
    → WritesPart a c (flat_map f xs)
WritesPart-among f xs i d lt p q =
    WritesPart-more (flat_map f (take i xs)) p (WritesPart-front (flat_map f (drop (i + 1) xs)) q refl)
    (pieces_at f xs i d lt)

-- a text was written but for `rest`, which is still to come
pub record WroteFront (old new : Option (List ℕ)) (rest text : List ℕ) : Type 0 where
  pub front : List ℕ
  pub written : Appends old new front
  pub whole : text ≡ front ++ rest

-- nothing is written yet
pub WroteFront-none : (a : Option (List ℕ)) (text : List ℕ) → WroteFront a a text text
WroteFront-none a text = record { front = []; written = Appends-same a; whole = refl }

-- the next piece was written
pub WroteFront-more : {a b c : Option (List ℕ)} {behind rest text : List ℕ} (piece : List ℕ) → WroteFront a b rest text
    → rest ≡ piece ++ behind → Appends b c piece → WroteFront a c behind text
WroteFront-more {a = a} {b = b} {c = c} {behind = behind} piece h e p = record {
  front = h.front ++ piece;
  written = Appends-more a b c h.front piece _ h.written p refl;
  whole = h.whole ∙ ap (λ l. h.front ++ l) e ∙ sym (append_assoc h.front piece behind);
}

-- a part of the next piece was written
pub WroteFront-part : {a b c : Option (List ℕ)} {piece rest text : List ℕ} (behind : List ℕ) → WroteFront a b rest text
    → rest ≡ piece ++ behind → WritesPart b c piece → WritesPart a c text
WroteFront-part behind h e p = WritesPart-more h.front h.written (WritesPart-front behind p e) h.whole

-- nothing is left to write
pub WroteFront-all : {a b : Option (List ℕ)} {rest text : List ℕ} → WroteFront a b rest text → rest ≡ []
    → Appends a b text
WroteFront-all h e = rw (h.whole ∙ ap (λ l. h.front ++ l) e ∙ append-nil h.front) h.written

-- a text was written, and then the next was or a part of it
pub Writes-more : {T E : Type 0} (a b c : Option (List ℕ)) (result : Result T E) (xs ys text : List ℕ) → Appends a b xs
    → Writes b c result ys → text ≡ xs ++ ys → Writes a c result text
Writes-more a b c (Ok x) xs ys text p q e = Appends-more a b c xs ys text p q e
Writes-more a b c (Err x) xs ys text p q e = WritesPart-more xs p q e

-- the digits of octets that are cut in two
pub hex_text-cut : (octets front back : List ℕ) (n : ℕ) → front ≡ take n octets → back ≡ drop n octets
    → hex_text octets ≡ hex_text front ++ hex_text back
hex_text-cut octets front back n ef eb =
    ap hex_text (sym (take-append-drop n octets)) ∙ encode_with-append upper_digits (take n octets) (drop n octets)
    ∙ ap (λ l. hex_text l ++ hex_text (drop n octets)) (sym ef) ∙ ap (λ l. hex_text front ++ hex_text l) (sym eb)

-- digits in a line of newlines, and the first newline behind them
pub short_line : (octets digits line : List ℕ) → digits ≡ hex_text octets → 2 * length octets < length line
    → get_or line (2 * length octets) 0 ≡ 10
    → take (2 * length octets + 1) (digits ++ drop (2 * length octets) line) ≡ hex_line_text octets
short_line octets digits line is within newline =
    let n = 2 * length octets in
    let long : length digits ≡ n = ap (λ l. length l) is ∙ length-encode_with upper_digits octets in
    let last : take 1 (drop n line) ≡ 10 ∷ [] = rw (drop_more line n 0 within, newline) refl in
    ap (λ k. take (k + 1) (digits ++ drop n line)) (sym long) ∙ take-append-add digits (drop n line) 1
    ∙ ap (λ l. digits ++ l) last ∙ ap (λ d. d ++ (10 ∷ [])) is

-- a number of 64 bits has 20 digits at most
pub digits_fit : (number : ℕ) → number < 2 ^ 64 → length (decimal number) ≤ 20
digits_fit number h = length-decimal-le 20 number (omega arith) (omega arith) (omega arith)
