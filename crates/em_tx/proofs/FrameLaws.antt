-- Frames made of gathered octets, and taken apart again.
use Rattle.std.proofs.Common.{◌≡◌, ℕ, ◌+◌, ◌-◌, ◌<◌, ◌≤◌, Bool, true, false, cond, ◌&&◌, List, [], ◌++◌}
use Rattle.std.proofs.Common.{length, take, drop, Option, Some, None, refl, sym, ap, ◌∙◌, arith, length-append}
use Rattle.std.proofs.Common.{append_assoc, append-nil, ◌⊎◌, inl, inr}
use Rattle.std.specs.Prelude.{replicate, max, min, is_some, nat_le}
use Rattle.std.proofs.lemmas.List.{take_at, drop_at, take_all, length-take-le, take-append-drop, length-replicate}
use Rattle.std.proofs.lemmas.List.{take-append-le}
use Rattle.std.proofs.Math.Seq.{take-append-add, take-length}
use Rattle.std.proofs.lemmas.Bool.{cases_lt}
use Rattle.std.proofs.lemmas.Bool.Decides.{nat_tests}
use Rattle.byteorder.specs.Endian.{big_bytes}
use Rattle.em_regs.specs.declared.setup.TxSetup.{TxSetup}
use Rattle.em_tx.specs.Descriptor.{special, vle}
use Rattle.em_tx.specs.Frame.{tag_of, with_tag, with_padding, frame, frame_len, without_tag}

-- octets that were filled up are padded
pub with_padding-resize : (o : List ℕ) {r : List ℕ} {n : ℕ} (b : Bool) → b ≡ true → n ≡ length o → n < 60
    → r ≡ take 60 o ++ replicate (60 - n) 0 → r ≡ with_padding b o
with_padding-resize o {r = r} {n = n} b wanted size short is =
    let whole : take 60 o ≡ o = take_all 60 o (omega arith) in
    is ∙ (λ i. whole i ++ replicate (60 - size i) 0) ∙ sym (ap (λ c. with_padding c o) wanted)

-- what padding adds
abbrev zeros : Bool → ℕ → List ℕ
zeros true n = replicate (60 - n) 0
zeros false n = []

with_padding-is : (b : Bool) (o : List ℕ) → with_padding b o ≡ o ++ zeros b (length o)
with_padding-is true o = refl
with_padding-is false o = sym (append-nil o)

length-with_padding : (b : Bool) (o : List ℕ) → length (with_padding b o) ≡ cond b (max (length o) 60) (length o)
length-with_padding true o =
    omega (arith, length-append o (replicate (60 - length o) 0), length-replicate {A = ℕ} (60 - length o) 0)
length-with_padding false o = refl

-- a tag has four octets, and lies among at least twelve
tag_size : (vlan : Option ℕ) (d : List ℕ) (n : ℕ) (tag : List ℕ)
    → tag_of vlan d n ≡ Some tag → (length tag ≡ 4) × (12 ≤ n)
tag_size None d n tag is = cc
tag_size (Some vet) d n tag is = of_test (vle d) (nat_le 12 n) refl is
  where
    of_test : (b c : Bool) → nat_le 12 n ≡ c
        → cond (b && c) (Some (big_bytes 2 vet ++ big_bytes 2 (special d))) None ≡ Some tag
        → (length tag ≡ 4) × (12 ≤ n)
    of_test true true long e =
        let same : big_bytes 2 vet ++ big_bytes 2 (special d) ≡ tag = cc in
        (ap length (sym same), grind (arith, nat_tests))
    of_test true false long e = cc
    of_test false c long e = cc

-- with a tag of four octets in it, a frame comes apart into the octets that it was made of
untag : (o tag z : List ℕ) → length tag ≡ 4 → 12 ≤ length o → without_tag true (with_tag (Some tag) o ++ z) ≡ o ++ z
untag o tag z four long =
    let front : length (take 12 o) ≡ 12 = length-take-le 12 o long in
    let all : with_tag (Some tag) o ++ z ≡ take 12 o ++ (tag ++ (drop 12 o ++ z))
    = append_assoc (take 12 o) (tag ++ drop 12 o) z ∙ ap (λ t. take 12 o ++ t) (append_assoc tag (drop 12 o) z) in
    let head : take 12 (with_tag (Some tag) o ++ z) ≡ take 12 o
    = ap (take 12) all ∙ take_at (take 12 o) (tag ++ (drop 12 o ++ z)) 12 front in
    let sixteen : length (take 12 o ++ tag) ≡ 16 = length-append (take 12 o) tag ∙ omega arith in
    let tail : drop 16 (with_tag (Some tag) o ++ z) ≡ drop 12 o ++ z
    = ap (drop 16) (all ∙ sym (append_assoc (take 12 o) tag (drop 12 o ++ z)))
    ∙ drop_at (take 12 o ++ tag) (drop 12 o ++ z) 16 sixteen in
    (λ i. head i ++ tail i) ∙ sym (append_assoc (take 12 o) (drop 12 o) z) ∙ ap (λ t. t ++ z) (take-append-drop 12 o)

-- a frame without its tag is the gathered octets and then the padding
pub record Parts (q : TxSetup) (d o : List ℕ) : Type 0 where
  pub padding : List ℕ
  pub rest : without_tag (is_some (tag_of q.vlan d (length o))) (frame q d o) ≡ o ++ padding
  pub size : length (frame q d o) ≡ frame_len q d (length o)
  pub tagged : cond (is_some (tag_of q.vlan d (length o))) 16 0 ≤ length (frame q d o)

parts_of : (q : TxSetup) (d o : List ℕ) (t : Option (List ℕ)) → tag_of q.vlan d (length o) ≡ t → Parts q d o
unfolding frame
parts_of q d o None is = record {
  padding = zeros q.pad (length o);
  rest = rw is (with_padding-is q.pad o);
  size = rw is (length-with_padding q.pad o);
  tagged = rw is (omega arith);
}
parts_of q d o (Some tag) is =
    let fits = tag_size q.vlan d (length o) tag is in
    let m = with_tag (Some tag) o in
    let front : length (take 12 o) ≡ 12 = length-take-le 12 o fits.1 in
    let size : length m ≡ length o + 4
    = length-append (take 12 o) (tag ++ drop 12 o)
    ∙ omega (
      arith,
      length-append tag (drop 12 o),
      length-append (take 12 o) (drop 12 o),
      ap length (take-append-drop 12 o),
      fits.0,
    ) in
    let whole : length (with_padding q.pad m) ≡ cond q.pad (max (length o + 4) 60) (length o + 4)
    = length-with_padding q.pad m ∙ ap (λ n. cond q.pad (max n 60) n) size in
    record {
      padding = zeros q.pad (length m);
      rest = rw is (ap (without_tag true) (with_padding-is q.pad m)
          ∙ untag o tag (zeros q.pad (length m)) fits.0 fits.1);
      size = rw is whole;
      tagged = rw is (at_least q.pad m (omega arith));
    }
  where
    at_least : (b : Bool) (m : List ℕ) → 16 ≤ length m → 16 ≤ length (with_padding b m)
    at_least b m long = omega (arith, ap length (with_padding-is b m), length-append m (zeros b (length m)))

pub parts : (q : TxSetup) (d o : List ℕ) → Parts q d o
parts q d o = parts_of q d o (tag_of q.vlan d (length o)) refl

-- cut to the octets that were gathered before, a frame without its tag is those octets
pub cut_frame : (q : TxSetup) (d old new o : List ℕ) → o ≡ old ++ new
    → take (length old) (without_tag (is_some (tag_of q.vlan d (length o))) (frame q d o)) ≡ old
cut_frame q d old new o is =
    let p = parts q d o in
    ap (take (length old)) (p.rest ∙ ap (λ t. t ++ p.padding) is ∙ append_assoc old new p.padding)
    ∙ take_at old (new ++ p.padding) (length old) refl

-- a frame has as many octets at least as were gathered
frame_len_least : (q : TxSetup) (d : List ℕ) (n : ℕ) → n ≤ frame_len q d n
frame_len_least q d n = of (is_some (tag_of q.vlan d n)) q.pad
  where
    of : (b c : Bool) → n ≤ (let m = cond b (n + 4) n in cond c (max m 60) m)
    of true true = omega arith
    of true false = omega arith
    of false true = omega arith
    of false false = omega arith

pub frame_len_most : (q : TxSetup) (d : List ℕ) (n : ℕ) → n ≤ 16380 → frame_len q d n ≤ 16384
frame_len_most q d n few = of (is_some (tag_of q.vlan d n)) q.pad
  where
    of : (b c : Bool) → (let m = cond b (n + 4) n in cond c (max m 60) m) ≤ 16384
    of true true = omega arith
    of true false = omega arith
    of false true = omega arith
    of false false = omega arith

-- the first octets of two lists, as many of the first one as it has
pub take_of_both : (n k : ℕ) (a b : List ℕ) → k ≡ min n (length a) → take k a ++ take (n - k) b ≡ take n (a ++ b)
take_of_both n k a b is = by (cases_lt n (length a))
  where
    by : (n < length a) ⊎ (length a ≤ n) → take k a ++ take (n - k) b ≡ take n (a ++ b)
    by (inl few) =
        let all : k ≡ n = omega (arith, is, few) in
        let none : n - k ≡ 0 = omega (arith, all) in
        (λ i. take (all i) a ++ take (none i) b) ∙ append-nil (take n a)
        ∙ sym (take-append-le n a b (omega (arith, few)))
    by (inr many) =
        let all : k ≡ length a = omega (arith, is, many) in
        ap (λ j. take j a ++ take (n - j) b) all ∙ ap (λ l. l ++ take (n - length a) b) (take-length a)
        ∙ sym (take-append-add a b (n - length a)) ∙ ap (λ j. take j (a ++ b)) (omega (arith, many))

-- with no tag to insert and no padding to add, the gathered octets are the frame
pub frame_whole : (q : TxSetup) (d o : List ℕ) → tag_of q.vlan d (length o) ≡ None → 60 ≤ length o → frame q d o ≡ o
unfolding frame
frame_whole q d o none long = rw none (padded q.pad)
  where
    padded : (b : Bool) → with_padding b o ≡ o
    padded true =
        let none : 60 - length o ≡ 0 = omega (arith, long) in
        ap (λ n. o ++ replicate {A = ℕ} n 0) none ∙ append-nil o
    padded false = refl
