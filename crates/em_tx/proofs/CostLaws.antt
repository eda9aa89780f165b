-- What a step costs at most.
use Rattle.std.proofs.Common.{
  ◌≡◌,
  ℕ,
  ◌+◌,
  ◌≤◌,
  Bool,
  true,
  false,
  cond,
  List,
  length,
  drop,
  Option,
  Some,
  None,
  Result,
  Ok,
  Err,
  refl,
  arith,
}
use Rattle.std.specs.Prelude.{◌||◌, nat_lt}
use Rattle.std.proofs.Common.{length-append}
use Rattle.std.proofs.lemmas.List.{length-take}
use Rattle.std.proofs.lemmas.Bool.Decides.{nat_tests}
use Rattle.em_mem.specs.Memory.{leaves, part}
use Rattle.em_regs.specs.declared.profile.Profile.{Profile}
use Rattle.em_regs.specs.declared.setup.TxSetup.{TxSetup}
use Rattle.em_tx.specs.declared.answer.TxAnswer.{TxAnswer}
use Rattle.em_tx.specs.declared.answer.TxAnswer.TheVariants.{Idle}
use Rattle.em_tx.specs.declared.control.TxControl.{TxControl}
use Rattle.em_tx.specs.declared.refusal.TxRefusal.{TxRefusal}
use Rattle.em_tx.specs.declared.refusal.TxRefusal.TheVariants.{DmaRange, Extended, TooLong}
use Rattle.em_tx.specs.Cells.{Shown}
use Rattle.em_tx.specs.Control.{first, is_over, is_still}
use Rattle.em_tx.specs.Descriptor.{address, length_of, dext, rs}
use Rattle.em_tx.specs.Engine.{refusal, gather, sends, handle, handling_cost, unless, transmit, cost}
use Rattle.em_tx.specs.Frame.{frame}
use Rattle.em_tx.specs.Ring.{place}
use Rattle.em_tx.proofs.FrameLaws.{parts, frame_len_most}

few_by_test : (a b c : Bool) (rest : Option TxRefusal)
    → cond a (Some Extended) (cond (b || c) (Some TooLong) rest) ≡ None → b ≡ false
few_by_test true b c rest is = cc
few_by_test false true c rest is = cc
few_by_test false false c rest is = refl

-- a descriptor that is not refused leaves at most 16,380 octets gathered
few : (p : Profile) (base : ℕ) (g m d : List ℕ) → refusal p base g m d ≡ None → length g + length_of d ≤ 16380
unfolding refusal
few p base g m d none =
    let small : nat_lt 16380 (length g + length_of d) ≡ false
    = few_by_test (dext d) (nat_lt 16380 (length g + length_of d)) (is_over p (length_of d)) _ none in
    grind (arith, nat_tests)

of_flags : (b c : Bool) (n f : ℕ) → n ≤ 16380 → f ≤ 16384 → n + cond b 1 0 + cond c f 0 ≤ 32765
of_flags true true n f little short = omega arith
of_flags true false n f little short = omega arith
of_flags false true n f little short = omega arith
of_flags false false n f little short = omega arith

pub handling_most : (q : TxSetup) (d : List ℕ) (s : Shown)
    → length s.gathered + length_of d ≤ 16380 → handling_cost q d s ≤ 32765
handling_most q d s small =
    let octets = gather s d in
    let read : length (part s.memory (address d) (length_of d)) ≤ length_of d
    = omega (arith, length-take (length_of d) (drop (address d) s.memory)) in
    let all : length octets ≤ 16380
    = omega (arith, length-append s.gathered (part s.memory (address d) (length_of d))) in
    let short : length (frame q d octets) ≤ 16384
    = omega (arith, (parts q d octets).size, frame_len_most q d (length octets) all) in
    of_flags (rs d) (sends d (length octets)) (length_of d) (length (frame q d octets)) (omega arith) short

of_idle : (b : Bool) (x : Result (TxAnswer × Shown) TxRefusal) (s : Shown) (r : TxAnswer × Shown) (n : ℕ)
    → (x ≡ Ok r → n ≤ 32765) → cond b (Ok (Idle, s)) x ≡ Ok r → cond b 0 n ≤ 32765
of_idle true x s r n then is = omega arith
of_idle false x s r n then is = then is

of_range : (b : Bool) (x : Result (TxAnswer × Shown) TxRefusal) (r : TxAnswer × Shown) (n : ℕ) → (x ≡ Ok r → n ≤ 32765)
    → cond b (Err DmaRange) x ≡ Ok r → n ≤ 32765
of_range true x r n then is = cc
of_range false x r n then is = then is

of_refusal : (o : Option TxRefusal) (y r : TxAnswer × Shown) (n : ℕ)
    → (o ≡ None → n ≤ 32765) → unless o y ≡ Ok r → n ≤ 32765
of_refusal None y r n then is = then refl
of_refusal (Some refused) y r n then is = cc

pub cost_most : (q : TxControl) (base : ℕ) (s : Shown) (r : TxAnswer × Shown) → transmit q base s ≡ Ok r
    → cost q s ≤ 32765
unfolding transmit
cost_most q base s r is =
    let d = first q s.memory in
    let n = handling_cost q.setup d s in
    let small = λ (none : refusal q.profile base s.gathered s.memory d ≡ None). handling_most q.setup d s
    (few q.profile base s.gathered s.memory d none) in
    of_idle (is_still q) _ s r n
    (of_range (leaves base s.memory (place q.setup) 16) _ r n
    (of_refusal (refusal q.profile base s.gathered s.memory d) (handle q.setup d s) r n small)) is
