use Rattle.std.proofs.Common.{◌≡◌, ◌∙◌, ◌++◌, ◌==◌, List, ℕ, true, length, take, ap, sym, arith}
use Rattle.std.proofs.lemmas.Bool.Decides.{Decides-eqb}
use Rattle.std.proofs.lemmas.Slice.Eq.{strip_prefix_is}
use Rattle.em_recording.proofs.GatheredLaws.{grown, not_grown}
use Rattle.em_recording.proofs.gathered.step_between.Goals as goal

pub returns-in-Some : goal.returns-in-Some
returns-in-Some c =
    let found = strip_prefix_is Decides-eqb c.as_slice.result.now c.as_slice-2.result.now c.strip_prefix.result
    c.strip_prefix.ensures.cases in
    let behind : List ℕ = c.in-Some.behind.now in
    let is = rw c.in-Some.is at found in
    let grew : c.args.after.items ≡ c.args.before.items ++ behind
    = sym c.as_slice.ensures.value ∙ is ∙ ap (λ (octets : List ℕ). octets ++ behind) c.as_slice-2.ensures.value in
    let test : (length behind == 0) ≡ true = sym c.is_empty.ensures ∙ c.if-is_empty.true in
    let none : length behind ≡ 0 = (Decides-eqb (length behind) 0).0 test in
    let same = not_grown c.args.before.items c.args.after.items behind grew none in
    record { ok = record { forward = sym same; backward = same } }

pub returns-in-Some-2 : goal.returns-in-Some-2
returns-in-Some-2 c =
    let found = strip_prefix_is Decides-eqb c.as_slice.result.now c.as_slice-2.result.now c.strip_prefix.result
    c.strip_prefix.ensures.cases in
    let before : List ℕ = c.args.before.items in
    let after : List ℕ = c.args.after.items in
    let behind : List ℕ = c.in-Some.behind.now in
    let is = rw c.in-Some.is at found in
    let grew : after ≡ before ++ behind
    = sym c.as_slice.ensures.value ∙ is ∙ ap (λ (octets : List ℕ). octets ++ behind) c.as_slice-2.ensures.value in
    let size : c.len.result ≡ length before
    = omega (arith, c.len.ensures, c.as_slice-2.ensures.len, ap length c.as_slice-2.ensures.value) in
    let leads = grown before after behind grew in
    record {
      ok = record {
        forward = (λ i. take (size i) before ++ c.in_ok-copied-in-Some-2.ensures i) ∙ leads.0;
        backward = (λ i. take (size i) after ++ c.new.ensures.items i) ∙ leads.1;
      };
    }
