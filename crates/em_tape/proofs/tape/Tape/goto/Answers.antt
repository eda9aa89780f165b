use Rattle.std.proofs.Common.{◌≡◌, ◌≤◌, ◌∙◌, length, ap, sym, subst}
use Rattle.std.specs.Prelude.{min}
use Rattle.em_named.specs.Numbers.{line_of}
use Rattle.em_tape.specs.Tape.{Tape}
use Rattle.em_tape.proofs.StandingLaws.{gone-near}
use Rattle.em_tape.proofs.tape.Tape.goto.Goals as goal

pub returns-clause-near : goal.returns-clause-near
returns-clause-near c =
    let mid = c.be_behind.new.self in
    let old = c.steps_back_to.new.self in
    let line = c.line_of.result in
    let did : mid.did ≡ old.did = ap (λ (t : Tape). t.did) c.in_ok-be_behind.ensures.ok in
    let whole : mid.whole ≡ line = ap (λ (t : Tape). t.whole) c.in_ok-be_behind.ensures.ok in
    gone-near c.args.event mid c.back.new.self (record {
      taken = c.back.result;
      within = subst (λ n. n ≤ length mid.did) (sym whole) (subst (λ ds. line ≤ length ds) (sym did) c.line_of.ensures.within);
      whole = whole ∙ c.line_of.ensures.line ∙ ap (line_of c.args.event) (sym did);
      back = ap (λ (t : Tape). t.back) c.in_ok-be_behind.ensures.ok;
      count = c.back.ensures.count ∙ ap (λ n. min n (length mid.session.machine.past)) c.behind-newer.ensures;
      is = c.back.ensures.tape;
    })
