use Rattle.std.proofs.Common.{[], ◌∷◌, ◌<◌, ◌∙◌, refl, sym, subst, length, arith}
use Rattle.std.specs.Prelude.{max}
use Rattle.em_tape.specs.Tape.{event_of}
use Rattle.em_debugger.specs.Accesses.{IsNewest, full, over}
use Rattle.em_debugger.specs.declared.accesses.Newest.TheVariants as newest
use Rattle.em_debugger.specs.Deeper.{IsSeen}
use Rattle.em_debugger.proofs.AccessesLaws.{found_deeper, found_unseen}
use Rattle.em_debugger.proofs.DeeperLaws.{again_on, kept_on, unseen_again, unseen_falls}
use Rattle.em_debugger.proofs.NumberLaws.{event_at-most}
use Rattle.em_debugger.proofs.accesses.newest_deeper.Goals as goal

pub see-requires-clause-performed : goal.see-requires-clause-performed
see-requires-clause-performed c =
    let most = event_at-most c.loop-noted.deep (max (length c.loop-noted.deep.session.machine.past) 0) in
    omega (arith, c.next_unseen-next.ensures, most)

pub returns-in-Some : goal.returns-in-Some
returns-in-Some c settings tape again =
    c.loop-noted.invariant.goes_on settings tape again (newest.Found c.in-Some.noted)
    (full c.loop-noted.deep 1 c.in-Some.noted.back (c.in-Some.noted ∷ []) (c.in-Some.ensures.some, refl) refl)

pub returns-then-next-eq0 : goal.returns-then-next-eq0
returns-then-next-eq0 c settings tape again =
    let none : IsNewest settings tape c.args.sort c.loop-noted.deep newest.Never
    = over c.loop-noted.deep 1 0 [] refl (omega arith) c.in_default.ensures.none
    (sym c.next_unseen-next.ensures ∙ c.if-next-eq0.true) in
    c.loop-noted.invariant.goes_on settings tape again newest.Never none

pub returns-in-Err : goal.returns-in-Err
returns-in-Err c settings tape again =
    let there = again_on settings tape c.args.deep.now c.see.new.deep
    (kept_on c.args.deep.now c.loop-noted.deep c.see.new.deep c.loop-noted.invariant.kept c.in-Err.ensures.kept)
    c.in-Err.ensures.holds again in
    let unseen = unseen_again settings tape c.see.new.deep c.next_unseen-next.result c.in-Err.why there
    c.in-Err.ensures.unseen in
    c.loop-noted.invariant.goes_on settings tape again (newest.Unreached c.next_unseen-next.result c.in-Err.why)
    (found_unseen settings tape c.loop-noted.deep c.args.sort c.next_unseen-next.result c.in-Err.why
    c.in_default.ensures.none c.next_unseen-next.ensures (omega arith) unseen)

pub loop-noted-smaller : goal.loop-noted-smaller
loop-noted-smaller c =
    let falls = unseen_falls c.loop-noted.deep c.loop-noted.invariant.held (omega (arith, c.next_unseen-next.ensures)) in
    let e : event_of c.see.new.deep < event_of c.loop-noted.deep =
    omega (arith, falls, c.in_default-see.ensures.seen.newest, c.next_unseen-next.ensures) in e

pub loop-noted-preserved : goal.loop-noted-preserved
loop-noted-preserved c =
    let now = c.see.new.deep in
    let old = c.loop-noted.deep in
    record {
      kept = kept_on c.args.deep.now old now c.loop-noted.invariant.kept c.in_default-see.ensures.kept;
      held = c.in_default-see.ensures.seen.held;
      goes_on = λ settings tape again given sought.
          let there = again_on settings tape c.args.deep.now now
          (kept_on c.args.deep.now old now c.loop-noted.invariant.kept c.in_default-see.ensures.kept)
          c.in_default-see.ensures.holds again in
          c.loop-noted.invariant.goes_on settings tape again given
          (found_deeper settings tape old now c.args.sort given c.in_default.ensures.none
          (omega (arith, c.next_unseen-next.ensures)) there
          (subst (λ n. IsSeen n now) c.next_unseen-next.ensures c.in_default-see.ensures.seen) sought);
    }
