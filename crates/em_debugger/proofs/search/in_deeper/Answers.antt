use Rattle.std.proofs.Common.{◌<◌, ◌∙◌, sym, subst, length, arith}
use Rattle.std.specs.Prelude.{max}
use Rattle.em_tape.specs.Tape.{event_of}
use Rattle.em_debugger.specs.Deeper.{IsSeen, IsUnseen}
use Rattle.em_debugger.specs.Search.{found, never, deeper, unreached}
use Rattle.em_debugger.proofs.DeeperLaws.{again_on, kept_on, unseen_again, unseen_falls}
use Rattle.em_debugger.proofs.NumberLaws.{event_at-most}
use Rattle.em_debugger.proofs.search.in_deeper.Goals as goal

pub see-requires-clause-performed : goal.see-requires-clause-performed
see-requires-clause-performed c =
    let most = event_at-most c.loop-found.deep (max (length c.loop-found.deep.session.machine.past) 0) in
    omega (arith, c.next_unseen-next.ensures, most)

pub returns-in-Some : goal.returns-in-Some
returns-in-Some c settings tape again =
    c.loop-found.invariant.goes_on settings tape again _
    (found c.loop-found.deep 0 c.in-Some.found c.in-Some.ensures.some)

pub returns-then-next-eq0 : goal.returns-then-next-eq0
returns-then-next-eq0 c settings tape again =
    c.loop-found.invariant.goes_on settings tape again _
    (never c.loop-found.deep 0 c.in_default.ensures.none (sym c.next_unseen-next.ensures ∙ c.if-next-eq0.true))

pub returns-in-Err : goal.returns-in-Err
returns-in-Err c settings tape again =
    let there = again_on settings tape c.args.deep.now c.see.new.deep
    (kept_on c.args.deep.now c.loop-found.deep c.see.new.deep c.loop-found.invariant.kept c.in-Err.ensures.kept)
    c.in-Err.ensures.holds again in
    let unseen = unseen_again settings tape c.see.new.deep c.next_unseen-next.result c.in-Err.why there
    c.in-Err.ensures.unseen in
    c.loop-found.invariant.goes_on settings tape again _
    (unreached c.loop-found.deep 0 c.in-Err.why c.in_default.ensures.none
    (omega (arith, c.next_unseen-next.ensures))
    (subst (λ n. IsUnseen settings tape n c.in-Err.why) c.next_unseen-next.ensures unseen))

pub loop-found-smaller : goal.loop-found-smaller
loop-found-smaller c =
    let falls = unseen_falls c.loop-found.deep c.loop-found.invariant.held (omega (arith, c.next_unseen-next.ensures)) in
    let e : event_of c.see.new.deep < event_of c.loop-found.deep =
    omega (arith, falls, c.in_default-see.ensures.seen.newest, c.next_unseen-next.ensures) in e

pub loop-found-preserved : goal.loop-found-preserved
loop-found-preserved c =
    let now = c.see.new.deep in
    let old = c.loop-found.deep in
    record {
      kept = kept_on c.args.deep.now old now c.loop-found.invariant.kept c.in_default-see.ensures.kept;
      held = c.in_default-see.ensures.seen.held;
      goes_on = λ settings tape again s sought.
          let there = again_on settings tape c.args.deep.now now
          (kept_on c.args.deep.now old now c.loop-found.invariant.kept c.in_default-see.ensures.kept)
          c.in_default-see.ensures.holds again in
          c.loop-found.invariant.goes_on settings tape again s
          (deeper old now 0 s c.in_default.ensures.none (omega (arith, c.next_unseen-next.ensures)) there
          (subst (λ n. IsSeen n now) c.next_unseen-next.ensures c.in_default-see.ensures.seen) sought);
    }
