use Rattle.std.proofs.Common.{◌≡◌, ◌+◌, ◌-◌, ◌∙◌, ap, arith, drop, sym, take}
use Rattle.em_named.specs.Names.{names}
use Rattle.em_named.specs.Numbers.{above, end_of}
use Rattle.em_named.specs.declared.did.Did.TheVariants.{Performed, TookBack}
use Rattle.em_named.proofs.NameLaws.{drop-behind, drop-deeper}
use Rattle.em_named.proofs.NumberLaws.{above-end, above-step, end-before}
use Rattle.em_named.proofs.numbers.above.Goals.{in-Performed+then-depth-performed, in-Performed+else-depth-performed, in-TookBack}
use Rattle.em_named.proofs.numbers.above.Goals as goal

pub overflow_sub-end-then-depth-performed : goal.overflow_sub-end-then-depth-performed
overflow_sub-end-then-depth-performed c =
    let end = end-before c.loop-end.end.line c.args.did.now (Performed c.in-Performed.performed) (Performed 0)
    c.loop-end-test.true c.loop-end.invariant.within (sym c.in-Performed.is) in
    omega (arith, end, c.if-depth-performed.true, c.loop-end.invariant.events)

pub loop-end-preserved : goal.loop-end-preserved
loop-end-preserved c =
    let n = c.args.event in
    let did = c.args.did.now in
    let line = c.loop-end.end.line in
    let depth = c.loop-end.depth in
    let older = c.before-end.result.line in
    let within = c.loop-end.invariant.within in
    let e : older ≡ line - 1 = omega (arith, c.before-end.ensures.line) in
    let less : end_of older did ≡ end_of (line - 1) did = ap (λ l. end_of l did) e in
    elim c.match-did-end.branch [
      | in-Performed+then-depth-performed w ↦
          let count = w.in-Performed.performed in
          let end = end-before line did (Performed count) (Performed 0) c.loop-end-test.true within (sym w.in-Performed.is) in
          let up = above-step n line depth count did (Performed 0) c.loop-end-test.true within w.in-Performed.is
          w.if-depth-performed.true in
          let there : above n did (drop c.match-did-end.depth (names (take older did))) ≡ above n did (names (take (line - 1) did)) =
          ap (λ d. above n did (drop d (names (take older did)))) w.depth-is ∙ ap (λ l. above n did (names (take l did))) e in
          record {
            within = omega (arith, within);
            events = c.before-end.ensures.events;
            deep = omega (arith, c.loop-end.invariant.deep, w.depth-is, c.before-end.ensures.line);
            few = omega (
              arith,
              c.loop-end.invariant.few,
              c.loop-end.invariant.events,
              c.before-end.ensures.events,
              end,
              less,
              w.count-is,
              w.min-count.ensures,
            );
            same = omega (
              arith,
              up,
              there,
              w.count-is,
              w.min-count.ensures,
              w.saturating_sub.ensures,
              c.loop-end.invariant.events,
              c.loop-end.invariant.same,
            );
          }
      | in-Performed+else-depth-performed w ↦
          let count = w.in-Performed.performed in
          let end = end-before line did (Performed count) (Performed 0) c.loop-end-test.true within (sym w.in-Performed.is) in
          let left = ap (above n did) (drop-behind line count depth did (Performed 0) c.loop-end-test.true within w.in-Performed.is
          w.if-depth-performed.false) in
          let there : above n did (drop c.match-did-end.depth (names (take older did)))
          ≡ above n did (drop (depth - count) (names (take (line - 1) did))) =
          ap (λ d. above n did (drop d (names (take older did)))) w.depth-is
          ∙ ap (λ l. above n did (drop (depth - count) (names (take l did)))) e in
          record {
            within = omega (arith, within);
            events = c.before-end.ensures.events;
            deep = omega (arith, c.loop-end.invariant.deep, w.depth-is, c.before-end.ensures.line);
            few = omega (
              arith,
              c.loop-end.invariant.few,
              c.loop-end.invariant.events,
              c.before-end.ensures.events,
              end,
              less,
              w.count-is,
            );
            same = omega (arith, left, there, w.count-is, c.loop-end.invariant.same);
          }
      | in-TookBack w ↦
          let count = w.in-TookBack.took in
          let end = end-before line did (TookBack count) (Performed 0) c.loop-end-test.true within (sym w.in-TookBack.is) in
          let left = ap (above n did) (drop-deeper line count depth did (Performed 0) c.loop-end-test.true within w.in-TookBack.is) in
          let there : above n did (drop c.match-did-end.depth (names (take older did)))
          ≡ above n did (drop (depth + count) (names (take (line - 1) did))) =
          ap (λ d. above n did (drop d (names (take older did)))) (w.depth-is ∙ ap (λ t. depth + t) w.from-depth.ensures)
          ∙ ap (λ l. above n did (drop (depth + count) (names (take l did)))) e in
          record {
            within = omega (arith, within);
            events = c.before-end.ensures.events;
            deep = omega (
              arith,
              c.loop-end.invariant.deep,
              w.depth-is,
              w.from-depth.ensures,
              c.before-end.ensures.line,
            );
            few = omega (
              arith,
              c.loop-end.invariant.few,
              c.loop-end.invariant.events,
              c.before-end.ensures.events,
              end,
              less,
              w.count-is,
            );
            same = omega (arith, left, there, w.count-is, c.loop-end.invariant.same);
          }
    ]

pub returns-else-event-end : goal.returns-else-event-end
returns-else-event-end c =
    let none = above-end c.args.event c.loop-end.end.line c.loop-end.depth c.args.did.now c.loop-end.invariant.within
    (omega (arith, c.if-event-end.false, c.loop-end.invariant.events)) in
    omega (arith, none, c.loop-end.invariant.same)
